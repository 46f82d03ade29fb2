use Rattle.std.proofs.Common.{◌<◌, ◌^◌, All, length, take}
use Rattle.words.specs.Words.{degree_of}
use Rattle.free_poly.specs.Terms.{HasResidues, UsesLetters}
use Rattle.free_poly.proofs.tests.are_fit.Given as goal

abbrev pub invariant-loop-term : goal.invariant-loop-term
invariant-loop-term l = HasResidues l.field (take l.term-index l.terms)
    × UsesLetters (length l.alphabet.weights) (take l.term-index l.terms)
    × All (λ t. degree_of l.alphabet.weights t.word < 2 ^ 64) (take l.term-index l.terms)
