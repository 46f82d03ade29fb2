use Rattle.std.proofs.Common.{◌≡◌, [], drop}
use Rattle.relation_reader.specs.Gathering.{lexemes_of, listed}
use Rattle.relation_reader.proofs.declaration.declaration_of.Given as goal

abbrev pub invariant-loop-at : goal.invariant-loop-at
invariant-loop-at l = listed [] [] 1 (lexemes_of l.text (drop 1 l.tokens))
    ≡ listed l.listing.names l.listing.weights l.listing.weight (lexemes_of l.text (drop l.at l.tokens))
