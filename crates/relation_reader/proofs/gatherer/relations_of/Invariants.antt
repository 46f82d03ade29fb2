use Rattle.std.proofs.Common.{◌≡◌, [], false, drop}
use Rattle.relation_reader.specs.Gathering.{fresh, gathered, lexemes_of}
use Rattle.relation_reader.proofs.gatherer.relations_of.Given as goal

abbrev pub invariant-loop-token : goal.invariant-loop-token
invariant-loop-token l = gathered l.field l.alphabet.names (fresh l.field [] [] false) (lexemes_of l.text l.tokens)
    ≡ gathered l.field l.alphabet.names l.gatherer (lexemes_of l.text (drop l.token-index l.tokens))
