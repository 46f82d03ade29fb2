use Rattle.std.proofs.Common.{◌<◌, length, arith, refl}
use Rattle.relation_reader.proofs.Known.{known_letter-absent, known_letter-found}
use Rattle.relation_reader.proofs.gatherer.letter_of.Goals as goal

pub returns-in-Some : goal.returns-in-Some
returns-in-Some c =
    let names = c.args.alphabet.now.names in
    let found = c.in-Some.ensures.place in
    let within : c.in-Some.letter < length names = omega (arith, found.0, c.requires.count) in
    known_letter-found names c.args.name.now c.in-Some.letter c.requires.apart within found.1

pub returns-in-None : goal.returns-in-None
returns-in-None c = known_letter-absent c.args.alphabet.now.names c.args.name.now (c.in-None.ensures.none.0 refl)
