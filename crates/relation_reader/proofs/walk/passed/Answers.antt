use Rattle.std.proofs.Common.{map}
use Rattle.relation_reader.proofs.Passing.{HasPassed-next}
use Rattle.relation_reader.proofs.walk.passed.Goals as goal

pub returns-clause-passed : goal.returns-clause-passed
returns-clause-passed c =
    let walk = c.args.walk in
    HasPassed-next (map (λ name. name.items) walk.names.items) walk.begun walk.letters walk.place c.args.token c.args.bytes.now
    (map (λ name. name.items) c.in_ok-names.names.items) c.begun_after-begun.result c.letters_after-letters.result
    c.in_ok-names.ensures (c.begun_after-begun.ensures.begun c.args.bytes.now) (c.letters_after-letters.ensures.letters c.args.bytes.now)
