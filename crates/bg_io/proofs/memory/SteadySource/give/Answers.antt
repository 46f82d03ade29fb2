use Rattle.std.proofs.Common.{◌-◌, length, List, ℕ, take, drop, length-take, ap, ◌∙◌, arith}
use Rattle.std.proofs.lemmas.List.{take-take}
use Rattle.bg_io.proofs.Transfers.{given_front}
use Rattle.bg_io.proofs.memory.SteadySource.give.Goals as goal

pub returns-clause-bytes : goal.returns-clause-bytes
returns-clause-bytes c =
    let given = c.self.inside.given in
    let count = c.min-count.result in
    let rest = drop given c.as_slice.result.now in
    let long = length c.as_slice.result.now - given in
    let copied = c.copy_from_slice.ensures.after ∙ take-take count long rest (omega (arith, c.min-count.ensures, length-take long rest))
    ∙ ap (λ (l : List ℕ). take count (drop given l)) c.as_slice.ensures.value in
    rw (← c.self.view_is) (given_front given count _ _ _ copied (omega
    (arith, c.copy_from_slice.ensures.len, c.min-count.ensures, length-take count c.args.piece.now)))
