use Rattle.std.proofs.Common.{ap, ◌∙◌}
use Rattle.std.proofs.Math.Seq.{map-set_same}
use Rattle.pivot_table.specs.Workers.{Standing}
use Rattle.pivot_table.proofs.tests.make_step_of.Goals as goal

pub returns-then-seat-len-clause-seats : goal.returns-then-seat-len-clause-seats
returns-then-seat-len-clause-seats c =
    map-set_same (λ (w : Standing). w.sight.seat) c.args.crew.now.items c.args.seat c.make_step.new.worker c.index_mut.result.now
    (c.make_step.ensures.seat ∙ ap (λ (w : Standing). w.sight.seat) c.index_mut.ensures.value)
