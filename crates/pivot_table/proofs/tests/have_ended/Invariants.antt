use Rattle.std.proofs.Common.{◌≡◌, All, take}
use Rattle.pivot_core.specs.declared.view.Phase.TheVariants as phase
use Rattle.pivot_table.specs.Workers.{Standing}
use Rattle.pivot_table.proofs.tests.have_ended.Given as goal

abbrev pub invariant-loop-worker : goal.invariant-loop-worker
invariant-loop-worker l = All (λ (w : Standing). w.sight.phase ≡ phase.Ended) (take l.worker-index l.crew)
