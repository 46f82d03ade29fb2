use Rattle.std.proofs.Common.{◌≡◌, ◌≤◌, length, map}
use Rattle.std.specs.Vec.{vec_capacity}
use Rattle.pivot_core.proofs.pivots.calls_of.Given as goal

abbrev pub invariant-loop-view : goal.invariant-loop-view
invariant-loop-view l = record {
  logs : map (λ log. log.items) l.logs.items ≡ map (λ view. view.calls.items) l.yielded;
  room : length l.fn.views.items ≤ vec_capacity l.logs;
}
