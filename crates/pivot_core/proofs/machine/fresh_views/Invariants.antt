use Rattle.std.proofs.Common.{◌≡◌, ◌≤◌, All, map, min}
use Rattle.std.specs.List.{range_with_len}
use Rattle.std.specs.Vec.{vec_capacity}
use Rattle.pivot_core.specs.Views.{fresh, sight_of}
use Rattle.pivot_core.proofs.machine.fresh_views.Given as goal

abbrev pub invariant-loop-seat : goal.invariant-loop-seat
invariant-loop-seat l = record {
  views : map sight_of l.views.items ≡ map (fresh l.problem.m) (range_with_len 0 l.seat);
  room : All (λ v. min l.problem.n l.problem.m ≤ vec_capacity v.calls) l.views.items;
}
