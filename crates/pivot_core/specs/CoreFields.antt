-- What the fields of the machine of claims keep.
use Rattle.std.specs.Prelude.{◌≡◌, ◌+◌, ◌≤◌, List, [], All, length, map, min}
use Rattle.std.specs.List.{sum_by}
use Rattle.std.specs.Vec.{vec_capacity}
use Rattle.pivot_core.specs.declared.event.Event.{Event}
use Rattle.pivot_core.specs.declared.machine.Core.TheInside.{Inside}
use Rattle.pivot_core.specs.Views.{sight_of}
use Rattle.pivot_core.specs.Runs.{state_after}
use Rattle.pivot_core.specs.Phases.{is_ended}
use Rattle.pivot_core.specs.Laws.{IsSetting}
use Rattle.pivot_core.specs.Cores.{state_of}

-- a state of a run, whose crew is as many as the views, of which so many go on, with room for all calls and for the
-- list of logs
pub record IsRun (core : Inside) : Type 0 where
  pub setting : IsSetting core.problem (length core.views.items)
  pub same : core.field ≡ core.problem.modulus
  pub events : List Event
  pub reached : state_of core.words.items core.views.items ≡ state_after core.problem (length core.views.items) events
  pub ended : core.going + sum_by (λ v. is_ended v.phase) (map sight_of core.views.items) ≡ length core.views.items
  pub room : All (λ v. min core.problem.n core.problem.m ≤ vec_capacity v.calls) core.views.items
  pub no_logs : core.logs.items ≡ []
  pub room_for_logs : length core.views.items ≤ vec_capacity core.logs
