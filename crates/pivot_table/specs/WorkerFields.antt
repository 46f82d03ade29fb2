-- What the fields of a worker keep.
use Rattle.std.specs.Prelude.{◌≡◌, ◌≤◌, List, [], ◌∷◌, min}
use Rattle.std.specs.Vec.{vec_capacity}
use Rattle.pivot_core.specs.declared.event.Event.{Event}
use Rattle.pivot_core.specs.Runs.{state_after}
use Rattle.pivot_core.specs.Views.{sight_of}
use Rattle.pivot_table.specs.declared.worker.Worker.TheInside.{Inside}
use Rattle.pivot_table.specs.declared.share.Hand.{Hand}
use Rattle.pivot_table.specs.Law.{IsHandIn, IsPlace}
use Rattle.pivot_table.specs.Shares.{hand, share}
use Rattle.pivot_table.specs.Workers.{Standing}

-- the view of a worker, with what its row has published
abbrev pub own_hand : Inside → Hand
own_hand w = hand (sight_of w.view) w.published.items

-- a worker as contracts see it
abbrev pub standing_of : Inside → Standing
standing_of w = record {
  table = w.seat.table_id;
  problem = w.seat.me.0.problem;
  crew = w.seat.me.0.crew;
  sight = sight_of w.view;
  published = w.published.items;
}

-- its seat has its view alone, which stood in a run, and there is room for all of its calls
pub record IsWorker (w : Inside) : Type 0 where
  pub place : IsPlace w.seat.me.0.problem w.seat.me.0.crew
  pub seat : w.seat.me ≡ (share w.seat.me.0.problem w.seat.me.0.crew (own_hand w ∷ []), [])
  pub events : List Event
  pub stands : IsHandIn w.seat.me.0.problem w.seat.me.0.crew
      (state_after w.seat.me.0.problem w.seat.me.0.crew events) (own_hand w)
  pub room : min w.seat.me.0.problem.n w.seat.me.0.problem.m ≤ vec_capacity w.view.calls
