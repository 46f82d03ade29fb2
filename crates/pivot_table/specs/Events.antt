-- Runs with one event more.
use Rattle.std.specs.Prelude.{ℕ, List, [], ◌∷◌, ◌++◌}
use Rattle.pivot_core.specs.declared.event.Event.{Event}
use Rattle.pivot_core.specs.declared.event.Kind.{Kind}

-- the run goes on by an event of this seat and kind
abbrev pub one_more : List Event → ℕ → Kind → List Event
one_more events seat kind = events ++ record { seat = seat; kind = kind } ∷ []
