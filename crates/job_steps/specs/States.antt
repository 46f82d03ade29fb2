-- What the source and the sinks of a run tell of themselves.
use Rattle.std.specs.Prelude.{ℕ, Bool, List, Option}
use Rattle.bg_io.specs.declared.ends.Sink.{Ghosts as SinkOf}
use Rattle.bg_io.specs.declared.ends.Source.{Ghosts as SourceOf}
use Rattle.job_steps.specs.declared.telling.Teller.{Teller}

-- what a sink tells: the bytes taken so far, how many more it surely takes, how many writes failed and how many were
-- made
pub record SinkState : Type 0 where
  pub held : Option (List ℕ)
  pub room : Option ℕ
  pub faults : ℕ
  pub calls : Option ℕ

abbrev pub state_of : {K : Type 0} → SinkOf K → K → SinkState
state_of k sink = record { held = k.held sink; room = k.room sink; faults = k.faults sink; calls = k.calls sink }

-- where lines are told: the sink of the lines, and whether telling has failed
pub record TellerState : Type 0 where
  pub err : SinkState
  pub failed : Bool

abbrev pub teller_state : {T : Type 0} → SinkOf T → Teller T → TellerState
teller_state t teller = record { err = state_of t teller.err.now; failed = teller.failed }

-- what a source tells: the bytes still to come, and how many reads failed
pub record SourceState : Type 0 where
  pub left : Option (List ℕ)
  pub faults : ℕ

abbrev pub source_state : {S : Type 0} → SourceOf S → S → SourceState
source_state s source = record { left = s.left source; faults = s.faults source }
