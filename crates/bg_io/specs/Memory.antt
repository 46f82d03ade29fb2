-- Sources and sinks in memory, with faults that were planned.
use Rattle.std.specs.Prelude.{ℕ, List, Bool, true, false, Contains}
use Rattle.bg_io.specs.Ends.{one_more}

-- at most so many bytes a call; the numbers of the calls that fail; how many were made, those of an empty piece left
-- out; how many failed
pub record Plan : Type 0 where
  pub piece : ℕ
  pub failing : List ℕ
  pub calls : ℕ
  pub faults : ℕ

-- a plan before the first call
abbrev pub new_plan : ℕ → List ℕ → Plan
new_plan piece failing = record { piece = piece; failing = failing; calls = 0; faults = 0 }

-- the number of the next call is one of those that fail
abbrev pub FailsNext : Plan → Type 0
FailsNext plan = Contains plan.failing (one_more plan.calls)

-- the plan after one more call, which failed or did not
abbrev pub after_call : Plan → Bool → Plan
after_call plan true = record plan { calls = one_more plan.calls; faults = one_more plan.faults }
after_call plan false = record plan { calls = one_more plan.calls }

-- a source as callers see it: the bytes still to come, and the plan
pub record Reading : Type 0 where
  pub left : List ℕ
  pub plan : Plan

-- a sink as callers see it: the bytes taken, and the plan
pub record Holding : Type 0 where
  pub held : List ℕ
  pub plan : Plan

-- a sink of bounded room as callers see it: the bytes taken, how many more it takes, and how many writes failed
pub record Filling : Type 0 where
  pub held : List ℕ
  pub room : ℕ
  pub faults : ℕ
