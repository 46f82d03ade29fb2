-- The rule of claimed pivots.
use Rattle.std.specs.Prelude.{ℕ}
use Rattle.back_reduce.specs.declared.problem.Problem.{Problem}
use Rattle.pivot_core.specs.Runs.{State}
use Rattle.pivot_core.specs.Rule.{CounterSum, CurrentModuloHeld, DisjointRows, HeldInSpan, PublishedPrefix, Ranges}
use Rattle.pivot_core.specs.Rule.{ReadPrefix, SettledInSpan}
use Rattle.pivot_core.specs.Calls.{CallsAndCounts}

-- the nine clauses of the rule
pub record ClaimedPivots (problem : Problem) (crew : ℕ) (s : State) : Type 0 where
  pub ranges : Ranges problem crew s
  pub counter_sum : CounterSum problem s
  pub disjoint_rows : DisjointRows problem crew s
  pub held_in_span : HeldInSpan problem s
  pub published_prefix : PublishedPrefix problem crew s
  pub read_prefix : ReadPrefix problem crew s
  pub current_modulo_held : CurrentModuloHeld problem crew s
  pub settled_in_span : SettledInSpan problem crew s
  pub calls_and_counts : CallsAndCounts problem crew s
