use Rattle.pivot_core.proofs.Kept.{claimed_pivots}
use Rattle.pivot_core.proofs.LegalHistory.{one_legal_history}
use Rattle.pivot_core.proofs.LegalHistoryMerge.{history_merges_logs}
use Rattle.pivot_core.proofs.Replies.{calls_follow, looks_find_calls}
use Rattle.pivot_core.proofs.RunLaws.{held_rows_are_pivots, held_rows_stay}
use Rattle.pivot_core.proofs.StepCounts.{step_counts}
use Rattle.pivot_core.proofs.laws.claim_laws.Goals as goal

pub returns : goal.returns
returns c = record {
  claimed_pivots = claimed_pivots;
  held_rows_stay = held_rows_stay;
  held_rows_are_pivots = held_rows_are_pivots;
  step_counts = step_counts;
  one_legal_history = one_legal_history;
  history_merges_logs = history_merges_logs;
  looks_find_calls = looks_find_calls;
  calls_follow = calls_follow;
}
