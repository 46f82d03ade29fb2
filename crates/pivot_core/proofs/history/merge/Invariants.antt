use Rattle.std.proofs.Common.{◌≡◌, map, take}
use Rattle.pivot_core.specs.History.{joined_calls}
use Rattle.pivot_core.proofs.history.merge.Given as goal

abbrev pub invariant-loop-log : goal.invariant-loop-log
invariant-loop-log l = l.calls.items ≡ joined_calls (take l.log-index (map (λ log. log.items) l.logs))
