use Rattle.std.proofs.Common.{◌<◌, All, take}
use Rattle.ideal_laws.specs.declared.account.Call.{Call}
use Rattle.pivot_core.specs.History.{Replays}
use Rattle.pivot_core.proofs.history.replays.Given as goal

abbrev pub invariant-loop-place : goal.invariant-loop-place
invariant-loop-place l = All (λ (k : Call). k.column < l.m) (take l.place l.calls) × Replays (take l.place l.calls)
