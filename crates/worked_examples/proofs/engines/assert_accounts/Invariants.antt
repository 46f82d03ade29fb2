use Rattle.std.proofs.Common.{◌≡◌}
use Rattle.ideal_laws.specs.Engine.{IsReducedUpto}
use Rattle.worked_examples.proofs.engines.assert_accounts.Given as goal

abbrev pub invariant-loop-rows : goal.invariant-loop-rows
invariant-loop-rows g l = (l.basis.done ≡ l.rows-index) × (l.basis.weights ≡ l.given.alphabet.weights) × IsReducedUpto l.field l.given.relations l.basis
