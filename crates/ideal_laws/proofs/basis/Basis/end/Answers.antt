use Rattle.std.proofs.Common.{◌≡◌, subst, get_or}
use Rattle.ideal_laws.specs.Engine.{Elements}
use Rattle.ideal_laws.specs.Kept.{count_upto}
use Rattle.ideal_laws.proofs.Grown.{end_stored}
use Rattle.ideal_laws.proofs.basis.Basis.end.Goals as goal

pub returns-clause-value : goal.returns-clause-value
returns-clause-value c =
    subst (λ (b : Elements). get_or c.self.inside.ends c.min.result 0 ≡ count_upto b.weights c.args.d b.elements) c.self.view_is
    (end_stored _ c.self.inside.ends c.self.invariant c.args.d c.min.result c.min.ensures)
