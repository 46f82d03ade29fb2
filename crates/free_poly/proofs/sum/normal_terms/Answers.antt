use Rattle.std.proofs.Common.{◌∙◌}
use Rattle.free_poly.proofs.Sums.{HasResidues-from_totals, IsSame-from_totals}
use Rattle.free_poly.proofs.sum.normal_terms.Goals as goal

pub returns-clause-sum : goal.returns-clause-sum
returns-clause-sum c = IsSame-from_totals _ _ _ (λ w. c.in_ok-terms.ensures.totals w ∙ c.in_ok-totals.ensures w)

pub returns-clause-residues : goal.returns-clause-residues
returns-clause-residues c = HasResidues-from_totals _ _ _ c.in_ok-terms.ensures.form (λ w. c.in_ok-terms.ensures.totals w ∙ c.in_ok-totals.ensures w) c.requires
