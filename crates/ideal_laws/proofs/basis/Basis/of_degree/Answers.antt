use Rattle.std.proofs.Common.{ap₂, ◌-◌, ℕ, sym, ap, ◌∙◌, arith}
use Rattle.std.specs.List.{slice_range}
use Rattle.std.proofs.lemmas.List.Sums.{count_by-le-length}
use Rattle.std.specs.Prelude.{leb}
use Rattle.ideal_laws.specs.Kept.{count_below, lead_degree}
use Rattle.ideal_laws.proofs.Counts.{below-le-upto, below-suc, below-zero}
use Rattle.ideal_laws.proofs.Grown.{degree_together}
use Rattle.ideal_laws.proofs.basis.Basis.of_degree.Goals as goal
use Rattle.ideal_laws.proofs.basis.Basis.of_degree.Goals.{then-d-eq0, else-d-eq0}

pub returns-clause-below : goal.returns-clause-below
returns-clause-below c =
    let basis = c.args.self.now in
    elim c.if-d-eq0.branch [
      | then-d-eq0 w ↦ w.first-is ∙ sym (below-zero (lead_degree basis.weights) basis.elements)
          ∙ ap (λ (n : ℕ). count_below basis.weights n basis.elements) (sym w.if-d-eq0.true)
      | else-d-eq0 w ↦ w.first-is ∙ w.end-first.ensures.value ∙ sym (below-suc (lead_degree basis.weights) (c.args.d - 1) basis.elements)
          ∙ ap (λ (n : ℕ). count_below basis.weights n basis.elements) (omega (arith, w.if-d-eq0.false))
    ]

pub returns-clause-within : goal.returns-clause-within
returns-clause-within c =
    let basis = c.args.self.now in (
      omega (arith, returns-clause-below c, c.end.ensures.value, below-le-upto (lead_degree basis.weights) c.args.d basis.elements),
      omega (arith, c.end.ensures.value, count_by-le-length (λ f. leb (lead_degree basis.weights f) c.args.d) basis.elements),
    )

pub returns-clause-elements : goal.returns-clause-elements
returns-clause-elements c =
    ap₂ (slice_range c.args.self.now.elements) (returns-clause-below c) c.end.ensures.value ∙ degree_together c.args.self.now c.end.ensures.kept c.args.d
