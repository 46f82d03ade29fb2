use Rattle.std.proofs.Common.{◌≡◌, ◌+◌, ◌-◌, ℕ, All, Err, [], length, arith, subst, sym, ap}
use Rattle.std.specs.List.{Contains}
use Rattle.words.proofs.Faults.{same_fault}
use Rattle.ideal_laws.specs.Engine.{Elements}
use Rattle.anick_chains.specs.BasisTips.{leads_of}
use Rattle.anick_chains.specs.Listed.{AreListedOf}
use Rattle.anick_chains.specs.Listing.{IsNumberOf}
use Rattle.words.specs.Words.{IsOver}
use Rattle.anick_chains.proofs.FirstMany.{few_more, first_many}
use Rattle.anick_chains.proofs.Onward.{listed_over}
use Rattle.anick_chains.proofs.MinimalChains.{listed_minimal}
use Rattle.anick_chains.proofs.Steps.{none_listed, number_listed}
use Rattle.anick_chains.proofs.listing.chains.Goals as goal

pub loop-degree-init : goal.loop-degree-init
loop-degree-init c =
    let b = c.args.basis.now in
    let kept = c.done-done.ensures.kept in
    let none : AreListedOf b 0 [] = none_listed b kept c.requires.factor_free in
    record {
      listed = subst (AreListedOf b 0) (sym c.new-found.ensures.items) none;
      within = omega (arith, ap length c.new-found.ensures.items);
      before = few_more (Contains (leads_of b.elements)) (length b.weights) b.weights c.args.most 0 0 (λ e lt. absurd (omega (arith, lt)))
          (number_listed b kept c.requires.factor_free 0 [] none) (omega arith);
    }

pub loop-degree-preserved : goal.loop-degree-preserved
loop-degree-preserved c =
    let b = c.args.basis.now in
    let d = c.loop-degree.degree in
    let found = c.push_degree.new.found.items in
    let listed : AreListedOf b d found =
    subst (λ (x : Elements). AreListedOf x d found) c.in_ok-tips.ensures.basis c.in_ok-push_degree.ensures.listed in
    let same : d ≡ d + 1 - 1 = omega arith in
    record {
      listed = subst (λ (n : ℕ). AreListedOf b n found) same listed;
      within = c.in_ok-push_degree.ensures.within;
      before = few_more (Contains (leads_of b.elements)) (length b.weights) b.weights c.args.most d (length found) c.loop-degree.invariant.before
          (number_listed b c.done-done.ensures.kept c.requires.factor_free d found listed) c.in_ok-push_degree.ensures.within;
    }

pub returns-in_err-push_degree-clause-many : goal.returns-in_err-push_degree-clause-many
returns-in_err-push_degree-clause-many c = λ degree e.
    let m = c.in_err-push_degree.ensures.many degree
    (ap Err (same_fault c.from_residual-in_err-push_degree.result _ _ c.from_residual-in_err-push_degree.ensures.1 e)) in
    let b = c.args.basis.now in
    first_many (Contains (leads_of b.elements)) (length b.weights) b.weights c.args.most c.args.bound c.loop-degree.degree degree
    c.loop-degree.invariant.before (omega (arith, c.loop-degree-test.true)) m.0 m.1
    (subst (λ (x : Elements). IsNumberOf x c.loop-degree.degree m.1) c.in_ok-tips.ensures.basis m.2) m.3

pub returns-clause-listed : goal.returns-clause-listed
returns-clause-listed c =
    let b = c.args.basis.now in
    let last : c.loop-degree.degree - 1 ≡ c.args.bound = omega (arith, c.loop-degree-test.false, c.loop-degree.auto.degree-end (omega arith)) in
    subst (AreListedOf b c.args.bound) (sym c.from_vec.ensures)
    (subst (λ (n : ℕ). AreListedOf b n c.loop-degree.found.items) last c.loop-degree.invariant.listed)

pub returns-clause-minimal : goal.returns-clause-minimal
returns-clause-minimal c = λ p relations st upto.
    listed_minimal c.args.basis.now c.done-done.ensures.kept p relations st upto c.args.bound c.requires.done c.from_vec.result
    (returns-clause-listed c)

pub returns-clause-letters : goal.returns-clause-letters
returns-clause-letters c =
    let b = c.args.basis.now in
    subst (All (λ x. All (IsOver (length b.weights)) x.pieces)) (sym c.from_vec.ensures)
    (listed_over (Contains (leads_of b.elements)) (length b.weights) b.weights (c.loop-degree.degree - 1) c.loop-degree.found.items
    c.loop-degree.invariant.listed)
