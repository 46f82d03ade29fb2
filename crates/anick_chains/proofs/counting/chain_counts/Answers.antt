use Rattle.std.proofs.Common.{◌≡◌, ◌+◌, ◌-◌, ℕ, Err, [], List, length, arith, subst, sym, ap}
use Rattle.std.specs.List.{Contains}
use Rattle.words.proofs.Faults.{same_fault}
use Rattle.ideal_laws.specs.Engine.{Elements}
use Rattle.anick_chains.specs.declared.tally.ChainCount.{ChainCount}
use Rattle.anick_chains.specs.declared.tally.Tally.{Tally}
use Rattle.anick_chains.specs.BasisTips.{leads_of}
use Rattle.anick_chains.specs.Listing.{IsNumberOf}
use Rattle.anick_chains.specs.Tallies.{AreCounts, AreTalliedOf, count_total}
use Rattle.anick_chains.proofs.FirstMany.{few_more, first_many}
use Rattle.anick_chains.proofs.MinimalChains.{listed_minimal}
use Rattle.anick_chains.proofs.Tallied.{none_tallied, tallied_counts, tallied_number, tallied_total}
use Rattle.anick_chains.proofs.counting.chain_counts.Goals as goal

pub loop-degree-init : goal.loop-degree-init
loop-degree-init c =
    let b = c.args.basis.now in
    let kept = c.done-done.ensures.kept in
    let T = Contains (leads_of b.elements) in
    let none : AreTalliedOf b 0 0 [] [] = none_tallied b kept c.requires.factor_free in
    record {
      tallied =
          subst (λ (ts : List Tally). AreTalliedOf b 0 0 ts c.new-counts.result.items) (sym c.new-tallies.ensures.items)
          (subst (λ (ks : List ChainCount). AreTalliedOf b 0 0 [] ks) (sym c.new-counts.ensures.items) none);
      within = omega arith;
      before = few_more T (length b.weights) b.weights c.args.most 0 0 (λ e lt. absurd (omega (arith, lt)))
          (tallied_number b kept c.requires.factor_free 0 0 [] [] none) (omega arith);
    }

pub loop-degree-preserved : goal.loop-degree-preserved
loop-degree-preserved c =
    let b = c.args.basis.now in
    let d = c.loop-degree.degree in
    let total = c.count_degree.new.total in
    let tallies = c.count_degree.new.tallies.items in
    let counts = c.count_degree.new.counts.items in
    let tallied : AreTalliedOf b d total tallies counts =
    subst (λ (x : Elements). AreTalliedOf x d total tallies counts) c.in_ok-tips.ensures.basis c.in_ok-count_degree.ensures.tallied in
    let same : d ≡ d + 1 - 1 = omega arith in
    record {
      tallied = subst (λ (n : ℕ). AreTalliedOf b n total tallies counts) same tallied;
      within = c.in_ok-count_degree.ensures.within;
      before = few_more (Contains (leads_of b.elements)) (length b.weights) b.weights c.args.most d total c.loop-degree.invariant.before
          (tallied_number b c.done-done.ensures.kept c.requires.factor_free d total tallies counts tallied) c.in_ok-count_degree.ensures.within;
    }

pub returns-in_err-count_degree-clause-many : goal.returns-in_err-count_degree-clause-many
returns-in_err-count_degree-clause-many c = λ degree e.
    let m = c.in_err-count_degree.ensures.many degree
    (ap Err (same_fault c.from_residual-in_err-count_degree.result _ _ c.from_residual-in_err-count_degree.ensures.1 e)) in
    let b = c.args.basis.now in
    first_many (Contains (leads_of b.elements)) (length b.weights) b.weights c.args.most c.args.bound c.loop-degree.degree degree
    c.loop-degree.invariant.before (omega (arith, c.loop-degree-test.true)) m.0 m.1
    (subst (λ (x : Elements). IsNumberOf x c.loop-degree.degree m.1) c.in_ok-tips.ensures.basis m.2) m.3

pub returns-clause-counted : goal.returns-clause-counted
returns-clause-counted c =
    let b = c.args.basis.now in
    let T = Contains (leads_of b.elements) in
    let last : c.loop-degree.degree - 1 ≡ c.args.bound = omega (arith, c.loop-degree-test.false, c.loop-degree.auto.degree-end (omega arith)) in
    subst (AreCounts T (length b.weights) b.weights c.args.bound) (sym c.from_vec.ensures)
    (subst (λ (n : ℕ). AreCounts T (length b.weights) b.weights n c.loop-degree.counts.items) last
    (tallied_counts b c.done-done.ensures.kept c.requires.factor_free (c.loop-degree.degree - 1) c.loop-degree.total c.loop-degree.tallies.items
    c.loop-degree.counts.items c.loop-degree.invariant.tallied))

pub returns-clause-within : goal.returns-clause-within
returns-clause-within c =
    let b = c.args.basis.now in
    omega (
      arith,
      ap count_total c.from_vec.ensures,
      tallied_total b c.done-done.ensures.kept c.requires.factor_free (c.loop-degree.degree - 1) c.loop-degree.total c.loop-degree.tallies.items
          c.loop-degree.counts.items c.loop-degree.invariant.tallied,
      c.loop-degree.invariant.within,
    )

pub returns-clause-minimal : goal.returns-clause-minimal
returns-clause-minimal c = λ p relations st upto.
    let b = c.args.basis.now in
    let own = returns-clause-counted c in
    record {
      chains = own.chains;
      listed = listed_minimal b c.done-done.ensures.kept p relations st upto c.args.bound c.requires.done own.chains own.listed;
      counted = own.counted;
    }
