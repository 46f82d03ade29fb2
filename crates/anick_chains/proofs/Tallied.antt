-- What is told of the chains up to a degree, and of one degree more.
use Rattle.std.proofs.Common.{◌≡◌, ◌+◌, ◌<◌, ℕ, List, [], ◌++◌, All, length, refl, sym, ap, ◌∙◌, arith, subst, length-append}
use Rattle.std.specs.List.{Contains}
use Rattle.std.specs.Cmp.{on_total}
use Rattle.std.proofs.lemmas.List.{length-map}
use Rattle.std.proofs.lemmas.List.Elements.{All-append, All-nil}
use Rattle.std.proofs.lemmas.List.Sorted.{Contains-permutation, IsPermutation-sym, length_permutation}
use Rattle.std.specs.Cmp.{IsTotalOrder}
use Rattle.words.proofs.Members.{Contains-map_cases}
use Rattle.ideal_laws.specs.Closure.{IsFactorFree}
use Rattle.ideal_laws.specs.Engine.{Elements}
use Rattle.ideal_laws.specs.Kept.{IsKept}
use Rattle.anick_chains.specs.declared.chain.Chain.{Chain}
use Rattle.anick_chains.specs.declared.tally.ChainCount.{ChainCount}
use Rattle.anick_chains.specs.declared.tally.Tally.{Tally}
use Rattle.anick_chains.specs.BasisTips.{leads_of}
use Rattle.anick_chains.specs.Compare.{pieces_cmp}
use Rattle.anick_chains.specs.Listed.{pieces_of, with_degree}
use Rattle.anick_chains.specs.Listing.{IsNumber}
use Rattle.anick_chains.specs.Tallies.{AreCounts, AreTallied, Tells, TellsSame, count_total, counts_at, tallies_at, tally_total}
use Rattle.anick_chains.specs.Walk.{chains_at}
use Rattle.anick_chains.proofs.ChainOrder.{pieces_cmp_total}
use Rattle.anick_chains.proofs.ChainSort.{sorted, sorted-moves, sorted-sorted}
use Rattle.anick_chains.proofs.CountBlocks.{counted_blocks, counted_total}
use Rattle.anick_chains.proofs.Counts.{counted_more, none_counted}
use Rattle.anick_chains.proofs.Steps.{listed_more, none_listed, number_listed, number_more, says}
use Rattle.anick_chains.proofs.Tells.{chain_length, tells_at, tells_both, tells_moved, tells_same, total_tells}

module _ (b : Elements) (kept : IsKept b) (free : IsFactorFree b.elements) where
  abbrev T : List ℕ → Type 0
  T = Contains (leads_of b.elements)

  abbrev names : ℕ
  names = length b.weights

  -- of no chain
  pub none_tallied : AreTallied T names b.weights 0 0 [] []
  none_tallied = record {
    chains = [];
    listed = none_listed b kept free;
    number = refl;
    tells = λ f. refl;
    some = All-nil (λ (t : Tally). 0 < t.count);
    counted = none_counted;
  }

  module _ (e total : ℕ) (tallies : List Tally) (counts : List ChainCount) (h : AreTallied T names b.weights e total tallies counts) where
    -- the total is the number of chains
    pub tallied_number : IsNumber T names b.weights e total
    tallied_number = subst (IsNumber T names b.weights e) (sym h.number) (number_listed b kept free e h.chains h.listed)

    -- and that of all numbers
    pub tallied_total : count_total counts ≡ total
    tallied_total = counted_total e h.chains counts h.counted ∙ sym h.number

    -- the numbers are those of the chains
    pub tallied_counts : AreCounts T names b.weights e counts
    tallied_counts = record {
      chains = h.chains;
      listed = h.listed;
      counted = counted_blocks T names b.weights e h.chains h.listed counts h.counted;
    }

    module _ (d : ℕ) (next : d ≡ e + 1) where
      abbrev all : List (List (List ℕ))
      all = chains_at b.weights b.elements d (pieces_of h.chains)

      abbrev raw : List Tally
      raw = tallies_at b.weights b.elements d tallies

      raw_tells : Tells raw (with_degree d all)
      raw_tells = tells_at b.weights b.elements d tallies h.chains h.listed.degrees h.tells

      raw_total : tally_total raw ≡ length all
      raw_total = total_tells raw (with_degree d all) raw_tells ∙ length-map {B = Chain} all (λ (c : List (List ℕ)). record { degree = d; pieces = c })

      -- so many chains up to the degree
      pub more_number : IsNumber T names b.weights d (total + tally_total raw)
      more_number = subst (IsNumber T names b.weights d) (omega (arith, h.number, raw_total)) (number_more b kept free e h.chains h.listed d next)

      -- with the tallies and numbers of the degree
      pub tallied_more : (block : List Tally) → TellsSame block raw → All (λ t. 0 < t.count) block → (whole : ℕ) → whole ≡ total + tally_total raw →
          AreTallied T names b.weights d whole (tallies ++ block) (counts ++ counts_at d block)
      tallied_more block same some whole is =
          let cmp = λ (x y : Chain). pieces_cmp b.weights x.pieces y.pieces in
          let order : IsTotalOrder cmp = on_total (λ (c : Chain). c.pieces) (pieces_cmp_total b.weights) in
          let listed = with_degree d all in
          let up = sorted cmp order listed in
          let moved = sorted-moves cmp order listed in
          let tells = tells_moved block listed up moved (tells_same block raw listed same raw_tells) in
          record {
            chains = h.chains ++ up;
            listed = listed_more b kept free e h.chains h.listed d next listed up refl moved (sorted-sorted cmp order listed);
            number = omega (
              arith,
              is,
              h.number,
              raw_total,
              length-append h.chains up,
              length_permutation listed up moved,
              length-map {B = Chain} all (λ (c : List (List ℕ)). record { degree = d; pieces = c }),
            );
            tells = tells_both tallies block h.chains up h.tells tells;
            some = All-append (λ (t : Tally). 0 < t.count) tallies block h.some some;
            counted = counted_more d block up tells (λ c m.
                let r = Contains-map_cases (λ (x : List (List ℕ)). record { degree = d; pieces = x }) all c
                (Contains-permutation up listed c (IsPermutation-sym listed up moved) m) in
                let k = says b kept free e h.chains h.listed d next r.0 r.1 in
                let size = chain_length b.weights kept.weights T names r.0 k.0 in
                let pieces : r.0 ≡ c.pieces = ap (λ (x : Chain). x.pieces) r.2 in (
                  sym (ap (λ (x : Chain). x.degree) r.2),
                  omega (arith, size.0, ap length pieces),
                  omega (arith, size.1, k.1, ap length pieces),
                )) e next counts h.chains h.counted;
          }
