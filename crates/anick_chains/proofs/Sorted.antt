-- The chains of a degree by length, and then by falling pieces.
use Rattle.std.proofs.Common.{◌≡◌, ◌≢◌, ℕ, Bool, false, List, get_or, refl, sym, ap, ◌∙◌, inr, arith, AllPairs, All, subst}
use Rattle.std.specs.List.{Contains, IsDistinct}
use Rattle.std.specs.List.Sorted.{IsPermutation, IsSorted}
use Rattle.std.specs.Ordering.{eq_by_cmp, is_eq}
use Rattle.std.specs.Cmp.{IsTotalOrder, on_total}
use Rattle.std.specs.declared.cmp.Ordering.{Ordering}
use Rattle.std.specs.declared.cmp.Ordering.TheVariants.{Less, Equal, Greater}
use Rattle.std.proofs.lemmas.List.{get_or_default}
use Rattle.std.proofs.lemmas.List.Elements.{All-contains}
use Rattle.std.proofs.lemmas.List.Sorted.{Contains-permutation, IsPermutation-sym}
use Rattle.std.proofs.lemmas.Map.Keys.{IsDistinct-IsPermutation, IsDistinct-from_apart}
use Rattle.words.specs.Words.{AreWeights}
use Rattle.words.proofs.Members.{AllPairs-map, All-from_members, Contains-map, Contains-map_cases}
use Rattle.overlaps.proofs.Strict.{strictly, tied_both}
use Rattle.anick_chains.specs.declared.chain.Chain.{Chain}
use Rattle.anick_chains.specs.Chains.{chain_degree}
use Rattle.anick_chains.specs.Compare.{pieces_cmp}
use Rattle.anick_chains.specs.Listed.{pieces_of, with_degree}
use Rattle.anick_chains.specs.Listing.{StandsBefore}
use Rattle.anick_chains.proofs.ChainOrder.{less_stands, pieces_cmp_total, pieces_ties}

module _ (weights : List ℕ) (aw : AreWeights weights) where
  -- the comparison of two chains of the list
  abbrev pub found_cmp : Chain → Chain → Ordering
  found_cmp x y = pieces_cmp weights x.pieces y.pieces

  found_total : IsTotalOrder found_cmp
  found_total = on_total (λ (c : Chain). c.pieces) (pieces_cmp_total weights)

  abbrev AreTied : Chain → Chain → Bool
  AreTied = eq_by_cmp found_cmp

  untied : (x y : Chain) → x.pieces ≢ y.pieces → AreTied x y ≡ false
  untied x y ne = by_order (found_cmp x y) refl
    where
      by_order : (r : Ordering) → found_cmp x y ≡ r → AreTied x y ≡ false
      by_order Less e = ap is_eq e
      by_order Equal e = absurd (ne (pieces_ties weights aw x.pieces y.pieces e))
      by_order Greater e = ap is_eq e

  module _ (d : ℕ) (all : List (List (List ℕ))) (apart : AllPairs (λ a b. a ≢ b) all) (degree : All (λ c. chain_degree weights c ≡ d) all)
      (block sorted : List Chain) (is : block ≡ with_degree d all) (moved : IsPermutation block sorted) where
    abbrev chain_of : List (List ℕ) → Chain
    chain_of c = record { degree = d; pieces = c }

    found : (x : Chain) → Contains sorted x → (c : List (List ℕ)) × Contains all c × (chain_of c ≡ x)
    found x m = Contains-map_cases chain_of all x (subst (λ (xs : List Chain). Contains xs x) is
        (Contains-permutation sorted block x (IsPermutation-sym block sorted moved) m))

    -- the sorted list has the same chains
    pub sorted_says : (c : List (List ℕ)) → Contains (pieces_of sorted) c → Contains all c
    sorted_says c m =
        let x = Contains-map_cases (λ (y : Chain). y.pieces) sorted c m in
        let r = found x.0 x.1 in
        subst (Contains all) (ap (λ (y : Chain). y.pieces) r.2 ∙ x.2) r.1

    -- and none of them is lost
    pub sorted_has : (c : List (List ℕ)) → Contains all c → Contains (pieces_of sorted) c
    sorted_has c m =
        Contains-map (λ (y : Chain). y.pieces) sorted (chain_of c) (Contains-permutation block sorted (chain_of c) moved
        (subst (λ (xs : List Chain). Contains xs (chain_of c)) (sym is) (Contains-map chain_of all c m)))

    -- each with its degree
    pub sorted_degrees : All (λ x. x.degree ≡ chain_degree weights x.pieces) sorted
    sorted_degrees = All-from_members (λ x. x.degree ≡ chain_degree weights x.pieces) sorted (λ x m.
        let r = found x m in
        subst (λ (y : Chain). y.degree ≡ chain_degree weights y.pieces) r.2 (sym (All-contains (λ c. chain_degree weights c ≡ d) all r.0 degree r.1)))

    -- in the order of chains
    pub sorted_stands : IsSorted found_cmp sorted → AllPairs (StandsBefore weights) (pieces_of sorted)
    sorted_stands up =
        let pairs = strictly found_cmp found_total sorted up
        (IsDistinct-IsPermutation AreTied (tied_both found_cmp found_total) block sorted moved (subst (IsDistinct AreTied) (sym is)
        (IsDistinct-from_apart AreTied (with_degree d all) (AllPairs-map chain_of (λ a b. a ≢ b) (λ x y. AreTied x y ≡ false)
        (λ a b ne. untied (chain_of a) (chain_of b) ne) all apart)))) in
        AllPairs-map (λ (x : Chain). x.pieces) (λ x y. StandsBefore weights x.pieces y.pieces) (StandsBefore weights) (λ x y s. s) sorted
        (λ i j e before within. inr (
          each (get_or sorted i e) (i, omega (arith, before, within), get_or_default sorted i (get_or sorted i e) e (omega (arith, before, within)))
              ∙ sym (each (get_or sorted j e) (j, within, get_or_default sorted j (get_or sorted j e) e within)),
          less_stands weights aw (get_or sorted i e).pieces (get_or sorted j e).pieces (pairs i j e before within),
        ))
      where
        each : (x : Chain) → Contains sorted x → chain_degree weights x.pieces ≡ d
        each x m = let r = found x m in subst (λ (y : Chain). chain_degree weights y.pieces ≡ d) r.2
            (All-contains (λ c. chain_degree weights c ≡ d) all r.0 degree r.1)
