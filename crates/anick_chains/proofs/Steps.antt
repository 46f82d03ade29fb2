-- The list of chains grows by the chains of one more degree.
use Rattle.std.proofs.Common.{◌≡◌, ◌≢◌, ◌↔◌, ◌+◌, ◌<◌, ◌≤◌, ℕ, List, [], ◌∷◌, ◌++◌, length, get_or, sym, ap, ◌∙◌, inl, inr, arith}
use Rattle.std.proofs.Common.{AllPairs, All, subst, length-append}
use Rattle.std.specs.List.{Contains, flat_map}
use Rattle.std.specs.List.Sorted.{IsPermutation, IsSorted}
use Rattle.std.proofs.lemmas.Bool.{cases_lt}
use Rattle.std.proofs.lemmas.List.{length-map, map-append}
use Rattle.std.proofs.lemmas.List.Elements.{All-append, All-nil, Contains-append_cases, Contains-append_left, Contains-append_right}
use Rattle.std.proofs.lemmas.Option.{slice_get-get_or}
use Rattle.words.proofs.Members.{AllPairs-append, AllPairs-nil, All-from_members, Contains-none}
use Rattle.words.proofs.Weights.{degree_of-positive}
use Rattle.words.specs.Words.{IsFactor}
use Rattle.ideal_laws.specs.Closure.{IsFactorFree}
use Rattle.ideal_laws.specs.Engine.{Elements}
use Rattle.ideal_laws.specs.Kept.{IsKept}
use Rattle.ideal_laws.proofs.Factors.{factor_itself}
use Rattle.overlaps.specs.Walk.{lead_word}
use Rattle.overlaps.proofs.Places.{element_kept, monic-lead}
use Rattle.anick_chains.specs.declared.chain.Chain.{Chain}
use Rattle.anick_chains.specs.BasisTips.{leads_of}
use Rattle.anick_chains.specs.Chains.{IsChain, chain_degree}
use Rattle.anick_chains.specs.Compare.{pieces_cmp}
use Rattle.anick_chains.specs.Listed.{AreListed, pieces_of, with_degree}
use Rattle.anick_chains.specs.Listing.{AreChains, IsNumber, StandsBefore}
use Rattle.anick_chains.specs.Laws.{AreListedTips}
use Rattle.anick_chains.specs.Walk.{chains_at, continued, free_letters, onward}
use Rattle.anick_chains.proofs.BasisTips.{listed_tips}
use Rattle.anick_chains.proofs.ChainOrder.{before_differs}
use Rattle.anick_chains.proofs.ChainsAt.{chains_at-apart, chains_at-is, chains_at-says}
use Rattle.anick_chains.proofs.Sorted.{sorted_degrees, sorted_has, sorted_says, sorted_stands}

module _ (b : Elements) (kept : IsKept b) (free : IsFactorFree b.elements) where
  abbrev weights : List ℕ
  weights = b.weights

  abbrev T : List ℕ → Type 0
  T = Contains (leads_of b.elements)

  abbrev names : ℕ
  names = length b.weights

  -- equal leading words stand at one place
  pub lead_distinct : (i j : ℕ) → i < length b.elements → j < length b.elements → lead_word b.elements i ≡ lead_word b.elements j → i ≡ j
  lead_distinct i j lt_i lt_j e =
      let at = λ (k : ℕ) (lt : k < length b.elements). monic-lead (get_or b.elements k []) (element_kept b kept k lt).monic in
      free i j (get_or b.elements i []) (get_or b.elements j []) (lead_word b.elements i) (lead_word b.elements j)
      (slice_get-get_or b.elements i [] lt_i) (slice_get-get_or b.elements j [] lt_j)
      (at i lt_i) (at j lt_j) (subst (IsFactor (lead_word b.elements i)) e (factor_itself (lead_word b.elements i)))

  -- no chain has degree 0
  some_degree : (c : List (List ℕ)) → IsChain T names c → 0 < chain_degree weights c
  some_degree [] h = absurd h
  some_degree (q ∷ qs) h = omega (arith, degree_of-positive weights kept.weights q (λ e. let n = sym h.0.is ∙ e in cc n))

  -- so the list begins empty
  pub none_listed : AreListed T names weights 0 []
  none_listed = record {
    degrees = All-nil (λ (c : Chain). c.degree ≡ chain_degree weights c.pieces);
    chains = record {
      exactly = λ c. ((λ m. absurd (Contains-none c m)), (λ h. absurd (omega (arith, h.1, some_degree c h.0))));
      ordered = AllPairs-nil (StandsBefore weights);
    };
  }

  module _ (e : ℕ) (found : List Chain) (h : AreListed T names weights e found) where
    below_apart : AllPairs (λ x y. x ≢ y) (pieces_of found)
    below_apart i j d before within = before_differs weights _ _ (h.chains.ordered i j d before within)

    -- a list of chains tells their number
    pub number_listed : IsNumber T names weights e (length found)
    number_listed = record {
      chains = pieces_of found;
      exactly = h.chains.exactly;
      apart = below_apart;
      count = sym (length-map found (λ (c : Chain). c.pieces));
    }

    module _ (d : ℕ) (next : d ≡ e + 1) where
      abbrev below : List (List (List ℕ))
      below = pieces_of found

      abbrev all : List (List (List ℕ))
      all = chains_at weights b.elements d below

      chains_below : (c : List (List ℕ)) → Contains below c ↔ (IsChain T names c × (chain_degree weights c < d))
      chains_below c = (
        λ m. let r = (h.chains.exactly c).0 m in (r.0, omega (arith, r.1, next)),
        λ r. (h.chains.exactly c).1 (r.0, omega (arith, r.1, next)),
      )

      tips : AreListedTips names (leads_of b.elements)
      tips = listed_tips b kept free

      -- each chain that is listed for degree d is a chain of degree d
      pub says : (c : List (List ℕ)) → Contains all c → IsChain T names c × (chain_degree weights c ≡ d)
      says c m = chains_at-says weights b.elements tips kept.weights d below chains_below c m

      has : (c : List (List ℕ)) → IsChain T names c → chain_degree weights c ≡ d → Contains all c
      has c k deg = chains_at-is weights b.elements tips kept.weights d below chains_below c k deg

      apart : AllPairs (λ x y. x ≢ y) all
      apart = chains_at-apart weights b.elements tips kept.weights d below chains_below lead_distinct below_apart

      cases : (c : List (List ℕ)) → IsChain T names c × (chain_degree weights c ≤ d) → (rest : List (List (List ℕ))) →
          (Contains all c → Contains rest c) → Contains (below ++ rest) c
      cases c k rest at = elim (cases_lt (chain_degree weights c) d) [
        | inl lt ↦ Contains-append_left below rest c ((chains_below c).1 (k.0, lt))
        | inr le ↦ Contains-append_right below rest c (at (has c k.0 (omega (arith, le, k.1))))
      ]

      both : (c : List (List ℕ)) (rest : List (List (List ℕ))) → (Contains rest c → Contains all c) → Contains (below ++ rest) c →
          IsChain T names c × (chain_degree weights c ≤ d)
      both c rest at m = elim (Contains-append_cases below rest c m) [
        | inl n ↦ let r = (chains_below c).0 n in (r.0, omega (arith, r.1))
        | inr n ↦ let r = says c (at n) in (r.0, omega (arith, r.1))
      ]

      -- so many letters and longer chains
      pub all_length : length all ≡ length (free_letters weights b.elements d) + length (flat_map (onward weights b.elements d) below)
      all_length =
          length-append (continued [] (free_letters weights b.elements d)) (flat_map (onward weights b.elements d) below)
          ∙ ap (λ (n : ℕ). n + length (flat_map (onward weights b.elements d) below))
          (length-map (free_letters weights b.elements d) (λ (r : List ℕ). [] ++ r ∷ []))

      -- the number up to the degree is that below and that of the degree
      pub number_more : IsNumber T names weights d (length found + length all)
      number_more = record {
        chains = below ++ all;
        exactly = λ c. ((λ m. both c all (λ n. n) m), (λ k. cases c k all (λ n. n)));
        apart = AllPairs-append (λ x y. x ≢ y) below all below_apart apart
            (λ x m. All-from_members (λ y. x ≢ y) all (λ y n same. omega (arith, ((chains_below x).0 m).1, (says y n).1, ap (chain_degree weights) same)));
        count = sym (length-append below all ∙ ap (λ (n : ℕ). n + length all) (length-map found (λ (c : Chain). c.pieces)));
      }

      -- the chains of the degree, sorted, go behind the others
      pub listed_more : (block sorted : List Chain) → block ≡ with_degree d all → IsPermutation block sorted →
          IsSorted (λ x y. pieces_cmp weights x.pieces y.pieces) sorted
          → AreListed T names weights d (found ++ sorted)
      listed_more block sorted is moved up =
          let degree : All (λ c. chain_degree weights c ≡ d) all = All-from_members (λ c. chain_degree weights c ≡ d) all (λ c m. (says c m).1) in
          let whole : pieces_of (found ++ sorted) ≡ below ++ pieces_of sorted = map-append (λ (c : Chain). c.pieces) found sorted in
          record {
            degrees = All-append (λ (c : Chain). c.degree ≡ chain_degree weights c.pieces) found sorted h.degrees
                (sorted_degrees weights kept.weights d all apart degree block sorted is moved);
            chains = subst (AreChains T names weights d) (sym whole) (record {
              exactly = λ c. (
                (λ m. both c (pieces_of sorted) (λ n. sorted_says weights kept.weights d all apart degree block sorted is moved c n) m),
                (λ k. cases c k (pieces_of sorted) (λ n. sorted_has weights kept.weights d all apart degree block sorted is moved c n)),
              );
              ordered = AllPairs-append (StandsBefore weights) below (pieces_of sorted) h.chains.ordered
                  (sorted_stands weights kept.weights d all apart degree block sorted is moved up)
                  (λ x m. All-from_members (StandsBefore weights x) (pieces_of sorted) (λ y n.
                  inl (omega (arith, ((chains_below x).0 m).1, (says y (sorted_says weights kept.weights d all apart degree block sorted is moved y n)).1))));
            });
          }
