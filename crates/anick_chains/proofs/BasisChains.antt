-- Chains depend on the tips up to their degree alone, and there the leading words of a reduced basis are the minimal
-- words.
use Rattle.std.proofs.Common.{◌≡◌, ◌+◌, ◌<◌, ◌≤◌, ℕ, List, [], ◌∷◌, ◌++◌, length, sym, ap, ◌∙◌, arith, subst}
use Rattle.std.specs.List.{Contains}
use Rattle.words.specs.Words.{degree_of}
use Rattle.words.proofs.Members.{Contains-map, Contains-map_cases}
use Rattle.words.proofs.Weights.{degree_of-append}
use Rattle.free_poly.specs.declared.term.Term.{Term}
use Rattle.free_poly.specs.Poly.{lead_or_none}
use Rattle.free_poly.proofs.Products.{degree_of-round}
use Rattle.ideal_laws.specs.Ideal.{Ideal, IsMinimal}
use Rattle.ideal_laws.specs.Laws.{IsSetting}
use Rattle.ideal_laws.specs.Overlaps.{AreLower}
use Rattle.ideal_laws.proofs.OneBasis.{minimal_led, monic-led}
use Rattle.anick_chains.specs.BasisTips.{HasMinimalChains, leads_of}
use Rattle.anick_chains.specs.Chains.{AreNext, EndsWithOnlyTip, HasTip, IsChain, IsNext, chain_degree}
use Rattle.free_poly.proofs.Leads.{lead-is}

module _ (weights : List ℕ) (names b : ℕ) (T U : List ℕ → Type 0) (to : (v : List ℕ) → degree_of weights v ≤ b → T v → U v)
    (from : (v : List ℕ) → degree_of weights v ≤ b → U v → T v) where
  part_small : (w u v x : List ℕ) → degree_of weights w ≤ b → w ≡ u ++ v ++ x → degree_of weights v ≤ b
  part_small w u v x le e = omega (arith, le, ap (degree_of weights) e, degree_of-round weights u v x)

  HasTip-back : (w : List ℕ) → degree_of weights w ≤ b → HasTip U w → HasTip T w
  HasTip-back w le h = record {
    tip = h.tip;
    is_tip = from h.tip (part_small w h.inside.before h.tip h.inside.after le h.inside.joined)
        h.is_tip;
    inside = h.inside;
  }

  ends-agree : (w : List ℕ) → degree_of weights w ≤ b → EndsWithOnlyTip T w → EndsWithOnlyTip U w
  ends-agree w le h = record {
    before = h.before;
    tip = h.tip;
    is_tip = to h.tip (omega (arith, le, ap (degree_of weights) h.joined, degree_of-append weights h.before h.tip)) h.is_tip;
    joined = h.joined;
    only = λ u v x t e. h.only u v x (from v (part_small w u v x le e) t) e;
  }

  next-agree : (q r : List ℕ) → degree_of weights q + degree_of weights r ≤ b → IsNext T names q r → IsNext U names q r
  next-agree q r le n = record {
    some = n.some;
    over = n.over;
    free = λ h. n.free (HasTip-back r (omega (arith, le)) h);
    ends = ends-agree (q ++ r) (omega (arith, le, degree_of-append weights q r)) n.ends;
  }

  all-agree : (q : List ℕ) (rs : List (List ℕ)) → degree_of weights q + chain_degree weights rs ≤ b → AreNext T names q rs → AreNext U names q rs
  all-agree q [] le h = tt
  all-agree q (r ∷ rs) le h = (next-agree q r (omega (arith, le)) h.0, all-agree r rs (omega (arith, le)) h.1)

  -- a chain over tips is one over other tips that are the same up to its degree
  pub chain-agrees : (c : List (List ℕ)) → chain_degree weights c ≤ b → IsChain T names c → IsChain U names c
  chain-agrees [] le h = h
  chain-agrees (q ∷ rs) le h = (
    record {
      letter = h.0.letter;
      within = h.0.within;
      is = h.0.is;
      no_tip = λ t. h.0.no_tip (from q (omega (arith, le)) t);
    },
    all-agree q rs le h.1,
  )

module _ (ideal : Ideal) (st : IsSetting ideal) (e : ℕ) (G : List (List Term)) (lower : AreLower ideal e G) where
  lead_minimal : (w : List ℕ) → Contains (leads_of G) w → IsMinimal ideal w
  lead_minimal w m =
      let g = Contains-map_cases lead_or_none G w m in
      let r = (lower g.0).0 g.1 in
      let l = monic-led g.0 r.2.monic in
      subst (IsMinimal ideal) (sym (lead-is g.0 l.0 l.1) ∙ g.2) (r.2.minimal l.0 l.1)

  minimal_lead : (w : List ℕ) → degree_of ideal.weights w < e → IsMinimal ideal w → Contains (leads_of G) w
  minimal_lead w lt h =
      let g = minimal_led ideal st w h in
      subst (Contains (leads_of G)) (lead-is g.0 w g.2) (Contains-map lead_or_none G g.0 ((lower g.0).1 (degree_of ideal.weights w, lt, g.1)))

  -- chains over the leading words are chains over the minimal words
  pub to_minimal : (c : List (List ℕ)) → chain_degree ideal.weights c < e → IsChain (Contains (leads_of G)) (length ideal.weights) c →
      IsChain (IsMinimal ideal) (length ideal.weights) c
  to_minimal c lt h = chain-agrees ideal.weights (length ideal.weights) (chain_degree ideal.weights c) (Contains (leads_of G)) (IsMinimal ideal)
      (λ v le m. lead_minimal v m) (λ v le m. minimal_lead v (omega (arith, le, lt)) m) c (omega arith) h

  -- chains over the minimal words are chains over the leading words
  pub from_minimal : (c : List (List ℕ)) → chain_degree ideal.weights c < e → IsChain (IsMinimal ideal) (length ideal.weights) c →
      IsChain (Contains (leads_of G)) (length ideal.weights) c
  from_minimal c lt h = chain-agrees ideal.weights (length ideal.weights) (chain_degree ideal.weights c) (IsMinimal ideal)
      (Contains (leads_of G)) (λ v le m. minimal_lead v (omega (arith, le, lt)) m) (λ v le m. lead_minimal v m) c (omega arith) h

-- up to the degrees of which the reduced elements are listed both have the same chains
pub has_minimal_chains : HasMinimalChains
has_minimal_chains ideal st e G lower c lt = (
  to_minimal ideal st e G lower c lt,
  from_minimal ideal st e G lower c lt,
)
