-- The minimal words of an ideal are tips, and the pairing law holds over them and over lists of tips.
use Rattle.std.proofs.Common.{◌≡◌, ◌≢◌, ◌⊎◌, ◌<◌, ℕ, true, false, List, [], length, refl, sym, ◌∙◌, inl, inr, bytes_eq}
use Rattle.std.specs.List.{Contains}
use Rattle.std.proofs.lemmas.Bool.{cases_Bool}
use Rattle.std.proofs.lemmas.Slice.Eq.{bytes_eq-Decides}
use Rattle.words.specs.Words.{IsFactor}
use Rattle.free_poly.proofs.FromWords.{listed}
use Rattle.free_poly.proofs.Totals.{here}
use Rattle.ideal_laws.specs.Ideal.{Ideal, IsMinimal}
use Rattle.ideal_laws.specs.Laws.{IsSetting}
use Rattle.ideal_laws.proofs.Factors.{factor_listed, factors, is_minimal, listed_factor}
use Rattle.ideal_laws.proofs.Lower.{no_reduced_0}
use Rattle.ideal_laws.proofs.OneBasis.{minimal_led}
use Rattle.ideal_laws.proofs.Search.{found, none, search_list}
use Rattle.anick_chains.specs.Chains.{HasTip}
use Rattle.anick_chains.specs.Laws.{AreTips, HasEvenOdd, HasListedMates, HasMate, HasMates, IsPairing}
use Rattle.anick_chains.specs.Pairs.{IsMate, IsPair, Pair}
use Rattle.anick_chains.proofs.EvenOdd.{as_many}
use Rattle.anick_chains.proofs.Mates.{has_mate}

module _ (T : List ℕ → Type 0) (tips : AreTips T) where
  -- a tip stands in a word or none does
  pub has_tip : (w : List ℕ) → HasTip T w ⊎ (HasTip T w → ⊥)
  has_tip w = elim (search_list T tips.decide (factors w)) [
    | found v m t ↦ inl (record { tip = v; is_tip = t; inside = listed_factor v w m })
    | none all ↦ inr (λ h. all h.tip (factor_listed h.tip w h.inside) h.is_tip)
  ]

  module _ (names : ℕ) (weights : List ℕ) (d : ℕ) (pos : 0 < d) where
    -- each pair has its mate
    pub mate : (a : Pair) → IsPair T names weights d a → HasMate T names weights d a
    mate a h = has_mate T names tips weights d has_tip pos a h

    -- pairs of even and of odd length are as many
    pub even_odd : HasEvenOdd T names weights d
    even_odd pairs all apart = as_many (IsMate T) (λ a. length a.pieces) pairs apart
        (λ a m. let h = mate a ((all a).0 m) in (h.one.value, (all h.one.value).1 h.pair, h.one.holds, h.back, h.one_longer))
        (λ a b c m h k. let r = mate a ((all a).0 m) in r.one.only b h ∙ sym (r.one.only c k))

module _ (ideal : Ideal) (st : IsSetting ideal) where
  no_empty : IsMinimal ideal [] → ⊥
  no_empty m = let g = minimal_led ideal st [] m in no_reduced_0 ideal st g.0 g.1

  differ : (v w : List ℕ) → bytes_eq v w ≡ false → v ≡ w → ⊥
  differ v w f e = let t : bytes_eq v w ≡ true = here v w e in cc

  -- the minimal words are tips
  pub minimal_tips : AreTips (IsMinimal ideal)
  minimal_tips = record {
    decide = is_minimal ideal st;
    apart = λ v w m n i. elim (cases_Bool (bytes_eq v w)) [
      | inl is ↦ (bytes_eq-Decides v w).0 is
      | inr other ↦ absurd (n.none_inside v (record { inside = i; other = differ v w other }) m.leading)
    ];
    some = no_empty;
  }

-- a list of words of which none is a factor of another, and none is empty, is one of tips
listed_tips : (tips : List (List ℕ)) → ((w : List ℕ) → Contains tips w → w ≢ []) →
    ((v w : List ℕ) → Contains tips v → Contains tips w → IsFactor v w → v ≡ w) → AreTips (Contains tips)
listed_tips tips some apart = record { decide = listed tips; apart = apart; some = λ m. some [] m refl }

-- each pair over the minimal words has its mate
pub has_mates : HasMates
has_mates ideal st d pos a h = mate (IsMinimal ideal) (minimal_tips ideal st) (length ideal.weights) ideal.weights d pos a h

-- the pairing law over the minimal words
pub is_pairing : IsPairing
is_pairing ideal st d pos = even_odd (IsMinimal ideal) (minimal_tips ideal st) (length ideal.weights) ideal.weights d pos

-- the pairing law over a list of tips
pub has_listed_mates : HasListedMates
has_listed_mates tips some apart weights d pos =
    let t = listed_tips tips some apart in
    (λ a h. mate (Contains tips) t (length weights) weights d pos a h, even_odd (Contains tips) t (length weights) weights d pos)
