-- Whether a tip of a list stands in a word.
use Rattle.std.proofs.Common.{◌≡◌, ℕ, Bool, true, false, cond, List, [], ◌∷◌, ◌++◌, length, take, drop, refl, sym, ap, ◌∙◌, inl, inr, bytes_eq}
use Rattle.std.specs.List.{Contains}
use Rattle.std.proofs.Math.Seq.{take-append_seam}
use Rattle.std.proofs.lemmas.List.{take-append-drop}
use Rattle.std.proofs.lemmas.Slice.Eq.{bytes_eq-Decides}
use Rattle.words.proofs.Members.{Contains-cases, Contains-first, Contains-more, Contains-none}
use Rattle.free_poly.proofs.Totals.{here}
use Rattle.anick_chains.specs.Chains.{HasTip}
use Rattle.anick_chains.specs.Walk.{begins, stands}
use Rattle.anick_chains.proofs.Tips.{HasTip-end}

module _ (tips : List (List ℕ)) where
  begins-is : (t v : List ℕ) → Contains tips t → begins tips (t ++ v) ≡ true
  begins-is t v m = at tips m
    where
      at : (ts : List (List ℕ)) → Contains ts t → begins ts (t ++ v) ≡ true
      at [] m = absurd (Contains-none t m)
      at (s ∷ ts) m = elim (Contains-cases s ts t m) [
        | inl e ↦ ap (λ (b : Bool). cond b true (begins ts (t ++ v)))
            (here (take (length s) (t ++ v)) s (ap (λ (x : List ℕ). take (length x) (t ++ v)) e ∙ take-append_seam t v ∙ sym e))
        | inr n ↦ by_test (bytes_eq (take (length s) (t ++ v)) s) (at ts n)
      ]
        where
          by_test : (b : Bool) → begins ts (t ++ v) ≡ true → cond b true (begins ts (t ++ v)) ≡ true
          by_test true e = refl
          by_test false e = e

  begins-says : (w : List ℕ) → begins tips w ≡ true → (t : List ℕ) × (v : List ℕ) × Contains tips t × (w ≡ t ++ v)
  begins-says w e = at tips e
    where
      at : (ts : List (List ℕ)) → begins ts w ≡ true → (t : List ℕ) × (v : List ℕ) × Contains ts t × (w ≡ t ++ v)
      at [] e = cc e
      at (s ∷ ts) e = by_test (bytes_eq (take (length s) w) s) refl e (at ts)
        where
          by_test : (b : Bool) → bytes_eq (take (length s) w) s ≡ b → cond b true (begins ts w) ≡ true →
              (begins ts w ≡ true → (t : List ℕ) × (v : List ℕ) × Contains ts t × (w ≡ t ++ v)) →
              (t : List ℕ) × (v : List ℕ) × Contains (s ∷ ts) t × (w ≡ t ++ v)
          by_test true f e on = (
            s,
            drop (length s) w,
            Contains-first s ts,
            sym (take-append-drop (length s) w)
                ∙ ap (λ (x : List ℕ). x ++ drop (length s) w) ((bytes_eq-Decides (take (length s) w) s).0 f),
          )
          by_test false f e on = let r = on e in (r.0, r.1, Contains-more s ts r.0 r.2, r.3)

  stands-is : (u t v : List ℕ) → Contains tips t → stands tips (u ++ t ++ v) ≡ true
  stands-is [] t v m = front (t ++ v) (begins-is t v m)
    where
      front : (w : List ℕ) → begins tips w ≡ true → stands tips w ≡ true
      front [] e = e
      front (x ∷ w) e = ap (λ (b : Bool). cond b true (stands tips w)) e
  stands-is (x ∷ u) t v m = by_test (begins tips (x ∷ (u ++ t ++ v))) (stands-is u t v m)
    where
      by_test : (b : Bool) → stands tips (u ++ t ++ v) ≡ true → cond b true (stands tips (u ++ t ++ v)) ≡ true
      by_test true e = refl
      by_test false e = e

  stands-says : (w : List ℕ) → stands tips w ≡ true → HasTip (Contains tips) w
  stands-says [] e = let r = begins-says [] e in record { tip = r.0; is_tip = r.2; inside = record { before = []; after = r.1; joined = r.3 } }
  stands-says (x ∷ w) e = by_test (begins tips (x ∷ w)) refl e (stands-says w)
    where
      by_test : (b : Bool) → begins tips (x ∷ w) ≡ b → cond b true (stands tips w) ≡ true →
          (stands tips w ≡ true → HasTip (Contains tips) w) → HasTip (Contains tips) (x ∷ w)
      by_test true f e on = let r = begins-says (x ∷ w) f in record { tip = r.0; is_tip = r.2; inside = record { before = []; after = r.1; joined = r.3 } }
      by_test false f e on = HasTip-end (Contains tips) (x ∷ []) w (on e)

  -- where no tip stands the test fails
  pub stands-not : (w : List ℕ) → (HasTip (Contains tips) w → ⊥) → stands tips w ≡ false
  stands-not w free = by_test (stands tips w) refl
    where
      by_test : (b : Bool) → stands tips w ≡ b → b ≡ false
      by_test true e = absurd (free (stands-says w e))
      by_test false e = refl

  -- where the test fails no tip stands
  pub stands-free : (w : List ℕ) → stands tips w ≡ false → HasTip (Contains tips) w → ⊥
  stands-free w e h =
      let t : stands tips w ≡ true = ap (stands tips) h.inside.joined ∙ stands-is h.inside.before h.tip h.inside.after h.is_tip in cc

  -- where a tip stands the test says so
  pub stands-has : (w : List ℕ) → HasTip (Contains tips) w → stands tips w ≡ true
  stands-has w h = ap (stands tips) h.inside.joined ∙ stands-is h.inside.before h.tip h.inside.after h.is_tip
