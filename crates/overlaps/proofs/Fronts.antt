-- The first letters of words that fall.
use Rattle.std.proofs.Common.{ap₂, ◌≡◌, ◌⊎◌, ◌-◌, ◌<◌, ℕ, zero, suc, List, [], ◌∷◌, length, take, drop, refl, sym, ap, ◌∙◌, inl, inr, arith}
use Rattle.std.proofs.Common.{subst}
use Rattle.std.proofs.Common.{length-drop}
use Rattle.std.proofs.lemmas.Bool.{cases_lt}
use Rattle.std.proofs.lemmas.Cmp.{by_ranked, ranked}
use Rattle.std.proofs.lemmas.List.{take_all}
use Rattle.std.specs.Ordering.{nat_cmp}
use Rattle.std.specs.declared.cmp.Ordering.TheVariants.{Less, Greater}
use Rattle.words.specs.Order.{IsLetterwiseGreater, letterwise_cmp}
use Rattle.words.specs.Words.{OccursAt}
use Rattle.free_poly.proofs.NormalForms.{letterwise-trans}
use Rattle.overlaps.specs.Walk.{IsAbove}

-- of two words in order the first letters are in order, too, or equal
pub front-falls : (n : ℕ) (u v : List ℕ) → IsLetterwiseGreater u v → (take n u ≡ take n v) ⊎ IsLetterwiseGreater (take n u) (take n v)
front-falls zero u v g = inl refl
front-falls (suc n) [] [] g = cc g
front-falls (suc n) [] (y ∷ v) g = cc g
front-falls (suc n) (x ∷ u) [] g = inr refl
front-falls (suc n) (x ∷ u) (y ∷ v) g =
    by_ranked (y < x) (y ≡ x) (x < y) (nat_cmp y x) (ranked y x (nat_cmp y x) refl)
    (λ is below. let f : Less ≡ Greater = rw is at g in cc f)
    (λ is same. let f : letterwise_cmp u v ≡ Greater = rw is at g in elim (front-falls n u v f) [
      | inl e ↦ inl (ap₂ (λ (z : ℕ) (r : List ℕ). z ∷ r) (sym same) e)
      | inr h ↦ inr (rw is h)
    ])
    (λ is above. inr (rw is refl))

-- what stands before a word above stands above
pub above-before : (c u v : List ℕ) → IsLetterwiseGreater u v → IsAbove c v → IsAbove c u
above-before c u v g h = elim (front-falls (length c) u v g) [
  | inl e ↦ subst (λ (w : List ℕ). IsLetterwiseGreater w c) (sym e) h
  | inr f ↦ letterwise-trans (take (length c) u) (take (length c) v) c f h
]

-- behind a word that neither stands above nor begins with these letters no word begins with them
pub none-behind : (c u v : List ℕ) → IsLetterwiseGreater u v → (IsAbove c u → ⊥) → (take (length c) u ≡ c → ⊥) → take (length c) v ≡ c → ⊥
none-behind c u v g low other e = elim (front-falls (length c) u v g) [
  | inl same ↦ other (same ∙ e)
  | inr f ↦ low (subst (λ (w : List ℕ). IsLetterwiseGreater (take (length c) u) w) e f)
]

-- letters that begin a word stand in it from the front
pub occurs_in_front : (u w : List ℕ) → take (length u) w ≡ u → OccursAt u w 0
occurs_in_front u w e = elim (cases_lt (length w) (length u)) [
  | inl lt ↦ let same : w ≡ u = sym (take_all (length u) w (omega (arith, lt))) ∙ e in absurd (omega (arith, lt, ap length same))
  | inr le ↦ record { within = omega (arith, le); same = e }
]

-- all letters from a place on
pub rest-all : (xs : List ℕ) (at : ℕ) → take (length xs - at) (drop at xs) ≡ drop at xs
rest-all xs at = take_all (length xs - at) (drop at xs) (omega (arith, length-drop at xs))

-- the same of equal words
pub begins_as : (u c w v : List ℕ) → u ≡ c → w ≡ v → OccursAt u w 0 → take (length c) v ≡ c
begins_as u c w v is same o = (subst (λ (x : List ℕ). OccursAt x v 0) is (subst (λ (x : List ℕ). OccursAt u x 0) same o)).same

-- and the other way round
pub occurs_as : (u c w v : List ℕ) → u ≡ c → w ≡ v → take (length c) v ≡ c → OccursAt u w 0
occurs_as u c w v is same e = subst (λ (x : List ℕ). OccursAt x w 0) (sym is) (subst (λ (x : List ℕ). OccursAt c x 0) (sym same) (occurs_in_front c v e))
