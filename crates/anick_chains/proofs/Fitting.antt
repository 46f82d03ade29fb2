-- The tips of a degree that begin with a word stand together in the basis.
use Rattle.std.proofs.Common.{◌≡◌, ◌≢◌, ◌⊎◌, ◌<◌, ◌≤◌, ◌==◌, ◌&&◌, ℕ, Bool, true, false, List, length, take, refl, sym, ◌∙◌, inl, inr, arith}
use Rattle.std.proofs.Common.{subst, bytes_eq, eq-eqb}
use Rattle.std.proofs.lemmas.Bool.{cases_Bool, cases_lt, eqb-true, ne_eqb}
use Rattle.std.proofs.lemmas.Slice.Eq.{bytes_eq-Decides}
use Rattle.words.specs.Words.{degree_of}
use Rattle.free_poly.specs.declared.term.Term.{Term}
use Rattle.free_poly.proofs.Totals.{letterwise-apart}
use Rattle.ideal_laws.specs.Engine.{Elements}
use Rattle.ideal_laws.specs.Kept.{IsKept, count_below, count_upto}
use Rattle.overlaps.specs.Walk.{IsAbove, lead_word}
use Rattle.overlaps.proofs.Fronts.{none-behind}
use Rattle.overlaps.proofs.Places.{before_degree, behind_degree, falls_in_degree, in_degree}
use Rattle.anick_chains.specs.Walk.{goes_on}

module _ (weights : List ℕ) (G : List (List Term)) (shared : List ℕ) (d k : ℕ) where
  -- a tip of another degree does not go on
  pub goes_on-other : degree_of weights (lead_word G k) ≢ d → goes_on weights G shared d k ≡ false
  goes_on-other ne = elim (cases_Bool (goes_on weights G shared d k)) [
    | inr fails ↦ fails
    | inl holds ↦ by_front (bytes_eq (take (length shared) (lead_word G k)) shared) refl
  ]
    where
      by_front : (b : Bool) → bytes_eq (take (length shared) (lead_word G k)) shared ≡ b → goes_on weights G shared d k ≡ false
      by_front true e = rw e (ne_eqb (degree_of weights (lead_word G k)) d ne)
      by_front false e = rw e refl

  -- nor does one that begins otherwise
  pub goes_on-apart : (take (length shared) (lead_word G k) ≡ shared → ⊥) → goes_on weights G shared d k ≡ false
  goes_on-apart ne = elim (cases_Bool (bytes_eq (take (length shared) (lead_word G k)) shared)) [
    | inl is ↦ absurd (ne ((bytes_eq-Decides (take (length shared) (lead_word G k)) shared).0 is))
    | inr other ↦ rw other refl
  ]

  -- one of the degree with this beginning does
  pub goes_on-both : take (length shared) (lead_word G k) ≡ shared → degree_of weights (lead_word G k) ≡ d → goes_on weights G shared d k ≡ true
  goes_on-both e f = rw ((bytes_eq-Decides (take (length shared) (lead_word G k)) shared).1 e) (eq-eqb (degree_of weights (lead_word G k)) d f)

  -- and no other one
  pub goes_on-says : goes_on weights G shared d k ≡ true → (take (length shared) (lead_word G k) ≡ shared) × (degree_of weights (lead_word G k) ≡ d)
  goes_on-says e = by_tests (bytes_eq (take (length shared) (lead_word G k)) shared) refl (degree_of weights (lead_word G k) == d) refl
    where
      by_tests : (a : Bool) → bytes_eq (take (length shared) (lead_word G k)) shared ≡ a → (b : Bool) → (degree_of weights (lead_word G k) == d) ≡ b
          → (take (length shared) (lead_word G k) ≡ shared) × (degree_of weights (lead_word G k) ≡ d)
      by_tests true f true g = ((bytes_eq-Decides (take (length shared) (lead_word G k)) shared).0 f, eqb-true (degree_of weights (lead_word G k)) d g)
      by_tests false f b g = absurd (let h : false ≡ true = rw f at e in cc h)
      by_tests true f false g = absurd (let h : (true && false) ≡ true = sym (λ i. f i && g i) ∙ e in cc h)

module _ (b : Elements) (kept : IsKept b) (c : List ℕ) (d first end : ℕ) (is_first : first ≡ count_below b.weights d b.elements)
    (is_end : end ≡ count_upto b.weights d b.elements) (fits : end ≤ length b.elements) where
  -- no tip outside the places of the degree goes on
  pub outside : (k : ℕ) → k < length b.elements → (k < first) ⊎ (end ≤ k) → goes_on b.weights b.elements c d k ≡ false
  outside k within (inl under) = goes_on-other b.weights b.elements c d k
      (λ e. omega (arith, e, before_degree b kept d k within (omega (arith, under, is_first))))
  outside k within (inr from) = goes_on-other b.weights b.elements c d k (λ e. omega (arith, e, behind_degree b kept d k within (omega (arith, from, is_end))))

  -- nor one before the first place that does not stand above
  pub none_before : (start : ℕ) → start ≤ end → ((k : ℕ) → first ≤ k → k < start → IsAbove c (lead_word b.elements k))
      → (k : ℕ) → k < start → goes_on b.weights b.elements c d k ≡ false
  none_before start le above k under = elim (cases_lt k first) [
    | inl before_first ↦ outside k (omega (arith, under, le, fits)) (inl before_first)
    | inr there ↦ goes_on-apart b.weights b.elements c d k (λ e. letterwise-apart (take (length c) (lead_word b.elements k)) c (above k there under) e)
  ]

  -- nor one from the first place on where a tip below does not begin with the word
  pub none_after : (right : ℕ) → first ≤ right → right < end → (IsAbove c (lead_word b.elements right) → ⊥) →
      (take (length c) (lead_word b.elements right) ≡ c → ⊥)
      → (k : ℕ) → right ≤ k → k < length b.elements → goes_on b.weights b.elements c d k ≡ false
  none_after right from under low other k later within = elim (cases_lt k end) [
    | inr behind ↦ outside k within (inr behind)
    | inl there ↦ goes_on-apart b.weights b.elements c d k (elim (cases_lt right k) [
      | inl after ↦ none-behind c (lead_word b.elements right) (lead_word b.elements k)
          (falls_in_degree b kept d (omega (arith, fits, is_end)) right k (omega (arith, from, is_first)) after (omega (arith, there, is_end))) low other
      | inr le ↦ let same : right ≡ k = omega (arith, later, le) in subst (λ (n : ℕ). take (length c) (lead_word b.elements n) ≡ c → ⊥) same other
    ])
  ]

  -- the tips of the degree at these places that begin with the word go on
  pub there : (k : ℕ) → first ≤ k → k < end → take (length c) (lead_word b.elements k) ≡ c → goes_on b.weights b.elements c d k ≡ true
  there k from under e =
      goes_on-both b.weights b.elements c d k e (in_degree b kept d k (omega (arith, from, is_first)) (omega (arith, under, is_end))
      (omega (arith, under, fits)))
