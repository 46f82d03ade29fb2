-- The first place of a list with an element of a kind.
use Rattle.std.proofs.Common.{◌≡◌, ◌+◌, ◌<◌, ℕ, List, [], sym, inl, inr, arith, subst}
use Rattle.std.proofs.lemmas.Bool.{cases_lt}
use Rattle.std.specs.Prelude.{slice_index_or}
use Rattle.free_poly.specs.declared.term.Term.{Term}

-- no element before this place is of the kind, and none is that stands here
pub none_next : (P : List Term → Type 0) (fs : List (List Term)) (n : ℕ) (f : List Term) → f ≡ slice_index_or fs n [] →
    ((k : ℕ) → k < n → P (slice_index_or fs k []) → ⊥) → (P f → ⊥)
    → (k : ℕ) → k < n + 1 → P (slice_index_or fs k []) → ⊥
none_next P fs n f is before other k lt h = elim (cases_lt k n) [
  | inl less ↦ before k less h
  | inr le ↦ let same : k ≡ n = omega (arith, lt, le) in other (subst P (sym is) (subst (λ (m : ℕ). P (slice_index_or fs m [])) same h))
]
