-- Numbers in their order.
use Rattle.std.proofs.Common.{◌≡◌, ◌<◌, ℕ, inl, inr}
use Rattle.std.proofs.lemmas.Bool.{cases_order}

-- two numbers neither of which is less are one
pub neither_less : (a b : ℕ) → (a < b → ⊥) → (b < a → ⊥) → a ≡ b
neither_less a b not_less not_more = elim (cases_order a b) [
  | inl same ↦ same
  | inr (inl less) ↦ absurd (not_less less)
  | inr (inr more) ↦ absurd (not_more more)
]
