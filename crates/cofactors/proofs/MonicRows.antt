-- The monic multiple of a row has the factors times the inverse of its leading coefficient.
use Rattle.std.proofs.Common.{◌≡◌, ◌*◌, ◌%◌, ℕ, List, sym, ap, ◌∙◌, one-mul, mul-one, mul_assoc}
use Rattle.std.proofs.lemmas.Nat.{mul-mod_first, mul-mod_second}
use Rattle.std.proofs.Math.Nat.{mul_comm}
use Rattle.free_poly.specs.declared.term.Term.{Term}
use Rattle.free_poly.specs.Poly.{IsMonic, IsMultiple, IsPolynomial, lead_or_none}
use Rattle.free_poly.specs.Terms.{IsSame, scaled, total_at}
use Rattle.free_poly.proofs.Totals.{total_at-scaled}
use Rattle.cofactors.proofs.Clearing.{one_at_lead}

regrouped : (a b c d : ℕ) → (a * b) * (c * d) ≡ (a * d) * (b * c)
regrouped a b c d = mul_assoc a b (c * d) ∙ ap (λ (n : ℕ). a * n) (sym (mul_assoc b c d) ∙ mul_comm (b * c) d) ∙ sym (mul_assoc a d (b * c))

-- two inverses of l are one
same_inverse : (p k l a x : ℕ) → (k * l) % p ≡ 1 % p → (l * a) % p ≡ 1 % p → (k * x) % p ≡ (a * x) % p
same_inverse p k l a x e f =
    let right : (k * x * (l * a)) % p ≡ (k * x) % p = sym (mul-mod_second (k * x) (l * a) p) ∙ ap (λ (n : ℕ). (k * x * n) % p) f
    ∙ mul-mod_second (k * x) 1 p ∙ ap (λ (n : ℕ). n % p) (mul-one (k * x)) in
    let left : (k * l * (a * x)) % p ≡ (a * x) % p = sym (mul-mod_first (k * l) (a * x) p) ∙ ap (λ (n : ℕ). (n * (a * x)) % p) e
    ∙ mul-mod_first 1 (a * x) p ∙ ap (λ (n : ℕ). n % p) (one-mul (a * x)) in
    sym right ∙ ap (λ (n : ℕ). n % p) (sym (regrouped k l a x)) ∙ left

module _ (p : ℕ) (f m : List Term) (form : IsPolynomial m) (monic : IsMonic m) (multiple : IsMultiple p m f) (lead : lead_or_none m ≡ lead_or_none f) where
  abbrev k : ℕ
  k = multiple.factor

  abbrev l : ℕ
  l = total_at f (lead_or_none f)

  total-multiple : (w : List ℕ) → total_at m w % p ≡ (k * total_at f w) % p
  total-multiple w = multiple.same w ∙ ap (λ (n : ℕ). n % p) (total_at-scaled k f w)

  inverse : (k * l) % p ≡ 1 % p
  inverse = sym (total-multiple (lead_or_none f)) ∙ ap (λ (n : ℕ). n % p) (ap (total_at m) (sym lead) ∙ one_at_lead m monic form)

  -- the row is its leading coefficient times the monic one
  pub from_monic : IsSame p f (scaled l m)
  from_monic w =
      let x = total_at f w in
      let times : (l * (k * x)) % p ≡ x % p =
      ap (λ (n : ℕ). n % p) (sym (mul_assoc l k x) ∙ ap (λ (n : ℕ). n * x) (mul_comm l k)) ∙ sym (mul-mod_first (k * l) x p)
      ∙ ap (λ (n : ℕ). (n * x) % p) inverse ∙ mul-mod_first 1 x p ∙ ap (λ (n : ℕ). n % p) (one-mul x) in
      sym times ∙ sym (mul-mod_second l (k * x) p) ∙ ap (λ (n : ℕ). (l * n) % p) (sym (total-multiple w)) ∙ mul-mod_second l (total_at m w) p
      ∙ ap (λ (n : ℕ). n % p) (sym (total_at-scaled l m w))

  -- what the row is a sum of, times the inverse, is what the monic one is a sum of
  pub monic_sum : (a : ℕ) (g h : List Term) → (l * a) % p ≡ 1 % p → IsSame p f g → IsSame p h (scaled a g) → IsSame p m h
  monic_sum a g h one same times w =
      total-multiple w ∙ sym (mul-mod_second k (total_at f w) p) ∙ ap (λ (n : ℕ). (k * n) % p) (same w) ∙ mul-mod_second k (total_at g w) p
      ∙ same_inverse p k l a (total_at g w) inverse one
      ∙ ap (λ (n : ℕ). n % p) (sym (total_at-scaled a g w)) ∙ sym (times w)
