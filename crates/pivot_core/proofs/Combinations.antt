-- Residues as numbers of a field, and what is had from a sum of a multiple and a rest.
use Rattle.std.proofs.Common.{◌≡◌, ◌≢◌, ℕ, ◌-◌, ◌*◌, ◌%◌, ◌<◌, ◌==◌, Bool, true, false, List, get_or, refl, sym, ap, ◌∙◌, arith}
use Rattle.std.proofs.Math.Nat.{mod-eq_of_lt, mod-mod, mul_assoc, zero-mod}
use Rattle.std.proofs.lemmas.Bool.{eqb-true}
use Rattle.std.proofs.lemmas.Nat.{mul-mod_first, mul-mod_second}
use Rattle.field_table.specs.Residues.{IsFieldModulus, negative_of, product_of}
use Rattle.linear_algebra.specs.Fields.{Field}
use Rattle.linear_algebra.specs.Mod.{same_residue}
use Rattle.linear_algebra.proofs.Algebra.{mul_neg}
use Rattle.back_reduce.proofs.Vectors.{K, res, vec, vec-scaled}
use Rattle.pivot_core.specs.Views.{inverse_of, lead_at, made_monic}
use Rattle.pivot_core.proofs.Monic.{inverse_of-right}

module _ (F : Field) where
  cancelled : (u b r : F.F) → F.add (F.add u (F.mul b r)) (F.mul (F.neg b) r) ≡ u
  cancelled u b r =
      let negative : F.mul (F.neg b) r ≡ F.neg (F.mul b r) = F.mul_comm (F.neg b) r ∙ mul_neg F r b ∙ ap F.neg (F.mul_comm r b) in
      F.add_assoc u (F.mul b r) (F.mul (F.neg b) r) ∙ ap (λ (k : F.F). F.add u (F.add (F.mul b r) k)) negative
      ∙ ap (F.add u) (F.add_neg (F.mul b r)) ∙ F.add_zero u

  -- u from a * u + r
  pub solved : (a g u r : F.F) → F.is_zero a ≡ false → g ≡ F.add (F.mul a u) r → u ≡ F.add (F.mul (F.inv a) g) (F.mul (F.neg (F.inv a)) r)
  solved a g u r other e =
      let own : F.mul (F.inv a) (F.mul a u) ≡ u = sym (F.mul_assoc (F.inv a) a u) ∙ ap (λ (k : F.F). F.mul k u) (F.mul_inv a other)
      ∙ F.mul_comm F.one u ∙ F.mul_one u in
      sym (
      ap (λ (k : F.F). F.add (F.mul (F.inv a) k) (F.mul (F.neg (F.inv a)) r)) e
      ∙ ap (λ (k : F.F). F.add k (F.mul (F.neg (F.inv a)) r)) (F.mul_add (F.inv a) (F.mul a u) r ∙ ap (λ (k : F.F). F.add k (F.mul (F.inv a) r)) own)
      ∙ cancelled u (F.inv a) r)

  -- x less h, and h again
  pub restored : (x h : F.F) → F.add (F.add x (F.mul (F.neg F.one) h)) h ≡ x
  restored x h =
      let negative : F.mul (F.neg F.one) h ≡ F.neg h = F.mul_comm (F.neg F.one) h ∙ mul_neg F h F.one ∙ ap F.neg (F.mul_one h) in
      F.add_assoc x (F.mul (F.neg F.one) h) h ∙ ap (λ (k : F.F). F.add x (F.add k h)) negative
      ∙ ap (F.add x) (F.add_comm (F.neg h) h ∙ F.add_neg h) ∙ F.add_zero x

  -- a * (b * z + h) + r
  pub regrouped : (a b z h r : F.F) → F.add (F.mul a (F.add (F.mul b z) h)) r ≡ F.add (F.mul (F.mul a b) z) (F.add (F.mul a h) r)
  regrouped a b z h r =
      ap (λ (k : F.F). F.add k r) (F.mul_add a (F.mul b z) h ∙ ap (λ (k : F.F). F.add k (F.mul a h)) (sym (F.mul_assoc a b z)))
      ∙ F.add_assoc (F.mul (F.mul a b) z) (F.mul a h) r

-- a number other than 0 is not tested as 0
pub other_tested : (k : ℕ) → k ≢ 0 → (k == 0) ≡ false
other_tested k other = by_answer (k == 0) refl
  where
    by_answer : (b : Bool) → (k == 0) ≡ b → b ≡ false
    by_answer true e = absurd (other (eqb-true k 0 e))
    by_answer false e = refl

-- a product of residues other than 0 is other than 0
pub product-other : (p a b i : ℕ) → 0 < a → a < p → product_of p b i ≡ 1 → (a * b) % p ≢ 0
product-other p a b i some small one zero_is =
    let left : (a * b * i) % p ≡ 0 = sym (mul-mod_first (a * b) i p) ∙ ap (λ (n : ℕ). (n * i) % p) zero_is
    ∙ ap (λ (n : ℕ). n % p) (let none : 0 * i ≡ 0 = omega arith in none) ∙ zero-mod p in
    let right : (a * b * i) % p ≡ a = ap (λ (n : ℕ). n % p) (mul_assoc a b i) ∙ sym (mul-mod_second a (b * i) p)
    ∙ ap (λ (n : ℕ). (a * n) % p) one ∙ ap (λ (n : ℕ). n % p) (omega arith) ∙ mod-eq_of_lt small in
    omega (arith, left, right, some)

module _ (p : ℕ) (modulus : IsFieldModulus p) where
  abbrev Kp : Field
  Kp = K p modulus

  -- the residue of a product of numbers is the product of their residues
  pub res-product : (a b : ℕ) → res p modulus (product_of p a b) ≡ Kp.mul (res p modulus a) (res p modulus b)
  res-product a b = same_residue p _ _ (mod-mod (a * b) p ∙ sym (mul-mod_first a (b % p) p ∙ mul-mod_second a b p))

  -- the residue of a number from 1 to p - 1 is not 0
  pub res-other : (a : ℕ) → 0 < a → a < p → Kp.is_zero (res p modulus a) ≡ false
  res-other a some small = other_tested (a % p) (λ e. omega (arith, e, mod-eq_of_lt {n = a} {m = p} small, some))

  -- the residue of the number that stands for -1 is the negative of 1
  pub res-negative : res p modulus (negative_of p 1) ≡ Kp.neg Kp.one
  res-negative =
      let one : 1 % p ≡ 1 = mod-eq_of_lt {n = 1} {m = p} (omega (arith, modulus.two_or_more)) in
      same_residue p _ _ (mod-mod (p - 1) p ∙ ap (λ (k : ℕ). (p - k) % p) (sym one))

  -- a row is its leading entry times itself made monic
  pub vec-made_monic : (y : List ℕ) (c : ℕ) → 0 < get_or y (lead_at y) 0 → get_or y (lead_at y) 0 < p →
      vec p modulus y c ≡ Kp.mul (res p modulus (get_or y (lead_at y) 0)) (vec p modulus (made_monic p y) c)
  vec-made_monic y c some small =
      let b : ℕ = get_or y (lead_at y) 0 in
      let i : ℕ = inverse_of p b in
      let one : Kp.mul (res p modulus b) (res p modulus i) ≡ Kp.one = sym (res-product b i) ∙ ap (res p modulus) (inverse_of-right p b modulus some small) in
      sym (
      ap (Kp.mul (res p modulus b)) (vec-scaled p modulus i y c)
      ∙ sym (Kp.mul_assoc (res p modulus b) (res p modulus i) (vec p modulus y c))
      ∙ ap (λ (k : Kp.F). Kp.mul k (vec p modulus y c)) one ∙ Kp.mul_comm Kp.one (vec p modulus y c) ∙ Kp.mul_one (vec p modulus y c))
