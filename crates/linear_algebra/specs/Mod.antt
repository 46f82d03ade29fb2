-- Residues of p as a field.
use Rattle.std.proofs.Common.{◌≡◌, ℕ, ◌+◌, ◌-◌, ◌*◌, ◌%◌, ◌<◌, ◌≤◌, ◌==◌, zero, suc, false, true, sym, ap, ◌∙◌, arith}
use Rattle.std.proofs.Common.{add_assoc, add_comm, add-zero}
use Rattle.std.proofs.Math.Nat.{mod-eq_of_lt, mod-lt, mul_comm, mul_assoc, mul-add, mul-one, add-mod, mod_self}
use Rattle.std.proofs.Math.Nat.{zero-mod, mod-add-mod, add-mod-mod}
use Rattle.std.proofs.lemmas.Nat.{mul-mod_first, mul-mod_second}
use Rattle.std.proofs.lemmas.Bool.{eqb-true}
use mathlib.Core.HLevel.{Σ_prop_path}
use denote.Struct.Props.{props}
use Rattle.field_table.specs.Residues.{IsFieldModulus}
use Rattle.linear_algebra.specs.Fields.{Field}

-- a number below p
abbrev pub Residue : ℕ → Type 0
Residue p = (n : ℕ) × (n < p)

-- the residue of a number
abbrev pub residue : (p : ℕ) → 0 < p → ℕ → Residue p
residue p pos n = (n % p, mod-lt n {m = p} pos)

-- residues that are one number are one
pub same_residue : (p : ℕ) (a b : Residue p) → a.0 ≡ b.0 → a ≡ b
same_residue p a b e = Σ_prop_path (λ n. hlevel props) e

suc-positive : (a : ℕ) → 0 < suc a
suc-positive a = omega arith

module _ (p : ℕ) (two : 2 ≤ p) (inverse : (a : ℕ) → 0 < a → a < p → (b : ℕ) × (b < p) × ((a * b) % p ≡ 1)) where
  pub pos : 0 < p
  pos = omega arith

  -- the residue of a number
  abbrev pub of : ℕ → Residue p
  of n = residue p pos n

  -- the inverse of a residue, and 0 for 0
  pub inverse_of : (a : ℕ) → a < p → Residue p
  inverse_of zero lt = of 0
  inverse_of (suc a) lt = let b = inverse (suc a) (suc-positive a) lt in (b.0, b.1)

  pub inverse_is : (a : ℕ) (lt : a < p) → (a == 0) ≡ false → ((inverse_of a lt).0 * a) % p ≡ 1
  unfolding inverse_of
  inverse_is zero lt e = cc e
  inverse_is (suc a) lt e = ap (λ (n : ℕ). n % p) (mul_comm _ (suc a)) ∙ (inverse (suc a) (suc-positive a) lt).2

  pub sum-assoc : (a b c : Residue p) → of ((a.0 + b.0) % p + c.0) ≡ of (a.0 + (b.0 + c.0) % p)
  sum-assoc a b c = same_residue p _ _ (mod-add-mod (a.0 + b.0) p c.0
      ∙ ap (λ (n : ℕ). n % p) (add_assoc a.0 b.0 c.0) ∙ sym (add-mod-mod a.0 (b.0 + c.0) p))

  pub sum-comm : (a b : Residue p) → of (a.0 + b.0) ≡ of (b.0 + a.0)
  sum-comm a b = same_residue p _ _ (ap (λ (n : ℕ). n % p) (add_comm a.0 b.0))

  pub sum-zero : (a : Residue p) → of (a.0 + 0 % p) ≡ a
  sum-zero a = same_residue p _ _ (add-mod-mod a.0 0 p ∙ ap (λ (n : ℕ). n % p) (add-zero a.0) ∙ mod-eq_of_lt a.1)

  pub sum-negative : (a : Residue p) → of (a.0 + (p - a.0) % p) ≡ of 0
  sum-negative a = same_residue p _ _ (add-mod-mod a.0 (p - a.0) p ∙ ap (λ (n : ℕ). n % p) (omega (arith, a.1))
      ∙ mod_self p ∙ sym (zero-mod p))

  pub product-assoc : (a b c : Residue p) → of ((a.0 * b.0) % p * c.0) ≡ of (a.0 * ((b.0 * c.0) % p))
  product-assoc a b c = same_residue p _ _ (mul-mod_first (a.0 * b.0) c.0 p
      ∙ ap (λ (n : ℕ). n % p) (mul_assoc a.0 b.0 c.0)
      ∙ sym (mul-mod_second a.0 (b.0 * c.0) p))

  pub product-comm : (a b : Residue p) → of (a.0 * b.0) ≡ of (b.0 * a.0)
  product-comm a b = same_residue p _ _ (ap (λ (n : ℕ). n % p) (mul_comm a.0 b.0))

  pub one_is : 1 % p ≡ 1
  one_is = mod-eq_of_lt {n = 1} {m = p} (omega arith)

  pub product-one : (a : Residue p) → of (a.0 * (1 % p)) ≡ a
  product-one a = same_residue p _ _ (mul-mod_second a.0 1 p ∙ ap (λ (n : ℕ). n % p) (mul-one a.0) ∙ mod-eq_of_lt a.1)

  pub product-sum : (a b c : Residue p) → of (a.0 * ((b.0 + c.0) % p)) ≡ of ((a.0 * b.0) % p + (a.0 * c.0) % p)
  product-sum a b c = same_residue p _ _ (mul-mod_second a.0 (b.0 + c.0) p
      ∙ ap (λ (n : ℕ). n % p) (mul-add a.0 b.0 c.0) ∙ add-mod (a.0 * b.0) (a.0 * c.0) p)

  pub product-inverse : (a : Residue p) → (a.0 == 0) ≡ false → of ((inverse_of a.0 a.1).0 * a.0) ≡ of 1
  product-inverse a e = same_residue p _ _ (inverse_is a.0 a.1 e ∙ sym one_is)

  pub zero_only : (a : Residue p) → (a.0 == 0) ≡ true → a ≡ of 0
  zero_only a e = same_residue p _ _ (eqb-true a.0 0 e ∙ sym (zero-mod p))

  pub zero_tested : (0 % p == 0) ≡ true
  zero_tested = ap (λ (n : ℕ). n == 0) (zero-mod p)

  pub one_tested : (1 % p == 0) ≡ false
  one_tested = ap (λ (n : ℕ). n == 0) one_is

  -- the residues, where each but 0 has an inverse
  abbrev pub residues : Field
  residues = record {
    F = Residue p;
    zero = of 0;
    one = of 1;
    add = λ a b. of (a.0 + b.0);
    mul = λ a b. of (a.0 * b.0);
    neg = λ a. of (p - a.0);
    inv = λ a. inverse_of a.0 a.1;
    is_zero = λ a. a.0 == 0;
    add_assoc = sum-assoc;
    add_comm = sum-comm;
    add_zero = sum-zero;
    add_neg = sum-negative;
    mul_assoc = product-assoc;
    mul_comm = product-comm;
    mul_one = product-one;
    mul_add = product-sum;
    mul_inv = product-inverse;
    zero_is = zero_only;
    zero_test = zero_tested;
    one_other = one_tested;
  }

-- the residues of a field modulus
abbrev pub residue_field : (p : ℕ) → IsFieldModulus p → Field
residue_field p modulus = residues p modulus.two_or_more modulus.has_inverse
