-- The quotient of a multiple by p, from that of its factor, but for 1.
use Rattle.std.proofs.Common.{◌≡◌, ◌+◌, ◌-◌, ◌*◌, ◌/◌, ◌%◌, ◌<◌, ◌≤◌, ℕ, cond, ltb, refl, sym, ap, ◌∙◌, inl, inr, arith}
use Rattle.std.proofs.Math.Nat.{mod-eq_of_lt, mod-lt, mul-add-mod_self_left, mul_comm}
use Rattle.std.proofs.lemmas.Bool.{cases_lt, cond_above, cond_below}
use Rattle.std.proofs.lemmas.Nat.{div-add-mod', mul-le}

-- what is left of a * s, less t times p, is from 0 to 2p
pub record IsNear (p a s t : ℕ) : Type 0 where
  pub below : t * p ≤ a * s
  pub near : a * s < t * p + 2 * p

cancelled : (b m n : ℕ) → 0 < b → m * b ≤ n * b → m ≤ n
cancelled b m n pos le = elim (cases_lt n m) [
  | inl more ↦ absurd (omega (arith, mul-le (n + 1) b m b (omega arith) (omega arith), le, pos))
  | inr less ↦ less
]

-- with q the quotient of a * b by p, and t that of q * s by b, a * s less t times p is from 0 to 2p, for each s below b
pub near_quotient : (b p a s : ℕ) → 0 < p → s < b → IsNear p a s (a * b / p * s / b)
near_quotient b p a s pos lt =
    let q = a * b / p in
    let m = (a * b) % p in
    let t = q * s / b in
    let n = (q * s) % b in
    let first : q * p + m ≡ a * b = omega (arith, div-add-mod' (a * b) p) in
    let m_lt : m < p = mod-lt (a * b) pos in
    let second : t * b + n ≡ q * s = omega (arith, div-add-mod' (q * s) b) in
    let n_lt : n < b = mod-lt (q * s) {m = b} (omega arith) in
    let first_s : q * p * s + m * s ≡ a * b * s = omega (arith, ap (λ (i : ℕ). i * s) first) in
    let second_p : t * b * p + n * p ≡ q * s * p = omega (arith, ap (λ (i : ℕ). i * p) second) in
    let whole : t * p * b + (n * p + m * s) ≡ a * s * b = omega (arith, first_s, second_p) in
    let n_part : n * p + p ≤ b * p = omega (arith, mul-le (n + 1) p b p (omega arith) (omega arith)) in
    let m_part : m * s ≤ m * b = mul-le m s m b (omega arith) (omega arith) in
    let m_more : m * b + b ≤ p * b = omega (arith, mul-le (m + 1) b p b (omega arith) (omega arith)) in
    let close : a * s + 1 ≤ t * p + 2 * p = cancelled b (a * s + 1) (t * p + 2 * p) (omega arith) (omega (arith, whole, n_part, m_part, m_more)) in
    record {
      below = cancelled b (t * p) (a * s) (omega arith) (omega (arith, whole));
      near = omega (arith, close);
    }

-- a number below 2p, less p where it is not below p, is its remainder by p
pub less_once : (p u : ℕ) → u < 2 * p → cond (ltb u p) u (u - p) ≡ u % p
less_once p u lt = elim (cases_lt u p) [
  | inl below ↦ sym (cond_below u p u (u - p) below) ∙ sym (mod-eq_of_lt below)
  | inr above ↦ (
      let split : p * 1 + (u - p) ≡ u = omega (arith, above) in
      let rest : (u - p) % p ≡ u - p = mod-eq_of_lt (omega (arith, lt, above)) in
      sym (cond_above u p u (u - p) (u - p) above refl) ∙ sym (ap (λ (n : ℕ). n % p) (sym split) ∙ mul-add-mod_self_left p 1 (u - p) ∙ rest))
]

-- what is left of a * s, less t times p, has the remainder of a * s by p
pub near_remainder : (p a s t : ℕ) → IsNear p a s t → (a * s - t * p) % p ≡ (a * s) % p
near_remainder p a s t h =
    let split : p * t + (a * s - t * p) ≡ a * s = omega (arith, h.below, mul_comm p t) in
    sym (mul-add-mod_self_left p t (a * s - t * p)) ∙ ap (λ (n : ℕ). n % p) split
