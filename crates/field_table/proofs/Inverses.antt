-- A number that no smaller number from 2 on divides is a field modulus, and the other way round.
use Rattle.std.proofs.Common.{Bool, true, false, not, ◌&&◌, ◌==◌, ◌≡◌, ◌≢◌, ◌+◌, ◌-◌, ◌*◌, ◌/◌, ◌%◌, ◌<◌, ◌≤◌, ℕ, suc, zero, refl, sym, ap, ◌∙◌, inl}
use Rattle.std.proofs.Common.{inr, arith}
use Rattle.std.proofs.lemmas.Bool.{cases_lt, cases_eq}
use Rattle.std.proofs.lemmas.Nat.{mul-mod_second, mul-mod_first, div-add-mod', mul-le}
use Rattle.std.proofs.Math.Nat.{mul_assoc, mul_comm, mul-sub, mul-add-mod_self_left, mod-lt, mod-eq_of_lt, mul-mod_right}
use Rattle.std.proofs.Common.{List, [], ◌∷◌, ◌++◌, get_or}
use Rattle.std.proofs.lemmas.List.{get_or_append_left, get_or_push, length_push}
use Rattle.field_table.specs.Residues.{IsFieldModulus}
use Rattle.field_table.specs.Table.{IsTableUpto}

-- a times (p - p / a) is p % a more than a - 1 times p
step_product : (p a q r : ℕ) → 0 < a → a * q + r ≡ p → a * (p - q) ≡ p * (a - 1) + r
step_product p a q r pos e = omega (arith, mul-sub a p q, mul-sub p a 1, mul-le 1 p a p pos (omega arith), mul_comm a p)

-- where s is an inverse of p % a modulo p, (p - p / a) * s is one of a
pub next_inverse : (p a s : ℕ) → 0 < a → (p % a * s) % p ≡ 1 → (a * (((p - p / a) * s) % p)) % p ≡ 1
next_inverse p a s pos e =
    let split : a * (p / a) + p % a ≡ p = omega (arith, div-add-mod' p a, mul_comm a (p / a)) in
    let product : a * (p - p / a) * s ≡ p * ((a - 1) * s) + p % a * s = rw (step_product p a (p / a) (p % a) pos split) (omega arith) in
    mul-mod_second a ((p - p / a) * s) p ∙ ap (λ (n : ℕ). n % p) (sym (mul_assoc a (p - p / a) s) ∙ product)
    ∙ mul-add-mod_self_left p ((a - 1) * s) (p % a * s) ∙ e

-- where no smaller number from 2 on divides p, each number above 0 that is at most n and below p has an inverse modulo p
pub inverse_from : (p : ℕ) → 2 ≤ p → ((a : ℕ) → 2 ≤ a → a < p → p % a ≢ 0) → (n a : ℕ) → a ≤ n → 0 < a → a < p → (b : ℕ) × (b < p) × ((a * b) % p ≡ 1)
inverse_from p two apart zero a le pos lt = absurd (omega arith)
inverse_from p two apart (suc n) a le pos lt = elim (cases_lt a 2) [
  | inl one ↦
      let is : a ≡ 1 = omega arith in
      (1, omega arith, rw is (mod-eq_of_lt {n = 1} {m = p} (omega arith)))
  | inr more ↦
      let below : p % a < a = mod-lt p pos in
      let other : p % a ≢ 0 = apart a more lt in
      let found = inverse_from p two apart n (p % a) (omega arith) (omega arith) (omega arith) in
      (((p - p / a) * found.0) % p, mod-lt ((p - p / a) * found.0) {m = p} (omega arith), next_inverse p a found.0 pos found.2)
]

-- no smaller number from 2 on divides p
abbrev pub IsUndivided : ℕ → Type 0
IsUndivided p = (a : ℕ) → 2 ≤ a → a < p → p % a ≢ 0

-- a number of 2 or more that no smaller number from 2 on divides is a field modulus
pub field_modulus_from_undivided : (p : ℕ) → 2 ≤ p → IsUndivided p → IsFieldModulus p
field_modulus_from_undivided p two apart = record { two_or_more = two; has_inverse = λ a pos lt. inverse_from p two apart a a (omega arith) pos lt }

-- a test that computes: no number from 2 to n divides p
abbrev pub no_divisor_upto : ℕ → ℕ → Bool
no_divisor_upto p zero = true
no_divisor_upto p (suc zero) = true
no_divisor_upto p (suc (suc n)) = not (p % suc (suc n) == 0) && no_divisor_upto p (suc n)

tested : (p n d : ℕ) → no_divisor_upto p n ≡ true → 2 ≤ d → d ≤ n → p % d ≢ 0
tested p zero d t two le is = omega arith
tested p (suc zero) d t two le is = omega arith
tested p (suc (suc n)) d t two le is = elim (cases_eq d (suc (suc n))) [
  | inl same ↦
      let z : p % suc (suc n) ≡ 0 = rw same at is in
      let f : (not (p % suc (suc n) == 0) && no_divisor_upto p (suc n)) ≡ false = rw z refl in
      cc
  | inr other ↦ tested p (suc n) d (second _ _ t) two (omega arith) is
]
  where
    second : (a b : Bool) → (a && b) ≡ true → b ≡ true
    second true b e = e
    second false b e = cc e

-- where no number from 2 to k divides p, and p is below the square of k + 1, no smaller number from 2 on divides p
pub undivided_from_test : (p k : ℕ) → no_divisor_upto p k ≡ true → p < (k + 1) * (k + 1) → IsUndivided p
undivided_from_test p k t room a two lt is = elim (cases_lt k a) [
  | inr small ↦ tested p k a t two small is
  | inl large ↦
      let whole : a * (p / a) ≡ p = omega (arith, div-add-mod' p a, mul_comm a (p / a), is) in
      let below : p / a ≤ k = elim (cases_lt k (p / a)) [
        | inl above ↦
            absurd (omega (arith, mul-le (k + 1) (k + 1) a (p / a) (omega arith) (omega arith)))
        | inr le ↦ le
      ] in
      let not_one : p / a ≢ 1 = λ e. omega (arith, e, whole, ap (λ (n : ℕ). a * n) e) in
      let not_none : p / a ≢ 0 = λ e. omega (arith, e, whole, ap (λ (n : ℕ). a * n) e) in
      let divided : p % (p / a) ≡ 0 = ap (λ (n : ℕ). n % (p / a)) (sym (mul_comm (p / a) a ∙ whole)) ∙ mul-mod_right (p / a) a in
      tested p k (p / a) t (omega arith) below divided
]

-- a number of 2 or more, below the square of k + 1, that no number from 2 to k divides is a field modulus
pub field_modulus_from_test : (p k : ℕ) → 2 ≤ p → no_divisor_upto p k ≡ true → p < (k + 1) * (k + 1) → IsFieldModulus p
field_modulus_from_test p k two t room = field_modulus_from_undivided p two (undivided_from_test p k t room)

-- no smaller number from 2 on divides a field modulus
pub undivided_from_field_modulus : (p : ℕ) → IsFieldModulus p → IsUndivided p
undivided_from_field_modulus p f a two lt is =
    let inv = f.has_inverse a (omega arith) lt in
    let whole : a * (p / a) ≡ p = omega (arith, div-add-mod' p a, mul_comm a (p / a), is) in
    let zero_mod : (a * inv.0 * (p / a)) % p ≡ 0 =
    ap (λ (n : ℕ). n % p) (mul_assoc a inv.0 (p / a) ∙ ap (λ (n : ℕ). a * n) (mul_comm inv.0 (p / a)) ∙ sym (mul_assoc a (p / a) inv.0)
    ∙ ap (λ (n : ℕ). n * inv.0) whole) ∙ mul-mod_right p inv.0 in
    let kept : (a * inv.0 * (p / a)) % p ≡ (1 * (p / a)) % p =
    sym (mul-mod_first (a * inv.0) (p / a) p) ∙ ap (λ (n : ℕ). (n * (p / a)) % p) inv.2 in
    let positive : p / a ≢ 0 = λ e. omega (arith, f.two_or_more, whole, ap (λ (n : ℕ). a * n) e) in
    let two_parts : 2 * (p / a) ≤ a * (p / a) = mul-le 2 (p / a) a (p / a) two (omega arith) in
    let same : (1 * (p / a)) % p ≡ 1 * (p / a) = mod-eq_of_lt {n = 1 * (p / a)} {m = p} (omega (arith, two_parts, whole, positive)) in
    omega (arith, zero_mod, kept, same, positive)

-- a table of the inverses below a, with (p - p / a) times the inverse of p % a behind it, is one of the inverses up to a
pub IsTableUpto-push : (p a : ℕ) (xs : List ℕ) (v : ℕ) → IsFieldModulus p → 2 ≤ a → a < p → IsTableUpto p xs a
    → v ≡ ((p - p / a) * get_or xs (p % a) 0) % p → IsTableUpto p (xs ++ v ∷ []) (a + 1)
IsTableUpto-push p a xs v f two lt t is =
    let below : p % a < a = mod-lt p (omega arith) in
    let other : p % a ≢ 0 = undivided_from_field_modulus p f a two lt in
    let at_end : get_or (xs ++ v ∷ []) a 0 ≡ v = get_or_push xs v 0 a t.count in
    let v_residue : v < p = rw is (mod-lt ((p - p / a) * get_or xs (p % a) 0) {m = p} (omega arith)) in
    let v_right : (a * v) % p ≡ 1 = rw is (next_inverse p a (get_or xs (p % a) 0) (omega arith) (t.right (p % a) (omega arith) below)) in
    record {
      count = omega (arith, length_push xs v, t.count);
      residues = λ k h. elim (cases_lt k a) [
        | inl before ↦ rw (get_or_append_left xs (v ∷ []) 0 k (omega (arith, before, t.count))) (t.residues k before)
        | inr there ↦ let e : k ≡ a = omega arith in rw (e, at_end) v_residue
      ];
      right = λ k pos h. elim (cases_lt k a) [
        | inl before ↦ rw (get_or_append_left xs (v ∷ []) 0 k (omega (arith, before, t.count))) (t.right k pos before)
        | inr there ↦ let e : k ≡ a = omega arith in rw (e, at_end) v_right
      ];
    }
