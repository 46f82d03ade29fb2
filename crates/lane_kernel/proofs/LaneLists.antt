-- Operations on lanes as lists.
use Rattle.std.proofs.Common.{◌≡◌, ◌+◌, ◌-◌, ◌*◌, ◌/◌, ◌%◌, ◌<◌, ◌≤◌, ◌^◌, ℕ, zero, suc, Bool, true, false, cond, ltb, List, [], ◌∷◌, map, length}
use Rattle.std.proofs.Common.{replicate, refl, sym, ap, ◌∙◌, inl, inr, arith, subst, Fits, w32}
use Rattle.std.proofs.Math.Nat.{add-mul, mod-eq_of_lt, mul-add-mod_self_left}
use Rattle.std.proofs.lemmas.Bool.{cases_lt, cond_above, cond_below, le-ltb, lt-ltb}
use Rattle.std.proofs.lemmas.Nat.{div-add-mod', mul-le}
use Rattle.lane_kernel.proofs.Shoup.{less_once, near_quotient, near_remainder, IsNear}
use lib.Lanes.{zip2, Each1, sel_l, top}

-- each lane less p, where it is not below p
less_lane : (p r : ℕ) → p < 2 ^ 32 → r < 2 ^ 32 → cond (top 31 (cond (ltb r ((r + (2 ^ 32 - p)) % 2 ^ 32)) (2 ^ 32 - 1) 0)) r
    ((r + (2 ^ 32 - p)) % 2 ^ 32) ≡ cond (ltb r p) r (r - p)
less_lane p r small lt = elim (cases_lt r p) [
  | inl below ↦ (
      let wrapped : (r + (2 ^ 32 - p)) % 2 ^ 32 ≡ r + (2 ^ 32 - p) = mod-eq_of_lt (omega (arith, small, below)) in
      let test : ltb r ((r + (2 ^ 32 - p)) % 2 ^ 32) ≡ true = ap (ltb r) wrapped ∙ lt-ltb r (r + (2 ^ 32 - p)) (omega (arith, small)) in
      ap (λ (b : Bool). cond (top 31 (cond b (2 ^ 32 - 1) 0)) r ((r + (2 ^ 32 - p)) % 2 ^ 32)) test ∙ cond_below r p r (r - p) below)
  | inr above ↦ (
      let split : 2 ^ 32 * 1 + (r - p) ≡ r + (2 ^ 32 - p) = omega (arith, small, above) in
      let wrapped : (r + (2 ^ 32 - p)) % 2 ^ 32 ≡ r - p = ap (λ (n : ℕ). n % 2 ^ 32) (sym split) ∙ mul-add-mod_self_left (2 ^ 32) 1 (r - p)
      ∙ mod-eq_of_lt (omega (arith, lt)) in
      let test : ltb r ((r + (2 ^ 32 - p)) % 2 ^ 32) ≡ false = ap (ltb r) wrapped ∙ le-ltb r (r - p) (omega arith) in
      ap (λ (b : Bool). cond (top 31 (cond b (2 ^ 32 - 1) 0)) r ((r + (2 ^ 32 - p)) % 2 ^ 32)) test ∙ wrapped ∙ cond_above r p r (r - p) (r - p) above refl)
]

-- to keep each lane where taking p off wraps, and what is left in the others, takes p off the lanes that are not below p
pub less_lanes : (p n : ℕ) (v : List ℕ) → p < 2 ^ 32 → length v ≡ n → Each1 (Fits w32) v
    → sel_l (map (top 31) (zip2 (λ a b. cond (ltb a b) (2 ^ 32 - 1) 0) v (zip2 (λ a b. (a + (2 ^ 32 - b)) % 2 ^ 32) v (replicate n p)))) v
    (zip2 (λ a b. (a + (2 ^ 32 - b)) % 2 ^ 32) v (replicate n p))
    ≡ map (λ r. cond (ltb r p) r (r - p)) v
less_lanes p n [] small l each = refl
less_lanes p zero (r ∷ v) small l each = absurd (omega (arith, l))
less_lanes p (suc n) (r ∷ v) small l each = λ i. less_lane p r small each.0.fits i ∷ less_lanes p n v small (omega (arith, l)) each.1 i

-- the sums of residues, each less p where it is not below p, are the sums modulo p, lane by lane
pub sum_lanes : (p : ℕ) (f s : List ℕ) → p < 2 ^ 31 → Each1 (λ r. r < p) f → Each1 (λ r. r < p) s →
    map (λ r. cond (ltb r p) r (r - p)) (zip2 (λ a b. (a + b) % 2 ^ 32) f s) ≡ zip2 (λ a b. (a + b) % p) f s
sum_lanes p [] s small h k = refl
sum_lanes p (a ∷ f) [] small h k = refl
sum_lanes p (a ∷ f) (b ∷ s) small h k =
    let first : a < p = h.0 in
    let second : b < p = k.0 in
    let whole : (a + b) % 2 ^ 32 ≡ a + b = mod-eq_of_lt (omega (arith, small, first, second)) in
    let own : cond (ltb ((a + b) % 2 ^ 32) p) ((a + b) % 2 ^ 32) ((a + b) % 2 ^ 32 - p) ≡ (a + b) % p =
    ap (λ (n : ℕ). cond (ltb n p) n (n - p)) whole ∙ less_once p (a + b) (omega (arith, first, second)) in
    λ i. own i ∷ sum_lanes p f s small h.1 k.1 i

-- the multiples less p as often as the quotient says, where nothing wraps
rest_lane : (w b p a s : ℕ) → p ≤ b → b * b ≤ w → a < p → s < p → ((a * s) % w + (w - ((a * b / p * s) % w / b * p) % w)) % w ≡ a * s - a * b / p * s / b * p
rest_lane w b p a s wide room a_lt s_lt =
    let q = a * b / p in
    let t = q * s / b in
    let near : IsNear p a s t = near_quotient b p a s (omega (arith, a_lt)) (omega (arith, s_lt, wide)) in
    let split : q * p + (a * b) % p ≡ a * b = omega (arith, div-add-mod' (a * b) p) in
    let q_lt : q < b = elim (cases_lt q b) [
      | inl below ↦ below
      | inr above ↦ absurd (omega (arith, mul-le b p q p above (omega arith), mul-le (a + 1) b p b (omega (arith, a_lt)) (omega arith), split, a_lt, wide))
    ] in
    let multiple : a * s < w = omega (arith, room, mul-le (a + 1) (s + 1) b b (omega (arith, a_lt, wide)) (omega (arith, s_lt, wide))) in
    let product : q * s < w = omega (arith, room, mul-le (q + 1) (s + 1) b b (omega (arith, q_lt)) (omega (arith, s_lt, wide))) in
    let taken : ((q * s) % w / b * p) % w ≡ t * p = ap (λ (n : ℕ). (n / b * p) % w) (mod-eq_of_lt product)
    ∙ mod-eq_of_lt (omega (arith, near.below, multiple)) in
    let back : w * 1 + (a * s - t * p) ≡ a * s + (w - t * p) = omega (arith, near.below, multiple) in
    ap (λ (n : ℕ). (n + (w - ((q * s) % w / b * p) % w)) % w) (mod-eq_of_lt multiple) ∙ ap (λ (n : ℕ). (a * s + (w - n)) % w) taken
    ∙ ap (λ (n : ℕ). n % w) (sym back) ∙ mul-add-mod_self_left w 1 (a * s - t * p) ∙ mod-eq_of_lt (omega (arith, multiple))

-- no lane wraps in a * s - q * s / b * p for residues a and s, where q is a * b / p, b a power of 2 from p on, and b * b fits the lane
pub rest_lanes : (w b p a q n k : ℕ) (xs : List ℕ) → p ≤ b → b * b ≤ w → a < p → q ≡ a * b / p → length xs ≡ n → Each1 (λ s. s < p) xs → 2 ^ k ≡ b
    → zip2 (λ c d. (c + (w - d)) % w) (zip2 (λ c d. (c * d) % w) (replicate n a) xs)
    (zip2 (λ c d. (c * d) % w) (zip2 (λ c d. c / 2 ^ d) (zip2 (λ c d. (c * d) % w) (replicate n q) xs) (replicate n k)) (replicate n p))
    ≡ map (λ s. a * s - q * s / b * p) xs
rest_lanes w b p a q zero k [] wide room a_lt is l each e = refl
rest_lanes w b p a q (suc n) k [] wide room a_lt is l each e = absurd (omega (arith, l))
rest_lanes w b p a q zero k (s ∷ xs) wide room a_lt is l each e = absurd (omega (arith, l))
rest_lanes w b p a q (suc n) k (s ∷ xs) wide room a_lt is l each e =
    let own : ((a * s) % w + (w - ((q * s) % w / 2 ^ k * p) % w)) % w ≡ a * s - q * s / b * p =
    ap (λ (i : ℕ). ((a * s) % w + (w - ((q * s) % w / i * p) % w)) % w) e
    ∙ ap (λ (i : ℕ). ((a * s) % w + (w - ((i * s) % w / b * p) % w)) % w) is ∙ rest_lane w b p a s wide room a_lt each.0
    ∙ ap (λ (i : ℕ). a * s - i * s / b * p) (sym is) in
    λ i. own i ∷ rest_lanes w b p a q n k xs wide room a_lt is (omega (arith, l)) each.1 e i

-- what is left of the multiples, each less p where it is not below p, are their remainders by p
pub remainder_lanes : (b p a q : ℕ) (xs : List ℕ) → p ≤ b → a < p → q ≡ a * b / p → Each1 (λ s. s < p) xs →
    map (λ r. cond (ltb r p) r (r - p)) (map (λ s. a * s - q * s / b * p) xs) ≡ map (λ s. (a * s) % p) xs
remainder_lanes b p a q [] wide a_lt is each = refl
remainder_lanes b p a q (s ∷ xs) wide a_lt is each =
    let lt : s < p = each.0 in
    let near : IsNear p a s (a * b / p * s / b) = near_quotient b p a s (omega (arith, a_lt)) (omega (arith, lt, wide)) in
    let own : cond (ltb (a * s - q * s / b * p) p) (a * s - q * s / b * p) (a * s - q * s / b * p - p) ≡ (a * s) % p =
    ap (λ (i : ℕ). cond (ltb (a * s - i * s / b * p) p) (a * s - i * s / b * p) (a * s - i * s / b * p - p)) is
    ∙ less_once p (a * s - a * b / p * s / b * p) (omega (arith, near.below, near.near)) ∙ near_remainder p a s (a * b / p * s / b) near in
    λ i. own i ∷ remainder_lanes b p a q xs wide a_lt is each.1 i

-- what is left of each multiple is below 2p
pub rest_small : (b p a q : ℕ) (xs : List ℕ) → p ≤ b → a < p → q ≡ a * b / p → Each1 (λ s. s < p) xs →
    Each1 (λ r. r < 2 * p) (map (λ s. a * s - q * s / b * p) xs)
rest_small b p a q [] wide a_lt is each = tt
rest_small b p a q (s ∷ xs) wide a_lt is each =
    let lt : s < p = each.0 in
    let near : IsNear p a s (a * b / p * s / b) = near_quotient b p a s (omega (arith, a_lt)) (omega (arith, lt, wide)) in
    let own : a * s - a * b / p * s / b * p < 2 * p = omega (arith, near.below, near.near) in
    (subst (λ (i : ℕ). a * s - i * s / b * p < 2 * p) (sym is) own, rest_small b p a q xs wide a_lt is each.1)

-- p less each residue, less p where it is not below p, is p - 1 times the residue modulo p
pub negative_lanes : (p n : ℕ) (xs : List ℕ) → p < 2 ^ 31 → length xs ≡ n → Each1 (λ s. s < p) xs →
    map (λ r. cond (ltb r p) r (r - p)) (zip2 (λ a b. (a + (2 ^ 32 - b)) % 2 ^ 32) (replicate n p) xs) ≡ map (λ s. ((p - 1) * s) % p) xs
negative_lanes p zero [] small l each = refl
negative_lanes p (suc n) [] small l each = absurd (omega (arith, l))
negative_lanes p zero (s ∷ xs) small l each = absurd (omega (arith, l))
negative_lanes p (suc n) (s ∷ xs) small l each =
    let lt : s < p = each.0 in
    let split : 2 ^ 32 * 1 + (p - s) ≡ p + (2 ^ 32 - s) = omega (arith, small, lt) in
    let whole : (p + (2 ^ 32 - s)) % 2 ^ 32 ≡ p - s = ap (λ (n : ℕ). n % 2 ^ 32) (sym split) ∙ mul-add-mod_self_left (2 ^ 32) 1 (p - s)
    ∙ mod-eq_of_lt (omega (arith, small)) in
    let one_less : (p - 1 + 1) * s ≡ (p - 1) * s + 1 * s = add-mul (p - 1) 1 s in
    let all : p - 1 + 1 ≡ p = omega (arith, lt) in
    let again : p * s + (p - s) ≡ p * 1 + (p - 1) * s = omega (arith, lt, one_less, ap (λ (n : ℕ). n * s) all) in
    let negative : (p - s) % p ≡ ((p - 1) * s) % p = sym (mul-add-mod_self_left p s (p - s)) ∙ ap (λ (n : ℕ). n % p) again
    ∙ mul-add-mod_self_left p 1 ((p - 1) * s) in
    let own : cond (ltb ((p + (2 ^ 32 - s)) % 2 ^ 32) p) ((p + (2 ^ 32 - s)) % 2 ^ 32) ((p + (2 ^ 32 - s)) % 2 ^ 32 - p) ≡ ((p - 1) * s) % p =
    ap (λ (n : ℕ). cond (ltb n p) n (n - p)) whole ∙ less_once p (p - s) (omega (arith, lt)) ∙ negative in
    λ i. own i ∷ negative_lanes p n xs small (omega (arith, l)) each.1 i
