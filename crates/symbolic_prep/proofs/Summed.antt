-- Keys with their numbers behind them, in one number each.
use Rattle.std.proofs.Common.{◌≡◌, ◌≢◌, ◌-◌, ◌%◌, ◌<◌, ℕ, List, [], ◌∷◌, length, map, refl, sym, ap, ◌∙◌, arith, AllPairs}
use Rattle.std.proofs.Common.{Result, Ok, Err, Vec, Global}
use Rattle.std.specs.List.{range_with_len}
use Rattle.std.specs.List.Sorted.{IsNonDecreasing, IsNonDecreasingBy, IsPermutation}
use Rattle.std.specs.Result.{IfOk}
use Rattle.std.proofs.lemmas.List.{get_or-map, length-map}
use Rattle.std.proofs.lemmas.List.Sorted.{IsPermutation-map}
use Rattle.symbolic_prep.specs.Orders.{IsRising}
use Rattle.symbolic_prep.proofs.Orders.{rising_pairs}

abbrev parts_of : ℕ → ℕ × ℕ
parts_of s = (s - s % 1048576, s % 1048576)

firsts : (xs : List ℕ) → map (λ p. p.0) (map parts_of xs) ≡ map (λ s. s - s % 1048576) xs
firsts [] = refl
firsts (x ∷ xs) = ap (λ (ys : List ℕ). (x - x % 1048576) ∷ ys) (firsts xs)

seconds : (xs : List ℕ) → map (λ p. p.1) (map parts_of xs) ≡ map (λ s. s % 1048576) xs
seconds [] = refl
seconds (x ∷ xs) = ap (λ (ys : List ℕ). (x % 1048576) ∷ ys) (seconds xs)

-- where keys with their numbers rise, these lists are the parts of them
pub with_pairs : {E : Type 0} (keys : List ℕ) (pairs : List (ℕ × ℕ)) (r : Result (Vec ℕ Global × Vec ℕ Global) E) → IsRising keys pairs
    → IfOk r (λ parts. parts.0.items ≡ map (λ p. p.0) pairs) → IfOk r (λ parts. parts.1.items ≡ map (λ p. p.1) pairs)
    → IfOk r (λ parts. (pairs : List (ℕ × ℕ)) × IsRising keys pairs × (parts.0.items ≡ map (λ p. p.0) pairs) × (parts.1.items ≡ map (λ p. p.1) pairs))
with_pairs keys pairs (Err e) rising a b = tt
with_pairs keys pairs (Ok parts) rising a b = (pairs, rising, a, b)

-- sums that do not fall have keys that rise, each with its number
pub summed_rising : {E : Type 0} (keys sums sorted : List ℕ) (r : Result (Vec ℕ Global × Vec ℕ Global) E) → AllPairs (λ a b. a ≢ b) keys
    → map (λ s. s - s % 1048576) sums ≡ keys → map (λ s. s % 1048576) sums ≡ range_with_len 0 (length keys)
    → IsPermutation sums sorted → IsNonDecreasing sorted
    → IfOk r (λ parts. parts.0.items ≡ map (λ s. s - s % 1048576) sorted) → IfOk r (λ parts. parts.1.items ≡ map (λ s. s % 1048576) sorted)
    → IfOk r (λ parts. (pairs : List (ℕ × ℕ)) × IsRising keys pairs × (parts.0.items ≡ map (λ p. p.0) pairs) × (parts.1.items ≡ map (λ p. p.1) pairs))
summed_rising keys sums sorted r apart own numbers permuted up a b =
    with_pairs keys (map parts_of sorted) r
    (rising_pairs keys (map parts_of sums) (map parts_of sorted) apart (firsts sums ∙ own) (seconds sums ∙ numbers)
    (IsPermutation-map parts_of sums sorted permuted) rises)
    (keep r (λ parts. parts.0.items) (firsts sorted) a) (keep r (λ parts. parts.1.items) (seconds sorted) b)
  where
    rises : IsNonDecreasingBy (λ p. p.0) (map parts_of sorted)
    rises i j d le within =
        let inside : j < length sorted = omega (arith, within, length-map sorted parts_of) in
        let first = ap (λ (p : ℕ × ℕ). p.0) (get_or-map parts_of sorted i 0 d (omega (arith, le, inside))) in
        let second = ap (λ (p : ℕ × ℕ). p.0) (get_or-map parts_of sorted j 0 d inside) in
        omega (arith, first, second, up i j 0 le inside)

    keep : {E : Type 0} (r : Result (Vec ℕ Global × Vec ℕ Global) E) (f : Vec ℕ Global × Vec ℕ Global → List ℕ) {xs ys : List ℕ} → xs ≡ ys
        → IfOk r (λ parts. f parts ≡ ys) → IfOk r (λ parts. f parts ≡ xs)
    keep (Err e) f is h = tt
    keep (Ok parts) f is h = h ∙ sym is
