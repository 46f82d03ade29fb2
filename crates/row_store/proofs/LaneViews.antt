-- One of eight rows whose sums stand beside each other.
use Rattle.std.proofs.Common.{◌≡◌, ◌≢◌, ◌+◌, ◌*◌, ◌/◌, ◌<◌, ℕ, List, length, get_or, replicate, set, sym, ap, ◌∙◌, inl, inr, arith}
use Rattle.std.proofs.lemmas.Bool.{cases_eq, cases_lt}
use Rattle.std.proofs.lemmas.List.{ext_get_or, get_or-replicate, get_or-set_other, get_or-set_same, get_or_past, length-replicate, length-set}
use Rattle.std.proofs.lemmas.List.FromFn.{get_or-map-range_with_len, length-map-range_with_len}
use Rattle.row_store.specs.Blocks.{lane}

-- a lane has an eighth of the sums
pub length-lane : (sums : List ℕ) (i : ℕ) → length (lane sums i) ≡ length sums / 8
length-lane sums i = length-map-range_with_len (λ k. get_or sums (k * 8 + i) 0) 0 (length sums / 8)

lane_at : (sums : List ℕ) (i k : ℕ) → k < length sums / 8 → get_or (lane sums i) k 0 ≡ get_or sums (k * 8 + i) 0
lane_at sums i k low = get_or-map-range_with_len (λ k. get_or sums (k * 8 + i) 0) 0 (length sums / 8) k k 0 low (omega arith)

-- the sum of a lane at a column, and 0 past the last
pub get_or-lane : (sums : List ℕ) (i k : ℕ) → length sums ≡ length sums / 8 * 8 → get_or (lane sums i) k 0 ≡ get_or sums (k * 8 + i) 0
get_or-lane sums i k whole = elim (cases_lt k (length sums / 8)) [
  | inl low ↦ lane_at sums i k low
  | inr past ↦ get_or_past (lane sums i) k 0 (omega (arith, past, length-lane sums i)) ∙ sym (get_or_past sums (k * 8 + i) 0 (omega (arith, past, whole)))
]

-- at one column the sum is another
pub lane-set : (sums next : List ℕ) (at i v : ℕ) → length next ≡ length sums → at < length sums / 8
    → ((k : ℕ) → k ≢ at → get_or next (k * 8 + i) 0 ≡ get_or sums (k * 8 + i) 0)
    → get_or next (at * 8 + i) 0 ≡ v → lane next i ≡ set (lane sums i) at v
lane-set sums next at i v long lt others own =
    let same : length next / 8 ≡ length sums / 8 = ap (λ (n : ℕ). n / 8) long in
    let size : length (lane next i) ≡ length (set (lane sums i) at v) = length-lane next i ∙ same ∙ sym (length-set (lane sums i) at v ∙ length-lane sums i) in
    ext_get_or 0 (lane next i) (set (lane sums i) at v) size (λ k low. (
    let within : k < length next / 8 = omega (arith, low, length-lane next i) in
    lane_at next i k within ∙ elim (cases_eq k at) [
      | inl here ↦ ap (λ (n : ℕ). get_or next (n * 8 + i) 0) here ∙ own
          ∙ sym (ap (λ (n : ℕ). get_or (set (lane sums i) at v) n 0) here ∙ get_or-set_same (lane sums i) at v 0 (omega (arith, lt, length-lane sums i)))
      | inr other ↦ others k other ∙ sym (get_or-set_other (lane sums i) at k v 0 other ∙ lane_at sums i k (omega (arith, within, same)))
    ]))

-- the sum of one lane at one column is written
module _ (sums : List ℕ) (at i v : ℕ) (whole : length sums ≡ length sums / 8 * 8) (lt : at < length sums / 8) (low : i < 8) where
  -- the lane has it at this column
  pub write-own : lane (set sums (at * 8 + i) v) i ≡ set (lane sums i) at v
  write-own = lane-set sums (set sums (at * 8 + i) v) at i v (length-set sums (at * 8 + i) v) lt
      (λ k other. get_or-set_other sums (at * 8 + i) (k * 8 + i) v 0 (λ same. other (omega (arith, same))))
      (get_or-set_same sums (at * 8 + i) v 0 (omega (arith, whole, lt, low)))

  -- the other lanes stay
  pub write-other : (j : ℕ) → j < 8 → j ≢ i → lane (set sums (at * 8 + i) v) j ≡ lane sums j
  write-other j less apart =
      let long : length (set sums (at * 8 + i) v) / 8 ≡ length sums / 8 = ap (λ (n : ℕ). n / 8) (length-set sums (at * 8 + i) v) in
      ext_get_or 0 (lane (set sums (at * 8 + i) v) j) (lane sums j) (length-lane (set sums (at * 8 + i) v) j ∙ long ∙ sym (length-lane sums j)) (λ k inside. (
      let within : k < length (set sums (at * 8 + i) v) / 8 = omega (arith, inside, length-lane (set sums (at * 8 + i) v) j) in
      lane_at (set sums (at * 8 + i) v) j k within
      ∙ get_or-set_other sums (at * 8 + i) (k * 8 + j) v 0 (λ same. apart (omega (arith, same, less, low)))
      ∙ sym (lane_at sums j k (omega (arith, within, long)))))

-- a lane of zeros
pub lane-zeros : (sums : List ℕ) (n i : ℕ) → sums ≡ replicate (n * 8) 0 → i < 8 → lane sums i ≡ replicate n 0
lane-zeros sums n i zeros low =
    let long : length sums ≡ n * 8 = ap length zeros ∙ length-replicate {A = ℕ} (n * 8) 0 in
    let size : length (lane sums i) ≡ n = length-lane sums i ∙ omega (arith, long) in
    ext_get_or 0 (lane sums i) (replicate n 0) (size ∙ sym (length-replicate {A = ℕ} n 0)) (λ k inside. (
    let within : k < n = omega (arith, inside, size) in
    lane_at sums i k (omega (arith, within, long)) ∙ ap (λ (l : List ℕ). get_or l (k * 8 + i) 0) zeros
    ∙ get_or-replicate {A = ℕ} (n * 8) (k * 8 + i) 0 0 (omega (arith, within, low)) ∙ sym (get_or-replicate {A = ℕ} n k 0 0 within)))
