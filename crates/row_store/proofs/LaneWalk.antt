-- A column of eight rows whose sums stand beside each other is cleared.
use Rattle.std.proofs.Common.{◌≡◌, ◌≢◌, ◌+◌, ◌*◌, ◌/◌, ◌%◌, ◌<◌, ◌≤◌, ℕ, List, [], ◌∷◌, Option, length, get_or, set, sym}
use Rattle.std.proofs.Common.{ap, ◌∙◌, arith, All}
use Rattle.std.proofs.lemmas.List.{get_or_default}
use Rattle.row_store.specs.declared.left.Left.{Left}
use Rattle.row_store.specs.Blocks.{lane, AreWalked}
use Rattle.row_store.specs.Entries.{Reducer}
use Rattle.row_store.specs.Marks.{mark_at}
use Rattle.row_store.specs.Sums.{IsLeft}
use Rattle.row_store.proofs.LaneViews.{get_or-lane, lane-set, length-lane}
use Rattle.row_store.proofs.WordWalks.{IsWalk}
use Rattle.row_store.proofs.Walk.{walk_end, walk_marks, walk_skip, walk_zeros}

-- the first of some
pub one_of : (left : List Left) → length left ≡ 8 → Left
one_of [] long = absurd (omega (arith, long))
one_of (l ∷ left) long = l

-- what is left of the sums at a column, and behind it
module _ (sums first second : List ℕ) (at i a : ℕ) (tail : ℕ → ℕ) (whole : length sums ≡ length sums / 8 * 8) (long : length first ≡ length sums)
    (lt : at < length sums / 8) (gone : get_or first (at * 8 + i) 0 ≡ 0)
    (others : (k : ℕ) → k ≢ at → get_or first (k * 8 + i) 0 ≡ get_or sums (k * 8 + i) 0) where
  -- the sum of a row at the column is taken out
  pub lane_taken : lane first i ≡ set (lane sums i) at 0
  lane_taken = lane-set sums first at i 0 long lt others gone

  -- a multiple of the tail is added to what is left of the row
  pub lane_added : length second ≡ length first → ((k : ℕ) → get_or second (k * 8 + i) 0 ≡ get_or first (k * 8 + i) 0 + a * tail k)
      → (k : ℕ) → get_or (lane second i) k 0 ≡ get_or (set (lane sums i) at 0) k 0 + a * tail k
  lane_added same added k =
      let first_whole : length first ≡ length first / 8 * 8 = omega (arith, whole, long) in
      let second_whole : length second ≡ length second / 8 * 8 = omega (arith, first_whole, same) in
      get_or-lane second i k second_whole ∙ added k ∙ ap (λ (s : ℕ). s + a * tail k) (sym (get_or-lane first i k first_whole))
      ∙ ap (λ (l : List ℕ). get_or l k 0 + a * tail k) lane_taken

-- eight rows walk over the bits
pub lanes_walk : (p : ℕ) (rs : List (Option Reducer)) → 0 < p → (sums bits : List ℕ) (left : List Left) →
    IsWalk bits (λ (starts : ℕ → List ℕ) at. AreWalked p rs starts at sums bits left)
lanes_walk p rs positive sums bits left = record {
  skips = λ starts at later h le unset. record {
    whole = h.whole;
    count = h.count;
    each = λ i d low. walk_skip p rs (starts i) positive at (lane sums i) bits (get_or left i d) (h.each i d low) later le unset;
  };
  unmarked = λ starts at j h low. (h.each 0 (one_of left h.count) (omega arith)).unmarked j low;
}

-- eight rows at once
module _ (p : ℕ) (rs : List (Option Reducer)) (starts : ℕ → List ℕ) (positive : 0 < p) where
  -- all columns are done
  module _ (at : ℕ) (sums bits : List ℕ) (left : List Left) (past : length sums / 8 ≤ at) (h : AreWalked p rs starts at sums bits left) where
    long : (i : ℕ) → i < 8 → length (starts i) ≡ length sums / 8
    long i low = sym (h.each i (one_of left h.count) low).long ∙ length-lane sums i

    -- each of the eight rows is left at its places
    pub lanes_end : length rs ≡ length sums / 8 → (i : ℕ) (d : Left) → i < 8 → IsLeft p rs (starts i) (get_or left i d)
    lanes_end size i d low = walk_end p rs (starts i) positive at (lane sums i) bits (get_or left i d) (size ∙ sym (long i low))
        (omega (arith, past, long i low)) (h.each i d low)

    -- no column is marked
    pub lanes_marks : (k : ℕ) → mark_at bits k ≡ 0
    lanes_marks k =
        let d = one_of left h.count in
        walk_marks p rs (starts 0) positive at (lane sums 0) bits (get_or left 0 d) (omega (arith, past, long 0 (omega arith))) (h.each 0 d (omega arith)) k

    -- every sum is 0
    pub lanes_zeros : All (λ s. s ≡ 0) sums
    lanes_zeros k d lt =
        let i = k % 8 in
        let low : i < 8 = omega arith in
        let l = one_of left h.count in
        let zeros = walk_zeros p rs (starts i) positive at (lane sums i) bits (get_or left i l) (omega (arith, past, long i low)) (h.each i l low) in
        let shown : k / 8 * 8 + i ≡ k = omega arith in
        get_or_default sums k d 0 lt ∙ ap (λ (n : ℕ). get_or sums n 0) (sym shown) ∙ sym (get_or-lane sums i (k / 8) h.whole)
        ∙ zeros (k / 8) 0 (omega (arith, lt, h.whole, length-lane sums i))
