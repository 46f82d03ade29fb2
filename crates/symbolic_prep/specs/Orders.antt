-- Words by number in another order.
use Rattle.std.specs.Prelude.{ℕ, ◌≡◌, ◌<◌, ◌≤◌, ◌^◌, List, All, AllPairs, Option, None, Some, map, length}
use Rattle.std.specs.Prelude.{slice_get, slice_index, slice_range}
use Rattle.std.specs.List.{range_with_len}
use Rattle.std.specs.List.Sorted.{IsPermutation}
use Rattle.words.specs.Order.{IsLetterwiseGreater}
use Rattle.words.specs.Words.{AreWeights, degree_of}
use Rattle.symbolic_prep.specs.declared.lists.Span.{Span}
use Rattle.symbolic_prep.specs.Numbers.{IsPart}
use Rattle.symbolic_prep.specs.Packing.{IsTable, unpacked}

-- the keys rise, and beside each is its number
pub record IsRising (keys : List ℕ) (pairs : List (ℕ × ℕ)) : Type 0 where
  pub numbers : IsPermutation (range_with_len 0 (length keys)) (map (λ p. p.1) pairs)
  pub each : All (λ p. slice_get keys p.1 ≡ Some p.0) pairs
  pub rising : AllPairs (λ p q. p.0 < q.0) pairs

-- the same words in another order, which their numbers tell
pub record IsOrder (words : List (List ℕ)) (order : List ℕ) (columns : List (List ℕ)) : Type 0 where
  pub numbers : IsPermutation (range_with_len 0 (length words)) order
  pub size : length columns ≡ length order
  pub each : (c : ℕ) → c < length order → slice_get words (slice_index order c) ≡ slice_get columns c

-- these words have one degree
pub record HaveOneDegree (words : List (List ℕ)) : Type 0 where
  pub weights : List ℕ
  pub are : AreWeights weights
  pub d : ℕ
  pub each : All (λ w. degree_of weights w ≡ d) words

-- keys that rise, of words that fall
pub record ArePackedWords (bits room : ℕ) (keys : List ℕ) : Type 0 where
  pub table : IsTable bits room keys
  pub rising : AllPairs (λ a b. a < b) keys
  pub falling : AllPairs IsLetterwiseGreater (map (unpacked (2 ^ bits) room) keys)

-- a span lies within the numbers
abbrev pub IsSpanIn : List ℕ → Option Span → Type 0
IsSpanIn numbers None = Unit {0}
IsSpanIn numbers (Some s) = (s.start ≤ s.end) × (s.end ≤ length numbers)

-- the columns of some numbers
abbrev pub columns_at : List ℕ → List ℕ → List ℕ
columns_at columns numbers = map (λ n. slice_index columns n) numbers

-- the numbers of one span stand where another is, with the same element
pub record IsMovedTo (numbers moved : List ℕ) (from to : Span) : Type 0 where
  pub place : IsPart moved (slice_range numbers from.start from.end) to.start to.end
  pub element : to.element ≡ from.element

-- a span has moved, or there is none
abbrev pub IsMoved : List ℕ → List ℕ → Option Span → Option Span → Type 0
IsMoved numbers moved None None = Unit {0}
IsMoved numbers moved None (Some t) = ⊥
IsMoved numbers moved (Some s) None = ⊥
IsMoved numbers moved (Some s) (Some t) = IsMovedTo numbers moved s t
