-- The overlaps of elements by their left element, the letters before the right one, and the right one.
use Rattle.std.specs.Prelude.{ℕ, ◌-◌, ◌<◌, ◌≤◌, Bool, ◌&&◌, ◌==◌, List, [], length, map, take, drop, slice_index_or}
use Rattle.std.specs.Prelude.{bytes_eq}
use Rattle.std.specs.List.{filter, flat_map, range_with_len}
use Rattle.std.specs.Ordering.{nat_cmp, ordering_then}
use Rattle.std.specs.declared.cmp.Ordering.{Ordering}
use Rattle.words.specs.Order.{IsLetterwiseGreater, letterwise_cmp}
use Rattle.words.specs.Words.{degree_of}
use Rattle.free_poly.specs.declared.term.Term.{Term}
use Rattle.free_poly.specs.Poly.{lead_or_none}
use Rattle.ideal_laws.specs.Closure.{Overlap}
use Rattle.overlaps.specs.declared.obstruction.Obstruction.{Obstruction}

-- the leading word of the element at a place
abbrev pub lead_word : List (List Term) → ℕ → List ℕ
lead_word G i = lead_or_none (slice_index_or G i [])

-- what is left of a leading word behind so many letters
abbrev pub shared_at : List (List Term) → ℕ → ℕ → List ℕ
shared_at G left before = drop before (lead_word G left)

-- two leading words laid over each other, so many letters of the left one before the right one
abbrev pub overlap_at : List (List Term) → ℕ → ℕ → ℕ → Overlap
overlap_at G left before right = record {
  left = left;
  right = right;
  before = take before (lead_word G left);
  shared = shared_at G left before;
  behind = drop (length (shared_at G left before)) (lead_word G right);
}

-- whether the right leading word begins with what is shared, and has this degree
abbrev pub meets : List ℕ → List (List Term) → ℕ → Overlap → Bool
meets weights G rest o = bytes_eq (take (length o.shared) (lead_word G o.right)) o.shared &&
    (degree_of weights (lead_word G o.right) == rest)

-- the overlaps with this left element, so many letters before the right one, and a right element of degree rest
abbrev pub block : List ℕ → List (List Term) → ℕ → ℕ → ℕ → List Overlap
block weights G left before rest = filter (meets weights G rest)
    (map (overlap_at G left before) (range_with_len 0 (length G)))

-- the overlaps of degree d with this left element
abbrev pub blocks : List ℕ → List (List Term) → ℕ → ℕ → List Overlap
blocks weights G d left = flat_map (λ before. block weights G left before
    (d - degree_of weights (take before (lead_word G left))))
    (range_with_len 1 (length (lead_word G left) - 1))

-- the overlaps of degree d
abbrev pub all_blocks : List ℕ → List (List Term) → ℕ → List Overlap
all_blocks weights G d = flat_map (blocks weights G d) (range_with_len 0 (length G))

-- the order of a list of obstructions: by falling word, and then by the left element
abbrev pub found_cmp : Obstruction → Obstruction → Ordering
found_cmp a b = ordering_then (letterwise_cmp b.word a.word) (nat_cmp a.left b.left)

-- the first letters of the second word, as many as the first one has, are greater than the first one
abbrev pub IsAbove : List ℕ → List ℕ → Type 0
IsAbove word lead = IsLetterwiseGreater (take (length word) lead) word

-- the leading words fall from one place to another
abbrev pub IsFalling : List (List Term) → ℕ → ℕ → Type 0
IsFalling G first end = (i j : ℕ) → first ≤ i → i < j → j < end → IsLetterwiseGreater (lead_word G i) (lead_word G j)
