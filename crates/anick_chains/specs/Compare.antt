-- The order of the chains of a degree as an answer of `cmp`.
use Rattle.std.specs.Prelude.{ℕ, List, length}
use Rattle.std.specs.declared.cmp.Ordering.{Ordering}
use Rattle.std.specs.Ordering.{flip_args, nat_cmp, on, then_cmp}
use Rattle.std.specs.Cmp.Lexicographic.{slice_cmp}
use Rattle.words.specs.Order.{word_cmp}

-- piece by piece, where the greater word comes first
abbrev pub falling_cmp : List ℕ → List (List ℕ) → List (List ℕ) → Ordering
falling_cmp weights = slice_cmp (flip_args (word_cmp weights))

-- by length, and then piece by piece
abbrev pub pieces_cmp : List ℕ → List (List ℕ) → List (List ℕ) → Ordering
pieces_cmp weights = then_cmp (on length nat_cmp) (falling_cmp weights)
