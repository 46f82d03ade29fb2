-- The reducers of words in a row, before their own words have numbers.
use Rattle.std.specs.Prelude.{ℕ, ◌≡◌, ◌+◌, ◌<◌, ◌≤◌, List, [], All, Option, Some, None, map, length, slice_get}
use Rattle.std.specs.Prelude.{slice_index_or}
use Rattle.free_poly.specs.declared.term.Term.{Term}
use Rattle.free_poly.specs.Poly.{lead_of}
use Rattle.ideal_laws.specs.Basis.{below_lead}
use Rattle.ideal_laws.specs.Closure.{HasReducer}
use Rattle.symbolic_prep.specs.declared.lists.Span.{Span}
use Rattle.symbolic_prep.specs.declared.packing.PackedWord.{PackedWord}
use Rattle.symbolic_prep.specs.Numbers.{IsPart, residues_of}
use Rattle.symbolic_prep.specs.PackedWords.{IsPackedWord, letters_in}

-- the words of a reducer but for the leading one stand from one place to another, and its coefficients are those of an
-- element
pub record IsTailAt (G : List (List Term)) (bits room : ℕ) (tails : List PackedWord) (word : List ℕ) (span : Span)
    (reducer : List Term) : Type 0 where
  pub lead : lead_of reducer ≡ Some word
  pub own : List PackedWord
  pub place : IsPart tails own span.start span.end
  pub words : map (letters_in bits room) own ≡ map (λ t. t.word) (below_lead reducer)
  pub residues_are : slice_get (map residues_of G) span.element ≡ Some (residues_of reducer)

-- they stand there, or there is no reducer
abbrev pub IsTailOf : List (List Term) → ℕ → ℕ → List PackedWord → List ℕ → Option Span → Option (List Term) → Type 0
IsTailOf G bits room tails word None None = Unit {0}
IsTailOf G bits room tails word None (Some f) = ⊥
IsTailOf G bits room tails word (Some s) None = ⊥
IsTailOf G bits room tails word (Some s) (Some f) = IsTailAt G bits room tails word s f

-- where the words of the reducer of a word stand, if it has one
pub record HasTail (G : List (List Term)) (bits room : ℕ) (tails : List PackedWord) (word : List ℕ)
    (span : Option Span) : Type 0 where
  pub reducer : Option (List Term)
  pub is : HasReducer G word reducer
  pub tail : IsTailOf G bits room tails word span reducer

-- the same of some words in a row
pub record AreTails (G : List (List Term)) (bits room : ℕ) (words : List (List ℕ)) (from : ℕ)
    (spans : List (Option Span)) (tails : List PackedWord) : Type 0 where
  pub within : from + length spans ≤ length words
  pub packed : All (IsPackedWord bits room) tails
  pub each : (i : ℕ) → i < length spans → HasTail G bits room tails (slice_index_or words (from + i) [])
      (slice_index_or spans i None)
