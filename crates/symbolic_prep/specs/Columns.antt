-- The words of the columns: packed, or as they are.
use Rattle.std.specs.Prelude.{ℕ, ◌≡◌, ◌+◌, ◌<◌, ◌≤◌, min, List, All, AllPairs, Contains, Option, None, Some, map}
use Rattle.std.specs.Prelude.{length}
use Rattle.std.specs.List.{AllZip}
use Rattle.words.specs.Order.{IsLetterwiseGreater}
use Rattle.free_poly.specs.declared.term.Term.{Term}
use Rattle.ideal_laws.specs.Quantities.{contested_words, reducers_in, terms_in}
use Rattle.symbolic_prep.specs.Closed.{IsClosed, MayReduceOver}
use Rattle.symbolic_prep.specs.Numbers.{IsSpanOf, IsSpanWithin, reducer_on}
use Rattle.symbolic_prep.specs.declared.by_number.ListedClosure.{ListedClosure}
use Rattle.symbolic_prep.specs.declared.lists.Span.{Span}
use Rattle.symbolic_prep.specs.declared.columns.ColumnWords.{ColumnWords}
use Rattle.symbolic_prep.specs.declared.columns.ColumnWords.TheVariants.{Packed, Plain}

-- the words, however they are held
abbrev pub words_in : ColumnWords → List (List ℕ)
words_in (Packed words) = words
words_in (Plain words) = words.items

-- what is kept of a closure: columns that have numbers and fall, for each the span of its reducer over them or none,
-- and those that have none
pub record IsKeptClosed (columns : List (List ℕ)) (spans : List (Option Span)) (numbers : List ℕ)
    (residues : List (List ℕ)) (contested : List (List ℕ)) : Type 0 where
  pub few : length columns < 4294967296
  pub falling : AllPairs IsLetterwiseGreater columns
  pub size : length spans ≡ length columns
  pub within : All (IsSpanWithin (length columns) numbers residues) spans
  pub reducers : AllZip (MayReduceOver columns) columns (map (reducer_on columns numbers residues) spans)
  pub contested_is : contested ≡ contested_words columns (map (reducer_on columns numbers residues) spans)

-- the whole closure with its entries, cut above the limit, and with its reducers where they are not
pub record IsListedClosure (G : List (List Term)) (words : List (List ℕ)) (from limit : ℕ) (columns : List (List ℕ))
    (spans : List (Option Span)) (numbers : List ℕ) (residues : List (List ℕ)) (entries : ℕ) : Type 0 where
  pub reducers : List (Option (List Term))
  pub closed : IsClosed G words (record { columns = columns; reducers = reducers })
  pub count : entries ≡ min (from + terms_in (reducers_in reducers)) (limit + 1)
  pub listed : entries ≤ limit → AllZip (IsSpanOf columns numbers residues) spans reducers

-- the same of what is held
abbrev pub IsListed : List (List Term) → List (List ℕ) → ℕ → ℕ → ListedClosure → Type 0
IsListed G words from limit c = IsListedClosure G words from limit (words_in c.columns) c.lists.spans.items
    c.lists.numbers.items c.lists.residues c.entries

-- the words of a reducer, if there is one, are columns
abbrev pub IsOnColumns : List (List ℕ) → Option (List Term) → Type 0
IsOnColumns columns None = Unit {0}
IsOnColumns columns (Some f) = All (λ t. Contains columns t.word) f
