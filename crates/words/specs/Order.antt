-- The order of words.
use Rattle.std.specs.Prelude.{ℕ, ◌≡◌, ◌<◌, ◌↔◌, suc, List, ◌++◌, AllPairs, Contains, length, take, slice_index, ◌⊎◌}
use Rattle.std.specs.List.{flat_map, range_with_len}
use Rattle.std.specs.declared.cmp.Ordering.{Ordering}
use Rattle.std.specs.declared.cmp.Ordering.TheVariants.{Equal, Greater}
use Rattle.std.specs.Ordering.{nat_cmp, on, flip_args, then_cmp}
use Rattle.std.specs.Cmp.Lexicographic.{slice_cmp}
use Rattle.words.specs.Words.{AreWeights, IsOver, IsProperPrefix, degree_of, with_letter, words_of_degree}

-- two words differ at some place, not before it, and there the first has the smaller letter number
pub record HasSmallerFirst (a b : List ℕ) : Type 0 where
  pub at : ℕ
  pub in_first : at < length a
  pub in_second : at < length b
  pub same_before : take at a ≡ take at b
  pub smaller : slice_index a at < slice_index b at

-- a word of greater degree is greater; of two words of one degree the one with the smaller letter number at the first
-- difference
abbrev pub IsGreater : List ℕ → List ℕ → List ℕ → Type 0
IsGreater weights a b = (degree_of weights b < degree_of weights a)
    ⊎ ((degree_of weights a ≡ degree_of weights b) × HasSmallerFirst a b)

-- letter by letter: the smaller number is the greater letter, and a word is greater than its proper prefixes
abbrev pub letterwise_cmp : List ℕ → List ℕ → Ordering
letterwise_cmp = slice_cmp (flip_args nat_cmp)

-- the first is the greater one, letter by letter; on words of one degree this is the order of words
abbrev pub IsLetterwiseGreater : List ℕ → List ℕ → Type 0
IsLetterwiseGreater a b = letterwise_cmp a b ≡ Greater

-- the order of words as an answer of `cmp`: by degree, then letter by letter
abbrev pub word_cmp : List ℕ → List ℕ → List ℕ → Ordering
word_cmp weights = then_cmp (on (degree_of weights) nat_cmp) letterwise_cmp

-- what the comparison says is the order of words
abbrev pub ComparesWords : Type 0
ComparesWords = (weights : List ℕ) → AreWeights weights → (a b : List ℕ) → (word_cmp weights a b ≡ Greater)
    ↔ IsGreater weights a b

-- only equal words tie
abbrev pub TiesEqualWords : Type 0
TiesEqualWords = (weights a b : List ℕ) → word_cmp weights a b ≡ Equal → a ≡ b

-- of two words of one degree none is a proper prefix of the other
abbrev pub HasNoPrefixes : Type 0
HasNoPrefixes = (weights : List ℕ) → AreWeights weights → (a b : List ℕ) → degree_of weights a ≡ degree_of weights b
    → IsProperPrefix a b → ⊥

-- two words of one degree keep their order in products
abbrev pub IsKeptByProducts : Type 0
IsKeptByProducts = (weights u a b v : List ℕ) → degree_of weights a ≡ degree_of weights b → IsGreater weights a b →
    IsGreater weights (u ++ a ++ v) (u ++ b ++ v)

-- letter by letter is by the first difference, and else a word is greater than its proper prefixes
abbrev pub ComparesLetters : Type 0
ComparesLetters = (a b : List ℕ) → IsLetterwiseGreater a b ↔ (HasSmallerFirst a b ⊎ IsProperPrefix b a)

-- on words of one degree the two comparisons are one
abbrev pub AgreesInDegree : Type 0
AgreesInDegree = (weights a b : List ℕ) → degree_of weights a ≡ degree_of weights b →
    word_cmp weights a b ≡ letterwise_cmp a b

-- the list of a degree has exactly its words
abbrev pub ListsWords : Type 0
ListsWords = (weights : List ℕ) → AreWeights weights → (d : ℕ) (w : List ℕ) →
    Contains (words_of_degree weights d) w ↔ (IsOver (length weights) w × (degree_of weights w ≡ d))

-- it falls, so that each word stands in it once
abbrev pub ListsFalling : Type 0
ListsFalling = (weights : List ℕ) → AreWeights weights → (d : ℕ) →
    AllPairs (IsGreater weights) (words_of_degree weights d)

-- above degree 0 it is, for each letter in rising number, that letter before each word of the degree that is left
abbrev pub ListsByLetters : Type 0
ListsByLetters = (weights : List ℕ) → AreWeights weights → (d : ℕ)
    → words_of_degree weights (suc d) ≡ flat_map (with_letter weights (words_of_degree weights) (suc d))
    (range_with_len 0 (length weights))
