-- Names of variables with their weights.
use Rattle.std.specs.Prelude.{ℕ, ◌≡◌, ◌≢◌, ◌<◌, ◌≤◌, List, [], length, AllPairs, take, slice_index_or}
use Rattle.words.specs.Words.{AreWeights}
use Rattle.words.specs.declared.alphabet.AlphabetFault.{AlphabetFault}
use Rattle.words.specs.declared.alphabet.AlphabetFault.TheVariants.{Empty, TooMany, Repeated, NoMemory}

-- an alphabet as callers see it: its names, and the weight of each
pub record Letters : Type 0 where
  pub names : List (List ℕ)
  pub weights : List ℕ

-- no two of these are equal
abbrev pub AreApart : List (List ℕ) → Type 0
AreApart names = AllPairs (λ a b. a ≢ b) names

-- one to 64 names that are all different
pub record AreNames (names : List (List ℕ)) : Type 0 where
  pub some : 0 < length names
  pub few : length names ≤ 64
  pub apart : AreApart names

-- one to 64 names that are all different, each with a weight from 1 to 8
pub record IsAlphabet (letters : Letters) : Type 0 where
  pub some : 0 < length letters.weights
  pub few : length letters.weights ≤ 64
  pub count : length letters.names ≡ length letters.weights
  pub apart : AreApart letters.names
  pub weights : AreWeights letters.weights

-- the least place of a name that stood before, and where it stood
pub record IsFirstRepeat (names : List (List ℕ)) (first second : ℕ) : Type 0 where
  pub before : first < second
  pub within : second < length names
  pub same : slice_index_or names first [] ≡ slice_index_or names second []
  pub apart : AreApart (take second names)

-- the fault says what is wrong with the names
abbrev pub IsFaultOf : AlphabetFault → List (List ℕ) → Type 0
IsFaultOf Empty names = names ≡ []
IsFaultOf TooMany names = 64 < length names
IsFaultOf (Repeated first second) names = (length names ≤ 64) × IsFirstRepeat names first second
IsFaultOf NoMemory names = ⊥
