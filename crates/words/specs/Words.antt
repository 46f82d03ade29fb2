-- Words: lists of letters, a letter being the place of its variable, and their degrees.
use Rattle.std.specs.Prelude.{ℕ, ◌≡◌, ◌≢◌, ◌+◌, ◌-◌, ◌<◌, ◌≤◌, List, [], ◌∷◌, ◌++◌, length, All, map, take, drop, suc}
use Rattle.std.specs.Prelude.{zero, slice_index_or, cond, leb}
use Rattle.std.specs.List.{flat_map, range_with_len}

-- every letter is below the number of names
abbrev pub IsOver : ℕ → List ℕ → Type 0
IsOver names w = All (λ x. x < names) w

-- weights from 1 to 8
abbrev pub AreWeights : List ℕ → Type 0
AreWeights weights = All (λ e. (0 < e) × (e ≤ 8)) weights

-- the weight of a letter, and 1 past the last one
abbrev pub weight_of : List ℕ → ℕ → ℕ
weight_of weights x = slice_index_or weights x 1

-- the sum of the weights of the letters
abbrev pub degree_of : List ℕ → List ℕ → ℕ
degree_of weights [] = 0
degree_of weights (x ∷ w) = weight_of weights x + degree_of weights w

-- a letter before each word of the degree that is left for it, and nothing where its weight is above d
abbrev pub with_letter : List ℕ → (ℕ → List (List ℕ)) → ℕ → ℕ → List (List ℕ)
with_letter weights words d x = cond (leb (weight_of weights x) d)
    (map (λ w. x ∷ w) (words (d - weight_of weights x))) []

-- the words of degree d with at most so many letters, each letter in rising number
abbrev pub words_within : List ℕ → ℕ → ℕ → List (List ℕ)
words_within weights letters zero = [] ∷ []
words_within weights zero (suc d) = []
words_within weights (suc letters) (suc d) = flat_map (with_letter weights (words_within weights letters) (suc d))
    (range_with_len 0 (length weights))

-- W(d): all words of degree d, which has at most d letters
abbrev pub words_of_degree : List ℕ → ℕ → List (List ℕ)
words_of_degree weights d = words_within weights d d

-- the factor stands in the word from this place
pub record OccursAt (factor word : List ℕ) (at : ℕ) : Type 0 where
  pub within : at + length factor ≤ length word
  pub same : take (length factor) (drop at word) ≡ factor

-- one word stands in another
pub record IsFactor (factor word : List ℕ) : Type 0 where
  pub before : List ℕ
  pub after : List ℕ
  pub joined : word ≡ before ++ factor ++ after

-- a factor other than the word itself
pub record IsProperFactor (factor word : List ℕ) : Type 0 where
  pub inside : IsFactor factor word
  pub other : factor ≢ word

-- the first letters of a longer word
pub record IsProperPrefix (first word : List ℕ) : Type 0 where
  pub rest : List ℕ
  pub more : rest ≢ []
  pub joined : word ≡ first ++ rest
