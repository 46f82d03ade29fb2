-- The numbers and the lists of the words of all degrees up to one.
use Rattle.std.specs.Prelude.{ℕ, ◌≡◌, ◌≢◌, ◌-◌, ◌^◌, ◌<◌, List, [], length, min, slice_index, slice_index_or}
use Rattle.words.specs.Words.{words_of_degree}

-- for each degree below the bound, the number of its words, or 2^64 - 1 where there are more
pub record AreCounts (weights counts : List ℕ) (bound : ℕ) : Type 0 where
  pub size : length counts ≡ 65
  pub counted : (k : ℕ) → k < bound → slice_index counts k ≡ min (length (words_of_degree weights k)) (2 ^ 64 - 1)

abbrev pub list_at : List (List (List ℕ)) → ℕ → List (List ℕ)
list_at lists k = slice_index_or lists k []

-- for each degree below the bound of which words are part of a word of degree d, the list of its words
pub record AreLists (weights : List ℕ) (d : ℕ) (lists : List (List (List ℕ))) (bound : ℕ) : Type 0 where
  pub size : length lists ≡ bound
  pub listed : (k : ℕ) → k < bound → words_of_degree weights (d - k) ≢ [] → list_at lists k ≡ words_of_degree weights k
  pub unused : (k : ℕ) → k < bound → words_of_degree weights (d - k) ≡ [] → list_at lists k ≡ []
