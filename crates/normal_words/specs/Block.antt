-- The words that one letter begins.
use Rattle.std.specs.Prelude.{ℕ, Bool, true, false, cond, leb, ◌-◌, List, [], ◌∷◌, length, take, slice_index_or}
use Rattle.std.specs.Prelude.{bytes_eq}
use Rattle.std.specs.List.{flat_map}
use Rattle.lead_index.specs.declared.lead.Lead.{Lead}
use Rattle.normal_words.specs.Normal.{WordsOfDegree}

-- whether the word begins with a word of the index
abbrev pub begins : List Lead → List ℕ → Bool
begins [] w = false
begins (l ∷ ls) w = cond (bytes_eq (take (length l.word) w) l.word) true (begins ls w)

-- the word, where it is not left out
abbrev pub unless : Bool → List ℕ → List (List ℕ)
unless left_out w = cond left_out [] (w ∷ [])

-- the word, where it begins with no word of the index
abbrev pub unless_begins : List Lead → List ℕ → List (List ℕ)
unless_begins leads w = unless (begins leads w) w

-- the letter before each tail, but for the words that begin with a word of the index
abbrev pub block : List Lead → ℕ → List (List ℕ) → List (List ℕ)
block leads letter tails = flat_map (λ v. unless_begins leads (letter ∷ v)) tails

-- the words at a place of a list of degrees
abbrev pub words_at : List WordsOfDegree → ℕ → List (List ℕ)
words_at before i = (slice_index_or before i (record { degree = 0; words = [] })).words

-- the block of a letter of this weight in the degree that follows those before
abbrev pub block_at : List Lead → List WordsOfDegree → ℕ → ℕ → List (List ℕ)
block_at leads before letter weight = cond (leb weight (length before))
    (block leads letter (words_at before (length before - weight))) []
