-- The products of a degree as rows over its words.
use Rattle.std.specs.Prelude.{ℕ, ◌+◌, ◌-◌, List, [], ◌∷◌, cond, drop, leb, length, map, take}
use Rattle.std.specs.List.{flat_map, range_with_len}
use Rattle.words.specs.Words.{degree_of}
use Rattle.free_poly.specs.declared.term.Term.{Term}
use Rattle.free_poly.specs.Terms.{product, total_at}
use Rattle.degree_words.specs.Lists.{list_at}

-- the coefficients at the columns
abbrev pub coefficients : List (List ℕ) → List Term → List ℕ
coefficients columns f = map (λ w. total_at f w) columns

-- u * r * v for each u and v that the word is joined from
abbrev pub word_rows : List (List ℕ) → List Term → List ℕ → List (List ℕ)
word_rows columns r w =
    map (λ k. coefficients columns (product (take k w) r (drop k w))) (range_with_len 0 (length w + 1))

-- the words that have degree d together with the leading word
abbrev pub words_round : List ℕ → List (List (List ℕ)) → ℕ → List Term → List (List ℕ)
words_round weights lists d [] = []
words_round weights lists d (t ∷ r) =
    cond (leb (degree_of weights t.word) d) (list_at lists (d - degree_of weights t.word)) []

-- u * r * v of degree d
abbrev pub relation_rows : List ℕ → List (List (List ℕ)) → ℕ → List (List ℕ) → List Term → List (List ℕ)
relation_rows weights lists d columns r = flat_map (word_rows columns r) (words_round weights lists d r)
