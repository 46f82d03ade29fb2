-- Sums of terms, and the coefficient that such a sum has at a word.
use Rattle.std.specs.Prelude.{ℕ, ◌≡◌, ◌+◌, ◌*◌, ◌%◌, ◌<◌, List, [], ◌∷◌, ◌++◌, All, AllPairs, map, if◌then◌else◌}
use Rattle.std.specs.Prelude.{bytes_eq, ◌==◌}
use Rattle.words.specs.Words.{IsOver, IsProperPrefix, degree_of}
use Rattle.free_poly.specs.declared.term.Term.{Term}

-- what a sum of terms has at a word, before it is taken modulo p
abbrev pub total_at : List Term → List ℕ → ℕ
total_at [] w = 0
total_at (t ∷ ts) w = (if bytes_eq t.word w then t.coefficient else 0) + total_at ts w

-- two sums of terms that are one element modulo p
abbrev pub IsSame : ℕ → List Term → List Term → Type 0
IsSame p f g = (w : List ℕ) → total_at f w % p ≡ total_at g w % p

-- a times a sum of terms
abbrev pub scaled : ℕ → List Term → List Term
scaled a f = map (λ t. record { word = t.word; coefficient = a * t.coefficient }) f

-- u * f * v
abbrev pub product : List ℕ → List Term → List ℕ → List Term
product u f v = map (λ t. record { word = u ++ t.word ++ v; coefficient = t.coefficient }) f

-- a term at this word, and none where its coefficient is 0
abbrev pub term_at : List ℕ → ℕ → List Term
term_at w c = if c == 0 then [] else (record { word = w; coefficient = c } ∷ [])

-- every word is over so many names
abbrev pub UsesLetters : ℕ → List Term → Type 0
UsesLetters names f = All (λ t. IsOver names t.word) f

-- every coefficient is a residue
abbrev pub HasResidues : ℕ → List Term → Type 0
HasResidues p f = All (λ t. t.coefficient < p) f

-- every word has this degree
abbrev pub HasDegree : List ℕ → ℕ → List Term → Type 0
HasDegree weights d f = All (λ t. degree_of weights t.word ≡ d) f

-- all words have one degree
abbrev pub HasOneDegree : List ℕ → List Term → Type 0
HasOneDegree weights f = AllPairs (λ s t. degree_of weights s.word ≡ degree_of weights t.word) f

-- no word is a proper prefix of another
abbrev pub HasNoPrefix : List Term → Type 0
HasNoPrefix f = AllPairs (λ s t. IsProperPrefix t.word s.word → ⊥) f
