-- Packed words with their letters counted, and lists of them.
use Rattle.std.specs.Prelude.{ℕ, ◌≡◌, ◌^◌, ◌≤◌, ◌++◌, List, [], ◌∷◌, All, map, length}
use Rattle.free_poly.specs.declared.term.Term.{Term}
use Rattle.symbolic_prep.specs.declared.packing.PackedWord.{PackedWord}
use Rattle.symbolic_prep.specs.Packing.{HasDigits, packed, unpacked}

-- the letters of a packed word
abbrev pub letters_in : ℕ → ℕ → PackedWord → List ℕ
letters_in bits room p = unpacked (2 ^ bits) room p.key

-- they have digits and room, and the key and the count are theirs
pub record IsPackedWord (bits room : ℕ) (p : PackedWord) : Type 0 where
  pub over : HasDigits bits (letters_in bits room p)
  pub fits : length (letters_in bits room p) ≤ room
  pub key : p.key ≡ packed (2 ^ bits) room (letters_in bits room p)
  pub len : p.len ≡ length (letters_in bits room p)

-- a word, packed
pub record IsPackedAs (bits room : ℕ) (word : List ℕ) (p : PackedWord) : Type 0 where
  pub is : IsPackedWord bits room p
  pub letters : letters_in bits room p ≡ word

-- the words of some terms
pub record ArePacked (bits room : ℕ) (f : List Term) (ps : List PackedWord) : Type 0 where
  pub each : All (IsPackedWord bits room) ps
  pub words : map (letters_in bits room) ps ≡ map (λ t. t.word) f

-- the same, if all of them have room
abbrev pub ArePackedWithin : ℕ → ℕ → List Term → List PackedWord → Type 0
ArePackedWithin bits room f ps = All (λ t. length t.word ≤ room) f → ArePacked bits room f ps

-- how many letters the first word has
abbrev pub first_len : List PackedWord → ℕ
first_len [] = 0
first_len (p ∷ ps) = p.len

-- some words with one before and one behind each, behind others
pub record HasMultiple (bits room : ℕ) (before : List ℕ) (words : List PackedWord) (rest : List ℕ)
    (old new : List PackedWord) : Type 0 where
  pub more : List PackedWord
  pub joined : new ≡ old ++ more
  pub letters : map (letters_in bits room) more ≡ map (λ p. before ++ letters_in bits room p ++ rest) words
