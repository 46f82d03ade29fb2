-- Words as numbers: a digit for each letter from the left, in a room of so many digits.
use Rattle.std.specs.Prelude.{ℕ, ◌≡◌, ◌≢◌, ◌+◌, ◌*◌, ◌/◌, ◌%◌, ◌^◌, ◌<◌, ◌≤◌, List, [], ◌∷◌, All, AllPairs, length}
use Rattle.std.specs.Prelude.{zero, suc}

-- the first letter has the highest digit, which is one more than the letter, and behind the last one are zeros
abbrev pub packed : ℕ → ℕ → List ℕ → ℕ
packed base room [] = 0
packed base zero (x ∷ w) = 0
packed base (suc room) (x ∷ w) = suc x * base ^ room + packed base room w

-- the letter of a digit before others, and nothing at 0
abbrev pub with_digit : ℕ → List ℕ → List ℕ
with_digit zero w = []
with_digit (suc x) w = x ∷ w

-- the letters up to the first zero
abbrev pub unpacked : ℕ → ℕ → ℕ → List ℕ
unpacked base zero key = []
unpacked base (suc room) key = with_digit (key / base ^ room) (unpacked base room (key % base ^ room))

-- every letter has a digit below 2 to the number of bits
abbrev pub HasDigits : ℕ → List ℕ → Type 0
HasDigits bits w = All (λ x. suc x < 2 ^ bits) w

-- bits for a letter and room for letters, within 64 bits
pub record IsPacking (bits room : ℕ) : Type 0 where
  pub some : 0 < bits
  pub byte : bits ≤ 8
  pub whole : bits * room ≤ 64

-- so many letters have digits, and words of the degree have room
pub record IsPackingFor (letters d bits room : ℕ) : Type 0 where
  pub packing : IsPacking bits room
  pub letters_fit : letters < 2 ^ bits
  pub words_fit : d ≤ room

-- the number of a word
pub record IsKey (bits room key : ℕ) : Type 0 where
  pub word : List ℕ
  pub over : HasDigits bits word
  pub fits : length word ≤ room
  pub is : key ≡ packed (2 ^ bits) room word

-- numbers of words, each once
pub record IsTable (bits room : ℕ) (keys : List ℕ) : Type 0 where
  pub packing : IsPacking bits room
  pub each : All (IsKey bits room) keys
  pub apart : AllPairs (λ a b. a ≢ b) keys

-- a table as callers see it: how its words are packed, and the words in the order in which they came
pub record Table : Type 0 where
  pub bits : ℕ
  pub room : ℕ
  pub words : List (List ℕ)
