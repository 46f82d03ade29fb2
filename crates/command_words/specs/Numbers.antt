-- Numbers as a command line writes them.
use Rattle.std.specs.Prelude.{ℕ, ◌≡◌, ◌≢◌, ◌+◌, ◌-◌, ◌*◌, List, [], ◌∷◌, All}
use Rattle.std.specs.Char.{IsAsciiDigit}

-- the number with the digits of n and then these
abbrev pub with_digits : ℕ → List ℕ → ℕ
with_digits n [] = n
with_digits n (b ∷ bs) = with_digits (n * 10 + (b - 48)) bs

-- one or more ASCII digits, leading zeros among them, and the number that they say
pub record IsNumber (text : List ℕ) (n : ℕ) : Type 0 where
  pub some : text ≢ []
  pub each : All IsAsciiDigit text
  pub value : with_digits 0 text ≡ n
