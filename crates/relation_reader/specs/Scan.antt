-- What stands at one place of a text.
use Rattle.std.specs.Prelude.{ℕ, ◌≡◌, ◌^◌, ◌<◌, ◌≤◌, Bool, true, false, if◌then◌else◌, List, [], ◌∷◌, Option, Some}
use Rattle.std.specs.Prelude.{None}
use Rattle.relation_reader.specs.declared.token.Mark.{Mark}
use Rattle.relation_reader.specs.declared.token.Token.{Token}
use Rattle.relation_reader.specs.declared.fault.InputFault.{InputFault}
use Rattle.relation_reader.specs.declared.fault.InputFault.TheVariants as faults
use Rattle.relation_reader.specs.Tokens.{Gap, between, comment, IsBadByte, IsNarrow, IsToken, IsWideNumber, goes_on}
use Rattle.relation_reader.specs.Tokens.{is_text}

-- a token from this place on
pub record IsTokenAt (text : List ℕ) (at : ℕ) (t : Token) : Type 0 where
  pub from : t.start ≡ at
  pub more : at < t.end
  pub token : IsToken text t

-- a fault of tokens at this place
abbrev pub IsFaultAt : List ℕ → ℕ → InputFault → Type 0
IsFaultAt text at (faults.BadByte place) = (place ≡ at) × IsBadByte text at
IsFaultAt text at (faults.NumberTooWide place) = (place ≡ at) × IsWideNumber text at
IsFaultAt text at fault = ⊥

-- a number, where it is below 2^128
abbrev pub IsNarrowed : Option ℕ → ℕ → Type 0
IsNarrowed None n = 2 ^ 128 ≤ n
IsNarrowed (Some v) n = n ≡ v

-- the mark of one byte
pub record IsMarkOf (byte : ℕ) (mark : Mark) : Type 0 where
  pub spelled : is_text mark (byte ∷ []) ≡ true
  pub longest : (rest : List ℕ) → goes_on mark rest ≡ false
  pub narrow : IsNarrow mark

-- in a comment or not
abbrev pub gap_of : Bool → Gap
gap_of in_comment = if in_comment then comment else between
