-- What the tokens so far leave for those that follow, and the faults of a token by it.
use Rattle.std.specs.Prelude.{ℕ, ◌≡◌, ◌==◌, ◌&&◌, Bool, false, not, List, [], ◌∷◌, length, nat_lt, Option}
use Rattle.relation_reader.specs.declared.token.Token.{Token}
use Rattle.relation_reader.specs.declared.fault.InputFault.{InputFault}
use Rattle.relation_reader.specs.declared.fault.InputFault.TheVariants as faults
use Rattle.relation_reader.specs.declared.place.Place.{Place}
use Rattle.relation_reader.specs.declared.place.Place.TheVariants as places
use Rattle.relation_reader.specs.Grammar.{Lexeme, Piece, lexeme_of, next_place}
use Rattle.relation_reader.specs.Meaning.{Placed, begins_relation, declared_names, faults_here, first_of, is_among}
use Rattle.relation_reader.specs.Meaning.{is_caret, is_exponent, is_used}
use Rattle.relation_reader.specs.Meaning.{letters_from, passes, placed_from, relations_begun, when}

-- a token with these bytes at its place
abbrev pub placed : Place → Token → List ℕ → Placed
placed place t bytes = record { place = place; lexeme = lexeme_of t.mark bytes; at = t.start }

-- the declared names, the relations begun and the letters of the term after these tokens
pub record HasPassed (names : List (List ℕ)) (begun letters : ℕ) (before : List Placed) : Type 0 where
  pub names_are : declared_names before ≡ names
  pub begun_are : relations_begun before ≡ begun
  pub letters_are : letters_from 0 before ≡ letters

-- `^` is the first of these
abbrev pub leads_caret : List Piece → Bool
leads_caret [] = false
leads_caret (t ∷ ts) = is_caret t.lexeme

-- the first fault at a token, behind all tokens that leave this, and before `^` or not
abbrev pub IsFirstHere : List (List ℕ) → ℕ → ℕ → Placed → Bool → Option InputFault → Type 0
IsFirstHere names begun letters t caret fault = (before : List Placed) (rest : List Piece) →
    HasPassed names begun letters before → leads_caret rest ≡ caret
    → fault ≡ first_of (faults_here before t (placed_from (next_place t.place t.lexeme) rest))

-- the faults of a name that is declared
abbrev pub declared_faults : List (List ℕ) → List ℕ → ℕ → List (Option InputFault)
declared_faults names bytes at =
    when (nat_lt 32 (length bytes)) (faults.NameTooLong at)
    ∷ when (length names == 64) (faults.TooManyVariables at)
    ∷ when (is_among bytes names) (faults.RepeatedVariable at)
    ∷ []

-- those of a name in a relation, and of what else begins a factor
abbrev pub used_faults : List (List ℕ) → ℕ → Bool → Lexeme → ℕ → List (Option InputFault)
used_faults names letters caret lexeme at =
    when (is_used (λ bytes. not (is_among bytes names)) places.AfterOperator lexeme) (faults.UnknownVariable at)
    ∷ when (is_used (λ bytes. passes letters 1) places.AfterOperator lexeme && not caret) (faults.WordTooLong at)
    ∷ []

-- those of the first token of a relation
abbrev pub begin_faults : List (List ℕ) → ℕ → ℕ → Bool → Place → Lexeme → ℕ → List (Option InputFault)
begin_faults names begun letters caret place lexeme at =
    when (begins_relation place lexeme && begun == 4096) (faults.TooManyRelations at)
    ∷ used_faults names letters caret lexeme at

-- those of an exponent
abbrev pub exponent_faults : ℕ → Lexeme → ℕ → List (Option InputFault)
exponent_faults letters lexeme at =
    when (is_exponent (nat_lt 256) places.AfterCaret lexeme) (faults.ExponentTooLarge at)
    ∷ when (is_exponent (passes letters) places.AfterCaret lexeme) (faults.WordTooLong at)
    ∷ []
