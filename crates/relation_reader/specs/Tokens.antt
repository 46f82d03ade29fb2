-- The tokens of a text: gaps, the bytes of each mark, and where the tokens end.
use Rattle.std.specs.Prelude.{ℕ, ◌≡◌, ◌≢◌, ◌+◌, ◌-◌, ◌*◌, ◌^◌, ◌<◌, ◌≤◌, ◌==◌, ◌&&◌, ◌||◌, Bool, true, false, List}
use Rattle.std.specs.Prelude.{[], ◌∷◌, ◌++◌, if◌then◌else◌}
use Rattle.std.specs.Prelude.{nat_le, length, take, drop, codes, bytes_eq, slice_index_or, Option, Some, None}
use Rattle.relation_reader.specs.declared.token.Mark.{Mark}
use Rattle.relation_reader.specs.declared.token.Mark.TheVariants as marks
use Rattle.relation_reader.specs.declared.token.Token.{Token}
use Rattle.relation_reader.specs.declared.fault.InputFault.{InputFault}
use Rattle.relation_reader.specs.declared.fault.InputFault.TheVariants as faults

-- space, tab, line feed, carriage return
abbrev pub is_separator : ℕ → Bool
is_separator b = b == 32 || b == 9 || b == 10 || b == 13

-- `0` to `9`
abbrev pub is_digit : ℕ → Bool
is_digit b = nat_le 48 b && nat_le b 57

-- `A` to `Z` and `a` to `z`
abbrev pub is_letter : ℕ → Bool
is_letter b = (nat_le 65 b && nat_le b 90) || (nat_le 97 b && nat_le b 122)

-- a letter, a digit or `_`
abbrev pub is_name_byte : ℕ → Bool
is_name_byte b = is_letter b || is_digit b || b == 95

-- where a reading of what stands between tokens is: outside comments, in one, or past a byte that is neither
pub data Gap : Type 0 where
  between : Gap
  comment : Gap
  broken : Gap

-- what one byte makes of it: `%` begins a comment, and a line feed ends it
abbrev pub after_byte : Gap → ℕ → Gap
after_byte between b = if is_separator b then between else if b == 37 then comment else broken
after_byte comment b = if b == 10 then between else comment
after_byte broken b = broken

-- what these bytes make of it, one after the other
abbrev pub after_bytes : Gap → List ℕ → Gap
after_bytes gap [] = gap
after_bytes gap (b ∷ bs) = after_bytes (after_byte gap b) bs

-- the bytes from one place to before another
abbrev pub span : List ℕ → ℕ → ℕ → List ℕ
span text start end = take (end - start) (drop start text)

-- separators and whole comments
abbrev pub IsGap : List ℕ → ℕ → ℕ → Type 0
IsGap text start end = (start ≤ end) × (after_bytes between (span text start end) ≡ between)

-- all of these bytes are of this kind
abbrev pub are_all : (ℕ → Bool) → List ℕ → Bool
are_all test [] = true
are_all test (b ∷ bs) = test b && are_all test bs

-- the first of these bytes is of this kind
abbrev pub begins : (ℕ → Bool) → List ℕ → Bool
begins test [] = false
begins test (b ∷ bs) = test b

-- a letter, and then letters, digits and `_`
abbrev pub is_name : List ℕ → Bool
is_name bytes = begins is_letter bytes && are_all is_name_byte bytes

-- at least one digit, and nothing else
abbrev pub is_number : List ℕ → Bool
is_number bytes = begins is_digit bytes && are_all is_digit bytes

-- the number with the digits of n and then these
abbrev pub with_digits : ℕ → List ℕ → ℕ
with_digits n [] = n
with_digits n (b ∷ bs) = with_digits (n * 10 + (b - 48)) bs

-- the bytes are the mark's text
abbrev pub is_text : Mark → List ℕ → Bool
is_text marks.Name bytes = is_name bytes
is_text (marks.Number value) bytes = is_number bytes && with_digits 0 bytes == value
is_text marks.Plus bytes = bytes_eq bytes (codes "+")
is_text marks.Minus bytes = bytes_eq bytes (codes "-")
is_text marks.Star bytes = bytes_eq bytes (codes "*")
is_text marks.Caret bytes = bytes_eq bytes (codes "^")
is_text marks.Comma bytes = bytes_eq bytes (codes ",")
is_text marks.Semicolon bytes = bytes_eq bytes (codes ";")
is_text marks.Colon bytes = bytes_eq bytes (codes ":")
is_text marks.End bytes = false

-- what follows would belong to the token
abbrev pub goes_on : Mark → List ℕ → Bool
goes_on marks.Name rest = begins is_name_byte rest
goes_on (marks.Number value) rest = begins is_digit rest
goes_on mark rest = false

-- a number is below 2^128
abbrev pub IsNarrow : Mark → Type 0
IsNarrow (marks.Number value) = value < 2 ^ 128
IsNarrow mark = Unit {0}

-- a token other than End: its bytes, as many as can be
pub record IsToken (text : List ℕ) (t : Token) : Type 0 where
  pub within : t.end ≤ length text
  pub spelled : is_text t.mark (span text t.start t.end) ≡ true
  pub longest : goes_on t.mark (drop t.end text) ≡ false
  pub narrow : IsNarrow t.mark

-- the one-byte tokens
abbrev pub is_mark_byte : ℕ → Bool
is_mark_byte b = b == 43 || b == 45 || b == 42 || b == 94 || b == 44 || b == 59 || b == 58

-- at this place stands a byte that begins no token, no gap and no comment
pub record IsBadByte (text : List ℕ) (at : ℕ) : Type 0 where
  pub within : at < length text
  pub no_gap : after_byte between (slice_index_or text at 0) ≡ broken
  pub no_token : (is_letter (slice_index_or text at 0) || is_digit (slice_index_or text at 0) || is_mark_byte
      (slice_index_or text at 0)) ≡ false

-- at this place begins a number of 2^128 or more
pub record IsWideNumber (text : List ℕ) (at : ℕ) : Type 0 where
  pub end : ℕ
  pub within : end ≤ length text
  pub spelled : is_number (span text at end) ≡ true
  pub longest : begins is_digit (drop end text) ≡ false
  pub wide : 2 ^ 128 ≤ with_digits 0 (span text at end)

-- after the last gap the text is at its end, which may be in a comment, or a fault of tokens stands there
abbrev pub StopsAt : List ℕ → ℕ → Option InputFault → Type 0
StopsAt text from None = (from ≤ length text) × (after_bytes between (drop from text) ≢ broken)
StopsAt text from (Some (faults.BadByte at)) = IsGap text from at × IsBadByte text at
StopsAt text from (Some (faults.NumberTooWide at)) = IsGap text from at × IsWideNumber text at
StopsAt text from (Some fault) = ⊥

-- from a place on the text is a gap before each of these tokens, and then it stops
abbrev pub SplitsFrom : List ℕ → ℕ → List Token → Option InputFault → Type 0
SplitsFrom text from [] stop = StopsAt text from stop
SplitsFrom text from (t ∷ ts) stop = IsGap text from t.start × IsToken text t × SplitsFrom text t.end ts stop

-- the token behind all bytes
abbrev pub end_token : ℕ → Token
end_token at = record { mark = marks.End; start = at; end = at }

-- the tokens of a whole text, with End last
abbrev pub AreTokens : List ℕ → List Token → Type 0
AreTokens text tokens = (front : List Token) × (tokens ≡ front ++ end_token (length text) ∷ [])
    × SplitsFrom text 0 front None

-- the earliest fault of tokens
abbrev pub IsTokenFault : List ℕ → InputFault → Type 0
IsTokenFault text fault = (front : List Token) × SplitsFrom text 0 front (Some fault)

-- each text has its tokens or its one fault of tokens, and only one of these
pub record HasOneSplit (text : List ℕ) : Type 0 where
  pub tokens : List Token
  pub stop : Option InputFault
  pub splits : SplitsFrom text 0 tokens stop
  pub only : (ts : List Token) (s : Option InputFault) → SplitsFrom text 0 ts s → (ts ≡ tokens) × (s ≡ stop)
