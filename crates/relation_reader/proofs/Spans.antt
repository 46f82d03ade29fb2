-- Spans that grow by one byte, and the tokens that they complete.
use Rattle.std.proofs.Common.{ℕ, ◌≡◌, ◌+◌, ◌-◌, ◌*◌, ◌<◌, ◌≤◌, Bool, true, false, ◌&&◌, List, [], ◌∷◌, ◌++◌, length, take, drop, get_or, Option, Some}
use Rattle.std.proofs.Common.{refl, sym, ap, subst, ◌∙◌, length-drop, arith}
use Rattle.std.proofs.Math.Seq.{drop-length}
use Rattle.std.proofs.lemmas.List.{take_more, take_all, get_or-drop, drop_more}
use Rattle.relation_reader.specs.declared.token.Token.{Token}
use Rattle.relation_reader.specs.declared.fault.InputFault.{InputFault}
use Rattle.relation_reader.specs.declared.fault.InputFault.TheVariants as faults
use Rattle.relation_reader.specs.Tokens.{Gap, IsBadByte, IsGap, IsWideNumber, SplitsFrom, StopsAt, after_byte, after_bytes, are_all, begins}
use Rattle.relation_reader.specs.Tokens.{span, with_digits}
use Rattle.relation_reader.specs.Scan.{IsFaultAt}

-- from a place to itself there is no byte
pub span-none : (text : List ℕ) (start : ℕ) → span text start start ≡ []
span-none text start = let e : start - start ≡ 0 = omega arith in ap (λ n. take n (drop start text)) e

-- a span of one byte more is the span and that byte
pub span-next : (text : List ℕ) (start end : ℕ) → start ≤ end → end < length text → span text start (end + 1) ≡ span text start end ++ get_or text end 0 ∷ []
span-next text start end ordered within =
    let e : end + 1 - start ≡ end - start + 1 = omega arith in
    let s : start + (end - start) ≡ end = omega arith in
    let below : end - start < length (drop start text) = omega (arith, length-drop start text) in
    ap (λ n. take n (drop start text)) e
    ∙ take_more (drop start text) (end - start) 0 below
    ∙ ap (λ b. take (end - start) (drop start text) ++ b ∷ []) (get_or-drop start text (end - start) 0 ∙ ap (λ n. get_or text n 0) s)

-- the span of one byte
pub span-one : (text : List ℕ) (at : ℕ) → at < length text → span text at (at + 1) ≡ get_or text at 0 ∷ []
span-one text at within =
    let ordered : at ≤ at = omega arith in
    span-next text at at ordered within ∙ ap (λ xs. xs ++ get_or text at 0 ∷ []) (span-none text at)

-- the span up to the end of the text
pub span-rest : (text : List ℕ) (start : ℕ) → span text start (length text) ≡ drop start text
span-rest text start = ap (λ n. take n (drop start text)) (sym (length-drop start text))
    ∙ (let whole : length (drop start text) ≤ length (drop start text) = omega arith in
    take_all (length (drop start text)) (drop start text) whole)

-- of a gap two parts are read one after the other
pub after_bytes-append : (gap : Gap) (xs ys : List ℕ) → after_bytes gap (xs ++ ys) ≡ after_bytes (after_bytes gap xs) ys
after_bytes-append gap [] ys = refl
after_bytes-append gap (x ∷ xs) ys = after_bytes-append (after_byte gap x) xs ys

-- one byte more of a gap
pub gap-next : (gap : Gap) (text : List ℕ) (start end : ℕ) → start ≤ end → end < length text →
    after_bytes gap (span text start (end + 1)) ≡ after_byte (after_bytes gap (span text start end)) (get_or text end 0)
gap-next gap text start end ordered within =
    ap (after_bytes gap) (span-next text start end ordered within)
    ∙ after_bytes-append gap (span text start end) (get_or text end 0 ∷ [])

-- one digit more is ten times the number, and the digit
pub with_digits-append : (n : ℕ) (xs : List ℕ) (b : ℕ) → with_digits n (xs ++ b ∷ []) ≡ with_digits n xs * 10 + (b - 48)
with_digits-append n [] b = refl
with_digits-append n (x ∷ xs) b = with_digits-append (n * 10 + (x - 48)) xs b

-- the same of the digits in a span
pub digits-next : (text : List ℕ) (start end : ℕ) → start ≤ end → end < length text →
    with_digits 0 (span text start (end + 1)) ≡ with_digits 0 (span text start end) * 10 + (get_or text end 0 - 48)
digits-next text start end ordered within =
    ap (with_digits 0) (span-next text start end ordered within)
    ∙ with_digits-append 0 (span text start end) (get_or text end 0)

and_assoc : (a b c : Bool) → (a && (b && c)) ≡ ((a && b) && c)
and_assoc true b c = refl
and_assoc false b c = refl

and_true : (a : Bool) → (a && true) ≡ a
and_true true = refl
and_true false = refl

-- a list is of one kind where both of its parts are
pub are_all-append : (test : ℕ → Bool) (xs ys : List ℕ) → are_all test (xs ++ ys) ≡ (are_all test xs && are_all test ys)
are_all-append test [] ys = refl
are_all-append test (x ∷ xs) ys = ap (λ b. test x && b) (are_all-append test xs ys) ∙ and_assoc (test x) (are_all test xs) (are_all test ys)

begun-append : (first other : ℕ → Bool) (xs : List ℕ) (b : ℕ) → (begins first xs && are_all other xs) ≡ true → other b ≡ true →
    (begins first (xs ++ b ∷ []) && are_all other (xs ++ b ∷ [])) ≡ true
begun-append first other [] b holds more = cc
begun-append first other (x ∷ xs) b holds more =
    ap (λ t. first x && t) (are_all-append other (x ∷ xs) (b ∷ []))
    ∙ ap (λ t. first x && (are_all other (x ∷ xs) && (t && true))) more
    ∙ ap (λ t. first x && t) (and_true (are_all other (x ∷ xs)))
    ∙ holds

-- a name or a number that goes on
pub begun-next : (first other : ℕ → Bool) (text : List ℕ) (start end : ℕ) → start ≤ end → end < length text →
    (begins first (span text start end) && are_all other (span text start end)) ≡ true → other (get_or text end 0) ≡ true →
    (begins first (span text start (end + 1)) && are_all other (span text start (end + 1))) ≡ true
begun-next first other text start end ordered within holds more =
    ap (λ xs. begins first xs && are_all other xs) (span-next text start end ordered within)
    ∙ begun-append first other (span text start end) (get_or text end 0) holds more

-- a name or a number of one byte
pub begun-one : (first other : ℕ → Bool) (text : List ℕ) (at : ℕ) → at < length text → first (get_or text at 0) ≡ true →
    other (get_or text at 0) ≡ true → (begins first (span text at (at + 1)) && are_all other (span text at (at + 1))) ≡ true
begun-one first other text at within e f =
    ap (λ xs. begins first xs && are_all other xs) (span-one text at within)
    ∙ ap (λ b. b && (other (get_or text at 0) && true)) e
    ∙ ap (λ b. b && true) f

-- the first byte from a place on is the one at that place
pub begins-drop : (test : ℕ → Bool) (text : List ℕ) (at : ℕ) → at < length text → begins test (drop at text) ≡ test (get_or text at 0)
begins-drop test text at within = ap (begins test) (drop_more text at 0 within)

-- at the end of a text nothing begins
pub begins-end : (test : ℕ → Bool) (text : List ℕ) → begins test (drop (length text) text) ≡ false
begins-end test text = ap (begins test) (drop-length text)

-- whatever splits the rest completes these tokens
abbrev pub Completes : List ℕ → List Token → ℕ → Type 0
Completes text tokens at = (ts : List Token) (stop : Option InputFault) → SplitsFrom text at ts stop → SplitsFrom text 0 (tokens ++ ts) stop

-- behind a gap a text stops at a fault of tokens
pub StopsAt-fault : (text : List ℕ) (from at : ℕ) (fault : InputFault) → IsGap text from at → IsFaultAt text at fault → StopsAt text from (Some fault)
StopsAt-fault text from at (faults.BadByte place) gap h = subst (λ n. IsGap text from n × IsBadByte text n) (sym h.0) (gap, h.1)
StopsAt-fault text from at (faults.NumberTooWide place) gap h = subst (λ n. IsGap text from n × IsWideNumber text n) (sym h.0) (gap, h.1)
StopsAt-fault text from at fault gap h = absurd h
