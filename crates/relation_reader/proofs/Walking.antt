-- The first fault with a place, one token on.
use Rattle.std.proofs.Common.{ℕ, zero, suc, ◌≡◌, ◌+◌, ◌-◌, ◌*◌, ◌<◌, ◌≤◌, Bool, true, false, List, [], ◌∷◌, ◌++◌, length, take, drop, get_or, nat_lt}
use Rattle.std.proofs.Common.{Option, Some, None, is_none, is_some, inl, inr, refl, sym, ap, ◌∙◌, append_assoc, arith}
use Rattle.std.proofs.lemmas.Bool.{cases_lt}
use Rattle.std.proofs.lemmas.List.{drop_more}
use Rattle.relation_reader.specs.declared.fault.InputFault.{InputFault}
use Rattle.relation_reader.specs.declared.fault.InputFault.TheVariants as faults
use Rattle.relation_reader.specs.declared.token.Token.{Token}
use Rattle.relation_reader.specs.declared.token.Mark.{Mark}
use Rattle.relation_reader.specs.declared.token.Mark.TheVariants as marks
use Rattle.relation_reader.specs.declared.place.Place.{Place}
use Rattle.relation_reader.specs.Tokens.{IsToken, SplitsFrom, is_text, span}
use Rattle.relation_reader.specs.Gathering.{IsInside}
use Rattle.relation_reader.specs.Grammar.{lexeme_of, next_place, piece_of, refusal}
use Rattle.relation_reader.specs.Meaning.{Placed, faults_from, faults_here, first_of, is_exponent, pieces_of, place_fault, placed_from, when}
use Rattle.relation_reader.specs.Walk.{HasPassed, placed}
use Rattle.relation_reader.proofs.Accepted.{first_of-later}

is_text-none : (mark : Mark) → is_text mark [] ≡ false
is_text-none marks.Name = refl
is_text-none (marks.Number value) = refl
is_text-none mark = refl

token-some : (text : List ℕ) (t : Token) → IsToken text t → t.start < t.end
token-some text t token = elim (cases_lt t.start t.end) [
  | inl more ↦ more
  | inr less ↦ absurd (
      let e : t.end - t.start ≡ 0 = omega arith in
      let f : false ≡ true = sym (is_text-none t.mark) ∙ ap (λ n. is_text t.mark (take n (drop t.start text))) (sym e) ∙ token.spelled in
      cc)
]

-- the bytes of each token are some of the text
pub token-within : (text : List ℕ) (from : ℕ) (ts : List Token) (stop : Option InputFault) (i : ℕ) (d : Token) →
    SplitsFrom text from ts stop → i < length ts → IsInside text (get_or ts i d)
token-within text from [] stop i d splits below = absurd (omega arith)
token-within text from (t ∷ ts) stop zero d splits below =
    let more = token-some text t splits.1 in
    record { order = omega arith; within = splits.1.within }
token-within text from (t ∷ ts) stop (suc i) d splits below =
    let less : i < length ts = omega arith in
    token-within text t.end ts stop i d splits.2 less

-- there are no more tokens than bytes
pub tokens-few : (text : List ℕ) (from : ℕ) (ts : List Token) (stop : Option InputFault) → from ≤ length text → SplitsFrom text from ts stop
    → from + length ts ≤ length text
tokens-few text from [] stop inside splits = omega arith
tokens-few text from (t ∷ ts) stop inside splits =
    let more = token-some text t splits.1 in
    let ordered : from ≤ t.start = splits.0.0 in
    omega (arith, tokens-few text t.end ts stop splits.1.within splits.2)

first_of-some : (xs ys : List (Option InputFault)) (found : Option InputFault) → first_of xs ≡ found → is_some found ≡ true → first_of (xs ++ ys) ≡ found
first_of-some [] ys found e some = absurd (let f : false ≡ true = ap is_some e ∙ some in cc)
first_of-some (None ∷ xs) ys found e some = first_of-some xs ys found e some
first_of-some (Some fault ∷ xs) ys found e some = e

first_of-none : (xs ys : List (Option InputFault)) (found : Option InputFault) → first_of xs ≡ found → is_some found ≡ false → first_of (xs ++ ys) ≡ first_of ys
first_of-none [] ys found e none = refl
first_of-none (None ∷ xs) ys found e none = first_of-none xs ys found e none
first_of-none (Some fault ∷ xs) ys found e none = absurd (let f : true ≡ false = ap is_some e ∙ none in cc)

pieces_of-cons : (text : List ℕ) (t : Token) (ts : List Token) (stop : Option InputFault) →
    pieces_of text (t ∷ ts) stop ≡ piece_of text t ∷ pieces_of text ts stop
pieces_of-cons text t ts None = refl
pieces_of-cons text t ts (Some fault) = refl

-- the token with the bytes that it has in a text
abbrev pub placed_in : List ℕ → Place → Token → Placed
placed_in text place t = placed place t (span text t.start t.end)

-- the tokens behind it, at their places
abbrev pub behind : List ℕ → Option InputFault → Place → Token → List Token → List Placed
behind text stop place t ts = placed_from (next_place place (lexeme_of t.mark (span text t.start t.end))) (pieces_of text ts stop)

-- the first fault from some tokens on
abbrev pub first_from : List ℕ → Option InputFault → List Placed → Option Place → List Token → Option InputFault
first_from text stop before place ts = first_of (faults_from before (placed_from place (pieces_of text ts stop)) ++ stop ∷ [])

first_from-cons : (text : List ℕ) (stop : Option InputFault) (before : List Placed) (place : Place) (t : Token) (ts : List Token) →
    first_from text stop before (Some place) (t ∷ ts) ≡ first_of (faults_here before (placed_in text place t) (behind text stop place t ts)
    ++ (faults_from (before ++ placed_in text place t ∷ []) (behind text stop place t ts) ++ stop ∷ []))
first_from-cons text stop before place t ts =
    ap (λ ps. first_of (faults_from before (placed_from (Some place) ps) ++ stop ∷ [])) (pieces_of-cons text t ts stop)
    ∙ ap first_of (append_assoc (faults_here before (placed_in text place t) (behind text stop place t ts))
    (faults_from (before ++ placed_in text place t ∷ []) (behind text stop place t ts)) (stop ∷ []))

token-next : (tokens : List Token) (at : ℕ) (t : Token) → at < length tokens → t ≡ get_or tokens at t → drop at tokens ≡ t ∷ drop (at + 1) tokens
token-next tokens at t below is = drop_more tokens at t below ∙ ap (λ u. u ∷ drop (at + 1) tokens) (sym is)

-- the walk has come to a place by some tokens without a fault
pub record Walks (text : List ℕ) (tokens : List Token) (stop : Option InputFault) (at : ℕ) (place : Place) (names : List (List ℕ))
    (begun letters : ℕ) : Type 0 where
  pub before : List Placed
  pub passed : HasPassed names begun letters before
  pub few : begun ≤ at
  pub short : letters ≤ 256 * at
  pub first : place_fault (pieces_of text tokens stop) stop ≡ first_from text stop before (Some place) (drop at tokens)

-- what is found at the next token, behind the tokens that it has come by
pub record Finds (text : List ℕ) (tokens : List Token) (stop : Option InputFault) (at : ℕ) (place : Place) (t : Token)
    (before : List Placed) (found : Option InputFault) : Type 0 where
  pub below : at < length tokens
  pub is : t ≡ get_or tokens at t
  pub here : found ≡ first_of (faults_here before (placed_in text place t) (behind text stop place t (drop (at + 1) tokens)))

-- a fault at the next token is the first
pub found-first : (text : List ℕ) (tokens : List Token) (stop : Option InputFault) (at : ℕ) (place : Place) (names : List (List ℕ))
    (begun letters : ℕ) (t : Token) (found : Option InputFault) (known : Walks text tokens stop at place names begun letters) →
    Finds text tokens stop at place t known.before found → is_some found ≡ true → found ≡ place_fault (pieces_of text tokens stop) stop
found-first text tokens stop at place names begun letters t found known finds some =
    let ts = drop (at + 1) tokens in
    sym (known.first
    ∙ ap (first_from text stop known.before (Some place)) (token-next tokens at t finds.below finds.is)
    ∙ first_from-cons text stop known.before place t ts
    ∙ first_of-some (faults_here known.before (placed_in text place t) (behind text stop place t ts))
    (faults_from (known.before ++ placed_in text place t ∷ []) (behind text stop place t ts) ++ stop ∷ []) found (sym finds.here) some)

-- where none stands there, the walk goes on
pub Walks-next : (text : List ℕ) (tokens : List Token) (stop : Option InputFault) (at : ℕ) (place : Place) (names : List (List ℕ))
    (begun letters : ℕ) (t : Token) (found : Option InputFault) (known : Walks text tokens stop at place names begun letters) →
    Finds text tokens stop at place t known.before found → is_some found ≡ false →
    (next : Place) (names' : List (List ℕ)) (begun' letters' : ℕ) →
    next_place place (lexeme_of t.mark (span text t.start t.end)) ≡ Some next →
    HasPassed names' begun' letters' (known.before ++ placed_in text place t ∷ []) → begun' ≤ begun + 1 → letters' ≤ letters + 256 →
    Walks text tokens stop (at + 1) next names' begun' letters'
Walks-next text tokens stop at place names begun letters t found known finds none next names' begun' letters' comes passed few short =
    let ts = drop (at + 1) tokens in
    record {
      before = known.before ++ placed_in text place t ∷ [];
      passed = passed;
      few = omega (arith, known.few);
      short = omega (arith, known.short);
      first = known.first
          ∙ ap (first_from text stop known.before (Some place)) (token-next tokens at t finds.below finds.is)
          ∙ first_from-cons text stop known.before place t ts
          ∙ first_of-none (faults_here known.before (placed_in text place t) (behind text stop place t ts))
          (faults_from (known.before ++ placed_in text place t ∷ []) (behind text stop place t ts) ++ stop ∷ []) found (sym finds.here)
          none
          ∙ ap (λ p. first_from text stop (known.before ++ placed_in text place t ∷ []) p ts) comes;
    }

none-first : (next : Option Place) (fault : InputFault) (others : List (Option InputFault)) (found : Option InputFault) →
    found ≡ first_of (when (is_none next) fault ∷ others) → is_some found ≡ false → is_some next ≡ true
none-first None fault others found e none = absurd (let f : true ≡ false = sym (ap is_some e) ∙ none in cc)
none-first (Some place) fault others found e none = refl

is_none-some : (found : Option InputFault) → is_some found ≡ false → found ≡ None
is_none-some None none = refl
is_none-some (Some fault) none = absurd (let f : true ≡ false = none in cc)

first_of-drop : (n : ℕ) (xs : List (Option InputFault)) → first_of xs ≡ None → first_of (drop n xs) ≡ None
first_of-drop zero xs none = none
first_of-drop (suc n) [] none = none
first_of-drop (suc n) (x ∷ xs) none = first_of-drop n xs (first_of-later (x ∷ []) xs none)

when-false : (b : Bool) (fault : InputFault) (others : List (Option InputFault)) → first_of (when b fault ∷ others) ≡ None → b ≡ false
when-false true fault others none = absurd (let f : Some fault ≡ None = none in cc)
when-false false fault others none = refl

module _ {text : List ℕ} {tokens : List Token} {stop : Option InputFault} {at : ℕ} {place : Place} {t : Token} {before : List Placed}
    {found : Option InputFault} (finds : Finds text tokens stop at place t before found) (none : is_some found ≡ false) where
  -- a token without a fault may come
  pub none-comes : is_some (next_place place (lexeme_of t.mark (span text t.start t.end))) ≡ true
  none-comes = none-first (next_place place (lexeme_of t.mark (span text t.start t.end))) (refusal place _ t.start) _ found finds.here none

  -- and is no exponent above 256
  pub none-small : is_exponent (nat_lt 256) place (lexeme_of t.mark (span text t.start t.end)) ≡ false
  none-small =
      let after = behind text stop place t (drop (at + 1) tokens) in
      when-false (is_exponent (nat_lt 256) place (lexeme_of t.mark (span text t.start t.end))) (faults.ExponentTooLarge t.start) _
      (first_of-drop 7 (faults_here before (placed_in text place t) after) (sym finds.here ∙ is_none-some found none))
