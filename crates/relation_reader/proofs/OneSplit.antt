-- A text has no second split: where a gap ends, which mark a byte begins and where a token ends are each told once.
use Rattle.std.proofs.Common.{ℕ, suc, ◌≡◌, ◌≢◌, ◌+◌, ◌-◌, ◌^◌, ◌<◌, ◌≤◌, Bool, true, false, if◌then◌else◌, ◌&&◌, ◌||◌, ◌==◌, List, [], ◌∷◌, ◌++◌}
use Rattle.std.proofs.Common.{length, take, drop, get_or, bytes_eq, Option, Some, None, inl, inr, refl, sym, ap, subst, ◌∙◌, length-drop, arith}
use Rattle.std.proofs.Math.Seq.{take-add}
use Rattle.std.proofs.lemmas.List.{drop_more, drop-drop, take-append-drop, length-take}
use Rattle.std.proofs.lemmas.Bool.{cases_Bool, eqb-true}
use Rattle.std.proofs.lemmas.Bool.Decides.{nat_tests}
use Rattle.std.proofs.lemmas.Slice.Eq.{bytes_eq-Decides}
use Rattle.relation_reader.specs.declared.token.Mark.{Mark}
use Rattle.relation_reader.specs.declared.token.Mark.TheVariants as marks
use Rattle.relation_reader.specs.declared.token.Token.{Token}
use Rattle.relation_reader.specs.declared.fault.InputFault.{InputFault}
use Rattle.relation_reader.specs.declared.fault.InputFault.TheVariants as faults
use Rattle.relation_reader.specs.Tokens.{between, comment, broken, IsBadByte, IsGap, IsNarrow, IsToken, IsWideNumber, SplitsFrom, StopsAt, after_byte}
use Rattle.relation_reader.specs.Tokens.{after_bytes, are_all, begins, goes_on, is_digit, is_letter, is_mark_byte, is_name_byte, is_text, span}
use Rattle.relation_reader.specs.Tokens.{with_digits}
use Rattle.relation_reader.specs.Scan.{IsFaultAt}
use Rattle.relation_reader.proofs.Numbers.{neither_less}
use Rattle.relation_reader.proofs.Spans.{after_bytes-append, are_all-append, begins-drop}
use Rattle.relation_reader.proofs.TextSplits.{BreaksAt, same_number, whole}

span-cons : (text : List ℕ) (s e : ℕ) → s < length text → s < e → span text s e ≡ get_or text s 0 ∷ span text (s + 1) e
span-cons text s e inside more =
    let k : e - s ≡ suc (e - (s + 1)) = omega arith in
    ap (take (e - s)) (drop_more text s 0 inside) ∙ ap (λ n. take n (get_or text s 0 ∷ drop (s + 1) text)) k

drop-on : (text : List ℕ) (s m : ℕ) → s ≤ m → drop (m - s) (drop s text) ≡ drop m text
drop-on text s m ordered =
    let j : s + (m - s) ≡ m = omega arith in
    drop-drop (m - s) s text ∙ ap (λ n. drop n text) j

span-append : (text : List ℕ) (s m e : ℕ) → s ≤ m → m ≤ e → span text s e ≡ span text s m ++ span text m e
span-append text s m e ordered after =
    let k : e - s ≡ (m - s) + (e - m) = omega arith in
    ap (λ n. take n (drop s text)) k
    ∙ take-add (m - s) (e - m) (drop s text)
    ∙ ap (λ xs. take (m - s) (drop s text) ++ take (e - m) xs) (drop-on text s m ordered)

drop-span : (text : List ℕ) (s m : ℕ) → s ≤ m → drop s text ≡ span text s m ++ drop m text
drop-span text s m ordered =
    sym (take-append-drop (m - s) (drop s text))
    ∙ ap (λ xs. take (m - s) (drop s text) ++ xs) (drop-on text s m ordered)

broken-stays : (ys : List ℕ) → after_bytes broken ys ≡ broken
broken-stays [] = refl
broken-stays (y ∷ ys) = broken-stays ys

gap-ends : (xs ys : List ℕ) (b : ℕ) → after_bytes between xs ≡ between → after_byte between b ≡ broken → after_bytes between (xs ++ (b ∷ ys)) ≡ broken
gap-ends xs ys b e f =
    after_bytes-append between xs (b ∷ ys)
    ∙ ap (λ g. after_bytes g (b ∷ ys)) e
    ∙ ap (λ g. after_bytes g ys) f
    ∙ broken-stays ys

no-break : (text : List ℕ) (from at : ℕ) → StopsAt text from None → BreaksAt text from at → ⊥
no-break text from at stops b =
    stops.1 (ap (after_bytes between) (drop-span text from at b.gap.0 ∙ ap (λ xs. span text from at ++ xs) (drop_more text at 0 b.within))
    ∙ gap-ends (span text from at) (drop (at + 1) text) (get_or text at 0) b.gap.1 b.breaks)

no-earlier : (text : List ℕ) (from a b : ℕ) → BreaksAt text from a → BreaksAt text from b → a < b → ⊥
no-earlier text from a b h k less =
    let ordered : a ≤ b = omega arith in
    whole (sym k.gap.1 ∙ ap (after_bytes between) (span-append text from a b h.gap.0 ordered
    ∙ ap (λ xs. span text from a ++ xs) (span-cons text a b h.within less))
    ∙ gap-ends (span text from a) (span text (a + 1) b) (get_or text a 0) h.gap.1 h.breaks)

breaks-once : (text : List ℕ) (from a b : ℕ) → BreaksAt text from a → BreaksAt text from b → a ≡ b
breaks-once text from a b h k = neither_less a b (no-earlier text from a b h k) (no-earlier text from b a k h)

and_first : (a b : Bool) → (a && b) ≡ true → a ≡ true
and_first true b e = refl
and_first false b e = e

and_second : (a b : Bool) → (a && b) ≡ true → b ≡ true
and_second true b e = e
and_second false b e = absurd (let f : false ≡ true = e in cc)

or_first : (a b : Bool) → (a || b) ≡ false → a ≡ false
or_first true b e = e
or_first false b e = refl

or_second : (a b : Bool) → (a || b) ≡ false → b ≡ false
or_second true b e = absurd (let f : true ≡ false = e in cc)
or_second false b e = e

-- what a mark begins with, by a number: the byte of a mark of one byte
abbrev kind : Mark → ℕ
kind marks.Name = 0
kind (marks.Number value) = 1
kind marks.Plus = 43
kind marks.Minus = 45
kind marks.Star = 42
kind marks.Caret = 94
kind marks.Comma = 44
kind marks.Semicolon = 59
kind marks.Colon = 58
kind marks.End = 9

abbrev byte_kind : ℕ → ℕ
byte_kind b = if is_letter b then 0 else if is_digit b then 1 else if is_mark_byte b then b else 9

abbrev value_of : Mark → ℕ
value_of (marks.Number value) = value
value_of mark = 0

abbrev value_at : ℕ → List ℕ → ℕ
value_at k bytes = if k == 1 then with_digits 0 bytes else 0

abbrev goes : ℕ → ℕ → Bool
goes k b = if k == 0 then is_name_byte b else if k == 1 then is_digit b else false

abbrev mark_from : ℕ → ℕ → Mark
mark_from k value = if k == 0 then marks.Name else if k == 1 then marks.Number value else if k == 43 then marks.Plus else if k == 45 then
    marks.Minus else if k == 42 then marks.Star else if k == 94 then marks.Caret else if k == 44 then marks.Comma else if k == 59 then
    marks.Semicolon else if k == 58 then marks.Colon else marks.End

mark-is : (mark : Mark) → mark ≡ mark_from (kind mark) (value_of mark)
mark-is marks.Name = refl
mark-is mark = refl

letter-kind : (b : ℕ) → is_letter b ≡ true → byte_kind b ≡ 0
letter-kind b e = ap (λ t. if t then 0 else if is_digit b then 1 else if is_mark_byte b then b else 9) e

digit-letter : (b : ℕ) → is_digit b ≡ true → is_letter b ≡ false
digit-letter b e = grind (arith, nat_tests)

digit-kind : (b : ℕ) → is_digit b ≡ true → byte_kind b ≡ 1
digit-kind b e =
    ap (λ t. if t then 0 else if is_digit b then 1 else if is_mark_byte b then b else 9) (digit-letter b e)
    ∙ ap (λ t. if t then 1 else if is_mark_byte b then b else 9) e

bad-kind : (b : ℕ) → (is_letter b || is_digit b || is_mark_byte b) ≡ false → byte_kind b ≡ 9
bad-kind b e =
    ap (λ t. if t then 0 else if is_digit b then 1 else if is_mark_byte b then b else 9)
    (or_first (is_letter b) (is_digit b) (or_first (is_letter b || is_digit b) (is_mark_byte b) e))
    ∙ ap (λ t. if t then 1 else if is_mark_byte b then b else 9) (or_second (is_letter b) (is_digit b)
    (or_first (is_letter b || is_digit b) (is_mark_byte b) e))
    ∙ ap (λ t. if t then b else 9) (or_second (is_letter b || is_digit b) (is_mark_byte b) e)

other_byte : (test : ℕ → Bool) (b c : ℕ) → test b ≡ true → test c ≡ false → (b == c) ≡ false
other_byte test b c e f = elim (cases_Bool (b == c)) [
  | inl same ↦ absurd (let z : true ≡ false = sym e ∙ ap test (eqb-true b c same) ∙ f in cc)
  | inr other ↦ other
]

breaks-by : (test : ℕ → Bool) (b : ℕ) → test b ≡ true → test 32 ≡ false → test 9 ≡ false → test 10 ≡ false → test 13 ≡ false →
    test 37 ≡ false → after_byte between b ≡ broken
breaks-by test b e f g h i j =
    ap (λ t. if ((t || b == 9) || b == 10) || b == 13 then between else if b == 37 then comment else broken) (other_byte test b 32 e f)
    ∙ ap (λ t. if (t || b == 10) || b == 13 then between else if b == 37 then comment else broken) (other_byte test b 9 e g)
    ∙ ap (λ t. if t || b == 13 then between else if b == 37 then comment else broken) (other_byte test b 10 e h)
    ∙ ap (λ t. if t then between else if b == 37 then comment else broken) (other_byte test b 13 e i)
    ∙ ap (λ t. if t then comment else broken) (other_byte test b 37 e j)

kind-breaks : (b : ℕ) → byte_kind b ≢ 9 → after_byte between b ≡ broken
kind-breaks b known = elim (cases_Bool (is_letter b)) [
  | inl e ↦ breaks-by is_letter b e refl refl refl refl refl
  | inr not_letter ↦ elim (cases_Bool (is_digit b)) [
    | inl e ↦ breaks-by is_digit b e refl refl refl refl refl
    | inr not_digit ↦ elim (cases_Bool (is_mark_byte b)) [
      | inl e ↦ breaks-by is_mark_byte b e refl refl refl refl refl
      | inr not_mark ↦ absurd (known (bad-kind b (ap (λ t. (t || is_digit b) || is_mark_byte b) not_letter
          ∙ ap (λ t. t || is_mark_byte b) not_digit ∙ not_mark)))
    ]
  ]
]

begins-some : (test : ℕ → Bool) (xs : List ℕ) → begins test xs ≡ true → 0 < length xs
begins-some test [] e = absurd (let f : false ≡ true = e in cc)
begins-some test (x ∷ xs) e = omega arith

span-room : (text : List ℕ) (s e : ℕ) → length (span text s e) ≤ e - s
span-room text s e = omega (arith, length-take (e - s) (drop s text))

span-rest-room : (text : List ℕ) (s e : ℕ) → length (span text s e) ≤ length text - s
span-rest-room text s e = omega (arith, length-take (e - s) (drop s text), length-drop s text)

-- what the first byte of a span says
record Begins (test : ℕ → Bool) (text : List ℕ) (s e : ℕ) : Type 0 where
  within : s < length text
  more : s < e
  here : test (get_or text s 0) ≡ true

begins-span : (test : ℕ → Bool) (text : List ℕ) (s e : ℕ) → begins test (span text s e) ≡ true → Begins test text s e
begins-span test text s e h =
    let filled = begins-some test (span text s e) h in
    let within : s < length text = omega (arith, filled, span-rest-room text s e) in
    let more : s < e = omega (arith, filled, span-room text s e) in
    record { within = within; more = more; here = sym (ap (begins test) (span-cons text s e within more)) ∙ h }

-- what the bytes of a token say
record Spells (mark : Mark) (text : List ℕ) (s e : ℕ) : Type 0 where
  within : s < length text
  more : s < e
  kind_is : byte_kind (get_or text s 0) ≡ kind mark
  tail : are_all (goes (kind mark)) (span text (s + 1) e) ≡ true
  value_is : value_of mark ≡ value_at (kind mark) (span text s e)
  known : kind mark ≢ 9

tail-of : (test : ℕ → Bool) (text : List ℕ) (s e : ℕ) → s < length text → s < e → are_all test (span text s e) ≡ true →
    are_all test (span text (s + 1) e) ≡ true
tail-of test text s e within more h = and_second (test (get_or text s 0)) (are_all test (span text (s + 1) e))
    (sym (ap (are_all test) (span-cons text s e within more)) ∙ h)

record IsByte (c : ℕ) (text : List ℕ) (s e : ℕ) : Type 0 where
  within : s < length text
  more : s < e
  here : get_or text s 0 ≡ c
  tail : span text (s + 1) e ≡ []

one-byte : (c : ℕ) (text : List ℕ) (s e : ℕ) → bytes_eq (span text s e) (c ∷ []) ≡ true → IsByte c text s e
one-byte c text s e h =
    let q : span text s e ≡ c ∷ [] = (bytes_eq-Decides (span text s e) (c ∷ [])).0 h in
    let b = begins-span (λ x. x == c) text s e (ap (begins (λ x. x == c)) q ∙ same_number c) in
    let z : get_or text s 0 ∷ span text (s + 1) e ≡ c ∷ [] = sym (span-cons text s e b.within b.more) ∙ q in
    record { within = b.within; more = b.more; here = eqb-true (get_or text s 0) c b.here; tail = cc }

-- a mark of one byte
spells-byte : (mark : Mark) (text : List ℕ) (s e : ℕ) → bytes_eq (span text s e) (kind mark ∷ []) ≡ true → byte_kind (kind mark) ≡ kind mark →
    value_of mark ≡ value_at (kind mark) (span text s e) → kind mark ≢ 9 → Spells mark text s e
spells-byte mark text s e h own value known = let b = one-byte (kind mark) text s e h in
    record {
      within = b.within;
      more = b.more;
      kind_is = ap byte_kind b.here ∙ own;
      tail = ap (are_all (goes (kind mark))) b.tail;
      value_is = value;
      known = known;
    }

spells : (mark : Mark) (text : List ℕ) (s e : ℕ) → is_text mark (span text s e) ≡ true → Spells mark text s e
spells marks.Name text s e h =
    let x = span text s e in
    let b = begins-span is_letter text s e (and_first (begins is_letter x) (are_all is_name_byte x) h) in
    record {
      within = b.within;
      more = b.more;
      kind_is = letter-kind (get_or text s 0) b.here;
      tail =
          tail-of is_name_byte text s e b.within b.more (and_second (begins is_letter x) (are_all is_name_byte x) h);
      value_is = refl;
      known = λ f. omega arith;
    }
spells (marks.Number value) text s e h =
    let x = span text s e in
    let n : (begins is_digit x && are_all is_digit x) ≡ true = and_first (begins is_digit x && are_all is_digit x) (with_digits 0 x == value) h in
    let b = begins-span is_digit text s e (and_first (begins is_digit x) (are_all is_digit x) n) in
    record {
      within = b.within;
      more = b.more;
      kind_is = digit-kind (get_or text s 0) b.here;
      tail =
          tail-of is_digit text s e b.within b.more (and_second (begins is_digit x) (are_all is_digit x) n);
      value_is =
          sym (eqb-true (with_digits 0 x) value (and_second (begins is_digit x && are_all is_digit x) (with_digits 0 x == value) h));
      known = λ f. omega arith;
    }
spells marks.End text s e h = absurd (let f : false ≡ true = h in cc)
spells mark text s e h = spells-byte mark text s e h refl refl (λ f. omega arith)

nothing-goes : (rest : List ℕ) → begins (λ b. false) rest ≡ false
nothing-goes [] = refl
nothing-goes (b ∷ rest) = refl

longest-of : (mark : Mark) (rest : List ℕ) → goes_on mark rest ≡ false → begins (goes (kind mark)) rest ≡ false
longest-of marks.Name rest h = h
longest-of (marks.Number value) rest h = h
longest-of mark rest h = nothing-goes rest

no-shorter : (test : ℕ → Bool) (text : List ℕ) (a e f : ℕ) → a ≤ e → f ≤ length text → are_all test (span text a f) ≡ true →
    begins test (drop e text) ≡ false → e < f → ⊥
no-shorter test text a e f ordered within all longest less =
    let inside : e < length text = omega arith in
    let after : e ≤ f = omega arith in
    let split = span-append text a e f ordered after ∙ ap (λ xs. span text a e ++ xs) (span-cons text e f inside less) in
    let both : (are_all test (span text a e) && are_all test (get_or text e 0 ∷ span text (e + 1) f)) ≡ true =
    sym (are_all-append test (span text a e) (get_or text e 0 ∷ span text (e + 1) f)) ∙ sym (ap (are_all test) split) ∙ all in
    let here : test (get_or text e 0) ≡ true = and_first (test (get_or text e 0)) (are_all test (span text (e + 1) f))
    (and_second (are_all test (span text a e)) (are_all test (get_or text e 0 ∷ span text (e + 1) f)) both) in
    let z : true ≡ false = sym here ∙ sym (begins-drop test text e inside) ∙ longest in
    cc

ends-once : (test : ℕ → Bool) (text : List ℕ) (a e f : ℕ) → a ≤ e → a ≤ f → e ≤ length text → f ≤ length text →
    are_all test (span text a e) ≡ true → are_all test (span text a f) ≡ true → begins test (drop e text) ≡ false →
    begins test (drop f text) ≡ false → e ≡ f
ends-once test text a e f i j k l all every longest last =
    neither_less e f (no-shorter test text a e f i l every longest) (no-shorter test text a f e j k all last)

-- two marks that are spelled from one place on
same-at : (text : List ℕ) (s : ℕ) (m n : Mark) (e f : ℕ) → e ≤ length text → f ≤ length text → is_text m (span text s e) ≡ true →
    is_text n (span text s f) ≡ true → goes_on m (drop e text) ≡ false → goes_on n (drop f text) ≡ false → (m ≡ n) × (e ≡ f)
same-at text s m n e f inside within spelled written longest last =
    let a = spells m text s e spelled in
    let b = spells n text s f written in
    let k : kind m ≡ kind n = sym a.kind_is ∙ b.kind_is in
    let i : s + 1 ≤ e = omega (arith, a.more) in
    let j : s + 1 ≤ f = omega (arith, b.more) in
    let tail : are_all (goes (kind m)) (span text (s + 1) f) ≡ true = subst (λ (c : ℕ). are_all (goes c) (span text (s + 1) f) ≡ true) (sym k) b.tail in
    let stops : begins (goes (kind m)) (drop f text) ≡ false = subst (λ (c : ℕ). begins (goes c) (drop f text) ≡ false) (sym k)
    (longest-of n (drop f text) last) in
    let ends : e ≡ f = ends-once (goes (kind m)) text (s + 1) e f i j inside within a.tail tail (longest-of m (drop e text) longest) stops in
    let values : value_of m ≡ value_of n = a.value_is ∙ (λ h. value_at (k h) (span text s (ends h))) ∙ sym b.value_is in
    (mark-is m ∙ (λ h. mark_from (k h) (values h)) ∙ sym (mark-is n), ends)

token-once : (text : List ℕ) (t u : Token) → IsToken text t → IsToken text u → t.start ≡ u.start → t ≡ u
token-once text t u a b e =
    let spelled : is_text u.mark (span text t.start u.end) ≡ true = subst (λ (s : ℕ). is_text u.mark (span text s u.end) ≡ true) (sym e) b.spelled in
    let r = same-at text t.start t.mark u.mark t.end u.end a.within b.within a.spelled spelled a.longest b.longest in
    λ i. record { mark = r.0 i; start = e i; end = r.1 i }

token-breaks : (text : List ℕ) (from : ℕ) (t : Token) → IsGap text from t.start → IsToken text t → BreaksAt text from t.start
token-breaks text from t gap h =
    let a = spells t.mark text t.start t.end h.spelled in
    record { gap = gap; within = a.within; breaks = kind-breaks (get_or text t.start 0) (λ f. a.known (sym a.kind_is ∙ f)) }

-- a number that is too wide is spelled as its mark
wide-spelled : (text : List ℕ) (at : ℕ) (w : IsWideNumber text at) → is_text (marks.Number (with_digits 0 (span text at w.end))) (span text at w.end) ≡ true
wide-spelled text at w = ap (λ t. t && with_digits 0 (span text at w.end) == with_digits 0 (span text at w.end)) w.spelled
    ∙ same_number (with_digits 0 (span text at w.end))

wide-kind : (text : List ℕ) (at : ℕ) (w : IsWideNumber text at) → byte_kind (get_or text at 0) ≡ 1
wide-kind text at w = (spells (marks.Number (with_digits 0 (span text at w.end))) text at w.end (wide-spelled text at w)).kind_is

wide-within : (text : List ℕ) (at : ℕ) (w : IsWideNumber text at) → at < length text
wide-within text at w = (spells (marks.Number (with_digits 0 (span text at w.end))) text at w.end (wide-spelled text at w)).within

token-no-wide : (text : List ℕ) (t : Token) → IsToken text t → IsWideNumber text t.start → ⊥
token-no-wide text t h w =
    let n = with_digits 0 (span text t.start w.end) in
    let r = same-at text t.start t.mark (marks.Number n) t.end w.end h.within w.within h.spelled (wide-spelled text t.start w) h.longest w.longest in
    let narrow : n < 2 ^ 128 = subst IsNarrow r.0 h.narrow in
    omega (arith, w.wide)

token-no-bad : (text : List ℕ) (t : Token) → IsToken text t → IsBadByte text t.start → ⊥
token-no-bad text t h bad =
    let a = spells t.mark text t.start t.end h.spelled in
    a.known (sym a.kind_is ∙ bad-kind (get_or text t.start 0) bad.no_token)

token-no-fault : (text : List ℕ) (t : Token) (at : ℕ) (fault : InputFault) → IsToken text t → t.start ≡ at → IsFaultAt text at fault → ⊥
token-no-fault text t at (faults.BadByte place) h e f = token-no-bad text t h (subst (IsBadByte text) (sym e) f.1)
token-no-fault text t at (faults.NumberTooWide place) h e f = token-no-wide text t h (subst (IsWideNumber text) (sym e) f.1)
token-no-fault text t at fault h e f = f

abbrev fault_from : ℕ → ℕ → InputFault
fault_from k at = if k == 1 then faults.NumberTooWide at else faults.BadByte at

fault-is : (text : List ℕ) (at : ℕ) (fault : InputFault) → IsFaultAt text at fault → fault ≡ fault_from (byte_kind (get_or text at 0)) at
fault-is text at (faults.BadByte place) f = ap (λ n. faults.BadByte n) f.0 ∙ ap (λ k. fault_from k at) (sym (bad-kind (get_or text at 0) f.1.no_token))
fault-is text at (faults.NumberTooWide place) f = ap (λ n. faults.NumberTooWide n) f.0 ∙ ap (λ k. fault_from k at) (sym (wide-kind text at f.1))
fault-is text at fault f = absurd f

-- where a fault of tokens ends a text
record Stops (text : List ℕ) (from : ℕ) (fault : InputFault) : Type 0 where
  at : ℕ
  breaks : BreaksAt text from at
  fault_there : IsFaultAt text at fault

stops : (text : List ℕ) (from : ℕ) (fault : InputFault) → StopsAt text from (Some fault) → Stops text from fault
stops text from (faults.BadByte place) h = record {
  at = place;
  breaks = record { gap = h.0; within = h.1.within; breaks = h.1.no_gap };
  fault_there = (refl, h.1);
}
stops text from (faults.NumberTooWide place) h = record {
  at = place;
  breaks =
      record {
        gap = h.0;
        within = wide-within text place h.1;
        breaks =
            kind-breaks (get_or text place 0) (λ f. (let z : 1 ≡ 9 = sym (wide-kind text place h.1) ∙ f in omega arith));
      };
  fault_there = (refl, h.1);
}
stops text from fault h = absurd h

stop-no-token : (text : List ℕ) (from : ℕ) (stop : Option InputFault) (t : Token) → StopsAt text from stop → IsGap text from t.start → IsToken text t → ⊥
stop-no-token text from None t h gap token = no-break text from t.start h (token-breaks text from t gap token)
stop-no-token text from (Some fault) t h gap token =
    let s = stops text from fault h in
    token-no-fault text t s.at fault token (breaks-once text from t.start s.at (token-breaks text from t gap token) s.breaks) s.fault_there

stops-once : (text : List ℕ) (from : ℕ) (s r : Option InputFault) → StopsAt text from s → StopsAt text from r → s ≡ r
stops-once text from None None h k = refl
stops-once text from None (Some fault) h k = absurd (no-break text from (stops text from fault k).at h (stops text from fault k).breaks)
stops-once text from (Some fault) None h k = absurd (no-break text from (stops text from fault h).at k (stops text from fault h).breaks)
stops-once text from (Some fault) (Some other) h k =
    let a = stops text from fault h in
    let b = stops text from other k in
    let e : a.at ≡ b.at = breaks-once text from a.at b.at a.breaks b.breaks in
    ap (λ f. Some f) (fault-is text a.at fault a.fault_there ∙ ap (λ n. fault_from (byte_kind (get_or text n 0)) n) e
    ∙ sym (fault-is text b.at other b.fault_there))

-- a text splits in at most one way from a place on
pub splits-once : (text : List ℕ) (from : ℕ) (ts : List Token) (s : Option InputFault) (us : List Token) (r : Option InputFault) →
    SplitsFrom text from ts s → SplitsFrom text from us r → (ts ≡ us) × (s ≡ r)
splits-once text from [] s [] r h k = (refl, stops-once text from s r h k)
splits-once text from [] s (u ∷ us) r h k = absurd (stop-no-token text from s u h k.0 k.1)
splits-once text from (t ∷ ts) s [] r h k = absurd (stop-no-token text from r t k h.0 h.1)
splits-once text from (t ∷ ts) s (u ∷ us) r h k =
    let e : t.start ≡ u.start = breaks-once text from t.start u.start (token-breaks text from t h.0 h.1) (token-breaks text from u k.0 k.1) in
    let same : t ≡ u = token-once text t u h.1 k.1 e in
    let rest = splits-once text t.end ts s us r h.2 (subst (λ (n : ℕ). SplitsFrom text n us r) (sym (ap (λ (x : Token). x.end) same)) k.2) in
    ((λ i. same i ∷ rest.0 i), rest.1)
