-- Each text has a split into tokens.
use Rattle.std.proofs.Common.{ℕ, zero, suc, ◌≡◌, ◌≢◌, ◌+◌, ◌-◌, ◌^◌, ◌<◌, ◌≤◌, Bool, true, false, ◌&&◌, ◌||◌, ◌==◌, List, [], ◌∷◌, length, drop}
use Rattle.std.proofs.Common.{get_or, Option, Some, None, ◌⊎◌, inl, inr, refl, sym, ap, subst, ◌∙◌, arith}
use Rattle.std.proofs.lemmas.Bool.{cases_Bool, cases_lt, eqb-true}
use Rattle.std.proofs.lemmas.Bool.Decides.{nat_tests}
use Rattle.relation_reader.specs.declared.token.Mark.{Mark}
use Rattle.relation_reader.specs.declared.token.Mark.TheVariants as marks
use Rattle.relation_reader.specs.declared.token.Token.{Token}
use Rattle.relation_reader.specs.declared.fault.InputFault.{InputFault}
use Rattle.relation_reader.specs.declared.fault.InputFault.TheVariants as faults
use Rattle.relation_reader.specs.Tokens.{Gap, between, comment, broken, IsGap, SplitsFrom, StopsAt, after_byte, after_bytes, are_all, begins}
use Rattle.relation_reader.specs.Tokens.{is_digit, is_letter, is_mark_byte, is_name_byte, is_text, span, with_digits}
use Rattle.relation_reader.specs.Scan.{IsFaultAt, IsMarkOf, IsTokenAt}
use Rattle.relation_reader.proofs.Spans.{StopsAt-fault, begins-drop, begins-end, begun-next, begun-one, gap-next, span-none, span-one, span-rest}

-- where the bytes of one kind end
pub record RunEnd (first other : ℕ → Bool) (text : List ℕ) (start : ℕ) : Type 0 where
  pub end : ℕ
  pub more : start < end
  pub within : end ≤ length text
  pub spelled : (begins first (span text start end) && are_all other (span text start end)) ≡ true
  pub longest : begins other (drop end text) ≡ false

run-last : (first other : ℕ → Bool) (text : List ℕ) (start at : ℕ) → start < at → at ≤ length text → length text ≤ at →
    (begins first (span text start at) && are_all other (span text start at)) ≡ true → RunEnd first other text start
run-last first other text start at more within past holds =
    let e : at ≡ length text = omega arith in
    record { end = at; more = more; within = within; spelled = holds; longest = ap (λ n. begins other (drop n text)) e ∙ begins-end other text }

-- a name or a number that began has an end
pub run-end : (first other : ℕ → Bool) (text : List ℕ) (start n at : ℕ) → length text - at ≤ n → start < at → at ≤ length text →
    (begins first (span text start at) && are_all other (span text start at)) ≡ true → RunEnd first other text start
run-end first other text start zero at few more within holds =
    let past : length text ≤ at = omega arith in
    run-last first other text start at more within past holds
run-end first other text start (suc n) at few more within holds = elim (cases_lt at (length text)) [
  | inr past ↦ run-last first other text start at more within past holds
  | inl below ↦ elim (cases_Bool (other (get_or text at 0))) [
    | inl holds_here ↦
        let few' : length text - (at + 1) ≤ n = omega arith in
        let more' : start < at + 1 = omega arith in
        let within' : at + 1 ≤ length text = omega arith in
        let ordered : start ≤ at = omega arith in
        run-end first other text start n (at + 1) few' more' within' (begun-next first other text start at ordered below holds holds_here)
    | inr fails_here ↦ record { end = at; more = more; within = within; spelled = holds; longest = begins-drop other text at below ∙ fails_here }
  ]
]

-- a gap ends at a byte that breaks it
pub record BreaksAt (text : List ℕ) (from at : ℕ) : Type 0 where
  pub gap : IsGap text from at
  pub within : at < length text
  pub breaks : after_byte between (get_or text at 0) ≡ broken

is_broken : (g : Gap) → (g ≡ broken) ⊎ (g ≢ broken)
is_broken between = inr (λ e. cc)
is_broken comment = inr (λ e. cc)
is_broken broken = inl refl

after_comment : (b : ℕ) → after_byte comment b ≢ broken
after_comment b = λ e. elim (cases_Bool (b == 10)) [
  | inl holds_here ↦ (let f = rw holds_here at e in cc)
  | inr fails_here ↦ (let f = rw fails_here at e in cc)
]

breaks-between : (g : Gap) (b : ℕ) → g ≢ broken → after_byte g b ≡ broken → g ≡ between
breaks-between between b whole e = refl
breaks-between comment b whole e = absurd (after_comment b e)
breaks-between broken b whole e = absurd (whole refl)

gap-last : (text : List ℕ) (from at : ℕ) (g : Gap) → from ≤ at → at ≤ length text → length text ≤ at →
    after_bytes between (span text from at) ≡ g → g ≢ broken → StopsAt text from None
gap-last text from at g ordered within past holds whole =
    let e : at ≡ length text = omega arith in
    let inside : from ≤ length text = omega arith in
    let rest : after_bytes between (drop from text) ≡ g = sym (ap (after_bytes between) (ap (span text from) e ∙ span-rest text from)) ∙ holds in
    (inside, λ f. whole (sym rest ∙ f))

-- a gap goes on to the end of the text, or ends at a byte that breaks it
pub gap-end : (text : List ℕ) (from n at : ℕ) (g : Gap) → length text - at ≤ n → from ≤ at → at ≤ length text →
    after_bytes between (span text from at) ≡ g → g ≢ broken → StopsAt text from None ⊎ ((end : ℕ) × BreaksAt text from end)
gap-end text from zero at g few ordered within holds whole =
    let past : length text ≤ at = omega arith in
    inl (gap-last text from at g ordered within past holds whole)
gap-end text from (suc n) at g few ordered within holds whole = elim (cases_lt at (length text)) [
  | inr past ↦ inl (gap-last text from at g ordered within past holds whole)
  | inl below ↦ elim (is_broken (after_byte g (get_or text at 0))) [
    | inl ends ↦
        let e : g ≡ between = breaks-between g (get_or text at 0) whole ends in
        inr (at, record { gap = (ordered, holds ∙ e); within = below; breaks = subst (λ (h : Gap). after_byte h (get_or text at 0) ≡ broken) e ends })
    | inr goes ↦
        let few' : length text - (at + 1) ≤ n = omega arith in
        let ordered' : from ≤ at + 1 = omega arith in
        let within' : at + 1 ≤ length text = omega arith in
        gap-end text from n (at + 1) (after_byte g (get_or text at 0)) few' ordered' within'
        (gap-next between text from at ordered below ∙ ap (λ h. after_byte h (get_or text at 0)) holds) goes
  ]
]

letter-name : (b : ℕ) → is_letter b ≡ true → is_name_byte b ≡ true
letter-name b e = ap (λ t. (t || is_digit b) || b == 95) e

-- one of the seven marks
mark-of : (b : ℕ) → is_mark_byte b ≡ true → (mark : Mark) × IsMarkOf b mark
mark-of b e = elim (cases_Bool (b == 43)) [
  | inl f ↦ (marks.Plus, subst (λ n. IsMarkOf n marks.Plus) (sym (eqb-true b 43 f)) (record { spelled = refl; longest = λ rest. refl; narrow = tt }))
  | inr n43 ↦ elim (cases_Bool (b == 45)) [
    | inl f ↦ (marks.Minus, subst (λ n. IsMarkOf n marks.Minus) (sym (eqb-true b 45 f)) (record { spelled = refl; longest = λ rest. refl; narrow = tt }))
    | inr n45 ↦ elim (cases_Bool (b == 42)) [
      | inl f ↦ (marks.Star, subst (λ n. IsMarkOf n marks.Star) (sym (eqb-true b 42 f)) (record { spelled = refl; longest = λ rest. refl; narrow = tt }))
      | inr n42 ↦ elim (cases_Bool (b == 94)) [
        | inl f ↦ (marks.Caret, subst (λ n. IsMarkOf n marks.Caret) (sym (eqb-true b 94 f)) (record { spelled = refl; longest = λ rest. refl; narrow = tt }))
        | inr n94 ↦ elim (cases_Bool (b == 44)) [
          | inl f ↦ (marks.Comma, subst (λ n. IsMarkOf n marks.Comma) (sym (eqb-true b 44 f)) (record { spelled = refl; longest = λ rest. refl; narrow = tt }))
          | inr n44 ↦ elim (cases_Bool (b == 59)) [
            | inl f ↦ (
              marks.Semicolon,
              subst (λ n. IsMarkOf n marks.Semicolon) (sym (eqb-true b 59 f))
                  (record { spelled = refl; longest = λ rest. refl; narrow = tt }),
            )
            | inr n59 ↦
                let f : (b == 58) ≡ true = sym (ap (λ t. (((((t || b == 45) || b == 42) || b == 94) || b == 44) || b == 59) || b == 58) n43
                ∙ ap (λ t. ((((t || b == 42) || b == 94) || b == 44) || b == 59) || b == 58) n45
                ∙ ap (λ t. (((t || b == 94) || b == 44) || b == 59) || b == 58) n42
                ∙ ap (λ t. ((t || b == 44) || b == 59) || b == 58) n94 ∙ ap (λ t. (t || b == 59) || b == 58) n44
                ∙ ap (λ t. t || b == 58) n59) ∙ e in
                (marks.Colon, subst (λ n. IsMarkOf n marks.Colon) (sym (eqb-true b 58 f)) (record { spelled = refl; longest = λ rest. refl; narrow = tt }))
          ]
        ]
      ]
    ]
  ]
]

-- the test of equal numbers holds of the same number
pub same_number : (n : ℕ) → (n == n) ≡ true
same_number n = grind (arith, nat_tests)

-- where a gap ends, a token begins or a fault of tokens stands
pub token-there : (text : List ℕ) (at : ℕ) → at < length text → after_byte between (get_or text at 0) ≡ broken →
    ((t : Token) × IsTokenAt text at t) ⊎ ((fault : InputFault) × IsFaultAt text at fault)
token-there text at within breaks =
    let b = get_or text at 0 in
    let few : length text - (at + 1) ≤ length text = omega arith in
    let more : at < at + 1 = omega arith in
    let inside : at + 1 ≤ length text = omega arith in
    elim (cases_Bool (is_letter b)) [
      | inl letter ↦
          let r = run-end is_letter is_name_byte text at (length text) (at + 1) few more inside
          (begun-one is_letter is_name_byte text at within letter (letter-name b letter)) in
          inl (
            record { mark = marks.Name; start = at; end = r.end },
            record {
              from = refl;
              more = r.more;
              token = record {
                within = r.within;
                spelled = r.spelled;
                longest = r.longest;
                narrow = tt;
              };
            },
          )
      | inr no_letter ↦ elim (cases_Bool (is_digit b)) [
        | inl digit ↦
            let r = run-end is_digit is_digit text at (length text) (at + 1) few more inside (begun-one is_digit is_digit text at within digit digit) in
            let value = with_digits 0 (span text at r.end) in
            elim (cases_lt value (2 ^ 128)) [
              | inl narrow ↦ inl (
                record { mark = marks.Number value; start = at; end = r.end },
                record {
                  from = refl;
                  more = r.more;
                  token = record {
                    within = r.within;
                    spelled = ap (λ t. t && value == value) r.spelled
                        ∙ same_number value;
                    longest = r.longest;
                    narrow = narrow;
                  };
                },
              )
              | inr wide ↦ inr (
                faults.NumberTooWide at,
                (
                  refl,
                  record {
                    end = r.end;
                    within = r.within;
                    spelled = r.spelled;
                    longest = r.longest;
                    wide = wide;
                  },
                ),
              )
            ]
        | inr no_digit ↦ elim (cases_Bool (is_mark_byte b)) [
          | inl holds_here ↦
              let m = mark-of b holds_here in
              inl (
                record { mark = m.0; start = at; end = at + 1 },
                record {
                  from = refl;
                  more = more;
                  token = record {
                    within = inside;
                    spelled = ap (is_text m.0) (span-one text at within)
                        ∙ m.1.spelled;
                    longest = m.1.longest (drop (at + 1) text);
                    narrow = m.1.narrow;
                  };
                },
              )
          | inr no_mark ↦ inr (
            faults.BadByte at,
            (
              refl,
              record {
                within = within;
                no_gap = breaks;
                no_token =
                    ap (λ t. (t || is_digit b) || is_mark_byte b) no_letter ∙ ap (λ t. t || is_mark_byte b) no_digit ∙ no_mark;
              },
            ),
          )
        ]
      ]
    ]

-- some tokens and what ends them
pub record Split (text : List ℕ) (from : ℕ) : Type 0 where
  -- the tokens
  pub tokens : List Token
  -- the fault that ends them, if one does
  pub stop : Option InputFault
  -- the text splits into them from this place
  pub splits : SplitsFrom text from tokens stop

-- what stands outside comments is not broken
pub whole : between ≢ broken
whole = λ e. cc

token-first : (text : List ℕ) (from at : ℕ) (t : Token) → BreaksAt text from at → IsTokenAt text at t → Split text t.end → Split text from
token-first text from at t b h rest = record {
  tokens = t ∷ rest.tokens;
  stop = rest.stop;
  splits = (subst (IsGap text from) (sym h.from) b.gap, h.token, rest.splits);
}

-- a text splits from each place on
pub split-from : (text : List ℕ) (n from : ℕ) → length text - from < n → from ≤ length text → Split text from
split-from text zero from few within = absurd (omega arith)
split-from text (suc n) from few within =
    let enough : length text - from ≤ length text = omega arith in
    let ordered : from ≤ from = omega arith in
    elim (gap-end text from (length text) from between enough ordered within (ap (after_bytes between) (span-none text from)) whole) [
      | inl stops ↦ record { tokens = []; stop = None; splits = stops }
      | inr (at, b) ↦ elim (token-there text at b.within b.breaks) [
        | inl (t, h) ↦
            let ordered' : from ≤ at = b.gap.0 in
            let more : at < t.end = h.more in
            let inside : t.end ≤ length text = h.token.within in
            let few' : length text - t.end < n = omega arith in
            token-first text from at t b h (split-from text n t.end few' inside)
        | inr (fault, h) ↦ record { tokens = []; stop = Some fault; splits = StopsAt-fault text from at fault b.gap h }
      ]
    ]
