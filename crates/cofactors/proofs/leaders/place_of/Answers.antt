use Rattle.std.proofs.Common.{◌≡◌, ◌+◌, ◌<◌, ◌++◌, ◌∷◌, ℕ, zero, suc, List, [], take, drop, get_or, length, sym, ap, ◌∙◌, arith, subst, All, AllPairs}
use Rattle.std.proofs.Common.{true, false, rules}
use Rattle.std.proofs.lemmas.List.{get_or-drop, get_or_default, length-drop, take_more}
use Rattle.std.proofs.lemmas.List.Elements.{All-push}
use Rattle.words.specs.Order.{IsLetterwiseGreater}
use Rattle.free_poly.proofs.NormalForms.{letterwise-trans}
use Rattle.cofactors.specs.declared.row.Row.{Row}
use Rattle.cofactors.specs.Rows.{lead_word}
use Rattle.cofactors.proofs.leaders.place_of.Goals as goal

-- behind a row that leads with no greater word none does
none_behind : (rows : List Row) (w : List ℕ) (i : ℕ) (r : Row) → AllPairs (λ r s. IsLetterwiseGreater (lead_word r) (lead_word s)) rows →
    i < length rows → r ≡ get_or rows i r
    → (IsLetterwiseGreater (lead_word r) w → ⊥) → All (λ s. IsLetterwiseGreater (lead_word s) w → ⊥) (drop i rows)
none_behind rows w i r falling within is not k d lt g = by_place k (omega (arith, lt, length-drop i rows))
    (subst (λ (s : Row). IsLetterwiseGreater (lead_word s) w) (get_or-drop i rows k d) g)
  where
    here : (e : Row) → r ≡ get_or rows i e
    here e = is ∙ get_or_default rows i r e within

    by_place : (k : ℕ) → i + k < length rows → IsLetterwiseGreater (lead_word (get_or rows (i + k) d)) w → ⊥
    by_place zero lt g = not (subst (λ (s : Row). IsLetterwiseGreater (lead_word s) w) (sym (here d ∙ ap (λ (n : ℕ). get_or rows n d) (omega arith))) g)
    by_place (suc k) lt g =
        not (letterwise-trans (lead_word r) (lead_word (get_or rows (i + suc k) d)) w
        (subst (λ (s : Row). IsLetterwiseGreater (lead_word s) (lead_word (get_or rows (i + suc k) d))) (sym (here d))
        (falling i (i + suc k) d (omega arith) lt)) g)

differ : true ≡ false → ⊥
differ e = cc e

pub returns-then-not-leads_with_greater-clause-behind : goal.returns-then-not-leads_with_greater-clause-behind
returns-then-not-leads_with_greater-clause-behind c =
    none_behind c.args.leaders.now c.args.word.now c.loop-at.at c.index-leaders-at.result c.requires.falling c.loop-at-test.true c.index-leaders-at.is
    (λ g. let e = c.leads_with_greater.ensures.1 g in let f = c.if-not-leads_with_greater.true in cc)

pub loop-at-preserved : goal.loop-at-preserved
loop-at-preserved c =
    let rows = c.args.leaders.now in
    let w = c.args.word.now in
    let i = c.loop-at.at in
    let r = c.index-leaders-at.result in
    let more : take (i + 1) rows ≡ take i rows ++ r ∷ [] = take_more rows i r c.loop-at-test.true
    ∙ ap (λ (s : Row). take i rows ++ s ∷ []) (sym c.index-leaders-at.is) in
    let greater : IsLetterwiseGreater (lead_word r) w = c.leads_with_greater.ensures.0 (search rules) in
    subst (All (λ (s : Row). IsLetterwiseGreater (lead_word s) w)) (sym more)
    (All-push (λ (s : Row). IsLetterwiseGreater (lead_word s) w) (take i rows) r c.loop-at.invariant greater)
