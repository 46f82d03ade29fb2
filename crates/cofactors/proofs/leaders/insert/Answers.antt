use Rattle.std.proofs.Common.{◌≡◌, ◌%◌, ◌∷◌, ◌≢◌, ℕ, List, [], Some, None, get_or, take, drop, refl, sym, ap, ◌∙◌, subst, All, append-nil}
use Rattle.std.specs.List.{Contains}
use Rattle.std.proofs.lemmas.List.Elements.{All-cons, All-drop, All-head, All-nil}
use Rattle.words.specs.Order.{IsLetterwiseGreater}
use Rattle.free_poly.specs.declared.term.Term.{Term}
use Rattle.free_poly.specs.Poly.{IsMonic, IsPolynomial, lead_of, lead_or_none}
use Rattle.free_poly.specs.Terms.{scaled, total_at}
use Rattle.free_poly.proofs.NormalForms.{compared, greater, same, smaller}
use Rattle.cofactors.specs.declared.row.Row.{Row}
use Rattle.cofactors.specs.Rows.{AreLeaders, IsRow, IsTracked, lead_word}
use Rattle.free_poly.proofs.NormalForms.{first_total}
use Rattle.cofactors.proofs.Insertion.{All-insert, AllPairs-insert, Contains-insert_here, Contains-insert_kept}
use Rattle.cofactors.proofs.leaders.insert.Goals as goal

lead_is : (f : List Term) (w : List ℕ) → Some w ≡ lead_of f → lead_or_none f ≡ w
lead_is [] w e = cc e
lead_is (t ∷ f) w e = cc e

-- a word at which a polynomial is 0, and that is not greater than its leading word, is less
lead_greater : (f : List Term) (w x : List ℕ) → Some w ≡ lead_of f → IsPolynomial f → total_at f x ≡ 0 → (IsLetterwiseGreater x w → ⊥) → IsLetterwiseGreater w x
lead_greater [] w x e form zero not = cc e
lead_greater (t ∷ f) w x e form zero not =
    let is : t.word ≡ w = cc e in
    elim (compared x w) [
      | greater g ↦ absurd (not g)
      | smaller g ↦ g
      | same s ↦ absurd (All-head (λ (u : Term). u.coefficient ≢ 0) t f form.nonzero (sym (first_total t f form) ∙ ap (total_at (t ∷ f)) (is ∙ sym s) ∙ zero))
    ]

none_led : (f : List Term) → None ≡ lead_of f → f ≡ []
none_led [] e = refl
none_led (t ∷ f) e = cc e

pub returns-in-Ok-clause-leaders : goal.returns-in-Ok-clause-leaders
returns-in-Ok-clause-leaders c =
    let p = c.args.field.now in
    let rows = c.args.leaders.now.items in
    let row = c.args.row in
    let i = c.place_of-at.result in
    let leader = c.in_ok-leader.leader in
    let w = c.in-Some.word.now in
    let Greater = λ (r s : Row). IsLetterwiseGreater (lead_word r) (lead_word s) in
    let at : lead_word leader ≡ w = c.in_ok-leader.ensures.lead ∙ lead_is row.element w c.in-Some.ensures in
    let given = c.as_slice.ensures.value in
    let word = c.letters.ensures in
    let before : All (λ (r : Row). IsLetterwiseGreater (lead_word r) w) (take i rows) =
    subst (λ (v : List ℕ). All (λ (r : Row). IsLetterwiseGreater (lead_word r) v) (take i rows)) word
    (subst (λ (rs : List Row). All (λ (r : Row). IsLetterwiseGreater (lead_word r) c.letters.result.now) (take i rs)) given
    c.place_of-at.ensures.before) in
    let behind : All (λ (r : Row). IsLetterwiseGreater (lead_word r) w → ⊥) (drop i rows) =
    subst (λ (v : List ℕ). All (λ (r : Row). IsLetterwiseGreater (lead_word r) v → ⊥) (drop i rows)) word
    (subst (λ (rs : List Row). All (λ (r : Row). IsLetterwiseGreater (lead_word r) c.letters.result.now → ⊥) (drop i rs)) given
    c.place_of-at.ensures.behind) in
    let smaller_behind : All (λ (r : Row). IsLetterwiseGreater w (lead_word r)) (drop i rows) =
    λ k d lt. lead_greater row.element w (lead_word (get_or (drop i rows) k d)) c.in-Some.ensures c.requires.row.form
    (All-drop (λ (r : Row). total_at row.element (lead_word r) ≡ 0) i rows c.requires.zero k d lt) (behind k d lt) in
    subst (AreLeaders p) (sym c.in-Ok.ensures.items) (record {
      each = All-insert (IsRow p) rows i leader c.requires.leaders.each c.in_ok-leader.ensures.row;
      monic = All-insert (λ (r : Row). IsMonic r.element) rows i leader c.requires.leaders.monic c.in_ok-leader.ensures.monic;
      falling = AllPairs-insert Greater rows i leader c.requires.leaders.falling
          (subst (λ (v : List ℕ). All (λ (r : Row). IsLetterwiseGreater (lead_word r) v) (take i rows)) (sym at) before)
          (subst (λ (v : List ℕ). All (λ (r : Row). IsLetterwiseGreater v (lead_word r)) (drop i rows)) (sym at) smaller_behind);
    })

pub returns-in-Ok-clause-kept : goal.returns-in-Ok-clause-kept
returns-in-Ok-clause-kept c = λ r m. subst (λ (rs : List Row). Contains rs r) (sym c.in-Ok.ensures.items)
    (Contains-insert_kept c.args.leaders.now.items c.place_of-at.result c.in_ok-leader.leader r m)

pub returns-in-Ok-clause-spanned : goal.returns-in-Ok-clause-spanned
returns-in-Ok-clause-spanned c =
    let leader = c.in_ok-leader.leader in
    let multiple = c.in_ok-leader.ensures.multiple in
    let new : List Row = c.insert.new.self.items in
    let part : ℕ × Row = (multiple.0, leader) in
    let member : Contains new leader = subst (λ (rs : List Row). Contains rs leader) (sym c.in-Ok.ensures.items)
    (Contains-insert_here c.args.leaders.now.items c.place_of-at.result leader) in
    record {
      parts = part ∷ [];
      among = All-cons (λ (x : ℕ × Row). Contains new x.1) part [] member (All-nil (λ (x : ℕ × Row). Contains new x.1));
      sum = λ w. multiple.1 w ∙ ap (λ (f : List Term). total_at f w % c.args.field.now) (sym (append-nil (scaled multiple.0 leader.element)));
    }

pub returns-in-Ok-clause-tracked : goal.returns-in-Ok-clause-tracked
returns-in-Ok-clause-tracked c = λ fs h k.
    subst (All (IsTracked c.args.field.now fs [])) (sym c.in-Ok.ensures.items)
    (All-insert (IsTracked c.args.field.now fs []) c.args.leaders.now.items c.place_of-at.result c.in_ok-leader.leader h (c.in_ok-leader.ensures.tracked fs k))
