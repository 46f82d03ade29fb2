use Rattle.std.proofs.Common.{◌≡◌, ◌*◌, ◌%◌, ◌<◌, ◌∷◌, ◌≢◌, ℕ, List, [], get_or, map, length, refl, sym, ap, ◌∙◌, subst}
use Rattle.std.proofs.Math.Nat.{mod-mod}
use Rattle.std.proofs.lemmas.List.Elements.{All-nil}
use Rattle.free_poly.specs.declared.term.Term.{Term}
use Rattle.free_poly.specs.Poly.{IsPolynomial, lead_or_none}
use Rattle.free_poly.specs.Terms.{IsSame, scaled, total_at}
use Rattle.cofactors.specs.declared.factors.Factor.{Factor}
use Rattle.cofactors.specs.Rows.{HasPlaces, combined}
use Rattle.free_poly.proofs.NormalForms.{first_total}
use Rattle.cofactors.proofs.MonicRows.{from_monic, monic_sum}
use Rattle.cofactors.proofs.row.monic.Goals as goal

same_lead : (f g : List Term) → map (λ (t : Term). t.word) f ≡ map (λ (t : Term). t.word) g → lead_or_none f ≡ lead_or_none g
same_lead [] [] e = refl
same_lead [] (t ∷ g) e = cc e
same_lead (t ∷ f) [] e = cc e
same_lead (t ∷ f) (s ∷ g) e = cc e

first_coefficient : (f : List Term) (t : Term) → f ≢ [] → IsPolynomial f → t ≡ get_or f 0 t → total_at f (lead_or_none f) ≡ t.coefficient
first_coefficient [] t ne form is = absurd (ne refl)
first_coefficient (s ∷ f) t ne form is = first_total s f form ∙ ap (λ (x : Term). x.coefficient) (sym is)

pub returns-clause-lead : goal.returns-clause-lead
returns-clause-lead c = same_lead c.in_ok-element.element c.args.row.now.element c.in_ok-element.ensures.words

pub returns-clause-multiple : goal.returns-clause-multiple
returns-clause-multiple c =
    let f = c.args.row.now.element in
    let m = c.in_ok-element.element in
    let e = c.in_ok-element.ensures in (
      total_at f (lead_or_none f),
      from_monic c.args.field.now f m e.form e.monic e.multiple (same_lead m f e.words),
    )

pub returns-clause-tracked : goal.returns-clause-tracked
returns-clause-tracked c = λ fs h.
    let p = c.args.field.now in
    let f = c.args.row.now.element in
    let m = c.in_ok-element.element in
    let e = c.in_ok-element.ensures in
    let a = c.inv-a.result in
    let t = c.index-terms-0.result in
    let first : total_at f (lead_or_none f) ≡ t.coefficient = first_coefficient f t c.requires.other c.requires.row.form
    (c.index-terms-0.is ∙ ap (λ (g : List Term). get_or g 0 t) c.terms.ensures.value) in
    let one : (total_at f (lead_or_none f) * a) % p ≡ 1 % p =
    ap (λ (n : ℕ). (n * a) % p) (first ∙ ap (λ (x : Term). x.coefficient) c.index-terms-0.is)
    ∙ sym (mod-mod ((get_or c.terms.result.now 0 t).coefficient * a) p) ∙ ap (λ (n : ℕ). n % p) c.inv-a.ensures.one in
    let given : c.as_slice.result.now ≡ c.args.row.now.factors = c.as_slice.ensures in
    let made : c.from_vec.result ≡ c.in_ok-factors.factors.items = c.from_vec.ensures in
    record {
      places = subst (HasPlaces (length fs)) (sym made) (c.in_ok-factors.ensures.places (length fs)
          (All-nil (λ (x : Factor). x.place < length fs)) (subst (HasPlaces (length fs)) (sym given) h.places));
      sum = monic_sum p f m e.form e.monic e.multiple (same_lead m f e.words) a (combined fs c.args.row.now.factors) (combined fs c.from_vec.result) one h.sum
          (subst (λ (xs : List Factor). IsSame p (combined fs xs) (scaled a (combined fs c.args.row.now.factors))) (sym made)
          (subst (λ (xs : List Factor). IsSame p (combined fs c.in_ok-factors.factors.items) (scaled a (combined fs xs))) given
          (c.in_ok-factors.ensures.sum fs)));
    }
