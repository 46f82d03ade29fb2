use Rattle.std.proofs.Common.{◌≡◌, ◌<◌, ◌%◌, ◌++◌, ◌∷◌, [], ℕ, List, get_or, length, sym, ap, ◌∙◌, subst, one-mul, append-nil}
use Rattle.std.proofs.lemmas.List.Elements.{All-cons, All-nil}
use Rattle.free_poly.specs.declared.term.Term.{Term}
use Rattle.free_poly.specs.Terms.{scaled, total_at}
use Rattle.free_poly.proofs.Totals.{total_at-scaled}
use Rattle.cofactors.specs.declared.factors.Factor.{Factor}
use Rattle.cofactors.specs.Rows.{combined, HasPlaces}
use Rattle.cofactors.proofs.leaders.row_of.Goals as goal

pub returns-clause-tracked : goal.returns-clause-tracked
returns-clause-tracked c = λ fs within is.
    let one : Factor = record { place = c.args.place; residue = 1 } in
    let made : c.from_vec.result ≡ one ∷ [] = c.from_vec.ensures ∙ c.in_ok-push.ensures.items
    ∙ ap (λ (xs : List Factor). xs ++ one ∷ []) c.new-factors.ensures.items in
    record {
      places = subst (HasPlaces (length fs)) (sym made) (All-cons (λ (f : Factor). f.place < length fs) one [] within
          (All-nil (λ (f : Factor). f.place < length fs)));
      sum = λ w. ap (λ (n : ℕ). n % c.args.field.now) (sym (ap (λ (xs : List Factor). total_at (combined fs xs) w) made
          ∙ ap (λ (g : List Term). total_at g w) (append-nil (scaled 1 (get_or fs c.args.place [])))
          ∙ total_at-scaled 1 (get_or fs c.args.place []) w ∙ one-mul (total_at (get_or fs c.args.place []) w) ∙ ap (λ (g : List Term). total_at g w) is));
    }
