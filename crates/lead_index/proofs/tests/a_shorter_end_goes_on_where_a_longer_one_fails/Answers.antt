use Rattle.std.proofs.Common.{◌≡◌, ℕ, List, [], ◌∷◌, ◌++◌, length, ap, subst, sym, ◌∙◌, arith, length-append}
use Rattle.std.proofs.lemmas.List.Elements.{All-cons, All-nil}
use Rattle.lead_index.specs.declared.lead.Lead.{Lead}
use Rattle.lead_index.specs.Leads.{AreApart, IsFresh}
use Rattle.lead_index.proofs.tests.a_shorter_end_goes_on_where_a_longer_one_fails.Goals as goal

one_is_not_zero : let one : ℕ = 1 in one ≡ 0 → ⊥
one_is_not_zero h = omega (arith, h)

not_inside : (before after : List ℕ) → 0 ∷ 0 ∷ 1 ∷ 0 ∷ [] ≡ before ++ (0 ∷ 1 ∷ 1 ∷ []) ++ after → ⊥
not_inside [] after e = one_is_not_zero (cc)
not_inside (a ∷ []) after e = one_is_not_zero (cc)
not_inside (a ∷ b ∷ before) after e =
    omega (arith, ap length e, length-append ((a ∷ b ∷ before) ++ (0 ∷ 1 ∷ 1 ∷ [])) after, length-append (a ∷ b ∷ before) (0 ∷ 1 ∷ 1 ∷ []))

no_longer : (before after : List ℕ) → 0 ∷ 1 ∷ 1 ∷ [] ≡ before ++ (0 ∷ 0 ∷ 1 ∷ 0 ∷ []) ++ after → ⊥
no_longer before after e = omega (arith, ap length e, length-append (before ++ (0 ∷ 0 ∷ 1 ∷ 0 ∷ [])) after, length-append before (0 ∷ 0 ∷ 1 ∷ 0 ∷ []))

fresh : IsFresh (record { word = 0 ∷ 0 ∷ 1 ∷ 0 ∷ []; element = 0 } ∷ []) (0 ∷ 1 ∷ 1 ∷ [])
fresh =
    let P : Lead → Type 0 = λ l. AreApart l.word (0 ∷ 1 ∷ 1 ∷ []) in
    record {
      some = λ e. cc e;
      small = omega arith;
      apart = All-cons P (record { word = 0 ∷ 0 ∷ 1 ∷ 0 ∷ []; element = 0 }) []
          (λ f. no_longer f.before f.after f.joined, λ f. not_inside f.before f.after f.joined) (All-nil P);
    }

pub add-requires-2 : goal.add-requires-2
add-requires-2 g c =
    let l : Lead = record { word = 0 ∷ 0 ∷ 1 ∷ 0 ∷ []; element = 0 } in
    subst (λ (xs : List Lead). IsFresh xs (0 ∷ 1 ∷ 1 ∷ [])) (sym (c.in_ok-add.ensures.added ∙ ap (λ (xs : List Lead). xs ++ l ∷ []) c.new-index.ensures)) fresh
