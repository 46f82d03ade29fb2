use Rattle.std.proofs.Common.{◌≡◌, ◌≢◌, ℕ, List, [], ◌∷◌, ◌++◌, All, ap, subst, sym, ◌∙◌}
use Rattle.std.proofs.lemmas.List.Elements.{All-cons, All-nil}
use Rattle.lead_index.specs.declared.lead.Lead.{Lead}
use Rattle.normal_words.specs.Normal.{AreBefore, AreNormal, WordsOfDegree, next_of}
use Rattle.normal_words.proofs.Grown.{before-push, before-start}
use Rattle.normal_words.proofs.tests.words_without_a_square_are_listed.Goals as goal

some_letters : (leads : List Lead) → leads ≡ [] ++ record { word = 0 ∷ 0 ∷ []; element = 0 } ∷ [] → All (λ l. l.word ≢ []) leads
some_letters leads e =
    subst (λ (xs : List Lead). All (λ l. l.word ≢ []) xs) (sym e) (All-cons (λ l. l.word ≢ []) (record { word = 0 ∷ 0 ∷ []; element = 0 })
    [] (λ h. cc h) (All-nil (λ l. l.word ≢ [])))

-- degree 0 and the next one
two_degrees : (weights : List ℕ) (leads : List Lead) (start first : WordsOfDegree) (one two : List WordsOfDegree) →
    All (λ l. l.word ≢ []) leads → start.degree ≡ 0 → start.words ≡ [] ∷ [] → one ≡ start ∷ []
    → first.degree ≡ next_of one → AreNormal weights leads (next_of one) first.words → two ≡ one ++ first ∷ [] → AreBefore weights leads two
two_degrees weights leads start first one two some none words is degree normal both =
    let begun = before-start weights leads start none words some in
    let own = subst (λ (d : ℕ). AreNormal weights leads d first.words) (sym degree) normal in
    subst (AreBefore weights leads) (sym (both ∙ ap (λ (ns : List WordsOfDegree). ns ++ first ∷ []) is))
    (before-push weights leads (start ∷ []) first begun (degree ∙ ap next_of is) own)

pub next_degree-requires-2-clause-before : goal.next_degree-requires-2-clause-before
next_degree-requires-2-clause-before g c =
    let l : Lead = record { word = 0 ∷ 0 ∷ []; element = 0 } in
    let leads = c.in_ok-add.ensures.added ∙ ap (λ (xs : List Lead). xs ++ l ∷ []) c.new-index.ensures in
    let start = c.in_ok-start.field-0 in
    let pushed = c.in_ok-push.ensures.items ∙ ap (λ (ns : List WordsOfDegree). ns ++ start ∷ []) c.new-before.ensures.items in
    two_degrees _ _ start c.in_ok-first.first c.as_slice.result.now c.as_slice-listed.result.now (some_letters _ leads)
    c.in_ok-start.ensures.degree c.in_ok-start.ensures.words (c.as_slice.ensures.value ∙ pushed)
    c.in_ok-first.ensures.degree c.in_ok-first.ensures.words (c.as_slice-listed.ensures.value ∙ c.in_ok-push-2.ensures.items
    ∙ ap (λ (ns : List WordsOfDegree). ns ++ c.in_ok-first.first ∷ []) (sym c.as_slice.ensures.value))

pub next_degree-refused-requires-clause-before : goal.next_degree-refused-requires-clause-before
next_degree-refused-requires-clause-before g c =
    let l : Lead = record { word = 0 ∷ 0 ∷ []; element = 0 } in
    let leads = c.in_ok-add.ensures.added ∙ ap (λ (xs : List Lead). xs ++ l ∷ []) c.new-index.ensures in
    let start = c.in_ok-start.field-0 in
    let pushed = c.in_ok-push.ensures.items ∙ ap (λ (ns : List WordsOfDegree). ns ++ start ∷ []) c.new-before.ensures.items in
    two_degrees _ _ start c.in_ok-first.first c.as_slice.result.now c.as_slice-listed.result.now (some_letters _ leads)
    c.in_ok-start.ensures.degree c.in_ok-start.ensures.words (c.as_slice.ensures.value ∙ pushed)
    c.in_ok-first.ensures.degree c.in_ok-first.ensures.words (c.as_slice-listed.ensures.value ∙ c.in_ok-push-2.ensures.items
    ∙ ap (λ (ns : List WordsOfDegree). ns ++ c.in_ok-first.first ∷ []) (sym c.as_slice.ensures.value))
