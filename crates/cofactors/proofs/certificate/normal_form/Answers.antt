use Rattle.std.proofs.Common.{◌≡◌, ◌+◌, ◌<◌, ◌≤◌, ◌%◌, [], ℕ, List, get_or, length, map, rules, refl, sym, ap, ◌∙◌, arith, subst, append-nil, All}
use Rattle.std.specs.List.{Contains}
use Rattle.std.proofs.lemmas.List.Elements.{All-contains, All-nil}
use Rattle.words.specs.Words.{IsOver, degree_of, words_of_degree}
use Rattle.words.proofs.Degrees.{listed_word}
use Rattle.words.proofs.Members.{All-from_members}
use Rattle.words.proofs.Weights.{length-le-degree_of}
use Rattle.free_poly.specs.declared.term.Term.{Term}
use Rattle.free_poly.specs.Terms.{HasOneDegree, UsesLetters, total_at}
use Rattle.ideal_laws.specs.Ideal.{IsElement, IsLeadingWord, ideal_over}
use Rattle.ideal_laws.specs.Kept.{lead_degree}
use Rattle.ideal_laws.specs.Laws.{IsSetting}
use Rattle.lead_index.specs.Leads.{IsFree}
use Rattle.cofactors.specs.declared.factors.Factor.{Factor}
use Rattle.cofactors.specs.declared.product.Product.{Product}
use Rattle.cofactors.specs.declared.row.Row.{Row}
use Rattle.cofactors.specs.Certificate.{IsCertificate}
use Rattle.cofactors.specs.ProductList.{triple_terms, triples}
use Rattle.cofactors.specs.Rows.{HasPlaces, IsPlusSpan, IsTracked, IsZeroAtLeads, negative_products}
use Rattle.cofactors.proofs.Certificates.{certificate_from_row, certificate_of_normal, normal_from_free, numbered, places_of}
use Rattle.cofactors.proofs.NormalForms.{tells_members}
use Rattle.cofactors.proofs.TripleLists.{degree_of_lead}
use Rattle.cofactors.proofs.certificate.normal_form.Goals.{After-as_slice, After-as_slice-4, After-terms-terms}
use Rattle.cofactors.proofs.certificate.normal_form.Goals as goal

setting : (c : After-terms-terms) → IsSetting (ideal_over c.args.field.now c.args.basis.now.weights c.args.presentation.now.relations)
setting c = subst (λ (ws : List ℕ). IsSetting (ideal_over c.args.field.now ws c.args.presentation.now.relations)) (sym c.requires.weights) c.setting_law.ensures

-- the question as an element
element : (c : After-terms-terms) →
    IsElement c.args.field.now c.args.basis.now.weights (lead_degree c.args.basis.now.weights c.args.question.now) c.args.question.now
element c = record {
  form = c.terms-terms.ensures.form;
  residues = c.requires.residues;
  letters = subst (λ (ws : List ℕ). UsesLetters (length ws) c.args.question.now) (sym c.requires.weights) c.requires.letters;
  degree = degree_of_lead c.args.basis.now.weights c.args.question.now
      (subst (λ (ws : List ℕ). HasOneDegree ws c.args.question.now) (sym c.requires.weights) c.requires.one_degree);
}

-- the triples that are made are those of the degree of the question
listed : (c : After-as_slice) → c.in_ok-triples.triples.items
    ≡ triples c.args.basis.now.weights c.args.presentation.now.relations (lead_degree c.args.basis.now.weights c.args.question.now)
listed c =
    let q = c.args.question.now in
    let same : lead_degree c.args.presentation.now.alphabet.weights q ≡ lead_degree c.args.basis.now.weights q =
    ap (λ (ws : List ℕ). lead_degree ws q) (sym c.requires.weights) in
    let degree : c.lead_degree_within-degree.result ≡ lead_degree c.args.basis.now.weights q =
    omega (arith, c.lead_degree_within-degree.ensures, same, c.requires.done, c.done-done.ensures.kept.degrees) in
    c.in_ok-triples.ensures ∙ (λ j. triples (sym c.requires.weights j) c.args.presentation.now.relations (degree j))

-- the question with no factors as yet
begun_row : (p : ℕ) (fs : List (List Term)) (q e : List Term) (xs : List Factor) → e ≡ q → xs ≡ [] → IsTracked p fs q (record { element = e; factors = xs })
begun_row p fs q e xs is none = subst (IsTracked p fs q) (λ j. record { element = sym is j; factors = sym none j }) (record {
  places = All-nil (λ (x : Factor). x.place < length fs);
  sum = λ w. ap (λ (g : List Term). total_at g w % p) (sym (append-nil q));
})

-- the cleared row keeps its equation
tracked : (c : After-as_slice-4) (all : List Product) → c.in_ok-triples.triples.items ≡ all →
    IsTracked c.args.field.now (map (triple_terms c.args.presentation.now.relations) all) c.args.question.now c.in_ok-element.field-0
tracked c all is =
    let p = c.args.field.now in
    let relations = c.args.presentation.now.relations in
    let q = c.args.question.now in
    let fs = map (triple_terms relations) all in
    let begun = begun_row p fs q c.in_ok-copy-2.field-0 c.from_vec-2.result c.in_ok-copy-2.ensures (c.from_vec-2.ensures ∙ c.new-2.ensures.items) in
    let leaders = subst (λ (qs : List Product). All (IsTracked p (map (triple_terms relations) qs) []) c.in_ok-leaders.leaders.items)
    (c.as_slice.ensures.value ∙ is) c.in_ok-leaders.ensures.tracked in
    c.in_ok-element.ensures.tracked fs q (subst (All (IsTracked p fs [])) (sym c.as_slice-2.ensures.value) leaders) begun

pub is_free-requires : goal.is_free-requires
is_free-requires c =
    let weights = c.args.presentation.now.alphabet.weights in
    let q = c.args.question.now in
    let same : lead_degree c.args.basis.now.weights q ≡ lead_degree weights q = ap (λ (ws : List ℕ). lead_degree ws q) c.requires.weights in
    record {
      small = λ k d lt. omega (
        arith,
        length-le-degree_of weights c.setting_law.ensures.are_weights (get_or q k d).word,
        degree_of_lead weights q c.requires.one_degree k d lt,
        same,
        c.requires.done,
        c.done-done.ensures.kept.degrees,
      );
    }

pub returns-then-is_free-clause-certificate : goal.returns-then-is_free-clause-certificate
returns-then-is_free-clause-certificate c =
    let p = c.args.field.now in
    let basis = c.args.basis.now in
    let weights = basis.weights in
    let relations = c.args.presentation.now.relations in
    let q = c.args.question.now in
    let d = lead_degree weights q in
    let at = (goal.at.returns-then-is_free-clause-certificate c).After-terms-terms in
    let st = setting at in
    let ef = element at in
    let lower = c.lower_law.ensures.lower (ideal_over p weights relations) st (basis.done + 1) basis
    (record { kept = c.done-done.ensures.kept; next = refl; same_weights = refl; reduced = c.requires.reduced }) in
    let free : All (λ (t : Term). IsFree c.args.index.now t.word) q = c.is_free.ensures.0 (search rules) in
    let none : All (λ (s : Term). IsLeadingWord (ideal_over p weights relations) d s.word → ⊥) q =
    All-from_members (λ (s : Term). IsLeadingWord (ideal_over p weights relations) d s.word → ⊥) q (λ s m.
    let over = All-contains (λ (t : Term). IsOver (length weights) t.word) q s ef.letters m in
    let degree = All-contains (λ (t : Term). degree_of weights t.word ≡ d) q s ef.degree m in
    let listed = subst (λ (n : ℕ). Contains (words_of_degree weights n) s.word) degree (listed_word weights st.are_weights s.word over) in
    (c.normal_form_laws.ensures.normal (ideal_over p weights relations) st (basis.done + 1) basis.elements lower d s.word (omega (arith, c.requires.done))
    listed).1
    (normal_from_free basis.elements c.args.index.now s.word c.requires.index (All-contains (λ (t : Term). IsFree c.args.index.now t.word) q s free m))) in
    let same = c.in_ok-copy.ensures in
    let empty : c.from_vec.result ≡ [] = c.from_vec.ensures ∙ c.new.ensures.items in
    subst (IsCertificate (ideal_over p weights relations) d q) (λ j. record { normal = sym same j; products = sym empty j })
    (certificate_of_normal (ideal_over p weights relations) st d q ef none)

pub returns-then-is_free-clause-member : goal.returns-then-is_free-clause-member
returns-then-is_free-clause-member c =
    let at = (goal.at.returns-then-is_free-clause-member c).After-terms-terms in
    tells_members (ideal_over c.args.field.now c.args.basis.now.weights c.args.presentation.now.relations) (setting at) _ c.args.question.now
    c.in_ok-copy.field-0
    (element at) (returns-then-is_free-clause-certificate c).is_normal

pub leaders_of-requires-clause-numbers : goal.leaders_of-requires-clause-numbers
leaders_of-requires-clause-numbers c =
    let at = goal.at.leaders_of-requires-clause-numbers c in
    let weights = c.args.basis.now.weights in
    let relations = c.args.presentation.now.relations in
    let d = lead_degree weights c.args.question.now in
    let Numbered = λ (s : Product). (0 < s.relation) × (s.relation ≤ length relations) in
    subst (All Numbered) (sym (c.as_slice.ensures.value ∙ listed at.After-as_slice))
    (All-from_members Numbered (triples weights relations d) (numbered (ideal_over c.args.field.now weights relations) (setting at.After-terms-terms) d))

pub products_of-requires-clause-places : goal.products_of-requires-clause-places
products_of-requires-clause-places c =
    let at = goal.at.products_of-requires-clause-places c in
    let weights = c.args.basis.now.weights in
    let relations = c.args.presentation.now.relations in
    let q = c.args.question.now in
    let d = lead_degree weights q in
    let t = c.in_ok-element.field-0 in
    let all = triples weights relations d in
    let is = listed at.After-as_slice in
    let places : HasPlaces (length all) t.factors = places_of (ideal_over c.args.field.now weights relations) (setting at.After-terms-terms) d q
    (element at.After-terms-terms) t (tracked at.After-as_slice-4 all is) in
    subst (λ (qs : List Product). HasPlaces (length qs) c.as_slice-4.result.now) (sym (c.as_slice-3.ensures.value ∙ is))
    (subst (HasPlaces (length all)) (sym c.as_slice-4.ensures) places)

pub returns-clause-certificate : goal.returns-clause-certificate
returns-clause-certificate c =
    let at = goal.at.returns-clause-certificate c in
    let p = c.args.field.now in
    let weights = c.args.basis.now.weights in
    let relations = c.args.presentation.now.relations in
    let q = c.args.question.now in
    let d = lead_degree weights q in
    let all = triples weights relations d in
    let is = listed at.After-as_slice in
    let leaders = c.in_ok-leaders.leaders.items in
    let t = c.in_ok-element.field-0 in
    let spanned = subst (λ (qs : List Product). All (λ (f : List Term). IsPlusSpan p leaders f []) (map (triple_terms relations) qs))
    (c.as_slice.ensures.value ∙ is) c.in_ok-leaders.ensures.spanned in
    let zero : IsZeroAtLeads leaders t.element = subst (λ (rs : List Row). IsZeroAtLeads rs t.element) c.as_slice-2.ensures.value
    c.in_ok-element.ensures.zero in
    let given : c.as_slice-3.result.now ≡ all = c.as_slice-3.ensures.value ∙ is in
    let factors : c.as_slice-4.result.now ≡ t.factors = c.as_slice-4.ensures in
    let products : c.from_vec-3.result ≡ negative_products p all t.factors = c.from_vec-3.ensures ∙ c.in_ok-products.ensures
    ∙ (λ j. negative_products p (given j) (factors j)) in
    subst (λ (ps : List Product). IsCertificate (ideal_over p weights relations) d q (record { normal = t.element; products = ps })) (sym products)
    (certificate_from_row (ideal_over p weights relations) (setting at.After-terms-terms) d q (element at.After-terms-terms) leaders
    c.in_ok-leaders.ensures.leaders
    spanned t c.in_ok-element.ensures.row (tracked at.After-as_slice-4 all is) zero)

pub returns-clause-member : goal.returns-clause-member
returns-clause-member c =
    let at = (goal.at.returns-clause-member c).After-terms-terms in
    tells_members (ideal_over c.args.field.now c.args.basis.now.weights c.args.presentation.now.relations) (setting at) _ c.args.question.now
    c.in_ok-element.field-0.element (element at) (returns-clause-certificate c).is_normal
