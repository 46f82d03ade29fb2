use Rattle.std.proofs.Common.{ℕ, ◌≢◌, ◌<◌, ◌^◌, List, [], Vec, Global, length, map, sym, subst, ◌∙◌, All, arith}
use Rattle.std.proofs.lemmas.List.{length-map}
use Rattle.std.proofs.lemmas.List.Elements.{All-drop}
use Rattle.free_poly.specs.declared.term.Term.{Term}
use Rattle.free_poly.specs.Terms.{HasOneDegree, HasResidues, UsesLetters}
use Rattle.relation_reader.specs.Gathering.{IsInside}
use Rattle.relation_reader.specs.Elements.{AreSummable}
use Rattle.relation_reader.specs.Meaning.{Reads}
use Rattle.relation_reader.proofs.Presenting.{All-from_map, declared, reads, refuses, slice-is, sums-few, sums-summable, tokens-inside}
use Rattle.relation_reader.proofs.presented.presentation_of.Goals as goal

abbrev bytes_of : Vec ℕ Global → List ℕ
bytes_of name = name.items

abbrev terms_of : Vec Term Global → List Term
terms_of terms = terms.items

pub declaration_of-requires : goal.declaration_of-requires
declaration_of-requires c = tokens-inside c.args.text.now c.args.tokens.now c.requires.splits

pub alphabet_of-alphabet-requires : goal.alphabet_of-alphabet-requires
alphabet_of-alphabet-requires c =
    let d = c.in_ok-names.field-0 in
    let l = declared c.args.text.now c.args.tokens.now c.requires.no_fault (map bytes_of d.names.items) d.weights.items d.end c.in_ok-names.ensures.letters in
    record { names = l.names_fit; weights = l.weights_fit; count = l.count ∙ length-map d.names.items bytes_of }

pub relations_of-requires-clause-inside : goal.relations_of-requires-clause-inside
relations_of-requires-clause-inside c =
    let end = c.in_ok-names.field-0.end in
    subst (All (IsInside c.args.text.now)) (sym (slice-is c.args.tokens.now end))
    (All-drop (IsInside c.args.text.now) end c.args.tokens.now (tokens-inside c.args.text.now c.args.tokens.now c.requires.splits))

pub elements_of-requires-clause-few : goal.elements_of-requires-clause-few
elements_of-requires-clause-few c =
    let d = c.in_ok-names.field-0 in
    let a = c.alphabet_of-alphabet in
    let sums = c.in_ok-relations.relations.items in
    let few = sums-few c.args.text.now c.args.tokens.now c.requires.no_fault (map bytes_of d.names.items) d.weights.items d.end c.in_ok-names.ensures.letters
    c.args.field.now c.requires.modulus c.requires.splits c.requires.small a.result a.ensures.names a.ensures.weights (map terms_of sums)
    c.in_ok-relations.ensures in
    omega (arith, few, length-map sums terms_of)

pub elements_of-requires-clause-terms : goal.elements_of-requires-clause-terms
elements_of-requires-clause-terms c =
    let d = c.in_ok-names.field-0 in
    let a = c.alphabet_of-alphabet in
    let sums = c.in_ok-relations.relations.items in
    All-from_map (AreSummable c.args.field.now a.result.weights) terms_of sums
    (sums-summable c.args.text.now c.args.tokens.now c.requires.no_fault (map bytes_of d.names.items) d.weights.items d.end c.in_ok-names.ensures.letters
    c.args.field.now c.requires.modulus c.requires.splits c.requires.small a.result a.ensures.names a.ensures.weights (map terms_of sums)
    c.in_ok-relations.ensures)

pub invariant_of-result : goal.invariant_of-result
invariant_of-result c =
    let weights = c.alphabet_of-alphabet.result.weights in
    let same = sym c.from_vec.ensures in
    let fits = c.in-Ok.ensures.fitting in
    record {
      letters = subst (All (UsesLetters (length weights))) same (λ k d within. (fits k d within).letters);
      others = subst (All (λ (f : List Term). f ≢ [])) same c.in-Ok.ensures.others;
      one_degree = subst (All (HasOneDegree weights)) same (λ k d within. (fits k d within).one_degree);
      degrees = subst (All (λ (f : List Term). All (λ (t : Term). t.word ≢ []) f)) same (λ k d within. (fits k d within).words);
      few = subst (λ (fs : List (List Term)). length fs < 2 ^ 32) same c.in-Ok.ensures.few;
    }

pub returns-in-Ok-clause-reads : goal.returns-in-Ok-clause-reads
returns-in-Ok-clause-reads c =
    let d = c.in_ok-names.field-0 in
    let a = c.alphabet_of-alphabet in
    subst (Reads c.args.text.now c.args.field.now a.result) (sym c.from_vec.ensures)
    (reads c.args.text.now c.args.tokens.now c.requires.no_fault (map bytes_of d.names.items) d.weights.items d.end c.in_ok-names.ensures.letters
    c.args.field.now c.requires.modulus c.requires.splits c.requires.small a.result a.ensures.names a.ensures.weights
    (map terms_of c.in_ok-relations.relations.items) c.in_ok-relations.ensures
    c.in-Ok.elements.items c.in-Ok.ensures.elements)

pub returns-in-Ok-clause-residues : goal.returns-in-Ok-clause-residues
returns-in-Ok-clause-residues c = subst (All (HasResidues c.args.field.now)) (sym c.from_vec.ensures)
    (λ k d within. (c.in-Ok.ensures.fitting k d within).residues)

pub returns-in-Err-clause-reads : goal.returns-in-Err-clause-reads
returns-in-Err-clause-reads c =
    let d = c.in_ok-names.field-0 in
    let a = c.alphabet_of-alphabet in
    refuses c.args.text.now c.args.tokens.now c.requires.no_fault (map bytes_of d.names.items) d.weights.items d.end c.in_ok-names.ensures.letters
    c.args.field.now c.requires.modulus c.requires.splits c.requires.small a.result a.ensures.names a.ensures.weights
    (map terms_of c.in_ok-relations.relations.items) c.in_ok-relations.ensures
    c.in-Err.fault c.in-Err.ensures.elements
