use Rattle.std.proofs.Common.{◌≡◌, ◌≢◌, ◌+◌, ◌<◌, ◌++◌, ℕ, List, [], All, Option, Some, IfSome, length, length-append}
use Rattle.std.proofs.Common.{option_to_list, ap, ◌∙◌, arith, subst, sym}
use Rattle.std.proofs.lemmas.List.Elements.{All-pop, All-same}
use Rattle.free_poly.specs.declared.term.Term.{Term}
use Rattle.free_poly.specs.Terms.{HasOneDegree, HasResidues, UsesLetters}
use Rattle.worked_examples.proofs.lists.asked_by.Goals as goal

-- what holds of all holds of all but the last
front : {X : Type 0} (P : X → Type 0) (xs ys zs : List X) (r : Option X) → xs ≡ ys ++ option_to_list r → zs ≡ ys → All P xs → All P zs
front P xs ys zs r whole is h = All-same P zs ys is (All-pop P xs ys r whole h).0

-- and of the last
last : {X : Type 0} (P : X → Type 0) (xs ys : List X) (r : Option X) (x : X) → xs ≡ ys ++ option_to_list r → r ≡ Some x → All P xs → P x
last P xs ys r x whole is h = subst (λ (s : Option _). IfSome s P) is (All-pop P xs ys r whole h).1

fewer : {X : Type 0} (n : ℕ) (xs ys zs : List X) (r : Option X) → xs ≡ ys ++ option_to_list r → zs ≡ ys → length xs < n → length zs < n
fewer n xs ys zs r whole is h =
    let sum : length xs ≡ length ys + length (option_to_list r) = ap length whole ∙ length-append ys (option_to_list r) in
    let same : length zs ≡ length ys = ap length is in
    omega (arith, sum, same, h)

pub invariant_of-given : goal.invariant_of-given
invariant_of-given g c =
    let a = c.in_ok-alphabet.field-0 in
    let weights = a.alphabet.weights in
    let rs = a.relations in
    let qs = c.pop.new.self.items in
    let ys = c.from_vec.result in
    let whole : rs ≡ qs ++ option_to_list c.pop.result = sym c.into_vec-relations.ensures ∙ c.pop.ensures.items in
    record {
      letters = front (UsesLetters (length weights)) rs qs ys c.pop.result whole c.from_vec.ensures a.letters;
      others = front (λ f. f ≢ []) rs qs ys c.pop.result whole c.from_vec.ensures a.others;
      one_degree = front (HasOneDegree weights) rs qs ys c.pop.result whole c.from_vec.ensures a.one_degree;
      degrees = front (All (λ t. t.word ≢ [])) rs qs ys c.pop.result whole c.from_vec.ensures a.degrees;
      few = fewer _ rs qs ys c.pop.result whole c.from_vec.ensures a.few;
    }

pub returns-clause-relations : goal.returns-clause-relations
returns-clause-relations g c =
    front (HasResidues c.args.field.now) c.in_ok-alphabet.field-0.relations c.pop.new.self.items c.from_vec.result c.pop.result
    (sym c.into_vec-relations.ensures ∙ c.pop.ensures.items) c.from_vec.ensures c.in_ok-alphabet.ensures

pub returns-clause-other : goal.returns-clause-other
returns-clause-other g c =
    let a = c.in_ok-alphabet.field-0 in
    last (λ f. f ≢ []) a.relations c.pop.new.self.items c.pop.result c.in-Some.question
    (sym c.into_vec-relations.ensures ∙ c.pop.ensures.items) c.in-Some.is a.others

pub returns-clause-letters : goal.returns-clause-letters
returns-clause-letters g c =
    let a = c.in_ok-alphabet.field-0 in
    last (UsesLetters (length a.alphabet.weights)) a.relations c.pop.new.self.items c.pop.result c.in-Some.question
    (sym c.into_vec-relations.ensures ∙ c.pop.ensures.items) c.in-Some.is a.letters

pub returns-clause-residues : goal.returns-clause-residues
returns-clause-residues g c =
    last (HasResidues c.args.field.now) c.in_ok-alphabet.field-0.relations c.pop.new.self.items c.pop.result c.in-Some.question
    (sym c.into_vec-relations.ensures ∙ c.pop.ensures.items) c.in-Some.is c.in_ok-alphabet.ensures

pub returns-clause-one_degree : goal.returns-clause-one_degree
returns-clause-one_degree g c =
    let a = c.in_ok-alphabet.field-0 in
    last (HasOneDegree a.alphabet.weights) a.relations c.pop.new.self.items c.pop.result c.in-Some.question
    (sym c.into_vec-relations.ensures ∙ c.pop.ensures.items) c.in-Some.is a.one_degree
