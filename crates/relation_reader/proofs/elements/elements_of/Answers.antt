use Rattle.std.proofs.Common.{◌≡◌, ◌≢◌, ◌<◌, ℕ, List, [], Vec, Global, length, get_or, subst, sym, ap, arith, ◌∙◌, ◌+◌, ◌∷◌, All, map, take}
use Rattle.std.proofs.lemmas.List.{length-append}
use Rattle.std.proofs.lemmas.Iterator.Adapters.{YieldsList-from_vec}
use Rattle.std.proofs.lemmas.Iterator.Consumers.{YieldsList-turn}
use Rattle.free_poly.specs.declared.term.Term.{Term}
use Rattle.relation_reader.specs.Elements.{AreSound, AreSummable, IsFitting}
use Rattle.relation_reader.proofs.Turns.{All-others, error-turn, length-others, sound-turn}
use Rattle.relation_reader.proofs.elements.elements_of.Goals as goal

abbrev terms_of : Vec Term Global → List Term
terms_of terms = terms.items

pub element_of-requires-clause-terms : goal.element_of-requires-clause-terms
element_of-requires-clause-terms c =
    let all = c.args.relations.items in
    let g = c.into_iter-terms-iterator.ensures.into_iter_gives in
    let t = YieldsList-turn (YieldsList-from_vec {s = c.into_iter-terms-iterator.result} all g.0 (g.1 ∙ c.args.relations.ok.0))
    c.loop-terms.yielded _ c.loop-terms.yielded_by c.next.result c.next.new.self c.in-Some.terms c.in-Some.is c.next.ensures.steps in
    subst (λ (terms : Vec Term Global). AreSummable c.args.field.now c.args.alphabet.now.weights terms.items) (sym t.1)
    (c.requires.terms (length c.loop-terms.yielded) c.in-Some.terms t.0)

pub returns-in-Err-clause-elements : goal.returns-in-Err-clause-elements
returns-in-Err-clause-elements c =
    let all = c.args.relations.items in
    let n = c.loop-terms.relation in
    let p = c.args.field.now in
    let weights = c.args.alphabet.now.weights in
    let g = c.into_iter-terms-iterator.ensures.into_iter_gives in
    let t = YieldsList-turn (YieldsList-from_vec {s = c.into_iter-terms-iterator.result} all g.0 (g.1 ∙ c.args.relations.ok.0))
    c.loop-terms.yielded _ c.loop-terms.yielded_by c.next.result c.next.new.self c.in-Some.terms c.in-Some.is c.next.ensures.steps in
    let count : n ≡ length c.loop-terms.yielded = c.loop-terms.invariant.count in
    let within : n < length all = omega (arith, t.0, count) in
    let is : c.in-Some.terms ≡ get_or all n c.in-Some.terms = t.1 ∙ ap (λ (k : ℕ). get_or all k c.in-Some.terms) (sym count) in
    error-turn terms_of all n c.in-Some.terms within is p c.requires.modulus weights c.loop-terms.elements.items c.in-Err.fault
    c.loop-terms.invariant.sound c.in-Err.ensures.element

pub loop-terms-preserved : goal.loop-terms-preserved
loop-terms-preserved c =
    let all = c.args.relations.items in
    let n = c.loop-terms.relation in
    let p = c.args.field.now in
    let weights = c.args.alphabet.now.weights in
    let found = c.loop-terms.elements.items in
    let f = c.in-Ok.element in
    let g = c.into_iter-terms-iterator.ensures.into_iter_gives in
    let t = YieldsList-turn (YieldsList-from_vec {s = c.into_iter-terms-iterator.result} all g.0 (g.1 ∙ c.args.relations.ok.0))
    c.loop-terms.yielded _ c.loop-terms.yielded_by c.next.result c.next.new.self c.in-Some.terms c.in-Some.is c.next.ensures.steps in
    let count : n ≡ length c.loop-terms.yielded = c.loop-terms.invariant.count in
    let within : n < length all = omega (arith, t.0, count) in
    let is : c.in-Some.terms ≡ get_or all n c.in-Some.terms = t.1 ∙ ap (λ (k : ℕ). get_or all k c.in-Some.terms) (sym count) in
    let pushed = c.in_ok-push_other.ensures in
    record {
      count = omega (arith, count, length-append c.loop-terms.yielded (c.in-Some.terms ∷ []));
      few = omega (arith, c.loop-terms.invariant.few, length-others found f, ap length pushed);
      sound = subst (λ (fs : List (List Term)). AreSound p weights (take (n + 1) (map terms_of all)) fs) (sym pushed)
          (sound-turn terms_of all n c.in-Some.terms within is p weights found f c.loop-terms.invariant.sound c.in-Ok.ensures.element
          c.in-Ok.ensures.sound);
      fitting = subst (All (IsFitting p weights)) (sym pushed) (All-others (IsFitting p weights) found f c.loop-terms.invariant.fitting
          (λ ne. c.in-Ok.ensures.fitting));
      others = subst (All (λ (f : List Term). f ≢ [])) (sym pushed) (All-others (λ (f : List Term). f ≢ []) found f c.loop-terms.invariant.others (λ ne. ne));
    }
