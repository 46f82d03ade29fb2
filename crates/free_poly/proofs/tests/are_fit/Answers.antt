use Rattle.std.proofs.Common.{◌≡◌, ◌<◌, ◌^◌, All, get_or, length, List, subst, rules, arith}
use Rattle.std.proofs.lemmas.List.{take_all}
use Rattle.std.proofs.lemmas.List.Elements.{All-more}
use Rattle.words.specs.Words.{IsOver, degree_of}
use Rattle.free_poly.specs.declared.term.Term.{Term}
use Rattle.free_poly.proofs.tests.are_fit.Goals as goal

pub loop-term-preserved : goal.loop-term-preserved
loop-term-preserved c =
    let i = c.loop-term.term-index in
    let ts = c.args.terms.now in
    let t = c.term-item.result in
    let n = c.args.alphabet.now.weights in
    let p = c.args.field.now in
    let here : t ≡ get_or ts i t = c.term-item.is in
    let residue : t.coefficient < p = search rules in
    let letters : IsOver (length n) t.word = search rules in
    let degree : degree_of n t.word < 2 ^ 64 = search rules in (
      All-more (λ (x : Term). x.coefficient < p) ts i t c.loop-term-test.true c.loop-term.invariant.0 (subst (λ (x : Term). x.coefficient < p) here residue),
      All-more (λ (x : Term). IsOver (length n) x.word) ts i t c.loop-term-test.true c.loop-term.invariant.1
          (subst (λ (x : Term). IsOver (length n) x.word) here letters),
      All-more (λ (x : Term). degree_of n x.word < 2 ^ 64) ts i t c.loop-term-test.true c.loop-term.invariant.2
          (subst (λ (x : Term). degree_of n x.word < 2 ^ 64) here degree),
    )

pub returns-clause-residues : goal.returns-clause-residues
returns-clause-residues c _ = subst (λ (ts : List Term). All (λ x. x.coefficient < c.args.field.now) ts)
    (take_all c.loop-term.term-index c.args.terms.now (omega arith)) c.loop-term.invariant.0

pub returns-clause-letters : goal.returns-clause-letters
returns-clause-letters c _ = subst (λ (ts : List Term). All (λ x. IsOver (length c.args.alphabet.now.weights) x.word) ts)
    (take_all c.loop-term.term-index c.args.terms.now (omega arith)) c.loop-term.invariant.1

pub returns-clause-degrees : goal.returns-clause-degrees
returns-clause-degrees c _ = subst (λ (ts : List Term). All (λ x. degree_of c.args.alphabet.now.weights x.word < 2 ^ 64) ts)
    (take_all c.loop-term.term-index c.args.terms.now (omega arith)) c.loop-term.invariant.2
