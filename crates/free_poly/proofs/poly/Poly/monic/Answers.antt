use Rattle.std.proofs.Common.{◌≡◌, ◌<◌, ◌≤◌, length, arith, ap, ◌∙◌, subst}
use Rattle.std.proofs.lemmas.List.{take_all}
use Rattle.free_poly.specs.Poly.{IsPolynomial}
use Rattle.free_poly.proofs.Multiples.{HasResidues-multiple_of, IsMultiple-multiple_of, IsPolynomial-multiple_of, map-words-multiple_of, multiple_of}
use Rattle.free_poly.proofs.poly.Poly.monic.Goals as goal

made : (c : goal.After-loop-term) → c.loop-term.terms.items ≡ multiple_of c.args.field.now c.inv-a.result c.args.self.now
made c =
    let whole : length c.args.self.now ≤ c.loop-term.term-index = omega
    (arith, c.loop-term-test.false, ap length c.deref-term-items.ensures.value, ap length c.self.view_is) in
    c.loop-term.invariant ∙ ap (multiple_of c.args.field.now c.inv-a.result) (take_all c.loop-term.term-index c.args.self.now whole)

pub invariant_of-result : goal.invariant_of-result
invariant_of-result c =
    let form : IsPolynomial c.args.self.now = subst IsPolynomial c.self.view_is c.self.invariant in
    rw (made c) (IsPolynomial-multiple_of _ _ _ c.inv-a.ensures.one c.args.self.now form c.requires.residues)

pub returns-clause-multiple : goal.returns-clause-multiple
returns-clause-multiple c = rw (made c) (IsMultiple-multiple_of _ _ _ c.inv-a.ensures.one c.args.self.now c.inv-a.ensures.residue)

pub returns-clause-words : goal.returns-clause-words
returns-clause-words c = rw (made c) (map-words-multiple_of _ _ c.args.self.now)

pub returns-clause-form : goal.returns-clause-form
returns-clause-form c = invariant_of-result c

pub returns-clause-residues : goal.returns-clause-residues
returns-clause-residues c =
    let some : 0 < c.args.field.now = omega (arith, c.inv-a.ensures.residue) in
    rw (made c) (HasResidues-multiple_of _ _ c.args.self.now some)
