use Rattle.std.proofs.Common.{Err, ap, sym, ◌∙◌}
use Rattle.free_poly.specs.declared.fault.PolyFault.{PolyFault}
use Rattle.relation_reader.specs.Elements.{IsElementOf}
use Rattle.relation_reader.proofs.Judging.{constant-fault, mixed, no-empty-word, sound}
use Rattle.relation_reader.proofs.elements.element_of.Goals as goal

pub returns-in-Err-MixedDegrees-clause-element : goal.returns-in-Err-MixedDegrees-clause-element
returns-in-Err-MixedDegrees-clause-element c =
    let fault = c.in-Err-MixedDegrees in
    mixed c.args.field.now c.args.alphabet.now.weights c.args.terms.items c.args.relation fault.field-0-0 fault.field-0-1
    (fault.ensures.mixed fault.field-0-0 fault.field-0-1 (ap (λ (e : PolyFault). Err e) fault.field-0-is))

pub returns-then-is_constant-clause-element : goal.returns-then-is_constant-clause-element
returns-then-is_constant-clause-element c =
    let element : IsElementOf c.args.field.now c.args.terms.items c.in-Ok.element =
    record { form = c.in-Ok.ensures.form; residues = c.in-Ok.ensures.residues; sum = c.in-Ok.ensures.sum } in
    constant-fault c.args.field.now c.args.alphabet.now.weights c.args.terms.items c.args.relation c.in-Ok.element element
    c.in-Ok.ensures.one_degree (sym c.is_constant.ensures ∙ c.if-is_constant.true)

pub returns-clause-sound : goal.returns-clause-sound
returns-clause-sound c = λ k. sound c.args.alphabet.now.weights k c.in-Ok.element c.in-Ok.ensures.one_degree
    (sym c.is_constant.ensures ∙ c.if-is_constant.false)

pub returns-clause-fitting : goal.returns-clause-fitting
returns-clause-fitting c = record {
  residues = c.in-Ok.ensures.residues;
  letters = c.in-Ok.ensures.letters;
  one_degree = c.in-Ok.ensures.one_degree;
  words = no-empty-word c.args.alphabet.now.weights c.requires.alphabet.weights c.in-Ok.element c.in-Ok.ensures.form
      c.in-Ok.ensures.one_degree (sym c.is_constant.ensures ∙ c.if-is_constant.false);
}
