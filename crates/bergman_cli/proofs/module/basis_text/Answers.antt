use Rattle.std.proofs.Common.{◌∙◌, List, All, ap, arith, length, subst, sym}
use Rattle.free_poly.specs.declared.term.Term.{Term}
use Rattle.free_poly.specs.Poly.{IsMonic}
use Rattle.free_poly.specs.Terms.{HasResidues, UsesLetters}
use Rattle.poly_writer.specs.Texts.{basis_text}
use Rattle.right_modules.specs.declared.module.ModuleDegree.{ModuleDegree}
use Rattle.bergman_cli.proofs.ModuleTexts.{basis_printed, lists_of, printed_elements, text_end}
use Rattle.bergman_cli.proofs.module.basis_text.Goals as goal

pub degree_text-requires-clause-letters : goal.degree_text-requires-clause-letters
degree_text-requires-clause-letters c =
    let printed = printed_elements c.args.field.now c.args.given.now c.args.job.now.gens c.args.job.now.bound c.args.degrees.now c.requires
    c.loop-part.part-index c.part-item.result (omega (arith, c.loop-part-test.true, c.requires.size)) in
    subst (λ (fs : List (List Term)). All (UsesLetters (length c.args.given.now.alphabet.weights)) fs)
    (ap (λ (m : ModuleDegree). m.elements) (sym c.part-item.is) ∙ sym c.as_slice.ensures) (λ k d within. (printed k d within).0.letters)

pub degree_text-requires-clause-residues : goal.degree_text-requires-clause-residues
degree_text-requires-clause-residues c =
    let printed = printed_elements c.args.field.now c.args.given.now c.args.job.now.gens c.args.job.now.bound c.args.degrees.now c.requires
    c.loop-part.part-index c.part-item.result (omega (arith, c.loop-part-test.true, c.requires.size)) in
    subst (λ (fs : List (List Term)). All (HasResidues c.args.field.now) fs)
    (ap (λ (m : ModuleDegree). m.elements) (sym c.part-item.is) ∙ sym c.as_slice.ensures)
    (λ k d within. (printed k d within).0.residues)

pub degree_text-requires-clause-monic : goal.degree_text-requires-clause-monic
degree_text-requires-clause-monic c =
    let printed = printed_elements c.args.field.now c.args.given.now c.args.job.now.gens c.args.job.now.bound c.args.degrees.now c.requires
    c.loop-part.part-index c.part-item.result (omega (arith, c.loop-part-test.true, c.requires.size)) in
    subst (λ (fs : List (List Term)). All IsMonic fs) (ap (λ (m : ModuleDegree). m.elements) (sym c.part-item.is) ∙ sym c.as_slice.ensures)
    (λ k d within. (printed k d within).1)

pub returns : goal.returns
returns c =
    let given = c.args.given.now in
    let degrees = c.args.degrees.now in
    let whole = basis_text given.alphabet.names c.args.field.now (lists_of degrees) in
    basis_printed c.args.field.now given c.args.job.now.gens c.args.job.now.bound degrees c.requires c.loop-part.text.items
    (text_end given.alphabet.names c.args.field.now degrees whole c.loop-part.text.items c.loop-part.part-index (omega arith) c.loop-part.invariant)
