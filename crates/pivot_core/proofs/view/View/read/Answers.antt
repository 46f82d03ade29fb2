use Rattle.std.proofs.Common.{◌≡◌, ◌<◌, ℕ, List, set, sym, ap, ◌∙◌, arith, subst}
use Rattle.std.proofs.lemmas.List.{with_items_is}
use Rattle.field_table.specs.Residues.{plus_multiple}
use Rattle.pivot_core.specs.declared.event.Reply.TheVariants as reply
use Rattle.pivot_core.specs.declared.view.Phase.{Phase}
use Rattle.pivot_core.specs.declared.sight.Sight.{Sight}
use Rattle.pivot_core.specs.Meets.{IsMetWord}
use Rattle.pivot_core.specs.Steps.{IsMet}
use Rattle.pivot_core.specs.Views.{difference, settle, sight_of}
use Rattle.pivot_core.proofs.MetRows.{meets_last_read, meets_read, seen_one}
use Rattle.pivot_core.proofs.view.View.read.Goals as goal

pub overflow_cast-word : goal.overflow_cast-word
overflow_cast-word c =
    let residue : c.args.old < c.args.problem.now.modulus = subst (λ (f : Phase). IsMetWord c.args.problem.now f c.args.old)
    c.requires.phase c.requires.may.word in
    omega (arith, residue, c.requires.field, c.modulus-modulus.ensures.small)

pub returns-then-at-m-clause-met : goal.returns-then-at-m-clause-met
returns-then-at-m-clause-met c = meets_read c.args.problem.now (sight_of c.args.self.now) c.args.old c.requires.phase c.if-at-m.true

pub neg-minus-requires : goal.neg-minus-requires
neg-minus-requires c = omega (arith, c.modulus-modulus.ensures.field.two_or_more)

pub returns-clause-met : goal.returns-clause-met
returns-clause-met c =
    let problem = c.args.problem.now in
    let v : Sight = sight_of c.args.self.now in
    let old : ℕ = c.args.old in
    let seen : List ℕ = set v.seen c.args.at old in
    let lost : c.axpy_lanes.new.y ≡ difference problem.modulus v.current seen =
    c.axpy_lanes.ensures.sums ∙ ap (λ (y : List ℕ). plus_multiple c.args.field.now c.neg-minus.result y c.as_slice.result.now) c.as_mut_slice.ensures.value
    ∙ ap (λ (h : List ℕ). plus_multiple c.args.field.now c.neg-minus.result v.current h) c.as_slice.ensures.value
    ∙ ap (λ (k : ℕ). plus_multiple c.args.field.now k v.current seen) c.neg-minus.ensures
    ∙ ap (λ (p : ℕ). difference p v.current seen) c.requires.field in
    let row = with_items_is c.args.self.now.current c.axpy_lanes.new.y (omega (arith, c.axpy_lanes.auto.y, c.as_mut_slice.ensures.len)) ∙ lost in
    let now : sight_of c.settle.new.self ≡ settle problem (seen_one problem v old c.args.at) (difference problem.modulus v.current seen) c.args.row =
    c.settle.ensures.settled ∙ ap (λ (y : List ℕ). settle problem (seen_one problem v old c.args.at) y c.args.row) row in
    subst (λ (w : Sight). IsMet problem v old w (reply.Got old)) (sym now)
    (meets_last_read problem v old c.requires.phase (omega (arith, c.if-at-m.false)))
