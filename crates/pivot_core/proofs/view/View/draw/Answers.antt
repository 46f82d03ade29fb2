use Rattle.std.proofs.Common.{◌≡◌, ◌+◌, ◌<◌, ℕ, List, Some, sym, ap, ◌∙◌, arith, subst}
use Rattle.std.proofs.lemmas.List.{with_items_is}
use Rattle.pivot_core.specs.declared.event.Reply.TheVariants as reply
use Rattle.pivot_core.specs.declared.sight.Sight.{Sight}
use Rattle.pivot_core.specs.Steps.{IsMet}
use Rattle.pivot_core.specs.Views.{given_row, settle, sight_of}
use Rattle.pivot_core.proofs.MetRows.{meets_draw, meets_end}
use Rattle.pivot_core.proofs.view.View.draw.Goals as goal

pub returns-then-old-from-clause-met : goal.returns-then-old-from-clause-met
returns-then-old-from-clause-met c = meets_end c.args.problem.now (sight_of c.args.self.now) c.args.old c.requires.phase
    (omega (arith, c.from.ensures, c.if-old-from.true))

pub returns-clause-met : goal.returns-clause-met
returns-clause-met c =
    let problem = c.args.problem.now in
    let v : Sight = sight_of c.args.self.now in
    let some : c.args.old < problem.n = omega (arith, c.from.ensures, c.if-old-from.false) in
    let drawn : Sight = record v { steps = v.steps + 1; drawn = v.drawn + 1 } in
    let row = with_items_is c.args.self.now.current c.copy_row.new.row (omega (arith, c.copy_row.auto.row, c.as_mut_slice.ensures.len)) ∙ c.copy_row.ensures in
    let now : sight_of c.settle.new.self ≡ settle problem drawn (given_row problem c.args.old) c.args.old =
    c.settle.ensures.settled ∙ ap (λ (y : List ℕ). settle problem drawn y c.args.old) row in
    subst (λ (w : Sight). IsMet problem v c.args.old w (reply.Drew (Some c.args.old))) (sym now) (meets_draw problem v c.args.old c.requires.phase some)
