use Rattle.std.proofs.Common.{sym, ◌∙◌, arith, subst}
use Rattle.std.proofs.lemmas.List.{get_or_read}
use Rattle.pivot_core.specs.declared.view.Phase.TheVariants as phase
use Rattle.pivot_core.specs.Meets.{LeavesWord}
use Rattle.pivot_core.specs.Phases.{IsPhase}
use Rattle.pivot_core.specs.Views.{sight_of}
use Rattle.pivot_core.proofs.WordsLeft.{leaves_count, leaves_look, leaves_lost, leaves_put, leaves_read, leaves_won}
use Rattle.pivot_core.proofs.view.View.word_left.Goals as goal

pub returns-in-Fresh : goal.returns-in-Fresh
returns-in-Fresh c = leaves_count c.args.problem.now (sight_of c.args.self.now) c.args.old c.in-Fresh.is

pub returns-in-Looking : goal.returns-in-Looking
returns-in-Looking c = leaves_look c.args.problem.now (sight_of c.args.self.now) c.args.old c.in-Looking.is

pub returns-in-Putting : goal.returns-in-Putting
returns-in-Putting c =
    let problem = c.args.problem.now in
    let numbers : IsPhase problem.m problem.n (phase.Putting c.in-Putting.row c.in-Putting.column c.in-Putting.at) =
    subst (IsPhase problem.m problem.n) c.in-Putting.is c.requires.may.sight.numbers in
    let entry = get_or_read c.args.self.now.current.items c.in-Putting.at c.index.result.now
    (omega (arith, numbers.2, c.requires.may.sight.current)) c.index.ensures 0 in
    subst (LeavesWord problem (sight_of c.args.self.now) c.args.old) (sym (c.from.ensures ∙ entry))
    (leaves_put problem (sight_of c.args.self.now) c.args.old c.in-Putting.is)

pub returns-then-old-eq0 : goal.returns-then-old-eq0
returns-then-old-eq0 c =
    subst (LeavesWord c.args.problem.now (sight_of c.args.self.now) c.args.old) (sym c.claim_word_of.ensures)
    (leaves_won c.args.problem.now (sight_of c.args.self.now) c.args.old c.in-Claiming.is c.if-old-eq0.true)

pub returns-else-old-eq0 : goal.returns-else-old-eq0
returns-else-old-eq0 c = leaves_lost c.args.problem.now (sight_of c.args.self.now) c.args.old c.in-Claiming.is c.if-old-eq0.false

pub returns-in-Reading : goal.returns-in-Reading
returns-in-Reading c = leaves_read c.args.problem.now (sight_of c.args.self.now) c.args.old c.in-Reading.is
