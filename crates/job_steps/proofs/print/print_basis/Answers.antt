use Rattle.std.proofs.Common.{◌+◌, ◌++◌, ℕ, List, [], refl, ap, subst, ◌∙◌}
use Rattle.std.proofs.lemmas.Result.{err_from_is_err_and}
use Rattle.ideal_laws.specs.declared.limits.LimitKind.{LimitKind}
use Rattle.job_steps.specs.Printing.{IsBasisUndone, IsNext, IsNextUndone, lines_of, task_of}
use Rattle.job_steps.specs.States.{state_of, teller_state}
use Rattle.job_steps.specs.Traces.{OfNextTrace, OfTrace, Tells}
use Rattle.job_steps.proofs.Gaining.{all_behind, all_none}
use Rattle.job_steps.proofs.DegreeLines.{if_err}
use Rattle.job_steps.proofs.Printed.{so_far_next, stands_start, undone_next}
use Rattle.job_steps.proofs.Traced.{part_start, told_here, told_next, tells_none}
use Rattle.job_steps.proofs.Writes.{counts_fault, counts_more, counts_none}
use Rattle.job_steps.proofs.print.print_basis.Goals as goal

pub loop-degree-init : goal.loop-degree-init
loop-degree-init g c =
    let task = task_of c.args.field.now c.args.given.now (g.E.DegreeEngine.kinds c.args.engine.now) c.args.asked in
    let new = c.new-basis.ensures in (
      [],
      stands_start task c.new-basis.result new.done new.weights new.kept,
      all_none (state_of g.K.Sink c.args.out.now),
      refl,
      λ p rs b e a may. may,
      (
        [],
        part_start (g.E.DegreeEngine.may_account c.args.engine.now) task c.args.asked.trace,
        tells_none (teller_state g.T.Sink c.args.teller.now),
      ),
      counts_none _ _ 0,
      refl,
    )

pub print_next-requires-clause-printable : goal.print_next-requires-clause-printable
print_next-requires-clause-printable g c κs within = λ traces below d elements account small setting is_below reduced may.
    c.requires.printable traces below d elements account small setting is_below reduced
    (c.loop-degree.invariant.4 c.args.field.now c.args.given.now below d account may)

pub returns-in_err-print_next-clause-undone : goal.returns-in_err-print_next-clause-undone
returns-in_err-print_next-clause-undone g c =
    let task = task_of c.args.field.now c.args.given.now (g.E.DegreeEngine.kinds c.args.engine.now) c.args.asked in
    let May = g.E.DegreeEngine.may_account c.args.engine.now in
    let Now = g.E.DegreeEngine.may_account c.loop-degree.engine in
    let Told = Tells (teller_state g.T.Sink c.args.teller.now) (teller_state g.T.Sink c.print_next.new.teller) in
    let Holds : ℕ → Type 0 = λ e. OfTrace May task c.args.asked.trace e Told in
    let e = err_from_is_err_and c.from_residual.result c.from_residual.ensures.1 in
    let inv = c.loop-degree.invariant in
    let below = c.loop-degree.basis in
    let Here = Tells (teller_state g.T.Sink c.loop-degree.teller) (teller_state g.T.Sink c.print_next.new.teller) [] in
    let Next = OfNextTrace Now c.args.field.now c.args.given.now below c.args.asked.trace
    (Tells (teller_state g.T.Sink c.loop-degree.teller) (teller_state g.T.Sink c.print_next.new.teller)) in
    let undone = subst (λ (limits : List (LimitKind × ℕ)). IsNextUndone (task_of c.args.field.now c.args.given.now limits c.args.asked) below
    (state_of g.K.Sink c.loop-degree.out) (state_of g.K.Sink c.print_next.new.out) Here Next
    c.in_err-print_next.field-0.0) inv.3 c.in_err-print_next.ensures.undone in
    if_err c.from_residual.result e.0 _ (IsBasisUndone task (state_of g.K.Sink c.args.out.now) (state_of g.K.Sink c.print_next.new.out) Holds) e.1 e.2
    (undone_next task c.loop-degree._degree below inv.0 inv.1 c.loop-degree-test.true _ _ _ Here Next Holds
    (told_here May task c.args.asked.trace c.loop-degree._degree _ _ _ inv.5)
    (told_next May Now task c.args.given.now c.args.field.now refl refl refl inv.4 c.args.asked.trace c.loop-degree._degree below inv.0
    inv.1 _ _ _ inv.5)
    _ inv.2 undone)

pub loop-degree-preserved : goal.loop-degree-preserved
loop-degree-preserved g c =
    let task = task_of c.args.field.now c.args.given.now (g.E.DegreeEngine.kinds c.args.engine.now) c.args.asked in
    let May = g.E.DegreeEngine.may_account c.args.engine.now in
    let Now = g.E.DegreeEngine.may_account c.loop-degree.engine in
    let inv = c.loop-degree.invariant in
    let below = c.loop-degree.basis in
    let next = c.in_ok-print_next.ensures in
    let printed = next.printed in
    let is_next = subst (λ (limits : List (LimitKind × ℕ)). IsNext
    (task_of c.args.field.now c.args.given.now limits c.args.asked) below printed.0) inv.3 printed.1 in (
      inv.0 ++ lines_of c.args.asked.basis c.args.given.now.alphabet.names c.args.field.now (below.done + 1) printed.0,
      record {
        done = next.done ∙ ap (λ (n : ℕ). n + 1) inv.1.done;
        weights = next.weights ∙ inv.1.weights;
        kept = next.kept.1;
        reduced = next.reduced;
        so_far = so_far_next task c.loop-degree._degree below inv.0 inv.1 c.loop-degree-test.true printed.0 is_next;
      },
      all_behind _ _ _ _ _ inv.2 printed.2,
      next.kinds ∙ inv.3,
      λ p rs b e a may. inv.4 p rs b e a (next.accounts p rs b e a may),
      told_next May Now task c.args.given.now c.args.field.now refl refl refl inv.4 c.args.asked.trace c.loop-degree._degree below inv.0
          inv.1 _ _ _ inv.5 next.told,
      counts_more _ _ _ _ _ _ 0 inv.6 next.calls,
      next.same_sink ∙ inv.7,
    )

pub returns-in_err-print_next-clause-calls : goal.returns-in_err-print_next-clause-calls
returns-in_err-print_next-clause-calls g c =
    let e = err_from_is_err_and c.from_residual.result c.from_residual.ensures.1 in
    counts_fault (state_of g.K.Sink c.args.out.now) (state_of g.K.Sink c.print_next.new.out) c.from_residual.result e.0 e.1
    (counts_more _ _ _ _ _ _ 1 c.loop-degree.invariant.6 c.in_err-print_next.ensures.calls)
