use Rattle.std.proofs.Common.{◌+◌, ℕ, Err, ap, subst, ◌∙◌, refl}
use Rattle.std.proofs.KnownBytes.{Appends-nil}
use Rattle.ideal_laws.specs.Ideal.{ideal_of}
use Rattle.ideal_laws.specs.Kept.{IsBelow}
use Rattle.ideal_laws.specs.Quantities.{IsFirstPassing, IsQuantity}
use Rattle.relation_reader.proofs.Bools.{not_false}
use Rattle.job_steps.specs.Printing.{task_of}
use Rattle.job_steps.specs.States.{state_of, teller_state}
use Rattle.job_steps.specs.Traces.{Tells, trace_of}
use Rattle.job_steps.proofs.Gaining.{all_none}
use Rattle.job_steps.proofs.Traced.{tells_none}
use Rattle.job_steps.proofs.DegreeLines.{hidden_next, is_hidden, limit_moved, residues_of, shown_next, undone_shown}
use Rattle.job_steps.proofs.print.print_next.Goals as goal

pub returns-in-Err-Limit-clause-undone : goal.returns-in-Err-Limit-clause-undone
returns-in-Err-Limit-clause-undone g c =
    let basis = c.args.basis.now in
    let limits = g.E.DegreeEngine.kinds c.args.engine.now in
    let Q = IsQuantity (ideal_of c.args.field.now c.args.given.now) basis (basis.done + 1) in
    let u = c.in-Err-Limit.ensures.limit c.in-Err-Limit.kind c.in-Err-Limit.degree c.in-Err-Limit.value (ap Err c.in-Err-Limit.field-0-is) in (
      c.in-Err-Limit.degree-is ∙ u.0,
      limit_moved (IsFirstPassing Q limits) _ _ _ _ c.in-Err-Limit.kind-is c.in-Err-Limit.value-is u.1,
      Appends-nil (g.K.Sink.held c.args.out.now),
      tells_none (teller_state g.T.Sink c.args.teller.now),
    )

pub returns-then-not-asked-clause-printed : goal.returns-then-not-asked-clause-printed
returns-then-not-asked-clause-printed g c =
    let next = c.in-Ok.ensures in
    hidden_next (task_of c.args.field.now c.args.given.now (g.E.DegreeEngine.kinds c.args.engine.now) c.args.asked)
    c.args.basis.now c.advance.new.basis c.requires.next.same_weights next.weights next.done next.reduced next.within
    (state_of g.K.Sink c.args.out.now) (state_of g.K.Sink c.args.out.now) (is_hidden c.args.asked.basis c.if-not-asked.true)
    (all_none (state_of g.K.Sink c.args.out.now))

pub tell_degree-requires : goal.tell_degree-requires
tell_degree-requires g c =
    let next = c.in-Ok.ensures in
    let basis = c.args.basis.now in
    let is_below : IsBelow (ideal_of c.args.field.now c.args.given.now) (basis.done + 1) basis =
    record { kept = next.kept.0; next = refl; same_weights = c.requires.next.same_weights; reduced = c.requires.next.reduced } in
    record {
      printable = λ traces. c.requires.printable traces basis (basis.done + 1) next.elements.0 c.in-Ok.account
          c.requires.next.small c.setting_law.ensures is_below next.elements.1 next.account;
    }

pub write_degree-requires-clause-residues : goal.write_degree-requires-clause-residues
write_degree-requires-clause-residues g c = λ κs lives.
    let next = c.in-Ok.ensures in
    residues_of (task_of c.args.field.now c.args.given.now (g.E.DegreeEngine.kinds c.args.engine.now) c.args.asked)
    c.args.basis.now c.advance.new.basis c.requires.next.same_weights next.weights next.done next.reduced next.within
    c.setting_law.ensures next.kept.1

pub returns-in-Ok-write_degree-clause-printed : goal.returns-in-Ok-write_degree-clause-printed
returns-in-Ok-write_degree-clause-printed g c =
    let next = c.in-Ok.ensures in
    shown_next (task_of c.args.field.now c.args.given.now (g.E.DegreeEngine.kinds c.args.engine.now) c.args.asked)
    c.args.basis.now c.advance.new.basis c.requires.next.same_weights next.weights next.done next.reduced next.within
    _ _ (not_false c.args.asked.basis c.if-not-asked.false) c.in-Ok-write_degree.ensures.written

pub returns-clause-undone : goal.returns-clause-undone
returns-clause-undone g c =
    let next = c.in-Ok.ensures in
    let Told = Tells (teller_state g.T.Sink c.args.teller.now) (teller_state g.T.Sink c.tell_degree.new.teller) in
    let told = subst (λ (d : ℕ). Told (trace_of c.args.asked.trace c.args.given.now.alphabet.names d c.in-Ok.account))
    (c.done-d.ensures.value ∙ next.done) c.in_ok-tell_degree-in-Ok.ensures.told in
    undone_shown (task_of c.args.field.now c.args.given.now (g.E.DegreeEngine.kinds c.args.engine.now) c.args.asked)
    c.args.basis.now c.advance.new.basis c.requires.next.same_weights next.weights next.done next.reduced next.within
    (state_of g.K.Sink c.args.out.now) (state_of g.K.Sink c.write_degree.new.out) _ _ c.in-Err.fault (not_false c.args.asked.basis c.if-not-asked.false)
    (c.in-Ok.account, next.account, told)
    c.in-Err.ensures.unwritten
