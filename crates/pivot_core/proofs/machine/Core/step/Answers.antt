use Rattle.std.proofs.Common.{◌≡◌, ℕ, List, Some, set, refl, arith, sym, ap, ◌∙◌, subst}
use Rattle.std.specs.Vec.{with_item, with_items}
use Rattle.std.proofs.lemmas.List.{with_items_is}
use Rattle.pivot_core.specs.Cores.{Machine, MayStep, state_of}
use Rattle.pivot_core.specs.Runs.{after_event, step_at}
use Rattle.pivot_core.specs.Steps.{Stepped}
use Rattle.pivot_core.specs.Views.{sight_of}
use Rattle.pivot_core.proofs.CoreSteps.{count_after, run_made, state_made, step_made}
use Rattle.pivot_core.proofs.CoreTurns.{may_step, turn_by}
use Rattle.pivot_core.proofs.machine.Core.step.Goals as goal

pub make_step-reply-requires-clause-may : goal.make_step-reply-requires-clause-may
make_step-reply-requires-clause-may c =
    let turn = turn_by c.args.event c.self.invariant (omega (arith, c.if-seat-len.false, c.len.ensures, c.self.inside.views.ok.0))
    c.index_mut.ensures.value c.index.ensures c.if-not-comes_next.ensures in
    subst (λ (ws : List ℕ). MayStep c.self.inside.problem ws c.index_mut.result.now) (sym c.as_mut_slice-words.ensures.value)
    (may_step turn (omega arith) (omega arith))

pub overflow_sub-self : goal.overflow_sub-self
overflow_sub-self c =
    let turn = turn_by c.args.event c.self.invariant (omega (arith, c.if-seat-len.false, c.len.ensures, c.self.inside.views.ok.0))
    c.index_mut.ensures.value c.index.ensures c.if-not-comes_next.ensures in
    (count_after turn c.make_step-reply.new.view c.index-2.result.now c.ended_count.result
    c.index-2.ensures c.ended_count.ensures).0

pub invariant_of-self : goal.invariant_of-self
invariant_of-self c =
    let turn = turn_by c.args.event c.self.invariant (omega (arith, c.if-seat-len.false, c.len.ensures, c.self.inside.views.ok.0))
    c.index_mut.ensures.value c.index.ensures c.if-not-comes_next.ensures in
    let made = rw c.as_mut_slice-words.ensures.value at c.make_step-reply.ensures.made in
    run_made turn c.make_step-reply.new.view made (with_items c.self.inside.words c.make_step-reply.new.words)
    (with_item c.self.inside.views c.args.event.seat c.make_step-reply.new.view)
    c.index-2.result.now c.ended_count.result (with_items_is c.self.inside.words c.make_step-reply.new.words
    (omega (arith, c.make_step-reply.auto.words, c.as_mut_slice-words.ensures.len))) refl c.index-2.ensures c.ended_count.ensures
    c.make_step-reply.ensures.capacity

pub returns-clause-state : goal.returns-clause-state
returns-clause-state c =
    let turn = turn_by c.args.event c.self.invariant (omega (arith, c.if-seat-len.false, c.len.ensures, c.self.inside.views.ok.0))
    c.index_mut.ensures.value c.index.ensures c.if-not-comes_next.ensures in
    let made = rw c.as_mut_slice-words.ensures.value at c.make_step-reply.ensures.made in
    ap (λ (ws : List ℕ). state_of ws (set c.self.inside.views.items c.args.event.seat c.make_step-reply.new.view))
    (with_items_is c.self.inside.words c.make_step-reply.new.words
    (omega (arith, c.make_step-reply.auto.words, c.as_mut_slice-words.ensures.len)))
    ∙ state_made turn c.make_step-reply.new.view made ∙ ap (λ (k : Machine). after_event k.problem k.state c.args.event) c.self.view_is

pub returns-clause-reply : goal.returns-clause-reply
returns-clause-reply c =
    let turn = turn_by c.args.event c.self.invariant (omega (arith, c.if-seat-len.false, c.len.ensures, c.self.inside.views.ok.0))
    c.index_mut.ensures.value c.index.ensures c.if-not-comes_next.ensures in
    let made = rw c.as_mut_slice-words.ensures.value at c.make_step-reply.ensures.made in
    subst (λ (k : Machine). (x : Stepped) × (step_at k.problem k.state c.args.event ≡ Some x) × (x.reply ≡ c.make_step-reply.result)) c.self.view_is (
      record { sight = sight_of c.make_step-reply.new.view; word = made.word; reply = c.make_step-reply.result },
      step_made turn c.make_step-reply.new.view made,
      refl,
    )
