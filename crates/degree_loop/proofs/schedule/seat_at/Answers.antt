use Rattle.std.proofs.Common.{◌+◌, ◌-◌, ◌∷◌, [], ℕ, get_or, length, length-append, sym, ap, ◌∙◌, arith}
use Rattle.degree_loop.specs.Schedule.{going_seats}
use Rattle.degree_loop.proofs.Going.{going_below, going_test, passing-none, passing-one, placed}
use Rattle.degree_loop.proofs.schedule.seat_at.Goals as goal
use Rattle.degree_loop.proofs.schedule.seat_at.Goals.{then-goes_on+else-before-place, else-goes_on}

pub returns-then-before-place-clause-seat : goal.returns-then-before-place-clause-seat
returns-then-before-place-clause-seat c =
    let problem = c.args.core.now.problem in
    let s = c.args.core.now.state in
    let i = c.loop-seat.seat in
    let own = placed (going_test problem s) i (sym c.goes_on.ensures ∙ c.if-goes_on.true) (length s.views) (length s.views - (i + 1))
    (omega (arith, c.loop-seat-test.true, c.requires.views)) in
    sym (ap (λ (k : ℕ). get_or (going_seats problem s) k 0) (sym c.if-before-place.true ∙ c.loop-seat.invariant.count) ∙ own.at)

pub loop-seat-preserved : goal.loop-seat-preserved
loop-seat-preserved c =
    let problem = c.args.core.now.problem in
    let s = c.args.core.now.state in
    let i = c.loop-seat.seat in
    elim c.if-goes_on.branch [
      | then-goes_on+else-before-place w ↦
          let one = passing-one (going_test problem s) i (sym c.goes_on.ensures ∙ w.if-goes_on.true) in
          record {
            count = omega (arith, w.before-is, c.loop-seat.invariant.count, ap length one, length-append (going_below problem s i) (i ∷ []));
            upto = omega (arith, w.before-is, c.loop-seat.invariant.upto, w.if-before-place.false);
          }
      | else-goes_on w ↦
          record {
            count = w.before-is ∙ c.loop-seat.invariant.count
                ∙ sym (ap length (passing-none (going_test problem s) i (sym c.goes_on.ensures ∙ w.if-goes_on.false)));
            upto = omega (arith, w.before-is, c.loop-seat.invariant.upto);
          }
    ]
