use Rattle.std.proofs.Common.{◌∷◌, [], length, length-append, sym, ap, ◌∙◌, arith}
use Rattle.degree_loop.proofs.Going.{going_below, going_test, passing-none, passing-one, passing_few}
use Rattle.degree_loop.proofs.schedule.going_count.Goals as goal
use Rattle.degree_loop.proofs.schedule.going_count.Goals.{then-goes_on, else-goes_on}

pub overflow_add-count : goal.overflow_add-count
overflow_add-count c =
    omega (
      arith,
      c.loop-seat.invariant,
      passing_few (going_test c.args.core.now.problem c.args.core.now.state) c.loop-seat.seat,
      c.loop-seat-test.true,
      c.ranges.crew.fits,
    )

pub loop-seat-preserved : goal.loop-seat-preserved
loop-seat-preserved c =
    let problem = c.args.core.now.problem in
    let s = c.args.core.now.state in
    let i = c.loop-seat.seat in
    elim c.if-goes_on.branch [
      | then-goes_on w ↦
          omega (
            arith,
            w.count-is,
            c.loop-seat.invariant,
            ap length (passing-one (going_test problem s) i (sym c.goes_on.ensures ∙ w.if-goes_on.true)),
            length-append (going_below problem s i) (i ∷ []),
          )
      | else-goes_on w ↦ w.count-is ∙ c.loop-seat.invariant
          ∙ sym (ap length (passing-none (going_test problem s) i (sym c.goes_on.ensures ∙ w.if-goes_on.false)))
    ]
