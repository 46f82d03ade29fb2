use Rattle.std.proofs.Common.{◌≡◌, ◌+◌, ◌-◌, ◌*◌, ◌/◌, ◌<◌, max, refl, sym, ap, ◌∙◌, arith, subst}
use Rattle.pivot_core.specs.Phases.{IsPhase}
use Rattle.pivot_table.specs.Workers.{Arena}
use Rattle.pivot_table.proofs.WorkerTurns.{phase_within, steps_small, turn_by}
use Rattle.pivot_table.proofs.RowReads.{ReadsAt, belongs, cell_on, load_here, reads_end, reads_step, reads_taken, seen_here}
use Rattle.pivot_table.proofs.PairReads.{pair_begins, pair_between, pair_cell, pair_cell_again, pair_ends}
use Rattle.pivot_table.proofs.race.Race.read_on.Goals as goal

pub overflow_sub-last : goal.overflow_sub-last
overflow_sub-last c =
    let numbers = subst (IsPhase c.self.inside.setting.problem.m c.self.inside.setting.problem.n) c.in-Reading.is (phase_within
    (turn_by c.self.invariant c.worker.invariant c.self.view_is c.worker.view_is c.requires.same)) in
    omega (arith, numbers.3)

pub row_cell-first-requires-clause-row : goal.row_cell-first-requires-clause-row
row_cell-first-requires-clause-row c =
    let numbers = subst (IsPhase c.self.inside.setting.problem.m c.self.inside.setting.problem.n) c.in-Reading.is (phase_within
    (turn_by c.self.invariant c.worker.invariant c.self.view_is c.worker.view_is c.requires.same)) in
    numbers.1

pub row_cell-first-requires-clause-at : goal.row_cell-first-requires-clause-at
row_cell-first-requires-clause-at c =
    let numbers = subst (IsPhase c.self.inside.setting.problem.m c.self.inside.setting.problem.n) c.in-Reading.is (phase_within
    (turn_by c.self.invariant c.worker.invariant c.self.view_is c.worker.view_is c.requires.same)) in
    omega (arith, numbers.3)

pub even_from-even-requires : goal.even_from-even-requires
even_from-even-requires c =
    let numbers = subst (IsPhase c.self.inside.setting.problem.m c.self.inside.setting.problem.n) c.in-Reading.is (phase_within
    (turn_by c.self.invariant c.worker.invariant c.self.view_is c.worker.view_is c.requires.same)) in
    omega (arith, numbers.3)

pub load-old-requires : goal.load-old-requires
load-old-requires c = load_here c.loop-next.invariant.reading (c.row_cell-first.result + c.loop-next.next / 2)
    (cell_on c.self.inside.setting.problem.m c.in-Reading.holder c.loop-next.next c.row_cell-first.result c.row_cell-first.ensures)

pub index_mut-requires : goal.index_mut-requires
index_mut-requires c = seen_here c.loop-next.invariant.reading

pub loop-next-preserved : goal.loop-next-preserved
loop-next-preserved c =
    let h = c.loop-next.invariant in
    record {
      was = h.was;
      from = omega (arith, h.from);
      upto = omega (arith, c.loop-next-test.true);
      reading = reads_step h.reading h.from (omega (arith, c.loop-next-test.true, c.even_from-even.ensures.upto))
          c.load-old.result c.load-old.new.seat c.load-old.ensures.0 c.load-old.ensures.2 c.half_told.ensures;
    }

pub load-low-requires : goal.load-low-requires
load-low-requires c = load_here
    (pair_begins c.even_from-even.result c.loop-pair.pair c.even_from-even.ensures.from c.even_from-even.ensures.even
    c.loop-pair.invariant.from c.loop-pair-test.true c.loop-pair.invariant.reading)
    (c.row_cell-first.result + c.loop-pair.pair)
    (pair_cell c.self.inside.setting.problem.m c.in-Reading.holder c.loop-pair.pair c.row_cell-first.result c.row_cell-first.ensures)

pub index_mut-requires-in-loop-pair : goal.index_mut-requires-in-loop-pair
index_mut-requires-in-loop-pair c = seen_here
    (pair_begins c.even_from-even.result c.loop-pair.pair c.even_from-even.ensures.from c.even_from-even.ensures.even
    c.loop-pair.invariant.from c.loop-pair-test.true c.loop-pair.invariant.reading)

pub load-high-requires : goal.load-high-requires
load-high-requires c = load_here
    (pair_between c.even_from-even.result c.loop-pair.pair c.even_from-even.ensures.from c.even_from-even.ensures.even
    c.loop-pair.invariant.from c.loop-pair-test.true c.loop-pair.invariant.reading
    c.load-low.result c.load-low.new.seat c.load-low.ensures.0 c.load-low.ensures.2
    c.half_told-in-loop-pair.ensures)
    (c.row_cell-first.result + c.loop-pair.pair)
    (pair_cell_again c.self.inside.setting.problem.m c.in-Reading.holder c.loop-pair.pair c.row_cell-first.result c.row_cell-first.ensures)

pub index_mut-requires-in-loop-pair-2 : goal.index_mut-requires-in-loop-pair-2
index_mut-requires-in-loop-pair-2 c = seen_here
    (pair_between c.even_from-even.result c.loop-pair.pair c.even_from-even.ensures.from c.even_from-even.ensures.even
    c.loop-pair.invariant.from c.loop-pair-test.true c.loop-pair.invariant.reading
    c.load-low.result c.load-low.new.seat c.load-low.ensures.0 c.load-low.ensures.2
    c.half_told-in-loop-pair.ensures)

pub loop-pair-preserved : goal.loop-pair-preserved
loop-pair-preserved c = record {
  was = c.loop-pair.invariant.was;
  from = omega (arith, c.loop-pair.invariant.from);
  upto = omega (arith, c.loop-pair-test.true);
  reading = pair_ends c.even_from-even.result c.loop-pair.pair c.even_from-even.ensures.from c.even_from-even.ensures.even
      c.loop-pair.invariant.from c.loop-pair-test.true c.loop-pair.invariant.reading
      c.load-low.result c.load-low.new.seat c.load-low.ensures.0 c.load-low.ensures.2
      c.half_told-in-loop-pair.ensures
      c.load-high.result c.load-high.new.seat c.load-high.ensures.0 c.load-high.ensures.2 c.half_told-in-loop-pair-2.ensures;
}

pub loop-next-2-init : goal.loop-next-2-init
loop-next-2-init c =
    let numbers = subst (IsPhase c.self.inside.setting.problem.m c.self.inside.setting.problem.n) c.in-Reading.is (phase_within
    (turn_by c.self.invariant c.worker.invariant c.self.view_is c.worker.view_is c.requires.same)) in
    let h = c.loop-pair.invariant in
    let all : c.loop-pair.pair ≡ (c.self.inside.setting.problem.m - 1) / 2 = omega (arith, h.upto, c.loop-pair-test.false) in
    let half : 2 * c.loop-pair.pair ≡ (c.self.inside.setting.problem.m - 1) / 2 * 2 = omega (arith, all) in
    let is : max c.even_from-even.result (2 * c.loop-pair.pair) ≡ c.max-next.result = ap (max c.even_from-even.result) half ∙ sym c.max-next.ensures in
    record {
      was = h.was;
      from = omega (arith, c.even_from-even.ensures.from, c.max-next.ensures);
      within = omega (arith, c.even_from-even.ensures.upto, c.max-next.ensures, numbers.3);
      reading = subst (ReadsAt c.self.inside c.args.worker.now c.loop-pair.worker-inside
          c.in-Reading.row c.in-Reading.column c.in-Reading.holder c.in-Reading.at) is h.reading;
    }

pub load-old-requires-in-loop-next-2 : goal.load-old-requires-in-loop-next-2
load-old-requires-in-loop-next-2 c = load_here c.loop-next-2.invariant.reading (c.row_cell-first.result + c.loop-next-2.next / 2)
    (cell_on c.self.inside.setting.problem.m c.in-Reading.holder c.loop-next-2.next c.row_cell-first.result c.row_cell-first.ensures)

pub index_mut-requires-in-loop-next-2 : goal.index_mut-requires-in-loop-next-2
index_mut-requires-in-loop-next-2 c = seen_here c.loop-next-2.invariant.reading

pub loop-next-2-preserved : goal.loop-next-2-preserved
loop-next-2-preserved c =
    let h = c.loop-next-2.invariant in
    let more : c.loop-next-2.next + 1 < c.self.inside.setting.problem.m = omega (arith, c.loop-next-2-test.true) in
    record {
      was = h.was;
      from = omega (arith, h.from);
      within = more;
      reading = reads_step h.reading h.from more c.load-old-in-loop-next-2.result c.load-old-in-loop-next-2.new.seat
          c.load-old-in-loop-next-2.ensures.0 c.load-old-in-loop-next-2.ensures.2 c.half_told-in-loop-next-2.ensures;
    }

pub overflow_sub-last-in-Reading : goal.overflow_sub-last-in-Reading
overflow_sub-last-in-Reading c = omega (arith, c.loop-next-2.invariant.from, c.loop-next-2.invariant.within)

pub overflow_add-worker : goal.overflow_add-worker
overflow_add-worker c =
    let h = c.loop-next-2.invariant in
    let small = steps_small h.reading.here.turn (λ e. cc e) in
    omega (arith, small, c.from.ensures, h.within, c.loop-next-2-test.false)

pub invariant_of-worker : goal.invariant_of-worker
invariant_of-worker c =
    let end = reads_end c.loop-next-2.invariant.reading (c.self.inside.setting.problem.m - 1) c.from.result
    (omega (arith, c.loop-next-2.invariant.within, c.loop-next-2-test.false)) c.from.ensures in
    end.turn.own

pub returns-after-loop-next-2-clause-same : goal.returns-after-loop-next-2-clause-same
returns-after-loop-next-2-clause-same c =
    let end = reads_end c.loop-next-2.invariant.reading (c.self.inside.setting.problem.m - 1) c.from.result
    (omega (arith, c.loop-next-2.invariant.within, c.loop-next-2-test.false)) c.from.ensures in
    belongs c.args.self.now c.self.view_is end.turn

pub returns-after-loop-next-2-clause-seat : goal.returns-after-loop-next-2-clause-seat
returns-after-loop-next-2-clause-seat c = c.loop-next-2.invariant.reading.here.seat

pub returns-after-loop-next-2-clause-taken : goal.returns-after-loop-next-2-clause-taken
returns-after-loop-next-2-clause-taken c =
    let end = reads_end c.loop-next-2.invariant.reading (c.self.inside.setting.problem.m - 1) c.from.result
    (omega (arith, c.loop-next-2.invariant.within, c.loop-next-2-test.false)) c.from.ensures in
    reads_taken c.args.self.now c.self.view_is end

pub returns-after-loop-next-2-clause-last : goal.returns-after-loop-next-2-clause-last
returns-after-loop-next-2-clause-last c = record {
  row = c.in-Reading.row;
  column = c.in-Reading.column;
  holder = c.in-Reading.holder;
  at = c.self.inside.setting.problem.m - 1;
  is = refl;
  last = omega (arith, c.loop-next-2.invariant.within, ap (λ (a : Arena). a.problem.m) c.self.view_is);
}
