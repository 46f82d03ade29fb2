use Rattle.std.proofs.Common.{arith, rules, ◌-◌, drop, length, length-drop, length-take}
use Rattle.bg_io.proofs.Transfers.{Appends-more, CountsAtMost-more, RoomFalls-more, counts_failed, cut_short, whole_rest}
use Rattle.bg_io.proofs.transfer.write_all.Goals as goal

pub loop-done-preserved : goal.loop-done-preserved
loop-done-preserved g c =
    let i = c.loop-done.invariant in
    record {
      within = search rules;
      gained = Appends-more _ _ _ _ _ _ i.gained (rw (whole_rest c.in-Ok.count c.loop-done.done c.args.bytes.now
          (omega (
            arith,
            c.in-Ok.ensures.bound.0,
            length-take (length c.args.bytes.now - c.loop-done.done)
                (drop c.loop-done.done c.args.bytes.now),
          ))) at c.in-Ok.ensures.bytes);
      room = RoomFalls-more _ _ _ _ _ i.room c.in-Ok.ensures.room;
      kept = search rules;
      calls = CountsAtMost-more _ _ _ _ _ _ i.calls c.in-Ok.ensures.calls (omega (
        arith,
        c.in-Ok.ensures.bound.1 (omega (
          arith,
          c.loop-done-test.true,
          length-take (length c.args.bytes.now - c.loop-done.done)
              (drop c.loop-done.done c.args.bytes.now),
          length-drop c.loop-done.done c.args.bytes.now,
        )),
      ));
    }

pub returns-in-Err-clause-part : goal.returns-in-Err-clause-part
returns-in-Err-clause-part g c = cut_short _ _ _ _ _ c.loop-done-test.true c.loop-done.invariant.gained c.in-Err.ensures.bytes

pub returns-in-Err-clause-calls_gained : goal.returns-in-Err-clause-calls_gained
returns-in-Err-clause-calls_gained g c =
    let i = c.loop-done.invariant in
    counts_failed _ _ _ _ _ _ _ _ c.loop-done-test.true i.gained c.in-Err.ensures.bytes i.calls c.in-Err.ensures.calls
