use Rattle.std.proofs.Common.{arith, length-take}
use Rattle.bg_io.proofs.Transfers.{CountsTaken-more, Loses-more, LosesAtMost-more}
use Rattle.bg_io.proofs.transfer.read_all.Goals as goal

pub returns-then-len-count-clause-too_long : goal.returns-then-len-count-clause-too_long
returns-then-len-count-clause-too_long g c =
    let i = c.loop-buffer.invariant in
    let same = c.loop-buffer.text.ok.0 in
    let above = c.if-len-count.true in
    λ _. Loses-more _ _ _ c.in-Ok.count c.args.limit c.loop-buffer.text.items c.read.new.piece i.taken c.in-Ok.ensures.bytes.0
    c.in-Ok.ensures.bound.0 (omega (
      arith,
      c.read.auto.piece,
      c.min-most.ensures,
      c.len-in-loop-buffer.ensures,
      same,
      length-take c.min-most.result c.loop-buffer.buffer,
    )) i.within (omega (arith, above, same, c.len-in-Ok.ensures))

pub returns-in_err-extend_from_slice-in-Ok-clause-no_memory :
    goal.returns-in_err-extend_from_slice-in-Ok-clause-no_memory
returns-in_err-extend_from_slice-in-Ok-clause-no_memory g c =
    let i = c.loop-buffer.invariant in
    let same = c.loop-buffer.text.ok.0 in
    λ _. LosesAtMost-more _ _ _ c.in-Ok.count c.args.limit c.loop-buffer.text.items c.read.new.piece i.taken c.in-Ok.ensures.bytes.0
    (omega (arith, c.if-len-count.false, same, c.len-in-Ok.ensures))

pub returns-then-len-count-clause-calls_taken : goal.returns-then-len-count-clause-calls_taken
returns-then-len-count-clause-calls_taken g c =
    let i = c.loop-buffer.invariant in
    CountsTaken-more _ _ _ _ _ _ c.in-Ok.count c.loop-buffer.text.items c.read.new.piece i.taken c.in-Ok.ensures.bytes.0 i.calls
    c.in-Ok.ensures.calls

pub returns-in_err-extend_from_slice-in-Ok-clause-calls_taken :
    goal.returns-in_err-extend_from_slice-in-Ok-clause-calls_taken
returns-in_err-extend_from_slice-in-Ok-clause-calls_taken g c =
    let i = c.loop-buffer.invariant in
    CountsTaken-more _ _ _ _ _ _ c.in-Ok.count c.loop-buffer.text.items c.read.new.piece i.taken c.in-Ok.ensures.bytes.0 i.calls
    c.in-Ok.ensures.calls
