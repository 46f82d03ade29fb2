use Rattle.std.proofs.Common.{ap, ◌∙◌, arith}
use Rattle.std.proofs.lemmas.Result.{err_from_is_err_and}
use Rattle.job_steps.specs.Gains.{IsUnwritten}
use Rattle.job_steps.specs.States.{state_of}
use Rattle.job_steps.proofs.DegreeLines.{if_err, length-lines, line_of_place, unwritten_more, written_more}
use Rattle.job_steps.proofs.Writes.{counts_fault, counts_more}
use Rattle.job_steps.proofs.degree_lines.write_elements.Goals as goal

pub returns-in_err-write_text-clause-unwritten : goal.returns-in_err-write_text-clause-unwritten
returns-in_err-write_text-clause-unwritten g c =
    let e = err_from_is_err_and c.from_residual-in_err-write_text.result c.from_residual-in_err-write_text.ensures.1 in
    if_err c.from_residual-in_err-write_text.result e.0 _ (IsUnwritten (state_of g.K.Sink c.args.out.now) (state_of g.K.Sink c.write_text.new.out) _) e.1 e.2
    (unwritten_more c.args.alphabet.now.names c.args.field.now c.args.basis.now.elements _ _
    (state_of g.K.Sink c.write_text.new.out) c.args.first c.loop-place.place
    c.args.end c.as_slice.result.now
    (omega (arith, c.loop-place.auto.place)) c.loop-place-test.true c.requires.within
    (c.as_slice.ensures.value ∙ ap (λ line. line.items) c.index.ensures
    ∙ line_of_place c.args.alphabet.now.names c.args.field.now c.args.basis.now.elements
    c.args.first c.loop-place.place c.args.end c.in_ok-lines.lines.items c.index.result.now (omega (arith, c.loop-place.auto.place)) c.loop-place-test.true
    c.in_ok-lines.ensures) _ c.loop-place.invariant.written
    c.in_err-write_text.ensures.unwritten)

pub loop-place-preserved : goal.loop-place-preserved
loop-place-preserved g c = record {
  written = written_more c.args.alphabet.now.names c.args.field.now c.args.basis.now.elements _ _ _ c.args.first c.loop-place.place
      c.args.end c.as_slice.result.now
      (omega (arith, c.loop-place.auto.place)) c.loop-place-test.true c.requires.within
      (c.as_slice.ensures.value ∙ ap (λ line. line.items) c.index.ensures ∙ line_of_place c.args.alphabet.now.names c.args.field.now c.args.basis.now.elements
      c.args.first c.loop-place.place c.args.end c.in_ok-lines.lines.items c.index.result.now (omega (arith, c.loop-place.auto.place)) c.loop-place-test.true
      c.in_ok-lines.ensures) c.loop-place.invariant.written
      c.in_ok-write_text.ensures.written;
  calls = counts_more _ _ _ _ _ _ 0 c.loop-place.invariant.calls c.in_ok-write_text.ensures.calls;
}

pub returns-in_err-write_text-clause-calls : goal.returns-in_err-write_text-clause-calls
returns-in_err-write_text-clause-calls g c =
    let e = err_from_is_err_and c.from_residual-in_err-write_text.result c.from_residual-in_err-write_text.ensures.1 in
    counts_fault (state_of g.K.Sink c.args.out.now) (state_of g.K.Sink c.write_text.new.out) c.from_residual-in_err-write_text.result e.0 e.1
    (counts_more _ _ _ _ _ _ 1 c.loop-place.invariant.calls c.in_err-write_text.ensures.calls)

pub index-requires : goal.index-requires
index-requires g c = omega (
  arith,
  c.loop-place.auto.place,
  c.loop-place-test.true,
  length-lines c.args.alphabet.now.names c.args.field.now
      c.args.basis.now.elements c.args.first c.args.end c.in_ok-lines.lines.items c.in_ok-lines.ensures,
)
