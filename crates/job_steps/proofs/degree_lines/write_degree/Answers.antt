use Rattle.std.proofs.Common.{◌∙◌}
use Rattle.std.proofs.lemmas.Result.{err_from_is_err_and}
use Rattle.job_steps.specs.Gains.{IsUnwritten}
use Rattle.job_steps.specs.States.{state_of}
use Rattle.job_steps.proofs.DegreeLines.{degree_unwritten, degree_written, head_unwritten, if_err}
use Rattle.job_steps.proofs.Writes.{counts_more}
use Rattle.job_steps.proofs.degree_lines.write_degree.Goals as goal

pub returns-in_err-write_text-clause-unwritten : goal.returns-in_err-write_text-clause-unwritten
returns-in_err-write_text-clause-unwritten g c =
    let e = err_from_is_err_and c.from_residual-in_err-write_text.result c.from_residual-in_err-write_text.ensures.1 in
    let place = c.of_degree-first in
    if_err c.from_residual-in_err-write_text.result e.0 _ (IsUnwritten (state_of g.K.Sink c.args.out.now) (state_of g.K.Sink c.write_text.new.out) _) e.1 e.2
    (head_unwritten c.args.alphabet.now.names c.args.field.now c.args.basis.now.weights c.done-d.result c.args.basis.now.done c.args.basis.now.elements
    place.result.0 place.result.1 c.done-d.ensures.value place.ensures.elements c.if-first-end.false place.ensures.within.0 place.ensures.within.1
    (state_of g.K.Sink c.args.out.now) (state_of g.K.Sink c.write_text.new.out) _
    (c.as_slice.ensures.value ∙ c.in_ok-line.ensures) _ c.in_err-write_text.ensures.unwritten)

pub returns-in-Ok-clause-written : goal.returns-in-Ok-clause-written
returns-in-Ok-clause-written g c =
    let place = c.of_degree-first in
    degree_written c.args.alphabet.now.names c.args.field.now c.args.basis.now.weights c.done-d.result c.args.basis.now.done c.args.basis.now.elements
    place.result.0 place.result.1 c.done-d.ensures.value place.ensures.elements c.if-first-end.false place.ensures.within.0 place.ensures.within.1
    _ _ _ (c.as_slice.ensures.value ∙ c.in_ok-line.ensures) _ c.in_ok-write_text.ensures.written c.in-Ok.ensures.written

pub returns-clause-unwritten : goal.returns-clause-unwritten
returns-clause-unwritten g c =
    let place = c.of_degree-first in
    degree_unwritten c.args.alphabet.now.names c.args.field.now c.args.basis.now.weights c.done-d.result c.args.basis.now.done c.args.basis.now.elements
    place.result.0 place.result.1 c.done-d.ensures.value place.ensures.elements c.if-first-end.false place.ensures.within.0 place.ensures.within.1
    _ _ _ (c.as_slice.ensures.value ∙ c.in_ok-line.ensures) (state_of g.K.Sink c.write_elements.new.out) c.in_ok-write_text.ensures.written
    c.in-Err.fault c.in-Err.ensures.unwritten

pub returns-in-Ok-clause-calls : goal.returns-in-Ok-clause-calls
returns-in-Ok-clause-calls g c = counts_more _ _ _ _ _ _ 0 c.in_ok-write_text.ensures.calls c.in-Ok.ensures.calls

pub returns-clause-calls : goal.returns-clause-calls
returns-clause-calls g c = counts_more _ _ _ _ _ _ 1 c.in_ok-write_text.ensures.calls c.in-Err.ensures.calls
