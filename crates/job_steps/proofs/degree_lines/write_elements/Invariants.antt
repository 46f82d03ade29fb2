use Rattle.std.specs.List.{flat_map, slice_range}
use Rattle.poly_writer.specs.Texts.{element_line}
use Rattle.bg_io.specs.Ends.{CountsGained}
use Rattle.job_steps.specs.Gains.{GainsAll}
use Rattle.job_steps.specs.States.{state_of}
use Rattle.job_steps.proofs.degree_lines.write_elements.Given as goal

abbrev pub invariant-loop-place : goal.invariant-loop-place
invariant-loop-place g l = record {
  written : GainsAll (state_of g.K.Sink l.fn.out) (state_of g.K.Sink l.out)
      (flat_map (element_line l.alphabet.names l.field) (slice_range l.basis.elements l.first l.place));
  calls : CountsGained (g.K.Sink.held l.fn.out) (g.K.Sink.held l.out) (g.K.Sink.calls l.fn.out) (g.K.Sink.calls l.out) 0;
}
