use Rattle.std.proofs.Common.{◌<◌, ℕ, List, [], take}
use Rattle.std.specs.Prelude.{slice_index_or}
use Rattle.job_steps.specs.Gains.{GainsAll}
use Rattle.job_steps.specs.States.{state_of}
use Rattle.bergman_cli.specs.Normal.{AreAnswers, HasManyTriples}
use Rattle.bergman_cli.proofs.normal.write_answers.Given as goal

abbrev pub invariant-loop-place : goal.invariant-loop-place
invariant-loop-place g l = record {
  none : (k : ℕ) → k < l.place → HasManyTriples l.ideal.alphabet.weights l.ideal.relations (slice_index_or l.questions k []) → ⊥;
  written : (text : List ℕ) × AreAnswers l.field l.ideal.alphabet l.ideal.relations 1 (take l.place l.questions) text
      × GainsAll (state_of g.K.Sink l.fn.out) (state_of g.K.Sink l.out) text;
}
