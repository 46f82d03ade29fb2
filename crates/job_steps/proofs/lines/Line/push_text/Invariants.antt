use Rattle.std.proofs.Common.{◌≡◌, ◌+◌, ◌++◌, length, take}
use Rattle.job_steps.proofs.lines.Line.push_text.Given as goal

abbrev pub invariant-loop-byte : goal.invariant-loop-byte
invariant-loop-byte l = record {
  text : l.self ≡ l.initial.self ++ take l.byte-index l.text;
  size : length l.self ≡ length l.initial.self + l.byte-index;
}
