use Rattle.std.proofs.Common.{◌≡◌, ◌++◌, take}
use Rattle.std.specs.List.{flat_map}
use Rattle.poly_writer.specs.Texts.{call_line}
use Rattle.poly_writer.proofs.trace.trace_text.Given as goal

abbrev pub invariant-loop-call : goal.invariant-loop-call
invariant-loop-call l = l.text.items ≡ l.initial.text.items ++ flat_map (call_line l.alphabet.names l.columns) (take l.call-index l.call-items)
