use Rattle.std.proofs.Common.{◌≡◌, ◌++◌, take}
use Rattle.poly_writer.specs.Texts.{series_lines}
use Rattle.poly_writer.proofs.series.push_series.Given as goal

abbrev pub invariant-loop-degree : goal.invariant-loop-degree
invariant-loop-degree l = l.text.items ≡ l.fn.text.items ++ series_lines 0 (take l.degree l.numbers)
