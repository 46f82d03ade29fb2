use Rattle.std.proofs.Common.{◌≤◌, length, take}
use Rattle.std.specs.List.{AllZip}
use Rattle.symbolic_prep.specs.Numbers.{IsSpanOf}
use Rattle.symbolic_prep.proofs.by_word.listed.Given as goal

abbrev pub invariant-loop-reducer : goal.invariant-loop-reducer
invariant-loop-reducer l = record {
  few : length l.residues ≤ l.reducer-index;
  zipped : AllZip (IsSpanOf l.columns l.numbers.items l.residues) l.spans.items (take l.reducer-index l.reducers);
}
