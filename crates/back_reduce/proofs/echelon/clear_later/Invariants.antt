use Rattle.std.proofs.Common.{◌≡◌, ◌<◌, ℕ, get_or, length}
use Rattle.field_table.specs.Residues.{IsFieldModulus}
use Rattle.back_reduce.specs.declared.echelon.Leader.{Leader}
use Rattle.back_reduce.specs.Leaders.{IsLaterVector}
use Rattle.back_reduce.specs.Table.{IsLeader, IsPlusSum}
use Rattle.back_reduce.proofs.echelon.clear_later.Given as goal

abbrev pub invariant-loop-later : goal.invariant-loop-later
invariant-loop-later l = record {
  leader : IsLeader l.field (length l.initial.row) l.column l.row;
  zeros : (k : ℕ) (d : Leader) → k < l.later-index → l.column < (get_or l.leaders k d).column → get_or l.row (get_or l.leaders k d).column 0 ≡ 0;
  sum : (modulus : IsFieldModulus l.field) → IsPlusSum l.field modulus (IsLaterVector l.field modulus l.leaders l.column) l.initial.row l.row;
}
