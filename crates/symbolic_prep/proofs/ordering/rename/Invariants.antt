use Rattle.std.proofs.Common.{◌≡◌, drop, length, take}
use Rattle.symbolic_prep.specs.Orders.{columns_at}
use Rattle.symbolic_prep.proofs.ordering.rename.Given as goal

abbrev pub invariant-loop-at : goal.invariant-loop-at
invariant-loop-at l = record {
  size : length l.numbers.items ≡ length l.fn.numbers.items;
  done : take l.at l.numbers.items ≡ columns_at l.columns (take l.at l.fn.numbers.items);
  rest : drop l.at l.numbers.items ≡ drop l.at l.fn.numbers.items;
}
