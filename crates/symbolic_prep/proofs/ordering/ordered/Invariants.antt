use Rattle.std.proofs.Common.{◌≡◌, drop, length, take}
use Rattle.std.specs.List.{AllZip}
use Rattle.symbolic_prep.specs.Orders.{IsMoved}
use Rattle.symbolic_prep.proofs.ordering.ordered.Given as goal

abbrev pub invariant-loop-at : goal.invariant-loop-at
invariant-loop-at l = record {
  size : length l.ordered.items ≡ length l.initial.ordered.items;
  done : AllZip (IsMoved l.numbers l.moved.items) (take l.at l.initial.ordered.items) (take l.at l.ordered.items);
  rest : drop l.at l.ordered.items ≡ drop l.at l.initial.ordered.items;
}
