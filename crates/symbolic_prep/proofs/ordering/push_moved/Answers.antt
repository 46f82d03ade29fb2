use Rattle.std.proofs.Common.{Some, Option, length, refl, rules, subst, sym, ◌≡◌}
use Rattle.symbolic_prep.specs.declared.lists.Span.{Span}
use Rattle.symbolic_prep.specs.Orders.{IsMoved}
use Rattle.symbolic_prep.proofs.Moved.{moved_part}
use Rattle.symbolic_prep.proofs.ordering.push_moved.Goals as goal

pub returns-in_ok-end-in-Some-clause-moved : goal.returns-in_ok-end-in-Some-clause-moved
returns-in_ok-end-in-Some-clause-moved c =
    let t : Span = record { start = c.in_ok-start-in-Some.start; end = c.in_ok-end-in-Some.end; element = c.in-Some.span.element } in
    let starts : length c.args.moved.now.items ≡ t.start = search rules in
    let ends : length c.extend_from_slice.new.self.items ≡ t.end = search rules in
    subst (λ (o : Option Span). IsMoved c.args.numbers.now c.extend_from_slice.new.self.items o (Some t)) (sym c.in-Some.is)
    (moved_part c.args.numbers.now c.args.moved.now.items c.extend_from_slice.new.self.items c.in-Some.span t
    c.in_ok-extend_from_slice-in-Some.ensures.items starts ends refl)
