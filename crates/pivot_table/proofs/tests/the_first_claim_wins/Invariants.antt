use Rattle.std.proofs.Common.{◌≡◌, All, map}
use Rattle.std.specs.List.{range_with_len}
use Rattle.pivot_table.specs.Workers.{IsOf, Standing}
use Rattle.pivot_table.proofs.tests.the_first_claim_wins.Given as goal

abbrev pub invariant-loop-seat : goal.invariant-loop-seat
invariant-loop-seat g l = record {
  own : All (IsOf l.race) l.crew.items;
  seats : map (λ (w : Standing). w.sight.seat) l.crew.items ≡ range_with_len 0 l.race.crew;
}
