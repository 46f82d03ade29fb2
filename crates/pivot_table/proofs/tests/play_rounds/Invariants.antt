use Rattle.std.proofs.Common.{◌≡◌, All, map}
use Rattle.pivot_table.specs.Workers.{IsOf, Standing}
use Rattle.pivot_table.proofs.tests.play_rounds.Given as goal

abbrev pub invariant-loop : goal.invariant-loop
invariant-loop l = record {
  own : All (IsOf l.race) l.crew.items;
  seats : map (λ (w : Standing). w.sight.seat) l.crew.items ≡ map (λ (w : Standing). w.sight.seat) l.fn.crew.items;
}
