use Rattle.std.proofs.Common.{◌≡◌, All, map, sym, ap, ◌∙◌, arith, subst}
use Rattle.std.proofs.lemmas.List.{with_items_is}
use Rattle.pivot_core.specs.declared.view.Phase.TheVariants as phase
use Rattle.pivot_table.specs.Workers.{IsOf, Standing}
use Rattle.pivot_table.proofs.Crews.{crew_belongs, crew_fresh, crew_seats}
use Rattle.row_worker.proofs.raced.raced_pivots.Goals as goal

pub race-requires-clause-own : goal.race-requires-clause-own
race-requires-clause-own g c κs within = subst (All (IsOf c.in_ok-table.table))
    (sym (c.as_mut_slice.ensures.value ∙ c.in_ok-table.ensures.workers)) (crew_belongs c.in_ok-table.table)

pub race-requires-clause-fresh : goal.race-requires-clause-fresh
race-requires-clause-fresh g c κs within = subst (All (λ (w : Standing). w.sight.phase ≡ phase.Fresh))
    (sym (c.as_mut_slice.ensures.value ∙ c.in_ok-table.ensures.workers)) (crew_fresh c.in_ok-table.table)

pub close-requires-clause-seats : goal.close-requires-clause-seats
close-requires-clause-seats g c =
    ap (map (λ (w : Standing). w.sight.seat)) (with_items_is c.in_ok-table.workers c.race.new.crew
    (omega (arith, c.race.auto.crew, c.as_mut_slice.ensures.len)))
    ∙ c.race.ensures.seats ∙ ap (map (λ (w : Standing). w.sight.seat)) (c.as_mut_slice.ensures.value ∙ c.in_ok-table.ensures.workers)
    ∙ crew_seats c.in_ok-table.table
