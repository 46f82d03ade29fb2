use Rattle.std.proofs.Common.{All, ap, map, sym, ◌∙◌, subst}
use Rattle.pivot_table.specs.Workers.{IsOf, Standing}
use Rattle.pivot_table.proofs.Crews.{crew_belongs, crew_seats}
use Rattle.pivot_table.proofs.tests.race_of.Goals as goal

pub returns-clause-own : goal.returns-clause-own
returns-clause-own c = subst (All (IsOf c.in_ok-race.race)) (sym c.in_ok-race.ensures.workers) (crew_belongs c.in_ok-race.race)

pub returns-clause-seats : goal.returns-clause-seats
returns-clause-seats c = ap (map (λ (w : Standing). w.sight.seat)) c.in_ok-race.ensures.workers ∙ crew_seats c.in_ok-race.race
