-- A whole crew before its first step.
use Rattle.std.proofs.Common.{◌≡◌, All, map, refl, ◌∙◌}
use Rattle.std.specs.List.{range_with_len}
use Rattle.std.proofs.lemmas.List.Elements.{All-map}
use Rattle.std.proofs.lemmas.Simd.{map-map}
use mathlib.Core.List.{map-id}
use Rattle.pivot_core.specs.declared.view.Phase.TheVariants as phase
use Rattle.pivot_table.specs.Workers.{Arena, IsOf, Standing, fresh_crew, fresh_worker}

-- each worker of a fresh crew belongs to the race
pub crew_belongs : (a : Arena) → All (IsOf a) (fresh_crew a)
crew_belongs a = All-map (IsOf a) (fresh_worker a) (range_with_len 0 a.crew) (λ k d lt. record { table = refl; problem = refl; crew = refl })

-- each is in the phase Fresh
pub crew_fresh : (a : Arena) → All (λ w. w.sight.phase ≡ phase.Fresh) (fresh_crew a)
crew_fresh a = All-map (λ (w : Standing). w.sight.phase ≡ phase.Fresh) (fresh_worker a) (range_with_len 0 a.crew) (λ k d lt. refl)

-- and they stand by their seats
pub crew_seats : (a : Arena) → map (λ w. w.sight.seat) (fresh_crew a) ≡ range_with_len 0 a.crew
crew_seats a = map-map (λ (w : Standing). w.sight.seat) (fresh_worker a) (range_with_len 0 a.crew) ∙ map-id (range_with_len 0 a.crew)
