-- Crews before and after their run.
use Rattle.std.specs.Prelude.{◌≡◌, All, List, map}
use Rattle.pivot_core.specs.declared.view.Phase.TheVariants as phase
use Rattle.pivot_table.specs.Workers.{Arena, IsOf, Standing}

-- workers of the race before their first step
abbrev pub AreFresh : Arena → List Standing → Type 0
AreFresh race crew = All (IsOf race) crew × All (λ w. w.sight.phase ≡ phase.Fresh) crew

-- workers of the race that have ended, at the seats of those before
abbrev pub HaveEnded : Arena → List Standing → List Standing → Type 0
HaveEnded race before after = All (IsOf race) after × (map (λ w. w.sight.seat) after ≡ map (λ w. w.sight.seat) before)
    × All (λ w. w.sight.phase ≡ phase.Ended) after
