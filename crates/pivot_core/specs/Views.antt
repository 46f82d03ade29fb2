-- The views of the machine of claims.
use Rattle.std.specs.Prelude.{ℕ, zero, suc, ◌==◌, ltb, cond, if◌then◌else◌, List, [], ◌∷◌, map, replicate, slice_index}
use Rattle.field_table.specs.Residues.{negative_of, plus_multiple, product_of}
use Rattle.back_reduce.specs.declared.problem.Problem.{Problem}
use Rattle.back_reduce.specs.Problems.{row_of}
use Rattle.pivot_core.specs.declared.view.Phase.TheVariants as phase
use Rattle.pivot_core.specs.declared.view.View.{View}
use Rattle.pivot_core.specs.declared.sight.Sight.{Sight}

-- a view without the room of its lists
abbrev pub sight_of : View → Sight
sight_of v = record {
  seat = v.seat;
  phase = v.phase;
  current = v.current.items;
  seen = v.seen.items;
  clock = v.clock;
  drawn = v.drawn;
  steps = v.steps;
  calls = v.calls.items;
}

abbrev pub zeros : ℕ → List ℕ
zeros m = replicate m 0

-- the view of a seat before its first step
abbrev pub fresh : ℕ → ℕ → Sight
fresh m seat = record {
  seat = seat;
  phase = phase.Fresh;
  current = zeros m;
  seen = zeros m;
  clock = 0;
  drawn = 0;
  steps = 0;
  calls = [];
}

-- row r of the problem
abbrev pub given_row : Problem → ℕ → List ℕ
given_row problem r = row_of problem.rows.items r

-- the first column at which a row is not 0, and the number of its columns where there is none
abbrev pub lead_at : List ℕ → ℕ
lead_at [] = 0
lead_at (x ∷ xs) = cond (x == 0) (suc (lead_at xs)) 0

-- the greatest b below k with a * b = 1 modulo p, and 0 where there is none
abbrev pub inverse_below : ℕ → ℕ → ℕ → ℕ
inverse_below p a zero = 0
inverse_below p a (suc b) = cond (product_of p a b == 1) b (inverse_below p a b)

-- the inverse of a residue
abbrev pub inverse_of : ℕ → ℕ → ℕ
inverse_of p a = inverse_below p a p

-- y times the inverse of its first entry that is not 0
abbrev pub made_monic : ℕ → List ℕ → List ℕ
made_monic p y = map (λ x. product_of p (inverse_of p (slice_index y (lead_at y))) x) y

-- x less y
abbrev pub difference : ℕ → List ℕ → List ℕ → List ℕ
difference p x y = plus_multiple p (negative_of p 1) x y

-- a row goes on as y: it is given up where y is 0, and else looks at its leading column
abbrev pub settle : Problem → Sight → List ℕ → ℕ → Sight
settle problem v y row = if ltb (lead_at y) problem.m
    then record v {
      phase = phase.Looking row (lead_at y);
      current = made_monic problem.modulus y;
      seen = zeros problem.m;
    }
    else record v { phase = phase.Fresh; current = zeros problem.m; seen = zeros problem.m }

-- a row begins to read the row that holds its column
abbrev pub begin : Problem → Sight → ℕ → ℕ → ℕ → Sight
begin problem v row column holder = record v { phase = phase.Reading row column holder column; seen = zeros problem.m }
