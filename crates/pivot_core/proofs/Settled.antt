-- What settle gives, case by case.
use Rattle.std.proofs.Common.{◌≡◌, ◌<◌, ◌≤◌, ℕ, List, map, length, get_or, sym, ap, ◌∙◌}
use Rattle.std.proofs.lemmas.Bool.{cond-true, cond-false, lt-ltb, le-ltb}
use Rattle.field_table.specs.Residues.{product_of}
use Rattle.back_reduce.specs.declared.problem.Problem.{Problem}
use Rattle.pivot_core.specs.declared.view.Phase.TheVariants as phase
use Rattle.pivot_core.specs.declared.sight.Sight.{Sight}
use Rattle.pivot_core.specs.Views.{lead_at, made_monic, settle, zeros}
use Rattle.pivot_core.proofs.ModuloRows.{zero_row}
use Rattle.pivot_core.proofs.Monic.{inverse_of-is}
use Rattle.pivot_core.proofs.Zeros.{zeros_by}

-- a row with a leading column goes on made monic, looking at this column, with zeros seen
pub settle-on : (problem : Problem) (v : Sight) (y : List ℕ) (row : ℕ) → lead_at y < problem.m
    → settle problem v y row ≡ record v { phase = phase.Looking row (lead_at y); current = made_monic problem.modulus y; seen = zeros problem.m }
settle-on problem v y row lt = cond-true _ _ _ (lt-ltb (lead_at y) problem.m lt)

-- a row without a leading column is given up
pub settle-off : (problem : Problem) (v : Sight) (y : List ℕ) (row : ℕ) → problem.m ≤ lead_at y
    → settle problem v y row ≡ record v { phase = phase.Fresh; current = zeros problem.m; seen = zeros problem.m }
settle-off problem v y row le = cond-false _ _ _ (le-ltb (lead_at y) problem.m le)

-- a row scaled by an inverse of its leading entry is made monic
pub made_monic-is : (p : ℕ) (y : List ℕ) (i : ℕ) → i < p → product_of p (get_or y (lead_at y) 0) i ≡ 1 → map (λ x. product_of p i x) y ≡ made_monic p y
made_monic-is p y i lt one = ap (λ (k : ℕ). map (λ x. product_of p k x) y) (inverse_of-is p (get_or y (lead_at y) 0) i lt one)

-- a view that goes on, and one whose row is given up
pub looking-is : (problem : Problem) (v : Sight) (y : List ℕ) (row column : ℕ) (current seen : List ℕ) → lead_at y < problem.m →
    column ≡ lead_at y → current ≡ made_monic problem.modulus y → seen ≡ zeros problem.m
    → record v { phase = phase.Looking row column; current = current; seen = seen } ≡ settle problem v y row
looking-is problem v y row column current seen lt is_column is_current is_seen =
    let e : record v { phase = phase.Looking row column; current = current; seen = seen }
    ≡ record v { phase = phase.Looking row (lead_at y); current = made_monic problem.modulus y; seen = zeros problem.m } =
    λ i. record v { phase = phase.Looking row (is_column i); current = is_current i; seen = is_seen i } in
    e ∙ sym (settle-on problem v y row lt)

-- a view made fresh that keeps a row without a leading column, with zeros seen, is the one whose row is given up
pub fresh-is : (problem : Problem) (v : Sight) (y : List ℕ) (row : ℕ) (seen : List ℕ) → problem.m ≤ lead_at y → length y ≡ problem.m → seen ≡ zeros problem.m
    → record v { phase = phase.Fresh; current = y; seen = seen } ≡ settle problem v y row
fresh-is problem v y row seen le size is_seen =
    let is_current : y ≡ zeros problem.m = zeros_by problem.m y size (zero_row problem.m y size le) in
    let e : record v { phase = phase.Fresh; current = y; seen = seen } ≡ record v { phase = phase.Fresh; current = zeros problem.m; seen = zeros problem.m } =
    λ i. record v { phase = phase.Fresh; current = is_current i; seen = is_seen i } in
    e ∙ sym (settle-off problem v y row le)
