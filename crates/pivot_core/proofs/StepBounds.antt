-- The bound on steps: its arithmetic.
use Rattle.std.proofs.Common.{◌≡◌, ℕ, zero, suc, ◌+◌, ◌-◌, ◌*◌, ◌<◌, ◌≤◌, ap, ◌∙◌, arith}
use Rattle.std.proofs.Math.Nat.{mul_comm, mul-add}
use Rattle.pivot_core.specs.Calls.{steps_of_row}

-- the most steps of a row before it stands at a column, its draw left out
abbrev pub steps_before : ℕ → ℕ → ℕ
steps_before m c = c * (2 * m + 3 - c)

-- one column more is two steps for it, and two for each column from it on
pub column_steps : (m c : ℕ) → c < m → steps_before m (c + 1) ≡ steps_before m c + (2 + 2 * (m - c))
column_steps m c lt =
    let k : ℕ = m - c in
    let a : 2 * m + 3 - (c + 1) ≡ c + (2 * k + 2) = omega (arith, lt) in
    let b : 2 * m + 3 - c ≡ c + (2 * k + 3) = omega (arith, lt) in
    ap (λ (x : ℕ). (c + 1) * x) a ∙ mul_comm (c + 1) (c + (2 * k + 2)) ∙ mul-add (c + (2 * k + 2)) c 1
    ∙ (let p : (c + (2 * k + 2)) * c ≡ c * c + c * (2 * k + 2) = mul_comm (c + (2 * k + 2)) c ∙ mul-add c c (2 * k + 2) in
    let q : c * (c + (2 * k + 3)) ≡ c * c + c * (2 * k + 3) = mul-add c c (2 * k + 3) in
    let r : c * (2 * k + 3) ≡ c * (2 * k + 2) + c = ap (λ (x : ℕ). c * x) (let one : 2 * k + 3 ≡ (2 * k + 2) + 1 = omega arith in one)
    ∙ mul-add c (2 * k + 2) 1 ∙ omega arith in
    let t : c * (2 * m + 3 - c) ≡ c * (c + (2 * k + 3)) = ap (λ (x : ℕ). c * x) b in
    omega (arith, p, q, r, t))

-- it rises
rises_by : (m c k : ℕ) → c + k ≤ m → steps_before m c ≤ steps_before m (c + k)
rises_by m c zero le = let same : steps_before m (c + 0) ≡ steps_before m c = ap (steps_before m) (let e : c + 0 ≡ c = omega arith in e) in omega (arith, same)
rises_by m c (suc k) le =
    let rest : steps_before m c ≤ steps_before m (c + k) = rises_by m c k (omega (arith, le)) in
    let more : steps_before m (c + k + 1) ≡ steps_before m (c + k) + (2 + 2 * (m - (c + k))) = column_steps m (c + k) (omega (arith, le)) in
    let same : steps_before m (c + suc k) ≡ steps_before m (c + k + 1) = ap (steps_before m) (let e : c + suc k ≡ c + k + 1 = omega arith in e) in
    omega (arith, rest, more, same)

-- the most steps before a column are at most those before a later column
pub steps_before-rises : (m c d : ℕ) → c ≤ d → d ≤ m → steps_before m c ≤ steps_before m d
steps_before-rises m c d le within =
    let to : steps_before m c ≤ steps_before m (c + (d - c)) = rises_by m c (d - c) (omega (arith, le, within)) in
    let same : steps_before m (c + (d - c)) ≡ steps_before m d = ap (steps_before m) (let e : c + (d - c) ≡ d = omega (arith, le) in e) in
    omega (arith, to, same)

-- up to the steps of a row
pub steps_before-whole : (m : ℕ) → steps_before m m + 1 ≡ steps_of_row m
steps_before-whole m =
    let a : steps_before m m ≡ m * (m + 3) = ap (λ (x : ℕ). m * x) (let e : 2 * m + 3 - m ≡ m + 3 = omega arith in e) in
    let b : m * (m + 3) ≡ m * m + m * 3 = mul-add m m 3 in
    omega (arith, a, b, mul_comm m 3)

-- the most steps before a column, with the draw, are at most the steps of a row
pub steps_before-most : (m c : ℕ) → c ≤ m → steps_before m c + 1 ≤ steps_of_row m
steps_before-most m c le = omega (arith, steps_before-rises m c m le (let e : m ≤ m = omega arith in e), steps_before-whole m)

-- the steps of one row more
pub one_row_more : (d k : ℕ) → 1 ≤ d → d * k ≡ (d - 1) * k + k
one_row_more d k some =
    let e : d ≡ d - 1 + 1 = omega (arith, some) in
    ap (λ (x : ℕ). x * k) e ∙ mul_comm (d - 1 + 1) k ∙ mul-add k (d - 1) 1 ∙ omega (arith, mul_comm k (d - 1))
