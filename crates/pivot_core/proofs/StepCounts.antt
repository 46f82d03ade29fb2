-- How many steps and claims a seat makes.
use Rattle.std.proofs.Common.{◌≡◌, ℕ, ◌+◌, ◌-◌, ◌*◌, ◌<◌, ◌≤◌, All, List, [], ◌∷◌, length, ap, ◌∙◌, arith}
use Rattle.std.specs.List.{sum_by}
use Rattle.std.proofs.Math.Nat.{mul_comm, mul-add}
use Rattle.std.proofs.lemmas.List.Elements.{All-head, All-tail}
use Rattle.std.proofs.lemmas.List.Sums.{get_or-le-sum_by, sum_by-cons}
use Rattle.std.proofs.lemmas.Nat.{mul-le}
use Rattle.back_reduce.specs.declared.problem.Problem.{Problem}
use Rattle.pivot_core.specs.declared.view.Phase.{Phase}
use Rattle.pivot_core.specs.declared.view.Phase.TheVariants as phase
use Rattle.pivot_core.specs.declared.sight.Sight.{Sight}
use Rattle.pivot_core.specs.Views.{fresh}
use Rattle.pivot_core.specs.Runs.{State, state_after, view_at}
use Rattle.pivot_core.specs.Phases.{IsPhase}
use Rattle.pivot_core.specs.Calls.{IsBounded, steps_of_row}
use Rattle.pivot_core.specs.Claimed.{ClaimedPivots}
use Rattle.pivot_core.specs.Laws.{IsCounted, StepCounts}
use Rattle.pivot_core.proofs.Counts.{all_views, calls_below_columns, calls_below_rows}
use Rattle.pivot_core.proofs.Kept.{claimed_pivots}
use Rattle.pivot_core.proofs.StepBounds.{column_steps, one_row_more, steps_before-most}

-- a view at a column has made few steps where so many are the most at the column
at_column : (m column drawn steps most : ℕ) → column < m → 1 ≤ drawn
    → steps ≤ (drawn - 1) * steps_of_row m + 1 + column * (2 * m + 3 - column) + most → most ≤ 3 + 2 * (m - column) → steps ≤ drawn * steps_of_row m + 1
at_column m column drawn steps most lt some few last = omega (
  arith,
  few,
  last,
  one_row_more drawn (steps_of_row m) some,
  column_steps m column lt,
  steps_before-most m (column + 1) (omega (arith, lt)),
)

-- a view in any phase has made at most so many steps
few_steps : (m n : ℕ) (f : Phase) (drawn steps : ℕ) → IsPhase m n f → IsBounded m f drawn steps → steps ≤ drawn * steps_of_row m + 1
few_steps m n phase.Fresh drawn steps h b = omega (arith, b)
few_steps m n (phase.Looking row column) drawn steps h b = at_column m column drawn steps 0 h.1 b.0 b.1 (omega arith)
few_steps m n (phase.Putting row column at) drawn steps h b =
    at_column m column drawn steps (1 + at - column) (omega (arith, h.1, h.2)) b.0 b.1 (omega (arith, h.1, h.2))
few_steps m n (phase.Claiming row column) drawn steps h b = at_column m column drawn steps (1 + m - column) h.1 b.0 b.1 (omega (arith, h.1))
few_steps m n (phase.Reading row column holder at) drawn steps h b =
    at_column m column drawn steps (2 + (m - column) + (at - column)) (omega (arith, h.2, h.3)) b.0 b.1 (omega (arith, h.2, h.3))
few_steps m n phase.Ended drawn steps h b = b

-- all views together
summed_steps : (k : ℕ) (views : List Sight) → All (λ v. v.steps ≤ v.drawn * k + 1) views →
    sum_by (λ (v : Sight). v.steps) views ≤ sum_by (λ (v : Sight). v.drawn) views * k + length views
summed_steps k [] h = omega arith
summed_steps k (v ∷ vs) h =
    let rest = summed_steps k vs (All-tail (λ (z : Sight). z.steps ≤ z.drawn * k + 1) v vs h) in
    let first = All-head (λ (z : Sight). z.steps ≤ z.drawn * k + 1) v vs h in
    let drawn : ℕ = sum_by (λ (z : Sight). z.drawn) vs in
    let products : (v.drawn + drawn) * k ≡ v.drawn * k + drawn * k = mul_comm (v.drawn + drawn) k ∙ mul-add k v.drawn drawn
    ∙ omega (arith, mul_comm k v.drawn, mul_comm k drawn) in
    let same : sum_by (λ (z : Sight). z.drawn) (v ∷ vs) * k ≡ (v.drawn + drawn) * k = ap (λ (x : ℕ). x * k) (sum_by-cons (λ (z : Sight). z.drawn) v vs) in
    omega (arith, rest, first, products, same, sum_by-cons (λ (z : Sight). z.steps) v vs)

-- under the rule of claimed pivots a seat has at most min n m claims and the steps of its drawn rows and one, and stamps up to the number of calls
pub counted : (problem : Problem) (crew : ℕ) (s : State) → ClaimedPivots problem crew s → IsCounted problem crew s
counted problem crew s h =
    let k : ℕ = steps_of_row problem.m in
    let calls = h.calls_and_counts in
    let each : (i : ℕ) → i < crew → (view_at problem s i).steps ≤ (view_at problem s i).drawn * k + 1 =
    λ i lt. few_steps problem.m problem.n (view_at problem s i).phase (view_at problem s i).drawn (view_at problem s i).steps
    (h.ranges.views i lt).numbers (calls.steps i lt) in
    record {
      columns = calls.columns;
      claims = λ i lt. omega (
        arith,
        calls_below_rows problem crew s h.ranges calls.each calls.columns h.disjoint_rows i lt,
        calls_below_columns problem crew s h.ranges calls.each calls.columns h.disjoint_rows i lt,
      );
      steps = each;
      all_steps =
          let sum = summed_steps k s.views (all_views problem crew s h.ranges (λ (v : Sight). v.steps ≤ v.drawn * k + 1) each) in
          let most : sum_by (λ (v : Sight). v.drawn) s.views * k ≤ problem.n * k =
          mul-le (sum_by (λ (v : Sight). v.drawn) s.views) k problem.n k h.counter_sum.few (omega arith) in
          omega (arith, sum, most, h.ranges.count);
      stamps = λ i lt j d within. omega (arith, (calls.each i lt j d within).stamp, calls.clocks i lt);
    }

-- a view has drawn some of the rows, so its steps are few
module _ (problem : Problem) (crew : ℕ) (s : State) (h : ClaimedPivots problem crew s) (i : ℕ) (lt : i < crew) where
  -- a view has drawn at most as many rows as all views together
  pub drawn_few : (view_at problem s i).drawn ≤ sum_by (λ (z : Sight). z.drawn) s.views
  drawn_few = get_or-le-sum_by (λ (z : Sight). z.drawn) s.views i (fresh problem.m i) (omega (arith, lt, h.ranges.count))

  -- a view has made at most the steps of a row for each row of the problem, and one
  pub steps_few : (view_at problem s i).steps ≤ problem.n * steps_of_row problem.m + 1
  steps_few =
      let k : ℕ = steps_of_row problem.m in
      let most : (view_at problem s i).drawn * k ≤ problem.n * k =
      mul-le (view_at problem s i).drawn k problem.n k (omega (arith, drawn_few, h.counter_sum.few)) (omega arith) in
      omega (arith, (counted problem crew s h).steps i lt, most)

-- in the state after any run a seat has at most min n m claims and the steps of its drawn rows and one, and stamps up to the number of calls
pub step_counts : StepCounts
step_counts problem crew setting events = counted problem crew (state_after problem crew events) (claimed_pivots problem crew setting events)
