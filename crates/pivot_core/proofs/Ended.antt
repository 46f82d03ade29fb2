-- Views that have ended, and their number.
use Rattle.std.proofs.Common.{◌≡◌, ◌≢◌, ◌+◌, ◌<◌, ◌≤◌, ℕ, zero, suc, List, [], ◌∷◌, length, get_or, refl, ap, arith}
use Rattle.std.specs.List.{sum_by}
use Rattle.std.proofs.lemmas.List.Sums.{sum_by-cons}
use Rattle.back_reduce.specs.declared.problem.Problem.{Problem}
use Rattle.pivot_core.specs.declared.view.Phase.{Phase}
use Rattle.pivot_core.specs.declared.view.Phase.TheVariants as phase
use Rattle.pivot_core.specs.declared.sight.Sight.{Sight}
use Rattle.pivot_core.specs.Views.{fresh}
use Rattle.pivot_core.specs.Runs.{HasEnded, State}
use Rattle.pivot_core.specs.Phases.{is_ended}

-- 1 for a view that has ended
abbrev pub one_ended : Sight → ℕ
one_ended v = is_ended v.phase

at_most_one : (f : Phase) → is_ended f ≤ 1
at_most_one phase.Fresh = omega arith
at_most_one (phase.Looking row column) = omega arith
at_most_one (phase.Putting row column at) = omega arith
at_most_one (phase.Claiming row column) = omega arith
at_most_one (phase.Reading row column holder at) = omega arith
at_most_one phase.Ended = omega arith

-- a phase other than Ended counts 0
pub none_ended : (f : Phase) → f ≢ phase.Ended → is_ended f ≡ 0
none_ended phase.Fresh other = refl
none_ended (phase.Looking row column) other = refl
none_ended (phase.Putting row column at) other = refl
none_ended (phase.Claiming row column) other = refl
none_ended (phase.Reading row column holder at) other = refl
none_ended phase.Ended other = absurd (other refl)

ended_by : (f : Phase) → is_ended f ≡ 1 → f ≡ phase.Ended
ended_by phase.Fresh e = absurd (omega (arith, e))
ended_by (phase.Looking row column) e = absurd (omega (arith, e))
ended_by (phase.Putting row column at) e = absurd (omega (arith, e))
ended_by (phase.Claiming row column) e = absurd (omega (arith, e))
ended_by (phase.Reading row column holder at) e = absurd (omega (arith, e))
ended_by phase.Ended e = refl

-- among views at most all have ended
pub at_most_all : (vs : List Sight) → sum_by one_ended vs ≤ length vs
at_most_all [] = omega arith
at_most_all (v ∷ vs) = omega (arith, sum_by-cons one_ended v vs, at_most_all vs, at_most_one v.phase)

all_ended : (vs : List Sight) (d : Sight) → sum_by one_ended vs ≡ length vs → (i : ℕ) → i < length vs → (get_or vs i d).phase ≡ phase.Ended
all_ended [] d e i lt = absurd (omega (arith, lt))
all_ended (v ∷ vs) d e zero lt = ended_by v.phase (omega (arith, e, sum_by-cons one_ended v vs, at_most_all vs, at_most_one v.phase))
all_ended (v ∷ vs) d e (suc i) lt = all_ended vs d (omega (arith, e, sum_by-cons one_ended v vs, at_most_all vs, at_most_one v.phase)) i (omega (arith, lt))

ended_all : (vs : List Sight) (d : ℕ → Sight) → ((i : ℕ) → i < length vs → (get_or vs i (d i)).phase ≡ phase.Ended) → sum_by one_ended vs ≡ length vs
ended_all [] d h = refl
ended_all (v ∷ vs) d h =
    let own : is_ended v.phase ≡ 1 = ap is_ended (h 0 (omega arith)) in
    omega (arith, sum_by-cons one_ended v vs, own, ended_all vs (λ i. d (suc i)) (λ i lt. h (suc i) (omega (arith, lt))))

module _ (problem : Problem) (s : State) (going : ℕ) (count : going + sum_by one_ended s.views ≡ length s.views) where
  -- no view goes on where every view has ended
  pub ended_from_none : going ≡ 0 → HasEnded problem s
  ended_from_none none i lt = all_ended s.views (fresh problem.m i) (omega (arith, count, none)) i lt

  -- where every view has ended, no view goes on
  pub none_from_ended : HasEnded problem s → going ≡ 0
  none_from_ended h = omega (arith, count, ended_all s.views (fresh problem.m) h)
