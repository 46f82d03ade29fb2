-- When a view may meet a word.
use Rattle.std.specs.Prelude.{ℕ, ◌≡◌, ◌≢◌, ◌-◌, ◌<◌, ◌^◌, All, Some}
use Rattle.back_reduce.specs.declared.problem.Problem.{Problem}
use Rattle.pivot_core.specs.declared.view.Phase.{Phase}
use Rattle.pivot_core.specs.declared.view.Phase.TheVariants as phase
use Rattle.pivot_core.specs.declared.sight.Sight.{Sight}
use Rattle.pivot_core.specs.Words.{IsClaimWord, stamp_in}
use Rattle.pivot_core.specs.Phases.{IsSight}
use Rattle.pivot_core.specs.Steps.{Stepped, met}

-- a claim word whose stamp is not the greatest
pub record IsMetClaim (n word : ℕ) : Type 0 where
  pub claim : IsClaimWord n word
  pub stamp : stamp_in word < 2 ^ 32 - 1

-- a word that a step of this phase may meet
abbrev pub IsMetWord : Problem → Phase → ℕ → Type 0
IsMetWord problem phase.Fresh old = Unit {0}
IsMetWord problem (phase.Looking row column) old = IsMetClaim problem.n old
IsMetWord problem (phase.Putting row column at) old = Unit {0}
IsMetWord problem (phase.Claiming row column) old = IsMetClaim problem.n old
IsMetWord problem (phase.Reading row column holder at) old = old < problem.modulus
IsMetWord problem phase.Ended old = Unit {0}

-- a claim comes next
abbrev pub IsClaiming : Phase → Type 0
IsClaiming phase.Fresh = ⊥
IsClaiming (phase.Looking row column) = ⊥
IsClaiming (phase.Putting row column at) = ⊥
IsClaiming (phase.Claiming row column) = Unit {0}
IsClaiming (phase.Reading row column holder at) = ⊥
IsClaiming phase.Ended = ⊥

-- a view that has not ended, in range, and a word that it may meet
pub record MayMeet (problem : Problem) (v : Sight) (old : ℕ) : Type 0 where
  pub next : v.phase ≢ phase.Ended
  pub sight : IsSight problem.m problem.n v
  pub current : All (λ a. a < problem.modulus) v.current
  pub seen : All (λ a. a < problem.modulus) v.seen
  pub word : IsMetWord problem v.phase old
  pub steps : v.steps < 2 ^ 64 - 1
  pub clock : v.clock < 2 ^ 32 - 1
  pub drawn : v.phase ≡ phase.Fresh → old < problem.n → v.drawn < 2 ^ 32 - 1

-- the next step of v on this word leaves the word x
pub record LeavesWord (problem : Problem) (v : Sight) (old x : ℕ) : Type 0 where
  pub stepped : Stepped
  pub gives : met problem v old ≡ Some stepped
  pub word : stepped.word ≡ x
