-- What a step makes of a view, kind by kind.
use Rattle.std.proofs.Common.{◌≡◌, ◌≢◌, ◌⊎◌, ℕ, ◌+◌, ◌<◌, ◌≤◌, List, [], ◌∷◌, ◌++◌, max, set}
use Rattle.std.specs.Prelude.{slice_index}
use Rattle.ideal_laws.specs.declared.account.Call.{Call}
use Rattle.back_reduce.specs.declared.problem.Problem.{Problem}
use Rattle.pivot_core.specs.declared.view.Phase.TheVariants as phase
use Rattle.pivot_core.specs.declared.sight.Sight.{Sight}
use Rattle.pivot_core.specs.Words.{Spot, counter, claim_of, row_word, claim_word, row_in, stamp_in}
use Rattle.pivot_core.specs.Views.{difference, given_row, lead_at, made_monic, zeros}
use Rattle.pivot_core.specs.Steps.{lost_call, won_call}

-- a row goes on as y, or is given up where y is 0
pub data IsSettling (problem : Problem) (y : List ℕ) (row : ℕ) (w : Sight) : Type 0 where
  goes_on : lead_at y < problem.m → w.phase ≡ phase.Looking row (lead_at y) → w.current ≡ made_monic problem.modulus y →
      w.seen ≡ zeros problem.m → IsSettling problem y row w
  given_up : problem.m ≤ lead_at y → w.phase ≡ phase.Fresh → w.current ≡ zeros problem.m → w.seen ≡ zeros problem.m → IsSettling problem y row w

-- a step later, with this clock, this many rows drawn and these calls
pub record IsLater (v w : Sight) (k d : ℕ) (all : List Call) : Type 0 where
  pub seat : w.seat ≡ v.seat
  pub steps : w.steps ≡ v.steps + 1
  pub clock : w.clock ≡ k
  pub drawn : w.drawn ≡ d
  pub calls : w.calls ≡ all

-- phases with a row and its column go on with the same lists
pub record IsSameRow (v w : Sight) : Type 0 where
  pub current : w.current ≡ v.current
  pub seen : w.seen ≡ v.seen

module _ (problem : Problem) (v : Sight) (old : ℕ) (w : Sight) (a : Spot) (x : ℕ) where
  pub record IsDraw : Type 0 where
    pub was : v.phase ≡ phase.Fresh
    pub some : old < problem.n
    pub spot : a ≡ counter
    pub word : x ≡ old + 1
    pub settling : IsSettling problem (given_row problem old) old w
    pub later : IsLater v w v.clock (v.drawn + 1) v.calls

  pub record IsEnd : Type 0 where
    pub was : v.phase ≡ phase.Fresh
    pub none : problem.n ≤ old
    pub spot : a ≡ counter
    pub word : x ≡ old + 1
    pub now : w.phase ≡ phase.Ended
    pub same : IsSameRow v w
    pub later : IsLater v w v.clock v.drawn v.calls

  pub record IsFreeLook : Type 0 where
    pub row : ℕ
    pub column : ℕ
    pub was : v.phase ≡ phase.Looking row column
    pub free : old ≡ 0
    pub spot : a ≡ claim_of column
    pub word : x ≡ old
    pub now : w.phase ≡ phase.Putting row column column
    pub same : IsSameRow v w
    pub later : IsLater v w v.clock v.drawn v.calls

  pub record IsHeldLook : Type 0 where
    pub row : ℕ
    pub column : ℕ
    pub was : v.phase ≡ phase.Looking row column
    pub held : old ≢ 0
    pub spot : a ≡ claim_of column
    pub word : x ≡ old
    pub now : w.phase ≡ phase.Reading row column (row_in old) column
    pub current : w.current ≡ v.current
    pub seen : w.seen ≡ zeros problem.m
    pub later : IsLater v w (max v.clock (stamp_in old)) v.drawn v.calls

  pub record IsPut : Type 0 where
    pub row : ℕ
    pub column : ℕ
    pub at : ℕ
    pub was : v.phase ≡ phase.Putting row column at
    pub spot : a ≡ row_word row at
    pub word : x ≡ slice_index v.current at
    pub now : ((at + 1 < problem.m) × (w.phase ≡ phase.Putting row column (at + 1))) ⊎ ((problem.m ≤ at + 1) × (w.phase ≡ phase.Claiming row column))
    pub same : IsSameRow v w
    pub later : IsLater v w v.clock v.drawn v.calls

  pub record IsWonClaim : Type 0 where
    pub row : ℕ
    pub column : ℕ
    pub was : v.phase ≡ phase.Claiming row column
    pub free : old ≡ 0
    pub spot : a ≡ claim_of column
    pub word : x ≡ claim_word (v.clock + 1) row
    pub now : w.phase ≡ phase.Fresh
    pub current : w.current ≡ zeros problem.m
    pub seen : w.seen ≡ v.seen
    pub later : IsLater v w (v.clock + 1) v.drawn (v.calls ++ won_call v row column ∷ [])

  pub record IsLostClaim : Type 0 where
    pub row : ℕ
    pub column : ℕ
    pub was : v.phase ≡ phase.Claiming row column
    pub held : old ≢ 0
    pub spot : a ≡ claim_of column
    pub word : x ≡ old
    pub now : w.phase ≡ phase.Reading row column (row_in old) column
    pub current : w.current ≡ v.current
    pub seen : w.seen ≡ zeros problem.m
    pub later : IsLater v w (max v.clock (stamp_in old) + 1) v.drawn (v.calls ++ lost_call v row column old ∷ [])

  pub record IsMoreRead : Type 0 where
    pub row : ℕ
    pub column : ℕ
    pub holder : ℕ
    pub at : ℕ
    pub was : v.phase ≡ phase.Reading row column holder at
    pub more : at + 1 < problem.m
    pub spot : a ≡ row_word holder at
    pub word : x ≡ old
    pub now : w.phase ≡ phase.Reading row column holder (at + 1)
    pub current : w.current ≡ v.current
    pub seen : w.seen ≡ set v.seen at old
    pub later : IsLater v w v.clock v.drawn v.calls

  pub record IsLastRead : Type 0 where
    pub row : ℕ
    pub column : ℕ
    pub holder : ℕ
    pub at : ℕ
    pub was : v.phase ≡ phase.Reading row column holder at
    pub last : problem.m ≤ at + 1
    pub spot : a ≡ row_word holder at
    pub word : x ≡ old
    pub settling : IsSettling problem (difference problem.modulus v.current (set v.seen at old)) row w
    pub later : IsLater v w v.clock v.drawn v.calls

  -- a step, in the order of the table
  pub data IsMove : Type 0 where
    draws : IsDraw → IsMove
    ends : IsEnd → IsMove
    looks_free : IsFreeLook → IsMove
    looks_held : IsHeldLook → IsMove
    puts : IsPut → IsMove
    wins : IsWonClaim → IsMove
    loses : IsLostClaim → IsMove
    reads_more : IsMoreRead → IsMove
    reads_last : IsLastRead → IsMove

-- a move keeps the seat and is one step
pub seat_and_step : {problem : Problem} {v w : Sight} {old x : ℕ} {a : Spot} → IsMove problem v old w a x → (w.seat ≡ v.seat) × (w.steps ≡ v.steps + 1)
seat_and_step (draws k) = (k.later.seat, k.later.steps)
seat_and_step (ends k) = (k.later.seat, k.later.steps)
seat_and_step (looks_free k) = (k.later.seat, k.later.steps)
seat_and_step (looks_held k) = (k.later.seat, k.later.steps)
seat_and_step (puts k) = (k.later.seat, k.later.steps)
seat_and_step (wins k) = (k.later.seat, k.later.steps)
seat_and_step (loses k) = (k.later.seat, k.later.steps)
seat_and_step (reads_more k) = (k.later.seat, k.later.steps)
seat_and_step (reads_last k) = (k.later.seat, k.later.steps)
