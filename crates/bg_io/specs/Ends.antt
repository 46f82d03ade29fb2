-- Sources and sinks of bytes that count their faults.
use Rattle.std.specs.Prelude.{ℕ, ◌≡◌, ◌≢◌, ◌+◌, ◌-◌, ◌^◌, ◌≤◌, ◌<◌, min, List, [], ◌++◌, length, Result, OnErr, OnOk}
use Rattle.std.specs.Prelude.{IfOk}
use Rattle.std.specs.Io.KnownBytes.{Appends, Consumes}
use Rattle.std.specs.declared.option.Option.{Option}
use Rattle.std.specs.declared.option.Option.TheVariants.{None, Some}

-- one more, up to the end of the type
abbrev pub one_more : ℕ → ℕ
one_more count = min (count + 1) (2 ^ 64 - 1)

-- the count is greater, or stands at its type's end
abbrev pub Rose : ℕ → ℕ → Type 0
Rose before now = one_more before ≤ now

-- the count does not fall; it rose where the call failed, and stands where it did not
pub record HasCause {T E : Type 0} (before now : ℕ) (result : Result T E) : Type 0 where
  pub later : before ≤ now
  pub failed : OnErr result (Rose before now)
  pub kept : OnOk result (now ≡ before)

-- a told room falls by the number that was taken, and is not passed
abbrev pub RoomFalls : Option ℕ → Option ℕ → ℕ → Type 0
RoomFalls None new n = Unit {0}
RoomFalls (Some room) None n = ⊥
RoomFalls (Some room) (Some left) n = left + n ≡ room

-- a room is told, and has place for so many bytes
abbrev pub HasRoom : Option ℕ → ℕ → Type 0
HasRoom None n = ⊥
HasRoom (Some room) n = n ≤ room

-- where a number of calls was told before, one is told now, and it is greater by at most so many
abbrev pub CountsAtMost : Option ℕ → Option ℕ → ℕ → Type 0
CountsAtMost None now most = Unit {0}
CountsAtMost (Some before) None most = ⊥
CountsAtMost (Some before) (Some now) most = (before ≤ now) × (now ≤ before + most)

-- at most one call more than bytes that are gone from the front of what was left, where both are told
pub record CountsTaken (left rest : Option (List ℕ)) (before now : Option ℕ) : Type 0 where
  pub taken : List ℕ
  pub gone : Consumes left rest taken
  pub counted : CountsAtMost before now (length taken + 1)

-- at most so many more calls than bytes that were gained, where both are told
pub record CountsGained (held more : Option (List ℕ)) (before now : Option ℕ) (spare : ℕ) : Type 0 where
  pub gained : List ℕ
  pub appended : Appends held more gained
  pub counted : CountsAtMost before now (length gained + spare)

-- a write takes some of a piece that is not empty
abbrev pub TakesSome : {E : Type 0} → Result ℕ E → List ℕ → Type 0
TakesSome result piece = IfOk result (λ n. (n ≤ length piece) × (0 < length piece → 0 < n))

-- the first bytes of a text, and not all of them
pub record IsCutShort (first text : List ℕ) : Type 0 where
  pub rest : List ℕ
  pub more : rest ≢ []
  pub joined : text ≡ first ++ rest

-- so many bytes are gone from the front of what was left, where it is told
pub record Loses (before now : Option (List ℕ)) (count : ℕ) : Type 0 where
  pub taken : List ℕ
  pub long : length taken ≡ count
  pub gone : Consumes before now taken

-- at most so many bytes are gone from the front of what was left, where it is told
pub record LosesAtMost (before now : Option (List ℕ)) (most : ℕ) : Type 0 where
  pub taken : List ℕ
  pub long : length taken ≤ most
  pub gone : Consumes before now taken

-- an adapter as callers see it: what it stands over, and how many calls failed
pub record Counted (R : Type 0) : Type 0 where
  pub inner : R
  pub faults : ℕ
