-- Calls and counts: every move keeps what is said of each view's own calls.
use Rattle.std.proofs.Common.{◌≡◌, ◌≢◌, ℕ, ◌<◌, ◌≤◌, All, AllPairs, [], ◌∷◌, ◌++◌, refl, sym, ap, ◌∙◌, arith, subst}
use Rattle.std.proofs.lemmas.List.Elements.{All-push, All-weaker}
use Rattle.std.proofs.lemmas.List.Quantifiers.{all_pairs_push}
use Rattle.ideal_laws.specs.declared.account.Answer.{Answer}
use Rattle.ideal_laws.specs.declared.account.Answer.TheVariants as answer
use Rattle.ideal_laws.specs.declared.account.Call.{Call}
use Rattle.back_reduce.specs.declared.problem.Problem.{Problem}
use Rattle.pivot_core.specs.declared.view.Phase.{Phase}
use Rattle.pivot_core.specs.declared.view.Phase.TheVariants as phase
use Rattle.pivot_core.specs.declared.sight.Sight.{Sight}
use Rattle.pivot_core.specs.Words.{Spot, row_in, stamp_in}
use Rattle.pivot_core.specs.Steps.{lost_call, won_call}
use Rattle.pivot_core.specs.Runs.{State, IsHeld, claim_at, view_at, word_at}
use Rattle.pivot_core.specs.Rule.{PublishedPrefix, Ranges}
use Rattle.pivot_core.specs.Calls.{IsAnswered, IsCall, IsUnclaimed}
use Rattle.pivot_core.proofs.Changes.{IsChange, numbers_at, word_met}
use Rattle.pivot_core.proofs.Effects.{KeepsHeld, held_after}
use Rattle.pivot_core.proofs.HeldKept.{won_held}
use Rattle.pivot_core.proofs.Moves.{IsLater, IsLostClaim, IsMove, IsWonClaim, draws, ends, looks_free, looks_held, puts, wins, loses, reads_more, reads_last}
use Rattle.pivot_core.proofs.Rows.{won_holder, won_stamp}

-- what a call tells stays true
answers_stay : (problem : Problem) (s t : State) → KeepsHeld problem s t → (k : Call) (a : Answer) → IsAnswered problem s k a → IsAnswered problem t k a
answers_stay problem s t keeps k answer.Won h = (
  held_after problem s t k.column keeps h.0,
  ap row_in (keeps.claims k.column h.0) ∙ h.1,
  ap stamp_in (keeps.claims k.column h.0) ∙ h.2,
)
answers_stay problem s t keeps k (answer.Lost row stamp) h = (
  held_after problem s t k.column keeps h.0,
  ap row_in (keeps.claims k.column h.0) ∙ h.1,
  ap stamp_in (keeps.claims k.column h.0) ∙ h.2,
  h.3,
)

-- a call stays one where the held rows stay and the clock does not fall
pub call_stays : (problem : Problem) (s t : State) → KeepsHeld problem s t → (seat before after : ℕ) → before ≤ after → (k : Call) →
    IsCall problem s seat before k → IsCall problem t seat after k
call_stays problem s t keeps seat before after le k h = record {
  own = h.own;
  column = h.column;
  row = h.row;
  stamp = omega (arith, h.stamp, le);
  answered = answers_stay problem s t keeps k k.answer h.answered;
}

-- a column with a call is held
pub call_held : (problem : Problem) (s : State) (seat clock : ℕ) (k : Call) → IsCall problem s seat clock k → IsHeld problem s k.column
call_held problem s seat clock k h = by_answer k.answer h.answered
  where
    by_answer : (a : Answer) → IsAnswered problem s k a → IsHeld problem s k.column
    by_answer answer.Won h = h.0
    by_answer (answer.Lost row stamp) h = h.0

module _ {problem : Problem} {crew : ℕ} {s t : State} {seat : ℕ} {w : Sight} {a : Spot} {x : ℕ} (c : IsChange problem crew s t seat w a x) where
  abbrev v : Sight
  v = view_at problem s seat

  abbrev old : ℕ
  old = word_at problem s a

  -- a new call of the view
  pub record IsNewCall (k : Call) : Type 0 where
    pub calls : w.calls ≡ v.calls ++ k ∷ []
    pub is : IsCall problem t seat w.clock k
    pub later : v.clock < k.stamp
    pub clock : w.clock ≡ k.stamp
    pub column : All (λ l. l.column ≢ k.column) v.calls

  -- a move makes a call, or none
  pub data IsCalling : Type 0 where
    silent : w.calls ≡ v.calls → v.clock ≤ w.clock → IsCalling
    called : (k : Call) → IsNewCall k → IsCalling

  module _ (ranges : Ranges problem crew s) (keeps : KeepsHeld problem s t) (published : PublishedPrefix problem crew s)
      (unclaimed : IsUnclaimed v.phase v.calls) where
    -- the call of a claim
    call_made : (k : Call) {d : ℕ} → k.seat ≡ v.seat → v.phase ≡ phase.Claiming k.row k.column → IsLater v w k.stamp d (v.calls ++ k ∷ [])
        → v.clock < k.stamp → IsAnswered problem t k k.answer → IsCalling
    call_made k own was later rises answered = called k (record {
      calls = later.calls;
      is = record {
        own = own ∙ ranges.seats seat c.below;
        column = (numbers_at c ranges was).1;
        row = (numbers_at c ranges was).0;
        stamp = omega (arith, later.clock);
        answered = answered;
      };
      later = rises;
      clock = later.clock;
      column = subst (λ (f : Phase). IsUnclaimed f v.calls) was unclaimed;
    })

    calling_won : IsWonClaim problem v old w a x → IsCalling
    calling_won m =
        call_made (won_call v m.row m.column) refl m.was m.later (omega arith) (
          won_held c ranges published m,
          won_holder c ranges m,
          won_stamp c ranges m,
        )

    calling_lost : IsLostClaim problem v old w a x → IsCalling
    calling_lost m =
        let met : claim_at problem s m.column ≡ old = word_met c m.spot in
        let held : IsHeld problem s m.column = record { below = (numbers_at c ranges m.was).1; some = λ e. m.held (sym met ∙ e) } in
        call_made (lost_call v m.row m.column old) refl m.was m.later (omega arith) (
          held_after problem s t m.column keeps held,
          ap row_in (keeps.claims m.column held ∙ met),
          ap stamp_in (keeps.claims m.column held ∙ met),
          omega arith,
        )

    -- the same calls and clock
    as_before : {d : ℕ} → IsLater v w v.clock d v.calls → IsCalling
    as_before l = silent l.calls (omega (arith, l.clock))

    -- each move makes one new call, or keeps the view's calls while its clock does not fall
    pub calling : IsMove problem v old w a x → IsCalling
    calling (draws m) = as_before m.later
    calling (ends m) = as_before m.later
    calling (looks_free m) = as_before m.later
    calling (looks_held m) = silent m.later.calls (omega (arith, m.later.clock))
    calling (puts m) = as_before m.later
    calling (wins m) = calling_won m
    calling (loses m) = calling_lost m
    calling (reads_more m) = as_before m.later
    calling (reads_last m) = as_before m.later

  module _ (keeps : KeepsHeld problem s t) (each : All (IsCall problem s seat v.clock) v.calls) where
    -- where held rows stay and each call of a view tells what its column holds, so does each call of the view after the move
    pub own_each : IsCalling → All (IsCall problem t seat w.clock) w.calls
    own_each (silent same le) = subst (All (IsCall problem t seat w.clock)) (sym same)
        (All-weaker (IsCall problem s seat v.clock) (IsCall problem t seat w.clock) (call_stays problem s t keeps seat v.clock w.clock le)
        v.calls each)
    own_each (called k h) = subst (All (IsCall problem t seat w.clock)) (sym h.calls)
        (All-push (IsCall problem t seat w.clock) v.calls k (All-weaker (IsCall problem s seat v.clock) (IsCall problem t seat w.clock)
        (call_stays problem s t keeps seat v.clock w.clock (omega (arith, h.later, h.clock))) v.calls each) h.is)

    -- where the calls of a view are on columns apart, so are those of the view after the move
    pub own_columns : IsCalling → AllPairs (λ k l. k.column ≢ l.column) v.calls → AllPairs (λ k l. k.column ≢ l.column) w.calls
    own_columns (silent same le) apart = subst (AllPairs (λ k l. k.column ≢ l.column)) (sym same) apart
    own_columns (called k h) apart = subst (AllPairs (λ k l. k.column ≢ l.column)) (sym h.calls)
        (all_pairs_push (λ k l. k.column ≢ l.column) v.calls k apart (λ i d lt. h.column i d lt))

    -- where the stamps of a view's calls rise, so do those of the view after the move
    pub own_rising : IsCalling → AllPairs (λ k l. k.stamp < l.stamp) v.calls → AllPairs (λ k l. k.stamp < l.stamp) w.calls
    own_rising (silent same le) rising = subst (AllPairs (λ k l. k.stamp < l.stamp)) (sym same) rising
    own_rising (called k h) rising = subst (AllPairs (λ k l. k.stamp < l.stamp)) (sym h.calls)
        (all_pairs_push (λ k l. k.stamp < l.stamp) v.calls k rising (λ i d lt. omega (arith, (each i d lt).stamp, h.later)))
