-- The steps of the machine of claims: one table, in which each step has its own view and one word, and nothing else.
use Rattle.std.specs.Prelude.{ℕ, ◌≡◌, ◌+◌, ◌==◌, ltb, max, Bool, true, false, if◌then◌else◌, [], ◌∷◌, ◌++◌, Option}
use Rattle.std.specs.Prelude.{Some, None, slice_index, slice_set}
use Rattle.ideal_laws.specs.declared.account.Answer.TheVariants as answer
use Rattle.ideal_laws.specs.declared.account.Call.{Call}
use Rattle.back_reduce.specs.declared.problem.Problem.{Problem}
use Rattle.pivot_core.specs.declared.view.Phase.{Phase}
use Rattle.pivot_core.specs.declared.view.Phase.TheVariants as phase
use Rattle.pivot_core.specs.declared.sight.Sight.{Sight}
use Rattle.pivot_core.specs.declared.event.Kind.{Kind}
use Rattle.pivot_core.specs.declared.event.Kind.TheVariants as kind
use Rattle.pivot_core.specs.declared.event.Reply.{Reply}
use Rattle.pivot_core.specs.declared.event.Reply.TheVariants as reply
use Rattle.pivot_core.specs.Words.{Spot, counter, claim_of, row_word, claim_word, row_in, stamp_in}
use Rattle.pivot_core.specs.Views.{begin, difference, given_row, settle, zeros}

-- what a step gives: the view after it, the word that it leaves, and what it tells its seat
pub record Stepped : Type 0 where
  pub sight : Sight
  pub word : ℕ
  pub reply : Reply

-- whether this is the next kind of a phase
abbrev pub is_next : Kind → Phase → Bool
is_next kind.Draw phase.Fresh = true
is_next kind.Look (phase.Looking row column) = true
is_next kind.Put (phase.Putting row column at) = true
is_next kind.Claim (phase.Claiming row column) = true
is_next kind.Read (phase.Reading row column holder at) = true
is_next k f = false

-- the word that the next step of a phase meets
abbrev pub spot_of : Phase → Spot
spot_of phase.Fresh = counter
spot_of (phase.Looking row column) = claim_of column
spot_of (phase.Putting row column at) = row_word row at
spot_of (phase.Claiming row column) = claim_of column
spot_of (phase.Reading row column holder at) = row_word holder at
spot_of phase.Ended = counter

-- the call of a claim that is won, and of one that meets this word and is lost
abbrev pub won_call : Sight → ℕ → ℕ → Call
won_call v row column = record { seat = v.seat; stamp = v.clock + 1; column = column; row = row; answer = answer.Won }

abbrev pub lost_call : Sight → ℕ → ℕ → ℕ → Call
lost_call v row column old = record {
  seat = v.seat;
  stamp = max v.clock (stamp_in old) + 1;
  column = column;
  row = row;
  answer = answer.Lost (row_in old) (stamp_in old);
}

-- the view after a claim that is won, and after one that is lost, which begins to read the holder's row
abbrev pub after_won : Problem → Sight → ℕ → ℕ → Sight
after_won problem v row column = record v {
  phase = phase.Fresh;
  current = zeros problem.m;
  clock = v.clock + 1;
  calls = v.calls ++ won_call v row column ∷ [];
}

abbrev pub after_lost : Problem → Sight → ℕ → ℕ → ℕ → Sight
after_lost problem v row column old = begin problem (record v {
  clock = max v.clock (stamp_in old) + 1;
  calls = v.calls ++ lost_call v row column old ∷ [];
}) row column (row_in old)

-- the table of the steps, by the phase of the view, which has counted the step, and the old word
abbrev pub by_phase : Problem → Sight → Phase → ℕ → Option Stepped
by_phase problem v phase.Fresh old = Some (if ltb old problem.n
    then record {
      sight = settle problem (record v { drawn = v.drawn + 1 }) (given_row problem old) old;
      word = old + 1;
      reply = reply.Drew (Some old);
    }
    else record { sight = record v { phase = phase.Ended }; word = old + 1; reply = reply.Drew None })
by_phase problem v (phase.Looking row column) old = Some (if old == 0
    then record { sight = record v { phase = phase.Putting row column column }; word = old; reply = reply.Free }
    else record {
      sight = begin problem (record v { clock = max v.clock (stamp_in old) }) row column (row_in old);
      word = old;
      reply = reply.Held (row_in old) (stamp_in old);
    })
by_phase problem v (phase.Putting row column at) old = Some (record {
  sight = record v {
    phase = if ltb (at + 1) problem.m then phase.Putting row column (at + 1) else phase.Claiming
        row column;
  };
  word = slice_index v.current at;
  reply = reply.Stored;
})
by_phase problem v (phase.Claiming row column) old = Some (if old == 0
    then record {
      sight = after_won problem v row column;
      word = claim_word (v.clock + 1) row;
      reply = reply.Claimed answer.Won;
    }
    else record {
      sight = after_lost problem v row column old;
      word = old;
      reply = reply.Claimed (answer.Lost (row_in old) (stamp_in old));
    })
by_phase problem v (phase.Reading row column holder at) old =
    let w : Sight = record v { seen = slice_set v.seen at old } in
    Some (record {
      sight = if ltb (at + 1) problem.m then record w { phase = phase.Reading row column holder (at + 1) } else
          settle problem w
          (difference problem.modulus w.current w.seen) row;
      word = old;
      reply = reply.Got old;
    })
by_phase problem v phase.Ended old = None

-- what the next step of a view gives on this word
abbrev pub met : Problem → Sight → ℕ → Option Stepped
met problem v old = by_phase problem (record v { steps = v.steps + 1 }) v.phase old

-- the next step of v on this word gives the view w and the reply r
pub record IsMet (problem : Problem) (v : Sight) (old : ℕ) (w : Sight) (r : Reply) : Type 0 where
  pub word : ℕ
  pub gives : met problem v old ≡ Some (record { sight = w; word = word; reply = r })

-- what a step of this kind gives: nothing where it is not the view's next
abbrev pub step : Problem → Sight → Kind → ℕ → Option Stepped
step problem v k old = if is_next k v.phase then met problem v old else None
