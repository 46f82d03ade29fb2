-- The history of calls, and the one-thread object that it is held against.
use Rattle.std.specs.Prelude.{◌≡◌, ◌==◌, ltb, leb, ◌||◌, ◌&&◌, cond, ℕ, Bool, List, [], ◌∷◌, ◌++◌}
use Rattle.ideal_laws.specs.declared.account.Answer.{Answer}
use Rattle.ideal_laws.specs.declared.account.Answer.TheVariants as answer
use Rattle.ideal_laws.specs.declared.account.Call.{Call}

-- what the one-thread object answers at a column after these calls, the latest first: it is free, or what won it
-- stands there
abbrev pub answer_after : List Call → ℕ → Answer
answer_after [] c = answer.Won
answer_after (k ∷ ks) c = elim k.answer as (λ a. Answer) [
  | answer.Won ↦ cond (k.column == c) (answer.Lost k.row k.stamp) (answer_after ks c)
  | answer.Lost row stamp ↦ answer_after ks c
]

-- each call in order has the answer that the object gives after the calls before it
abbrev pub ReplaysAfter : List Call → List Call → Type 0
ReplaysAfter done [] = Unit {0}
ReplaysAfter done (k ∷ ks) = (k.answer ≡ answer_after done k.column) × ReplaysAfter (k ∷ done) ks

-- the calls are a history of the one-thread object
abbrev pub Replays : List Call → Type 0
Replays calls = ReplaysAfter [] calls

-- by (stamp, seat)
abbrev pub is_not_after : Call → Call → Bool
is_not_after k l = ltb k.stamp l.stamp || ((k.stamp == l.stamp) && leb k.seat l.seat)

-- among sorted calls, before those that are equal to it in both
abbrev pub insert_call : Call → List Call → List Call
insert_call k [] = k ∷ []
insert_call k (l ∷ ls) = cond (is_not_after k l) (k ∷ l ∷ ls) (l ∷ insert_call k ls)

abbrev pub sorted_calls : List Call → List Call
sorted_calls [] = []
sorted_calls (k ∷ ks) = insert_call k (sorted_calls ks)

abbrev pub joined_calls : List (List Call) → List Call
joined_calls [] = []
joined_calls (log ∷ logs) = log ++ joined_calls logs

-- all calls of the logs by rising (stamp, seat), those that agree in both in the order of the logs
abbrev pub merged : List (List Call) → List Call
merged logs = sorted_calls (joined_calls logs)
