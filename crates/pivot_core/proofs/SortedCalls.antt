-- Calls by rising (stamp, seat), and calls of several logs joined.
use Rattle.std.proofs.Common.{◌≡◌, ℕ, zero, suc, ◌≤◌, Bool, true, false, cond, All, AllPairs, Contains, List, [], ◌∷◌, length, refl, arith}
use Rattle.std.specs.List.{sum_by}
use Rattle.std.specs.List.Sorted.{IsPermutation}
use Rattle.std.proofs.lemmas.List.{length-append}
use Rattle.std.proofs.lemmas.List.Elements.{All-append, All-contains_itself, All-cons, All-head, All-nil, All-tail, All-weaker, Contains-append_left}
use Rattle.std.proofs.lemmas.List.Elements.{Contains-append_right}
use Rattle.std.proofs.lemmas.List.Kept.{AllPairs-cons}
use Rattle.std.proofs.lemmas.List.Sorted.{All-permutation, IsPermutation-cons, IsPermutation-middle, IsPermutation-refl, IsPermutation-sym, IsPermutation-trans}
use Rattle.std.proofs.lemmas.List.Sums.{sum_by-append, sum_by-cons}
use Rattle.ideal_laws.specs.declared.account.Call.{Call}
use Rattle.pivot_core.specs.History.{insert_call, is_not_after, joined_calls, sorted_calls}

-- an insertion, and so a sort, only moves calls
pub insert_call-moves : (k : Call) (ls : List Call) → IsPermutation (k ∷ ls) (insert_call k ls)
insert_call-moves k [] = IsPermutation-refl (k ∷ [])
insert_call-moves k (l ∷ ls) = by_answer (insert_call-moves k ls) (is_not_after k l)
  where
    by_answer : IsPermutation (k ∷ ls) (insert_call k ls) → (b : Bool) → IsPermutation (k ∷ l ∷ ls) (cond b (k ∷ l ∷ ls) (l ∷ insert_call k ls))
    by_answer rest true = IsPermutation-refl (k ∷ l ∷ ls)
    by_answer rest false =
        IsPermutation-trans (k ∷ l ∷ ls) (l ∷ k ∷ ls) (l ∷ insert_call k ls) (IsPermutation-sym (l ∷ k ∷ ls) (k ∷ l ∷ ls) (IsPermutation-middle (l ∷ []) k ls))
        (IsPermutation-cons l (k ∷ ls) (insert_call k ls) rest)

-- a sort only moves calls
pub sorted_calls-moves : (ks : List Call) → IsPermutation ks (sorted_calls ks)
sorted_calls-moves [] = IsPermutation-refl []
sorted_calls-moves (k ∷ ks) =
    IsPermutation-trans (k ∷ ks) (k ∷ sorted_calls ks) (insert_call k (sorted_calls ks))
    (IsPermutation-cons k ks (sorted_calls ks) (sorted_calls-moves ks)) (insert_call-moves k (sorted_calls ks))

-- the order by (stamp, seat)
abbrev pub IsNotAfter : Call → Call → Type 0
IsNotAfter k l = is_not_after k l ≡ true

-- a call that is not after another has no greater stamp
pub not_after_stamp : (k l : Call) → IsNotAfter k l → k.stamp ≤ l.stamp
not_after_stamp k l h = grind (arith, h)

-- a call that is not after another, and has no lower stamp, has no greater seat
pub not_after_seat : (k l : Call) → IsNotAfter k l → l.stamp ≤ k.stamp → k.seat ≤ l.seat
not_after_seat k l h le = grind (arith, h, le)

-- of two calls of a seat, one that has no greater stamp is not after the other
pub not_after-same_seat : (k l : Call) → k.seat ≡ l.seat → k.stamp ≤ l.stamp → IsNotAfter k l
not_after-same_seat k l same le = grind (arith, same, le)

-- a call that is not after a second one, which is not after a third, is not after the third
pub not_after-trans : (k l j : Call) → IsNotAfter k l → IsNotAfter l j → IsNotAfter k j
not_after-trans k l j h g = grind (arith, h, g)

-- where a call is after another, this one is not after it
pub not_after-total : (k l : Call) → is_not_after k l ≡ false → IsNotAfter l k
not_after-total k l h = grind (arith, h)

-- a call inserted among calls in order leaves them in order
pub insert_call-in_order : (k : Call) (ls : List Call) → AllPairs IsNotAfter ls → AllPairs IsNotAfter (insert_call k ls)
insert_call-in_order k [] h = λ i j d lt within. absurd (omega (arith, lt, within))
insert_call-in_order k (l ∷ ls) h = by_answer (insert_call-in_order k ls tail) (is_not_after k l) refl
  where
    tail : AllPairs IsNotAfter ls
    tail i j d lt within = h (suc i) (suc j) d (omega (arith, lt)) (omega (arith, within))

    first : All (IsNotAfter l) ls
    first j d within = h zero (suc j) d (omega arith) (omega (arith, within))

    by_answer : AllPairs IsNotAfter (insert_call k ls) → (b : Bool) → is_not_after k l ≡ b → AllPairs IsNotAfter (cond b (k ∷ l ∷ ls) (l ∷ insert_call k ls))
    by_answer rest true e = AllPairs-cons IsNotAfter k (l ∷ ls) (All-cons (IsNotAfter k) l ls e
        (All-weaker (IsNotAfter l) (IsNotAfter k) (λ j g. not_after-trans k l j e g) ls first)) h
    by_answer rest false e =
        AllPairs-cons IsNotAfter l (insert_call k ls) (All-permutation (IsNotAfter l) (k ∷ ls) (insert_call k ls) (insert_call-moves k ls)
        (All-cons (IsNotAfter l) k ls (not_after-total k l e) first)) rest

-- sorted calls are in order
pub sorted_calls-in_order : (ks : List Call) → AllPairs IsNotAfter (sorted_calls ks)
sorted_calls-in_order [] = λ i j d lt within. absurd (omega (arith, lt, within))
sorted_calls-in_order (k ∷ ks) = insert_call-in_order k (sorted_calls ks) (sorted_calls-in_order ks)

-- joined logs, log by log
pub length-joined_calls : (logs : List (List Call)) → length (joined_calls logs) ≡ sum_by (λ log. length log) logs
length-joined_calls [] = refl
length-joined_calls (log ∷ logs) = omega (
  arith,
  length-append log (joined_calls logs),
  length-joined_calls logs,
  sum_by-cons (λ (l : List Call). length l) log logs,
)

-- a sum over joined logs is the sum of those over each log
pub sum_by-joined_calls : (f : Call → ℕ) (logs : List (List Call)) → sum_by f (joined_calls logs) ≡ sum_by (λ log. sum_by f log) logs
sum_by-joined_calls f [] = refl
sum_by-joined_calls f (log ∷ logs) = omega (
  arith,
  sum_by-append f log (joined_calls logs),
  sum_by-joined_calls f logs,
  sum_by-cons (λ (l : List Call). sum_by f l) log logs,
)

-- what holds of each call of each log holds of each joined call
pub All-joined_calls : (P : Call → Type 0) (logs : List (List Call)) → All (All P) logs → All P (joined_calls logs)
All-joined_calls P [] h = All-nil P
All-joined_calls P (log ∷ logs) h = All-append P log (joined_calls logs) (All-head (All P) log logs h) (All-joined_calls P logs (All-tail (All P) log logs h))

-- each call of each log is one of the joined calls
pub joined_calls-contains : (logs : List (List Call)) → All (All (Contains (joined_calls logs))) logs
joined_calls-contains [] = All-nil (All (Contains []))
joined_calls-contains (log ∷ logs) =
    let Here : Call → Type 0 = Contains (joined_calls (log ∷ logs)) in
    All-cons (All Here) log logs (All-weaker (Contains log) Here (λ k h. Contains-append_left log (joined_calls logs) k h) log (All-contains_itself log))
    (All-weaker (All (Contains (joined_calls logs))) (All Here)
    (λ l h. All-weaker (Contains (joined_calls logs)) Here (λ k g. Contains-append_right log (joined_calls logs) k g) l h) logs (joined_calls-contains logs))
