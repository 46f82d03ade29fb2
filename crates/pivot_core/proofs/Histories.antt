-- The calls of a history, one by one.
use Rattle.std.proofs.Common.{◌≡◌, ℕ, ◌+◌, ◌<◌, ◌↔◌, List, [], ◌∷◌, ◌++◌, reverse, take, drop, length, get_or, sym, ap, subst, ◌∙◌}
use Rattle.std.proofs.lemmas.List.{append-nil, append_assoc, take_more, take-append-drop}
use mathlib.Core.List.{reverse_aux}
use Rattle.ideal_laws.specs.declared.account.Call.{Call}
use Rattle.pivot_core.specs.History.{Replays, ReplaysAfter, answer_after, joined_calls}

joined_calls-append : (logs : List (List Call)) (log : List Call) → joined_calls (logs ++ log ∷ []) ≡ joined_calls logs ++ log
joined_calls-append [] log = append-nil log
joined_calls-append (first ∷ logs) log = ap (λ (l : List Call). first ++ l) (joined_calls-append logs log) ∙ sym (append_assoc first (joined_calls logs) log)

-- one more log
pub joined_calls-more : (logs : List (List Call)) (i : ℕ) (d : List Call) → i < length logs →
    joined_calls (take (i + 1) logs) ≡ joined_calls (take i logs) ++ get_or logs i d
joined_calls-more logs i d within = ap joined_calls (take_more logs i d within) ∙ joined_calls-append (take i logs) (get_or logs i d)

-- a list of calls and one more
ReplaysAfter-append : (done calls : List Call) (k : Call) → ReplaysAfter done (calls ++ k ∷ []) ↔
    (ReplaysAfter done calls × (k.answer ≡ answer_after (reverse_aux calls done) k.column))
ReplaysAfter-append done [] k = (λ h. (tt, h.0), λ h. (h.1, tt))
ReplaysAfter-append done (l ∷ calls) k =
    let rest = ReplaysAfter-append (l ∷ done) calls k in
    (λ h. ((h.0, (rest.0 h.1).0), (rest.0 h.1).1), λ h. (h.0.0, rest.1 (h.0.1, h.1)))

ReplaysAfter-front : (done calls more : List Call) → ReplaysAfter done (calls ++ more) → ReplaysAfter done calls
ReplaysAfter-front done [] more h = tt
ReplaysAfter-front done (k ∷ calls) more h = (h.0, ReplaysAfter-front (k ∷ done) calls more h.1)

-- the first calls of a history are one
Replays-take : (calls : List Call) (i : ℕ) → Replays calls → Replays (take i calls)
Replays-take calls i h = ReplaysAfter-front [] (take i calls) (drop i calls) (subst Replays (sym (take-append-drop i calls)) h)

-- one more call, with the answer that the object gives after those before it
pub Replays-more : (calls : List Call) (i : ℕ) (d : Call) → i < length calls → Replays (take i calls) →
    (get_or calls i d).answer ≡ answer_after (reverse (take i calls)) (get_or calls i d).column → Replays (take (i + 1) calls)
Replays-more calls i d within h same =
    subst Replays (sym (take_more calls i d within)) ((ReplaysAfter-append [] (take i calls) (get_or calls i d)).1 (h, same))

-- each call has that answer
pub Replays-at : (calls : List Call) (i : ℕ) (d : Call) → i < length calls → Replays calls →
    (get_or calls i d).answer ≡ answer_after (reverse (take i calls)) (get_or calls i d).column
Replays-at calls i d within h =
    ((ReplaysAfter-append [] (take i calls) (get_or calls i d)).0 (subst Replays (take_more calls i d within) (Replays-take calls (i + 1) h))).1
