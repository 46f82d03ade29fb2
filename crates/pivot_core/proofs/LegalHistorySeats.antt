-- The calls of one seat among sorted and joined calls.
use Rattle.std.proofs.Common.{◌≡◌, ◌≢◌, ℕ, zero, suc, ◌<◌, ◌≤◌, ◌==◌, All, AllPairs, Bool, true, false, true≢false, cond, List, [], ◌∷◌, ◌++◌, length, refl}
use Rattle.std.proofs.Common.{get_or, refl, sym, ap, ap₂, ◌∙◌, arith, subst}
use Rattle.std.proofs.lemmas.Bool.{eqb-false, eqb-true, ne_eqb, eq-eqb}
use Rattle.std.proofs.lemmas.List.{append-nil}
use Rattle.std.proofs.lemmas.List.Elements.{All-cons, All-from_get_or, All-head, All-nil, All-tail, filter-append}
use Rattle.std.proofs.lemmas.List.Kept.{AllPairs-cons}
use Rattle.ideal_laws.specs.declared.account.Call.{Call}
use Rattle.pivot_core.specs.History.{insert_call, is_not_after, joined_calls, sorted_calls}
use Rattle.pivot_core.specs.Laws.{calls_of}
use Rattle.pivot_core.proofs.SortedCalls.{All-joined_calls, not_after-same_seat}

-- stamps that rise, and stamps that do not fall
abbrev pub IsBefore : Call → Call → Type 0
IsBefore k l = k.stamp < l.stamp

abbrev IsNotAbove : Call → Call → Type 0
IsNotAbove k l = k.stamp ≤ l.stamp

module _ (i : ℕ) where
  abbrev pub IsElsewhere : Call → Type 0
  IsElsewhere k = k.seat ≢ i

  -- the seat's calls of one more call
  calls_of-own : (k : Call) (ks : List Call) → (k.seat == i) ≡ true → calls_of i (k ∷ ks) ≡ k ∷ calls_of i ks
  calls_of-own k ks on = ap (λ (b : Bool). cond b (k ∷ calls_of i ks) (calls_of i ks)) on

  calls_of-other : (k : Call) (ks : List Call) → (k.seat == i) ≡ false → calls_of i (k ∷ ks) ≡ calls_of i ks
  calls_of-other k ks off = ap (λ (b : Bool). cond b (k ∷ calls_of i ks) (calls_of i ks)) off

  -- all or none
  calls_of-all : (ks : List Call) → All (λ k. k.seat ≡ i) ks → calls_of i ks ≡ ks
  calls_of-all [] h = refl
  calls_of-all (k ∷ ks) h =
      calls_of-own k ks (ap (λ (n : ℕ). n == i) (All-head (λ l. l.seat ≡ i) k ks h) ∙ eq-eqb i i refl)
      ∙ ap (λ (ls : List Call). k ∷ ls) (calls_of-all ks (All-tail (λ l. l.seat ≡ i) k ks h))

  -- where all calls are of other seats, none is the seat's
  pub calls_of-none : (ks : List Call) → All IsElsewhere ks → calls_of i ks ≡ []
  calls_of-none [] h = refl
  calls_of-none (k ∷ ks) h =
      calls_of-other k ks (ne_eqb k.seat i (All-head (λ l. l.seat ≢ i) k ks h)) ∙ calls_of-none ks (All-tail (λ l. l.seat ≢ i) k ks h)

  -- an insertion of another seat's call leaves the seat's calls
  insert_call-other : (k : Call) (ls : List Call) → (k.seat == i) ≡ false → calls_of i (insert_call k ls) ≡ calls_of i ls
  insert_call-other k [] off = calls_of-other k [] off
  insert_call-other k (l ∷ ls) off = by_answer (insert_call-other k ls off) (is_not_after k l)
    where
      by_answer : calls_of i (insert_call k ls) ≡ calls_of i ls → (b : Bool) → calls_of i (cond b (k ∷ l ∷ ls) (l ∷ insert_call k ls)) ≡ calls_of i (l ∷ ls)
      by_answer rest true = calls_of-other k (l ∷ ls) off
      by_answer rest false = ap (λ (js : List Call). cond (l.seat == i) (l ∷ js) js) rest

  -- and that of its own call, of a stamp that is not above theirs, puts it first
  insert_call-own : (k : Call) (ls : List Call) → k.seat ≡ i → All (IsNotAbove k) (calls_of i ls) → calls_of i (insert_call k ls) ≡ k ∷ calls_of i ls
  insert_call-own k [] own below = calls_of-own k [] (ap (λ (n : ℕ). n == i) own ∙ eq-eqb i i refl)
  insert_call-own k (l ∷ ls) own below = by_answer (insert_call-own k ls own) (is_not_after k l) refl
    where
      by_seat : (All (IsNotAbove k) (calls_of i ls) → calls_of i (insert_call k ls) ≡ k ∷ calls_of i ls)
          → is_not_after k l ≡ false → (b : Bool) → (l.seat == i) ≡ b → calls_of i (l ∷ insert_call k ls) ≡ k ∷ calls_of i (l ∷ ls)
      by_seat rest after true on =
          let le : k.stamp ≤ l.stamp = All-head (IsNotAbove k) l (calls_of i ls) (subst (All (IsNotAbove k)) (calls_of-own l ls on) below) in
          absurd (true≢false (sym (not_after-same_seat k l (own ∙ sym (eqb-true l.seat i on)) le) ∙ after))
      by_seat rest after false off =
          calls_of-other l (insert_call k ls) off ∙ rest (subst (All (IsNotAbove k)) (calls_of-other l ls off) below)
          ∙ ap (λ (js : List Call). k ∷ js) (sym (calls_of-other l ls off))

      by_answer : (All (IsNotAbove k) (calls_of i ls) → calls_of i (insert_call k ls) ≡ k ∷ calls_of i ls)
          → (b : Bool) → is_not_after k l ≡ b → calls_of i (cond b (k ∷ l ∷ ls) (l ∷ insert_call k ls)) ≡ k ∷ calls_of i (l ∷ ls)
      by_answer rest true e = calls_of-own k (l ∷ ls) (ap (λ (n : ℕ). n == i) own ∙ eq-eqb i i refl)
      by_answer rest false e = by_seat rest e (l.seat == i) refl

  -- so where they rise a sort leaves them
  pub sorted_calls-own : (ks : List Call) → AllPairs IsBefore (calls_of i ks) → calls_of i (sorted_calls ks) ≡ calls_of i ks
  sorted_calls-own [] rising = refl
  sorted_calls-own (k ∷ ks) rising = by_answer (sorted_calls-own ks) (k.seat == i) refl
    where
      by_answer : (AllPairs IsBefore (calls_of i ks) → calls_of i (sorted_calls ks) ≡ calls_of i ks)
          → (b : Bool) → (k.seat == i) ≡ b → calls_of i (insert_call k (sorted_calls ks)) ≡ calls_of i (k ∷ ks)
      by_answer rest false off =
          insert_call-other k (sorted_calls ks) off ∙ rest (subst (AllPairs IsBefore) (calls_of-other k ks off) rising) ∙ sym (calls_of-other k ks off)
      by_answer rest true on =
          let here : AllPairs IsBefore (k ∷ calls_of i ks) = subst (AllPairs IsBefore) (calls_of-own k ks on) rising in
          let same : calls_of i (sorted_calls ks) ≡ calls_of i ks = rest
          (λ a b d lt within. here (suc a) (suc b) d (omega (arith, lt)) (omega (arith, within))) in
          let above : All (IsNotAbove k) (calls_of i ks) =
          λ j d within. (let lt : k.stamp < (get_or (calls_of i ks) j d).stamp =
          here zero (suc j) d (omega arith) (omega (arith, within)) in omega (arith, lt)) in
          insert_call-own k (sorted_calls ks) (eqb-true k.seat i on) (subst (All (IsNotAbove k)) (sym same) above)
          ∙ ap (λ (js : List Call). k ∷ js) same ∙ sym (calls_of-own k ks on)

  -- of joined logs, of which one has the seat's calls alone and the others have none
  joined_calls-none : (logs : List (List Call)) → All (All IsElsewhere) logs → calls_of i (joined_calls logs) ≡ []
  joined_calls-none logs h = calls_of-none (joined_calls logs) (All-joined_calls IsElsewhere logs h)

  -- where one log has calls of the seat alone and no other log has any, the seat's calls among the joined ones are this log
  pub joined_calls-one : (logs : List (List Call)) (at : ℕ) → All (λ k. k.seat ≡ i) (get_or logs at [])
      → ((j : ℕ) → j < length logs → j ≢ at → All IsElsewhere (get_or logs j [])) → calls_of i (joined_calls logs) ≡ get_or logs at []
  joined_calls-one [] at own others = refl
  joined_calls-one (log ∷ logs) zero own others =
      filter-append (λ (k : Call). k.seat == i) log (joined_calls logs)
      ∙ ap₂ (λ (ks ls : List Call). ks ++ ls) (calls_of-all log own)
      (joined_calls-none logs (All-from_get_or (All IsElsewhere) logs [] (λ j lt. others (suc j) (omega (arith, lt)) (λ e. omega (arith, e)))))
      ∙ append-nil log
  joined_calls-one (log ∷ logs) (suc at) own others =
      filter-append (λ (k : Call). k.seat == i) log (joined_calls logs)
      ∙ ap₂ (λ (ks ls : List Call). ks ++ ls) (calls_of-none log (others zero (omega arith) (λ e. omega (arith, e))))
      (joined_calls-one logs at own (λ j lt other. others (suc j) (omega (arith, lt)) (λ e. other (omega (arith, e)))))

-- what the calls of each seat have of their pairs, two calls of a seat have in the whole list
pub calls_of-pairs : (R : Call → Call → Type 0) (ks : List Call) → ((i : ℕ) → AllPairs R (calls_of i ks)) → AllPairs (λ k l. k.seat ≡ l.seat → R k l) ks
calls_of-pairs R [] h = λ a b d lt within. absurd (omega (arith, lt, within))
calls_of-pairs R (k ∷ ks) h = AllPairs-cons (λ j l. j.seat ≡ l.seat → R j l) k ks (first ks here) (calls_of-pairs R ks (λ i. tail i (k.seat == i) refl))
  where
    tail : (i : ℕ) (b : Bool) → (k.seat == i) ≡ b → AllPairs R (calls_of i ks)
    tail i true on =
        let all : AllPairs R (k ∷ calls_of i ks) = subst (AllPairs R) (calls_of-own i k ks on) (h i) in
        λ a b d lt within. all (suc a) (suc b) d (omega (arith, lt)) (omega (arith, within))
    tail i false off = subst (AllPairs R) (calls_of-other i k ks off) (h i)

    here : All (R k) (calls_of k.seat ks)
    here j d within = subst (AllPairs R) (calls_of-own k.seat k ks (eq-eqb k.seat k.seat refl)) (h k.seat) zero (suc j) d (omega arith) (omega (arith, within))

    first : (ls : List Call) → All (R k) (calls_of k.seat ls) → All (λ l. k.seat ≡ l.seat → R k l) ls
    first [] all = All-nil (λ l. k.seat ≡ l.seat → R k l)
    first (l ∷ ls) all = by_answer (first ls) (l.seat == k.seat) refl
      where
        by_answer : (All (R k) (calls_of k.seat ls) → All (λ j. k.seat ≡ j.seat → R k j) ls) → (b : Bool) → (l.seat == k.seat) ≡ b →
            All (λ j. k.seat ≡ j.seat → R k j) (l ∷ ls)
        by_answer rest true on =
            let both : All (R k) (l ∷ calls_of k.seat ls) = subst (All (R k)) (calls_of-own k.seat l ls on) all in
            All-cons (λ j. k.seat ≡ j.seat → R k j) l ls (λ e. All-head (R k) l (calls_of k.seat ls) both) (rest (All-tail (R k) l (calls_of k.seat ls) both))
        by_answer rest false off =
            All-cons (λ j. k.seat ≡ j.seat → R k j) l ls (λ e. absurd (eqb-false l.seat k.seat off (sym e)))
            (rest (subst (All (R k)) (calls_of-other k.seat l ls off) all))
