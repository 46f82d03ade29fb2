-- The seats that have not ended.
use Rattle.std.proofs.Common.{◌≡◌, ◌+◌, ◌-◌, ◌<◌, ◌≤◌, ◌==◌, ◌++◌, ℕ, zero, suc, Bool, true, false, List, [], ◌∷◌, append-nil, cond, not, length}
use Rattle.std.proofs.Common.{length-append, get_or, refl, sym, ap, ◌∙◌, arith}
use Rattle.std.specs.List.{filter, range_with_len}
use Rattle.std.proofs.Math.ListN.{get_or-append}
use Rattle.std.proofs.Math.Seq.{get_or-append_seam}
use Rattle.std.proofs.lemmas.List.{map-id}
use Rattle.std.proofs.lemmas.List.FromFn.{filter_of_map_range_with_len_more, length-range_with_len}
use Rattle.std.proofs.lemmas.List.Filters.{length-filter_both}
use Rattle.back_reduce.specs.declared.problem.Problem.{Problem}
use Rattle.pivot_core.specs.declared.view.Phase.{Phase}
use Rattle.pivot_core.specs.declared.view.Phase.TheVariants as phase
use Rattle.pivot_core.specs.Phases.{is_ended}
use Rattle.pivot_core.specs.Runs.{HasEnded, State, view_at}
use Rattle.degree_loop.specs.Schedule.{going_seats}

-- numbers that pass a test
module _ (p : ℕ → Bool) where
  -- those below a bound
  abbrev pub passing : ℕ → List ℕ
  passing n = filter p (range_with_len 0 n)

  passing_more : (n : ℕ) → passing (n + 1) ≡ passing n ++ cond (p n) (n ∷ []) []
  passing_more n =
      sym (ap (filter p) (map-id (range_with_len 0 (n + 1)))) ∙ filter_of_map_range_with_len_more p (λ (i : ℕ). i) 0 n n (omega arith)
      ∙ ap (λ (l : List ℕ). filter p l ++ cond (p n) (n ∷ []) []) (map-id (range_with_len 0 n))

  -- one number more that passes the test stands at the end of those that pass
  pub passing-one : (n : ℕ) → p n ≡ true → passing (n + 1) ≡ passing n ++ n ∷ []
  passing-one n e = passing_more n ∙ ap (λ (b : Bool). passing n ++ cond b (n ∷ []) []) e

  -- one number more that does not pass the test leaves those that pass as they are
  pub passing-none : (n : ℕ) → p n ≡ false → passing (n + 1) ≡ passing n
  passing-none n e = passing_more n ∙ ap (λ (b : Bool). passing n ++ cond b (n ∷ []) []) e ∙ append-nil (passing n)

  -- no more numbers pass than there are below the bound
  pub passing_few : (n : ℕ) → length (passing n) ≤ n
  passing_few n = omega (arith, length-filter_both p (λ i. not (p i)) (λ i. refl) (range_with_len 0 n), length-range_with_len 0 n)

  -- this number stands behind those below it
  pub record IsPlaced (n : ℕ) (ns : List ℕ) : Type 0 where
    pub at : get_or ns (length (passing n)) 0 ≡ n
    pub within : length (passing n) < length ns

  -- a number that passes the test stands, among those below a greater bound, behind those below it
  pub placed : (n : ℕ) → p n ≡ true → (m k : ℕ) → n + 1 + k ≡ m → IsPlaced n (passing m)
  placed n e m zero is =
      let same : n + 1 ≡ m = omega (arith, is) in
      let grown : passing m ≡ passing n ++ n ∷ [] = sym (ap passing same) ∙ passing-one n e in
      record {
        at = ap (λ (l : List ℕ). get_or l (length (passing n)) 0) grown ∙ get_or-append_seam (passing n) n [] 0;
        within = omega (arith, ap length grown, length-append (passing n) (n ∷ []));
      }
  placed n e m (suc k) is =
      let before = placed n e (n + 1 + k) k refl in
      let same : n + 1 + k + 1 ≡ m = omega (arith, is) in
      let grown : passing m ≡ passing (n + 1 + k) ++ cond (p (n + 1 + k)) ((n + 1 + k) ∷ []) [] = sym (ap passing same) ∙ passing_more (n + 1 + k) in
      record {
        at = ap (λ (l : List ℕ). get_or l (length (passing n)) 0) grown
            ∙ get_or-append (passing (n + 1 + k)) (cond (p (n + 1 + k)) ((n + 1 + k) ∷ []) []) 0 (length (passing n)) before.within
            ∙ before.at;
        within = omega (arith, before.within, ap length grown, length-append (passing (n + 1 + k)) (cond (p (n + 1 + k)) ((n + 1 + k) ∷ []) []));
      }

-- where none passes
pub passing-empty : (p : ℕ → Bool) (m n : ℕ) → n < m → passing p m ≡ [] → (b : Bool) → p n ≡ b → p n ≡ false
passing-empty p m n lt none true e =
    let own = placed p n e m (m - (n + 1)) (omega (arith, lt)) in
    absurd (omega (arith, own.within, ap length none))
passing-empty p m n lt none false e = e

-- a phase that is told to have ended has ended
ended_by : (f : Phase) → (is_ended f == 0) ≡ false → f ≡ phase.Ended
ended_by phase.Fresh e = cc e
ended_by (phase.Looking row column) e = cc e
ended_by (phase.Putting row column at) e = cc e
ended_by (phase.Claiming row column) e = cc e
ended_by (phase.Reading row column holder at) e = cc e
ended_by phase.Ended e = refl

-- the seats below a bound that have not ended
abbrev pub going_test : Problem → State → ℕ → Bool
going_test problem s i = is_ended (view_at problem s i).phase == 0

abbrev pub going_below : Problem → State → ℕ → List ℕ
going_below problem s n = passing (going_test problem s) n

-- every view has ended where no seat goes on
pub none_going : (problem : Problem) (s : State) → going_seats problem s ≡ [] → HasEnded problem s
none_going problem s none i lt = ended_by (view_at problem s i).phase
    (passing-empty (going_test problem s) (length s.views) i lt none (going_test problem s i) refl)
