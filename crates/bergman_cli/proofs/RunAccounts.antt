-- The accounts of the machine of claims, on one thread or in a race, can be told.
use Rattle.std.proofs.Common.{◌≡◌, ◌≤◌, ℕ, List, All, length, sym, subst}
use Rattle.words.specs.Words.{IsOver}
use Rattle.words.proofs.Degrees.{words_of_degree-says}
use Rattle.words.proofs.Members.{All-from_members}
use Rattle.ideal_laws.specs.Ideal.{ideal_of}
use Rattle.ideal_laws.specs.declared.limits.LimitKind.{LimitKind}
use Rattle.ideal_laws.specs.declared.presentation.Presentation.{Presentation}
use Rattle.ideal_laws.specs.Overlaps.{ListsLower}
use Rattle.ideal_laws.specs.Quantities.{contested_words}
use Rattle.row_laws.proofs.ClosedColumns.{closure_word, contested_says}
use Rattle.degree_loop.specs.Accounts.{IsCoreAccount, IsRunAccount}
use Rattle.degree_loop.specs.ClaimHistory.{RunAccountsTell}
use Rattle.degree_loop.proofs.CoreAccounts.{run_of_core}
use Rattle.command_words.specs.declared.job.EngineKind.{EngineKind}
use Rattle.command_words.specs.declared.job.EngineKind.TheVariants.{Core, Race}
use Rattle.command_words.specs.declared.job.Job.{Job}
use Rattle.bergman_cli.specs.Engines.{IsEngineOf, TellsHistory, accounts_in, limits_of}
use Rattle.job_steps.specs.Traces.{Accounts, ArePrintable}

abbrev run_accounts : ℕ → Accounts
run_accounts workers p given below d account =
    IsRunAccount workers (ideal_of p given) below.elements d account

abbrev core_accounts : ℕ → ℕ → Accounts
core_accounts workers schedule p given below d account =
    IsCoreAccount workers schedule (ideal_of p given) below.elements d account

module _ (tell : RunAccountsTell) (list : ListsLower) where
  -- the columns of an ended run are words over the letters, and its calls are on them
  run_printable : (workers : ℕ) → 1 ≤ workers → workers ≤ 64 → (p : ℕ) (given : Presentation) → ArePrintable (run_accounts workers) p given
  run_printable workers some few p given below d elements account small setting is_below reduced may =
      let weights = given.alphabet.weights in
      let lower = list (ideal_of p given) setting d below is_below in
      let tells = tell workers (ideal_of p given) setting some few d below.elements lower account may elements reduced in
      let closed = tells.0.are_closed in
      let over : All (IsOver (length weights)) (contested_words tells.0.columns tells.0.reducers) =
      All-from_members (IsOver (length weights)) (contested_words tells.0.columns tells.0.reducers) (λ w m.
      let column = (contested_says below.elements tells.0.columns tells.0.reducers closed.are_reducers w m).0 in
      (words_of_degree-says weights setting.are_weights d w (closure_word (ideal_of p given) setting d below.elements lower
      tells.0.rows closed.are_rows w ((closed.are_columns.exactly w).0 column))).0) in
      record { words = subst (All (IsOver (length weights))) (sym tells.0.contested) over; calls = tells.1.columns }

  -- the race is the engine of a job that names it
  pub race_engine : (job : Job) (limits : List (LimitKind × ℕ)) (workers : ℕ) → job.engine ≡ Race → limits ≡ limits_of job.engine
      → workers ≡ job.workers → 1 ≤ job.workers → job.workers ≤ 64 → IsEngineOf job limits (run_accounts workers)
  race_engine job limits workers is same same_workers some few = record {
    same_limits = same;
    accounts = λ _ p given below d account setting is_below may.
        let own = subst (λ (w : ℕ). run_accounts w p given below d account) same_workers may in
        let lower = list (ideal_of p given) setting d below is_below in
        let history : TellsHistory job.workers p given below d account =
        λ elements reduced. tell job.workers (ideal_of p given) setting some few d below.elements lower account own elements reduced in
        subst (λ (e : EngineKind). accounts_in e job.workers job.schedule p given below d account) (sym is) (own, history);
    printable = λ _ p given. run_printable workers (subst (λ (w : ℕ). 1 ≤ w) (sym same_workers) some)
        (subst (λ (w : ℕ). w ≤ 64) (sym same_workers) few) p given;
  }

  core_printable : (workers schedule : ℕ) → 1 ≤ workers → workers ≤ 64 → (p : ℕ) (given : Presentation) → ArePrintable (core_accounts workers schedule) p given
  core_printable workers schedule some few p given below d elements account small setting is_below reduced may =
      run_printable workers some few p given below d elements account small setting is_below reduced
      (run_of_core workers schedule (ideal_of p given) below.elements d account may)

  -- the machine on one thread is the engine of a job that names it
  pub core_engine : (job : Job) (limits : List (LimitKind × ℕ)) (workers schedule : ℕ) → job.engine ≡ Core → limits ≡ limits_of job.engine
      → workers ≡ job.workers → schedule ≡ job.schedule → 1 ≤ job.workers → job.workers ≤ 64 → IsEngineOf job limits (core_accounts workers schedule)
  core_engine job limits workers schedule is same same_workers same_schedule some few = record {
    same_limits = same;
    accounts = λ _ p given below d account setting is_below may.
        let own = subst (λ (s : ℕ). core_accounts job.workers s p given below d account) same_schedule
        (subst (λ (w : ℕ). core_accounts w schedule p given below d account) same_workers may) in
        let lower = list (ideal_of p given) setting d below is_below in
        let history : TellsHistory job.workers p given below d account =
        λ elements reduced. tell job.workers (ideal_of p given) setting some few d below.elements lower account
        (run_of_core job.workers job.schedule (ideal_of p given) below.elements d account own) elements reduced in
        subst (λ (e : EngineKind). accounts_in e job.workers job.schedule p given below d account) (sym is) (own, history);
    printable = λ _ p given. core_printable workers schedule (subst (λ (w : ℕ). 1 ≤ w) (sym same_workers) some)
        (subst (λ (w : ℕ). w ≤ 64) (sym same_workers) few) p given;
  }
