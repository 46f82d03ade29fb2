-- What the account of an ended run tells.
use Rattle.std.proofs.Common.{◌≡◌, ◌≢◌, ◌<◌, ℕ, All, AllPairs, Contains, List, [], Some, get_or, length, map, refl, sym, ap, ◌∙◌, arith, inl, inr, subst}
use Rattle.std.specs.List.{sum_by}
use Rattle.std.proofs.lemmas.Bool.{cases_lt}
use Rattle.std.proofs.lemmas.List.Elements.{All-contains, All-weaker, Contains-get_or}
use Rattle.words.proofs.Members.{AllPairs-nil, Contains-map, Contains-map_cases}
use Rattle.field_table.specs.Residues.{IsFieldModulus}
use Rattle.free_poly.specs.declared.term.Term.{Term}
use Rattle.free_poly.specs.Poly.{element_on, lead_of}
use Rattle.ideal_laws.specs.Ideal.{Ideal}
use Rattle.ideal_laws.specs.declared.account.Account.{Account}
use Rattle.ideal_laws.specs.declared.account.Answer.TheVariants as answer
use Rattle.ideal_laws.specs.declared.account.Call.{Call}
use Rattle.ideal_laws.specs.Basis.{IsReducedBasis}
use Rattle.ideal_laws.specs.Laws.{IsSetting}
use Rattle.ideal_laws.specs.Overlaps.{AreLower}
use Rattle.ideal_laws.specs.Quantities.{contested_words}
use Rattle.symbolic_prep.specs.Closed.{ClosedColumns}
use Rattle.back_reduce.specs.declared.problem.Problem.{Problem}
use Rattle.back_reduce.specs.Pivots.{ArePivots}
use Rattle.back_reduce.specs.Problems.{rows_of}
use Rattle.back_reduce.specs.Rref.{HaveOneRref, IsRref}
use Rattle.row_laws.specs.Laws.{RowsGiveBasis}
use Rattle.row_laws.proofs.OnColumns.{element_on-first}
use Rattle.pivot_core.specs.declared.sight.Sight.{Sight}
use Rattle.pivot_core.specs.Calls.{IsAnswered, IsCall, is_won_at}
use Rattle.pivot_core.specs.Claimed.{ClaimedPivots}
use Rattle.pivot_core.specs.History.{merged}
use Rattle.pivot_core.specs.Laws as claims
use Rattle.pivot_core.specs.Laws.{ClaimedPivotsLaw, HeldRowsArePivots, HistoryMergesLogs, IsLegalHistory, IsMergeOfLogs, OneLegalHistory, logs_of}
use Rattle.pivot_core.specs.Runs.{IsHeld, State, holder_of, holders, state_after, values, view_at}
use Rattle.pivot_core.specs.Views.{fresh}
use Rattle.pivot_core.proofs.HeldRows.{held_holders, holders-held}
use Rattle.pivot_core.proofs.LegalHistory.{each_call}
use Rattle.pivot_core.proofs.LegalHistoryReplays.{IsTrueCall}
use Rattle.pivot_core.proofs.LegalHistorySeats.{IsElsewhere, calls_of-none, calls_of-pairs}
use Rattle.degree_loop.specs.Accounts.{crew_of}
use Rattle.degree_loop.specs.ClaimHistory.{IsAboveAnswer, IsClaimHistory, IsLeadOf, IsWon, RunAccountsTell}
use Rattle.degree_loop.specs.Matrix.{IsMatrix, TellsMatrix}
use Rattle.degree_loop.proofs.Finished.{count_rows, form_of}
use Rattle.degree_loop.proofs.PivotLeads.{LeadsAt, held_leads, row_leads}
use Rattle.degree_loop.proofs.WonCalls.{part_of_sum, won_apart, won_from}
use Rattle.std.proofs.lemmas.Option.{same_Some}

-- the calls of a state in which the rule of claimed pivots holds
module _ (problem : Problem) (crew : ℕ) (s : State) (rule : ClaimedPivots problem crew s) (legal : IsLegalHistory problem crew s)
    (merge : IsMergeOfLogs problem crew s) where
  abbrev calls : List Call
  calls = merged (logs_of s)

  -- each call is in range and tells what its column holds
  pub told : All (IsTrueCall problem s) calls
  told = each_call problem crew s rule (IsTrueCall problem s)
      (λ i lt. All-weaker (IsCall problem s i (view_at problem s i).clock) (IsTrueCall problem s)
      (λ k is. record { own = refl; column = is.column; row = is.row; stamp = omega arith; answered = is.answered })
      (view_at problem s i).calls (rule.calls_and_counts.each i lt))

  -- the stamp in the answer of a lost call is below the stamp of the call
  pub all_above : All IsAboveAnswer calls
  all_above = All-weaker (IsTrueCall problem s) IsAboveAnswer (λ k is row stamp e. (let h = subst (IsAnswered problem s k) e is.answered in h.3)) calls told

  -- two calls of one seat are on two columns
  pub once : AllPairs (λ k l. k.seat ≡ l.seat → k.column ≢ l.column) calls
  once = calls_of-pairs (λ k l. k.column ≢ l.column) calls (λ i. elim (cases_lt i crew) [
    | inl lt ↦ subst (AllPairs (λ (k l : Call). k.column ≢ l.column)) (sym (merge.logs i lt)) (rule.calls_and_counts.columns i lt)
    | inr out ↦
        subst (AllPairs (λ (k l : Call). k.column ≢ l.column)) (sym (calls_of-none i calls
        (All-weaker (λ (k : Call). k.seat < crew) (IsElsewhere i) (λ k lt e. omega (arith, lt, e, out)) calls merge.seats)))
        (AllPairs-nil (λ (k l : Call). k.column ≢ l.column))
  ])

  -- a won call has its column
  won_holds : (k : Call) → IsTrueCall problem s k → IsWon k → IsHeld problem s k.column × (holder_of problem s k.column ≡ k.row)
  won_holds k is won = let h = subst (IsAnswered problem s k) won is.answered in (h.0, h.1)

  -- two won calls have two rows
  pub rows_apart : AllPairs (λ k l. IsWon k → IsWon l → k.row ≢ l.row) calls
  rows_apart i j d below within k_won l_won same =
      let k : Call = get_or calls i d in
      let l : Call = get_or calls j d in
      let first = won_holds k (told i d (omega (arith, below, within))) k_won in
      let second = won_holds l (told j d within) l_won in
      won_apart [] calls legal.replays i j d below within k_won l_won
      (rule.disjoint_rows.holders_apart k.column l.column first.0 second.0 (first.1 ∙ same ∙ sym second.1))

  -- what is won is held, and what is held was won
  pub won_held : (k : Call) → Contains calls k → IsWon k → IsHeld problem s k.column
  won_held k there won = (won_holds k (All-contains (IsTrueCall problem s) calls k told there) won).0

  -- a held column was won by one of the calls
  pub held_won : (c : ℕ) → IsHeld problem s c → (k : Call) × Contains calls k × IsWon k × (k.column ≡ c)
  held_won c h =
      let none : Call = record { seat = 0; stamp = 0; column = 0; row = 0; answer = answer.Won } in
      let i = part_of_sum (λ (v : Sight). sum_by (is_won_at c) v.calls) s.views (omega (arith, rule.calls_and_counts.won c h)) in
      let own : List Call = (view_at problem s i.0).calls in
      let j = part_of_sum (is_won_at c) own (i.2 (fresh problem.m i.0)) in
      let k : Call = get_or own j.0 none in
      let lt : i.0 < crew = omega (arith, i.1, rule.ranges.count) in
      let won = won_from c k (j.2 none) in
      (k, All-contains (Contains calls) own k (legal.inside i.0 lt) (Contains-get_or own j.0 none j.1), won.0, won.1)

-- the leading words of a degree are those of the held columns
module _ (ideal : Ideal) (st : IsSetting ideal) (d : ℕ) (G : List (List Term)) (lower : AreLower ideal d G)
    (closed : ClosedColumns) (problem : Problem) (matrix : IsMatrix ideal G d closed problem) (s : State)
    (pivots : ArePivots problem (holders problem s) (values problem s))
    (form_law : HaveOneRref) (basis_law : RowsGiveBasis) (elements : List (List Term)) (basis : IsReducedBasis ideal d elements) where
  abbrev contested : List (List ℕ)
  contested = contested_words closed.columns closed.reducers

  modulus : IsFieldModulus problem.modulus
  modulus = subst IsFieldModulus (sym matrix.modulus) st.modulus

  abbrev echelon : List (List ℕ)
  echelon = (form_law problem.modulus problem.m (rows_of problem) modulus problem.each).echelon

  form : IsRref problem.modulus problem.m (rows_of problem) echelon
  form = (form_law problem.modulus problem.m (rows_of problem) modulus problem.each).form

  own_basis : IsReducedBasis ideal d (map (element_on contested) echelon)
  own_basis = basis_law ideal st d G lower matrix.rows closed.columns closed.reducers matrix.are_closed (rows_of problem)
      matrix.contested echelon (form_of ideal G d closed problem matrix echelon form)

  led_word : (r : List ℕ) (c : ℕ) → c < problem.m → LeadsAt c r → lead_of (element_on contested r) ≡ Some (get_or contested c [])
  led_word r c lt h = (element_on-first contested r c (omega (arith, lt, matrix.width)) h.before h.one).0

  -- each leading word of the reduced basis of the degree is the word of a held column
  pub lead_held : (w : List ℕ) → IsLeadOf elements w → (c : ℕ) × IsHeld problem s c × (get_or contested c [] ≡ w)
  lead_held w h =
      let there = (own_basis.exactly h.0).1 ((basis.exactly h.0).0 h.1) in
      let q = Contains-map_cases (element_on contested) echelon h.0 there in
      let l = row_leads problem (holders problem s) (values problem s) pivots modulus echelon form q.0 q.1 in (
        l.0,
        (held_holders problem s l.0 l.1.row l.1.below l.1.is).0,
        same_Some (get_or contested l.0 []) w (sym (led_word q.0 l.0 l.1.below l.2) ∙ ap lead_of q.2 ∙ h.2),
      )

  -- the word of each held column is a leading word of the reduced basis of the degree
  pub held_lead : (c : ℕ) → IsHeld problem s c → IsLeadOf elements (get_or contested c [])
  held_lead c h =
      let r = held_leads problem (holders problem s) (values problem s) pivots modulus echelon form c
      (record { below = h.below; row = holder_of problem s c; is = holders-held problem s c h }) in
      let f : List Term = element_on contested r.0 in
      (f, (basis.exactly f).1 ((own_basis.exactly f).0 (Contains-map (element_on contested) echelon r.0 r.1)), led_word r.0 c h.below r.2)

-- an account by its parts
account_is : (account : Account) (n : ℕ) (words : List (List ℕ)) (ks : List Call) → account.rows ≡ n → account.columns ≡ words →
    account.calls ≡ ks → account ≡ record { rows = n; columns = words; calls = ks }
account_is account n words ks r c k = λ i. record { rows = r i; columns = c i; calls = k i }

-- by the laws of the machine, of the one echelon form and of the rows of a degree, the account of an ended run
-- tells the matrix and the claims, of which the won ones name exactly the leading words of the degree
pub run_accounts_tell : ClaimedPivotsLaw → HeldRowsArePivots → OneLegalHistory → HistoryMergesLogs → HaveOneRref → RowsGiveBasis → RunAccountsTell
run_accounts_tell rules pivot_law histories merges form_law basis_law workers ideal st some few d G lower account run elements basis =
    let problem = run.problem in
    let crew : ℕ = crew_of workers problem.n in
    let s : State = state_after problem crew run.calls.events in
    let contested : List (List ℕ) = contested_words run.closed.columns run.closed.reducers in
    let setting : claims.IsSetting problem crew = record {
      field = subst IsFieldModulus (sym run.matrix.modulus) st.modulus;
      some = omega arith;
      few = omega (arith, few);
    } in
    let rule : ClaimedPivots problem crew s = rules problem crew setting run.calls.events in
    let legal : IsLegalHistory problem crew s = histories problem crew setting run.calls.events in
    let merge : IsMergeOfLogs problem crew s = merges problem crew setting run.calls.events in
    let pivots : ArePivots problem (holders problem s) (values problem s) = pivot_law problem crew setting run.calls.events run.calls.ended in
    let own_calls : List Call = merged (logs_of s) in
    let own : Account = record { rows = problem.n; columns = contested; calls = own_calls } in
    let own_told : All (IsTrueCall problem s) own_calls = told problem crew s rule legal merge in
    let tells : TellsMatrix ideal G d account = record {
      rows = run.matrix.rows;
      columns = run.closed.columns;
      reducers = run.closed.reducers;
      are_closed = run.matrix.are_closed;
      count = run.count ∙ count_rows ideal G d run.closed problem run.matrix;
      contested = run.contested;
    } in
    let history : IsClaimHistory crew elements own = record {
      order = merge.order;
      seats = merge.seats;
      rows = All-weaker (IsTrueCall problem s) (λ (k : Call). k.row < problem.n) (λ k is. is.row) own_calls own_told;
      columns = All-weaker (IsTrueCall problem s) (λ (k : Call). k.column < length contested)
          (λ k is. omega (arith, is.column, run.matrix.width)) own_calls own_told;
      replays = legal.replays;
      once = once problem crew s rule legal merge;
      rows_apart = rows_apart problem crew s rule legal merge;
      above = all_above problem crew s rule legal merge;
      leads = λ w. (
        (λ h. (let c = lead_held ideal st d G lower run.closed problem run.matrix s pivots form_law basis_law elements basis w h in
            let k = held_won problem crew s rule legal merge c.0 c.1 in
            (k.0, k.1, k.2, ap (λ (i : ℕ). get_or contested i []) k.3 ∙ c.2))),
        (λ h. subst (IsLeadOf elements) h.3
            (held_lead ideal st d G lower run.closed problem run.matrix s pivots form_law basis_law elements basis h.0.column
            (won_held problem crew s rule legal merge h.0 h.1 h.2))),
      );
    } in (
      tells,
      subst (λ (a : Account). IsClaimHistory (crew_of workers a.rows) elements a)
          (sym (account_is account problem.n contested own_calls run.count run.contested run.calls.merge)) history,
    )
