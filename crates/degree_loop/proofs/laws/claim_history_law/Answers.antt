use Rattle.degree_loop.proofs.ClaimHistories.{run_accounts_tell}
use Rattle.degree_loop.proofs.laws.claim_history_law.Goals as goal

pub returns : goal.returns
returns c =
    let claims = c.claim_laws.ensures in
    run_accounts_tell claims.claimed_pivots claims.held_rows_are_pivots claims.one_legal_history claims.history_merges_logs
    c.echelon_law.ensures c.rows_law.ensures.basis
