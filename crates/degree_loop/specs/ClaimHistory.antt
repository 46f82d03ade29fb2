-- What the calls of a degree tell.
use Rattle.std.specs.Prelude.{ℕ, ◌≡◌, ◌≢◌, ◌↔◌, ◌⊎◌, ◌<◌, ◌≤◌, List, [], All, AllPairs, Contains, Some, length}
use Rattle.std.specs.Prelude.{slice_index_or}
use Rattle.free_poly.specs.declared.term.Term.{Term}
use Rattle.free_poly.specs.Poly.{lead_of}
use Rattle.ideal_laws.specs.Ideal.{Ideal}
use Rattle.ideal_laws.specs.declared.account.Account.{Account}
use Rattle.ideal_laws.specs.declared.account.Answer.TheVariants as answer
use Rattle.ideal_laws.specs.declared.account.Call.{Call}
use Rattle.ideal_laws.specs.Basis.{IsReducedBasis}
use Rattle.ideal_laws.specs.Laws.{IsSetting}
use Rattle.ideal_laws.specs.Overlaps.{AreLower}
use Rattle.pivot_core.specs.History.{Replays}
use Rattle.degree_loop.specs.Accounts.{IsRunAccount, crew_of}
use Rattle.degree_loop.specs.Matrix.{TellsMatrix}

-- the stamp of k is the lesser one, or they agree and its seat is
abbrev pub IsEarlier : Call → Call → Type 0
IsEarlier k l = (k.stamp < l.stamp) ⊎ ((k.stamp ≡ l.stamp) × (k.seat < l.seat))

abbrev pub IsWon : Call → Type 0
IsWon k = k.answer ≡ answer.Won

-- the stamp in a `Lost` is below the call's own
abbrev pub IsAboveAnswer : Call → Type 0
IsAboveAnswer k = (row stamp : ℕ) → k.answer ≡ answer.Lost row stamp → stamp < k.stamp

-- the word leads one of the elements
abbrev pub IsLeadOf : List (List Term) → List ℕ → Type 0
IsLeadOf elements w = (f : List Term) × Contains elements f × (lead_of f ≡ Some w)

-- the word is that of a column that was won
abbrev pub IsWonWord : Account → List ℕ → Type 0
IsWonWord account w = (k : Call) × Contains account.calls k × IsWon k × (slice_index_or account.columns k.column [] ≡ w)

-- the calls of a crew on the matrix of a degree with these elements
pub record IsClaimHistory (crew : ℕ) (elements : List (List Term)) (account : Account) : Type 0 where
  pub order : AllPairs IsEarlier account.calls
  pub seats : All (λ k. k.seat < crew) account.calls
  pub rows : All (λ k. k.row < account.rows) account.calls
  pub columns : All (λ k. k.column < length account.columns) account.calls
  pub replays : Replays account.calls
  pub once : AllPairs (λ k l. k.seat ≡ l.seat → k.column ≢ l.column) account.calls
  pub rows_apart : AllPairs (λ k l. IsWon k → IsWon l → k.row ≢ l.row) account.calls
  pub above : All IsAboveAnswer account.calls
  pub leads : (w : List ℕ) → IsLeadOf elements w ↔ IsWonWord account w

-- the account of an ended run tells the matrix of the degree and the calls of its crew, of which the won ones name
-- exactly the leading words
abbrev pub RunAccountsTell : Type 0
RunAccountsTell = (workers : ℕ) (ideal : Ideal) → IsSetting ideal → 1 ≤ workers →
    workers ≤ 64 → (d : ℕ) (G : List (List Term)) → AreLower ideal d G
    → (account : Account) → IsRunAccount workers ideal G d account → (elements : List (List Term)) →
    IsReducedBasis ideal d elements
    → TellsMatrix ideal G d account × IsClaimHistory (crew_of workers account.rows) elements account
