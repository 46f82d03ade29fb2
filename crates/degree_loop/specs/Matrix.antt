-- The matrix of a degree, and what an engine tells of it.
use Rattle.std.specs.Prelude.{ℕ, ◌≡◌, List, Option, length}
use Rattle.free_poly.specs.declared.term.Term.{Term}
use Rattle.ideal_laws.specs.Ideal.{Ideal}
use Rattle.ideal_laws.specs.declared.account.Account.{Account}
use Rattle.ideal_laws.specs.Quantities.{AreClosed, contested_words}
use Rattle.symbolic_prep.specs.Closed.{ClosedColumns}
use Rattle.back_reduce.specs.declared.problem.Problem.{Problem}
use Rattle.back_reduce.specs.Problems.{rows_of}
use Rattle.row_laws.specs.Contested.{AreContestedRows}

-- the rows of the degree are closed, and this is what they leave at the contested columns
pub record IsMatrix (ideal : Ideal) (G : List (List Term)) (d : ℕ) (closed : ClosedColumns)
    (problem : Problem) : Type 0 where
  pub rows : List (List Term)
  pub are_closed : AreClosed ideal G d rows closed.columns closed.reducers
  pub modulus : problem.modulus ≡ ideal.modulus
  pub width : problem.m ≡ length (contested_words closed.columns closed.reducers)
  pub contested : AreContestedRows ideal.modulus closed.columns closed.reducers rows (rows_of problem)

-- the number of the rows of a degree, and its contested columns by falling word
pub record TellsMatrix (ideal : Ideal) (G : List (List Term)) (d : ℕ) (account : Account) : Type 0 where
  pub rows : List (List Term)
  pub columns : List (List ℕ)
  pub reducers : List (Option (List Term))
  pub are_closed : AreClosed ideal G d rows columns reducers
  pub count : account.rows ≡ length rows
  pub contested : account.columns ≡ contested_words columns reducers
