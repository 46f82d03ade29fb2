-- The words of a sum, and the two degrees that a mixed sum is refused with.
use Rattle.std.specs.Prelude.{ℕ, ◌≡◌, ◌≢◌, ◌%◌, ◌<◌, ◌≤◌, ◌⊎◌, List, [], All, Contains}
use Rattle.words.specs.Words.{degree_of}
use Rattle.free_poly.specs.declared.term.Term.{Term}
use Rattle.free_poly.specs.Terms.{total_at}

-- the word stands in the sum: its coefficient there is not 0 modulo p
abbrev pub Stands : ℕ → List Term → List ℕ → Type 0
Stands p f w = total_at f w % p ≢ 0

-- the first is the greatest degree of the words of the sum, and the other the greatest of their other degrees
pub record HasTwoDegrees (p : ℕ) (weights : List ℕ) (f : List Term) (first other : ℕ) : Type 0 where
  pub greatest : List ℕ
  pub next : List ℕ
  pub greatest_stands : Stands p f greatest
  pub next_stands : Stands p f next
  pub first_is : degree_of weights greatest ≡ first
  pub other_is : degree_of weights next ≡ other
  pub below : other < first
  pub most : (w : List ℕ) → Stands p f w → degree_of weights w ≤ first
  pub others : (w : List ℕ) → Stands p f w → (degree_of weights w ≡ first) ⊎ (degree_of weights w ≤ other)

-- the greatest degree of some terms, and 0 of none
pub record IsGreatestDegree (weights : List ℕ) (f : List Term) (d : ℕ) : Type 0 where
  pub most : All (λ t. degree_of weights t.word ≤ d) f
  pub some : ((f ≡ []) × (d ≡ 0)) ⊎ ((t : Term) × Contains f t × (degree_of weights t.word ≡ d))

-- the greatest degree of some terms other than the first
pub record IsNextDegree (weights : List ℕ) (f : List Term) (first other : ℕ) : Type 0 where
  pub apart : other ≢ first
  pub most : All (λ t. (degree_of weights t.word ≡ first) ⊎ (degree_of weights t.word ≤ other)) f
  pub some : (t : Term) × Contains f t × (degree_of weights t.word ≡ other)
