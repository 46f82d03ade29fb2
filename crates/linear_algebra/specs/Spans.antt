-- Sums of multiples of vectors, a vector being its entry at each column.
use Rattle.std.specs.Prelude.{◌≡◌, List, [], ◌∷◌, All}
use Rattle.linear_algebra.specs.Fields.{Field}

module _ (K : Field) (X : Type 0) where
  abbrev pub Vector : Type 0
  Vector = X → K.F

  -- the sum of a * v over a list
  abbrev pub sum_of : List (K.F × Vector) → Vector
  sum_of [] x = K.zero
  sum_of (c ∷ cs) x = K.add (K.mul c.0 (c.1 x)) (sum_of cs x)

  -- v is a sum of multiples of vectors with P
  pub record IsInSpan (P : Vector → Type 0) (v : Vector) : Type 0 where
    pub parts : List (K.F × Vector)
    pub each : All (λ c. P c.1) parts
    pub sum : (x : X) → v x ≡ sum_of parts x
