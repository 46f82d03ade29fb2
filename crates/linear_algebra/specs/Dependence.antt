-- Linear dependence of vectors on columns.
use Rattle.std.specs.Prelude.{◌≡◌, ◌⊎◌, List, [], ◌∷◌, false, length}
use Rattle.linear_algebra.specs.Fields.{Field}
use Rattle.linear_algebra.specs.Spans.{Vector}

module _ (K : Field) (X : Type 0) where
  -- the sum of c * f over two lists
  abbrev pub sum_zip : List K.F → List (Vector K X) → Vector K X
  sum_zip [] fs x = K.zero
  sum_zip (c ∷ cs) [] x = K.zero
  sum_zip (c ∷ cs) (f ∷ fs) x = K.add (K.mul c (f x)) (sum_zip cs fs x)

  -- some factor is not 0
  abbrev pub HasNonzero : List K.F → Type 0
  HasNonzero [] = ⊥
  HasNonzero (c ∷ cs) = (K.is_zero c ≡ false) ⊎ HasNonzero cs

  -- v is 0 at these columns
  abbrev pub IsZeroOn : List X → Vector K X → Type 0
  IsZeroOn [] v = Unit {0}
  IsZeroOn (x ∷ xs) v = (v x ≡ K.zero) × IsZeroOn xs v

  -- a sum of multiples of the vectors, not all by 0, is 0 at these columns
  pub record IsDependent (xs : List X) (fs : List (Vector K X)) : Type 0 where
    pub factors : List K.F
    pub count : length factors ≡ length fs
    pub other : HasNonzero factors
    pub sum : IsZeroOn xs (sum_zip factors fs)
