-- Reduced echelon forms over columns in an order.
use Rattle.std.specs.Prelude.{◌≡◌, ◌⊎◌, List, [], ◌∷◌, map}
use Rattle.linear_algebra.specs.Fields.{Field}
use Rattle.linear_algebra.specs.Spans.{Vector, sum_of, IsInSpan}

module _ (K : Field) (X : Type 0) where
  -- v is one of these
  abbrev pub IsOneOf : List (Vector K X) → Vector K X → Type 0
  IsOneOf [] v = ⊥
  IsOneOf (g ∷ gs) v = (v ≡ g) ⊎ IsOneOf gs v

  -- rows with their leading columns: each is 0 at this column
  abbrev pub AreZeroAt : X → List (X × Vector K X) → Type 0
  AreZeroAt x [] = Unit {0}
  AreZeroAt x (e ∷ es) = (e.1 x ≡ K.zero) × AreZeroAt x es

  -- v is 0 at each leading column
  abbrev pub IsZeroAtLeads : Vector K X → List (X × Vector K X) → Type 0
  IsZeroAtLeads v [] = Unit {0}
  IsZeroAtLeads v (e ∷ es) = (v e.0 ≡ K.zero) × IsZeroAtLeads v es

  -- By the columns in their order: a column leads no row, and is 0 in all later ones, or it leads one, which is 1
  -- there and 0 at the later leading columns
  pub data IsReduced : List X → List (X × Vector K X) → Type 0 where
    done : IsReduced [] []
    skip : (x : X) (xs : List X) (es : List (X × Vector K X)) → AreZeroAt x es → IsReduced xs es → IsReduced (x ∷ xs) es
    lead : (x : X) (xs : List X) (v : Vector K X) (es : List (X × Vector K X)) → v x ≡ K.one → AreZeroAt x es →
        IsZeroAtLeads v es →
        IsReduced xs es → IsReduced (x ∷ xs) ((x, v) ∷ es)

  -- the vector with these entries at the leading columns
  abbrev pub from_leads : List (X × Vector K X) → Vector K X → List (K.F × Vector K X)
  from_leads es v = map (λ e. (v e.0, e.1)) es

  -- two vectors are the same at these columns
  abbrev pub AreSameAt : List X → Vector K X → Vector K X → Type 0
  AreSameAt [] v w = Unit {0}
  AreSameAt (x ∷ xs) v w = (v x ≡ w x) × AreSameAt xs v w

  -- the same leading columns, and rows that are the same at these columns
  abbrev pub AreSameRows : List X → List (X × Vector K X) → List (X × Vector K X) → Type 0
  AreSameRows xs [] [] = Unit {0}
  AreSameRows xs [] (f ∷ fs) = ⊥
  AreSameRows xs (e ∷ es) [] = ⊥
  AreSameRows xs (e ∷ es) (f ∷ fs) = (e.0 ≡ f.0) × AreSameAt xs e.1 f.1 × AreSameRows xs es fs

  -- each row is a sum of multiples of gs
  abbrev pub AreInSpan : List (Vector K X) → List (X × Vector K X) → Type 0
  AreInSpan gs [] = Unit {0}
  AreInSpan gs (e ∷ es) = IsInSpan K X (IsOneOf gs) e.1 × AreInSpan gs es

  -- reduced rows of the span of gs, from which each of its members is had by its entries at the leading columns
  pub record IsBasis (xs : List X) (gs : List (Vector K X)) (es : List (X × Vector K X)) : Type 0 where
    pub reduced : IsReduced xs es
    pub inside : AreInSpan gs es
    pub coordinates : (v : Vector K X) → IsInSpan K X (IsOneOf gs) v → AreSameAt xs v (sum_of K X (from_leads es v))
