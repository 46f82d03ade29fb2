-- Reducers, relations and obstruction rows span a degree.
use Rattle.std.specs.Prelude.{ℕ, ◌≡◌, ◌<◌, ◌↔◌, List, Contains, length}
use Rattle.words.specs.Words.{IsOver, degree_of}
use Rattle.free_poly.specs.declared.term.Term.{Term}
use Rattle.free_poly.specs.Terms.{HasDegree}
use Rattle.ideal_laws.specs.Ideal.{Ideal, IsElement, IsInIdeal}
use Rattle.ideal_laws.specs.Basis.{IsReduced}
use Rattle.ideal_laws.specs.Closure.{IsFactorFree, IsObstruction, IsReducer, obstruction_row}
use Rattle.ideal_laws.specs.Engine.{Elements}
use Rattle.ideal_laws.specs.Kept.{IsBelow}
use Rattle.ideal_laws.specs.Laws.{IsSetting, IsSpanned}

-- a list of exactly the reduced elements of degrees below d
abbrev pub AreLower : Ideal → ℕ → List (List Term) → Type 0
AreLower ideal d G = (g : List Term) → Contains G g ↔ ((e : ℕ) × (e < d) × IsReduced ideal e g)

-- a basis with the reduced basis of each degree below d lists these
abbrev pub ListsLower : Type 0
ListsLower = (ideal : Ideal) → IsSetting ideal → (d : ℕ) (below : Elements) →
    IsBelow ideal d below → AreLower ideal d below.elements

-- and none of its leading words is a factor of another
abbrev pub ListsFactorFree : Type 0
ListsFactorFree = (ideal : Ideal) → IsSetting ideal → (d : ℕ) (below : Elements) →
    IsBelow ideal d below → IsFactorFree below.elements

-- the reducer of a word of degree d, a relation of degree d, or the row of an obstruction of degree d
pub data IsGenerator (ideal : Ideal) (G : List (List Term)) (d : ℕ) : List Term → Type 0 where
  reducer : (w : List ℕ) (g : List Term) → IsOver (length ideal.weights) w → degree_of ideal.weights w ≡ d
      → IsReducer G w g →
      IsGenerator ideal G d g
  of_relation : (r : List Term) → Contains ideal.relations r → HasDegree ideal.weights d r → IsGenerator ideal G d r
  obstruction : (left right : ℕ) (a c b : List ℕ) (o : IsObstruction ideal.weights G d left right a c b) →
      IsGenerator ideal G d (obstruction_row ideal.modulus o.first b a o.second)

-- these span the degree
abbrev pub OverlapsSuffice : Type 0
OverlapsSuffice = (ideal : Ideal) → IsSetting ideal → (d : ℕ) (G : List (List Term)) → AreLower ideal d G
    → (f : List Term) → IsElement ideal.modulus ideal.weights d f → IsInIdeal ideal d f
    ↔ IsSpanned ideal.modulus (IsGenerator ideal G d) f
