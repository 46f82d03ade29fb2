-- What every basis keeps.
use Rattle.std.specs.Prelude.{ℕ, ◌≡◌, ◌⊎◌, ◌+◌, ◌*◌, ◌<◌, ◌≤◌, List, [], ◌∷◌, All, AllPairs, length, leb, ltb}
use Rattle.std.specs.Prelude.{count_by, slice_index}
use Rattle.words.specs.Words.{AreWeights, degree_of}
use Rattle.free_poly.specs.declared.term.Term.{Term}
use Rattle.free_poly.specs.Terms.{HasDegree, UsesLetters}
use Rattle.free_poly.specs.Poly.{IsMonic}
use Rattle.ideal_laws.specs.Basis.{HasGreaterLead}
use Rattle.ideal_laws.specs.Engine.{Elements, IsReducedUpto}
use Rattle.ideal_laws.specs.Ideal.{Ideal}

-- the degree of the leading word, and 0 for 0
abbrev pub lead_degree : List ℕ → List Term → ℕ
lead_degree weights [] = 0
lead_degree weights (t ∷ ts) = degree_of weights t.word

-- how many elements have a degree below d
abbrev pub count_below : List ℕ → ℕ → List (List Term) → ℕ
count_below weights d fs = count_by (λ f. ltb (lead_degree weights f) d) fs

-- how many elements have a degree up to d
abbrev pub count_upto : List ℕ → ℕ → List (List Term) → ℕ
count_upto weights d fs = count_by (λ f. leb (lead_degree weights f) d) fs

-- monic, over the letters, and of one degree, from 1 to the last one that is done
pub record IsKeptElement (weights : List ℕ) (done : ℕ) (f : List Term) : Type 0 where
  pub monic : IsMonic f
  pub letters : UsesLetters (length weights) f
  pub degree : HasDegree weights (lead_degree weights f) f
  pub from : 0 < lead_degree weights f
  pub upto : lead_degree weights f ≤ done

-- an element of lower degree stands first, and in a degree the one with the greater leading word
abbrev pub StandsBefore : List ℕ → List Term → List Term → Type 0
StandsBefore weights f g = (lead_degree weights f < lead_degree weights g)
    ⊎ ((lead_degree weights f ≡ lead_degree weights g) × HasGreaterLead f g)

-- from 1 to 64 letters with their weights, at most 64 degrees, and elements in order, of which a degree has at most
-- 16,777,216
pub record IsKept (basis : Elements) : Type 0 where
  pub some : 0 < length basis.weights
  pub letters : length basis.weights ≤ 64
  pub weights : AreWeights basis.weights
  pub degrees : basis.done ≤ 64
  pub each : All (IsKeptElement basis.weights basis.done) basis.elements
  pub ordered : AllPairs (StandsBefore basis.weights) basis.elements
  pub few : length basis.elements ≤ 16777216 * basis.done

-- a basis, and how many elements it has up to each degree, with room for 64 degrees
pub record IsStored (basis : Elements) (ends : List ℕ) : Type 0 where
  pub kept : IsKept basis
  pub size : length ends ≡ 65
  pub counted : (d : ℕ) → d ≤ basis.done → slice_index ends d ≡ count_upto basis.weights d basis.elements

-- the reduced basis of the degrees below d, as a basis keeps it
pub record IsBelow (ideal : Ideal) (d : ℕ) (below : Elements) : Type 0 where
  pub kept : IsKept below
  pub next : below.done + 1 ≡ d
  pub same_weights : below.weights ≡ ideal.weights
  pub reduced : IsReducedUpto ideal.modulus ideal.relations below
