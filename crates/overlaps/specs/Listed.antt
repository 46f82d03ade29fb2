-- Obstructions as a list of the code shows them.
use Rattle.std.specs.Prelude.{ℕ, ◌≡◌, List, length, map}
use Rattle.free_poly.specs.declared.term.Term.{Term}
use Rattle.ideal_laws.specs.Closure.{AreObstructions, IsObstruction, Overlap, overlap_word}
use Rattle.ideal_laws.specs.Quantities.{IsRowOf}
use Rattle.overlaps.specs.declared.obstruction.Obstruction.{Obstruction}

-- an overlap by its word, the places of its elements, and how many letters they share
abbrev pub obstruction_of : Overlap → Obstruction
obstruction_of o = record { word = overlap_word o; left = o.left; right = o.right; shared = length o.shared }

-- exactly the obstructions of degree d, in their order
pub record AreListed (weights : List ℕ) (G : List (List Term)) (d : ℕ) (found : List Obstruction) : Type 0 where
  pub overlaps : List Overlap
  pub are_obstructions : AreObstructions weights G d overlaps
  pub shown : found ≡ map obstruction_of overlaps

-- an obstruction of these elements, of whatever degree
pub record IsOf (weights : List ℕ) (G : List (List Term)) (found : Obstruction) : Type 0 where
  pub degree : ℕ
  pub overlap : Overlap
  pub obstruction : IsObstruction weights G degree overlap.left overlap.right overlap.before overlap.shared
      overlap.behind
  pub shown : found ≡ obstruction_of overlap

-- the row of the overlap that this shows
abbrev pub IsRowFor : ℕ → List ℕ → List (List Term) → Obstruction → List Term → Type 0
IsRowFor p weights G found row = (d : ℕ) (o : Overlap) → found ≡ obstruction_of o →
    IsObstruction weights G d o.left o.right o.before o.shared o.behind → IsRowOf p weights G d o row
