-- What an engine answers for a degree.
use Rattle.std.specs.Prelude.{ℕ, ◌≡◌, ◌+◌, ◌<◌, ◌≤◌, List, [], ◌∷◌, All, cond, ◌==◌}
use Rattle.words.specs.Words.{degree_of}
use Rattle.free_poly.specs.declared.term.Term.{Term}
use Rattle.free_poly.specs.Terms.{HasResidues}
use Rattle.ideal_laws.specs.Basis.{IsReducedBasis}
use Rattle.ideal_laws.specs.Ideal.{ideal_over}
use Rattle.ideal_laws.specs.declared.presentation.Presentation.{Presentation}

-- a basis as callers see it: the weights of its letters, how many degrees are done, and the elements by degree
pub record Elements : Type 0 where
  pub weights : List ℕ
  pub done : ℕ
  pub elements : List (List Term)

-- the elements of one degree
abbrev pub of_degree : List ℕ → ℕ → List (List Term) → List (List Term)
of_degree weights d [] = []
of_degree weights d ([] ∷ fs) = of_degree weights d fs
of_degree weights d ((t ∷ ts) ∷ fs) = cond (degree_of weights t.word == d) ((t ∷ ts) ∷ of_degree weights d fs)
    (of_degree weights d fs)

-- the elements are the reduced basis of each degree that is done
abbrev pub IsReducedUpto : ℕ → List (List Term) → Elements → Type 0
IsReducedUpto p relations basis = (d : ℕ) → 0 < d → d ≤ basis.done →
    IsReducedBasis (ideal_over p basis.weights relations) d (of_degree basis.weights d basis.elements)

-- d is the next degree of the presentation over the residues of p: the basis below is reduced up to the one before it,
-- and keeps the weights of the alphabet
pub record IsNextDegree (p : ℕ) (presentation : Presentation) (below : Elements) (d : ℕ) : Type 0 where
  pub next : d ≡ below.done + 1
  pub small : d ≤ 64
  pub same_weights : below.weights ≡ presentation.alphabet.weights
  pub reduced : IsReducedUpto p presentation.relations below
  pub residues : All (HasResidues p) presentation.relations
