-- Leading words of polynomials.
use Rattle.std.proofs.Common.{◌≡◌, ℕ, List, [], ◌∷◌, Some, subst}
use Rattle.std.proofs.lemmas.List.Elements.{All-head}
use Rattle.words.specs.Words.{IsOver}
use Rattle.free_poly.specs.declared.term.Term.{Term}
use Rattle.free_poly.specs.Poly.{lead_of, lead_or_none}
use Rattle.free_poly.specs.Terms.{UsesLetters}

-- where a polynomial has a leading word, lead_or_none gives it
pub lead-is : (f : List Term) (w : List ℕ) → lead_of f ≡ Some w → lead_or_none f ≡ w
lead-is [] w e = cc e
lead-is (t ∷ f) w e = cc e

-- a leading word is over the letters of its polynomial
pub lead_over : (names : ℕ) (f : List Term) (w : List ℕ) → Some w ≡ lead_of f → UsesLetters names f → IsOver names w
lead_over names [] w e h = cc e
lead_over names (t ∷ f) w e h = let is : t.word ≡ w = cc e in subst (IsOver names) is (All-head (λ s. IsOver names s.word) t f h)
