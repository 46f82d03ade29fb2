-- The greatest degrees of terms, and what they say of the sum.
use Rattle.std.proofs.Common.{◌≡◌, ◌⊎◌, ◌≤◌, ℕ, List, [], Option, ◌∙◌, inl, inr, arith, subst}
use Rattle.std.specs.Prelude.{MatchOption}
use Rattle.std.specs.List.{Contains}
use Rattle.std.proofs.lemmas.List.Elements.{All-contains}
use Rattle.words.specs.Words.{degree_of}
use Rattle.words.proofs.Members.{Contains-none}
use Rattle.free_poly.specs.declared.term.Term.{Term}
use Rattle.free_poly.specs.Terms.{HasDegree, HasResidues, IsSame}
use Rattle.free_poly.specs.Poly.{IsPolynomial}
use Rattle.free_poly.specs.Degrees.{HasTwoDegrees, IsGreatestDegree, IsNextDegree, Stands}
use Rattle.free_poly.proofs.Sums.{IsSame-back, Stands-own, word_from_same}

-- the greatest degree other than the first, or none where there is no other
abbrev pub IsNextAnswer : List ℕ → List Term → ℕ → Option ℕ → Type 0
IsNextAnswer weights f first answer = MatchOption answer (HasDegree weights first f) (IsNextDegree weights f first)

module _ (weights : List ℕ) where
  -- the two degrees of a polynomial are those of each sum that is the same element
  pub HasTwoDegrees-from : (p : ℕ) (f g : List Term) (first other : ℕ) → IsPolynomial f → HasResidues p f → IsSame p f g
      → IsGreatestDegree weights f first → IsNextDegree weights f first other → HasTwoDegrees p weights g first other
  HasTwoDegrees-from p f g first other form residues same top next =
      let best = some_degree top.some in
      let stands : (t : Term) → Contains f t → Stands p g t.word = λ t m e. All-contains (λ s. Stands p f s.word) f t
      (Stands-own p f form residues) m (same t.word ∙ e) in
      let under : degree_of weights next.some.0.word ≤ first = All-contains (λ s. degree_of weights s.word ≤ first) f next.some.0 top.most next.some.1 in
      record {
        greatest = best.0.word;
        next = next.some.0.word;
        greatest_stands = stands best.0 best.1;
        next_stands = stands next.some.0 next.some.1;
        first_is = best.2;
        other_is = next.some.2;
        below = omega (arith, under, next.some.2, next.apart);
        most = λ w s. word_from_same p (λ v. degree_of weights v ≤ first) g f w (IsSame-back p f g same) s top.most;
        others = λ w s. word_from_same p (λ v. (degree_of weights v ≡ first) ⊎ (degree_of weights v ≤ other)) g f w (IsSame-back p f g same) s next.most;
      }
    where
      some_degree : ((f ≡ []) × (first ≡ 0)) ⊎ ((t : Term) × Contains f t × (degree_of weights t.word ≡ first)) →
          (t : Term) × Contains f t × (degree_of weights t.word ≡ first)
      some_degree (inl none) = absurd (Contains-none next.some.0 (subst (λ (h : List Term). Contains h next.some.0) none.0 next.some.1))
      some_degree (inr found) = found
