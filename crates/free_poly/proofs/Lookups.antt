-- A word looked up in a polynomial, whose words fall.
use Rattle.std.proofs.Common.{◌≡◌, ◌<◌, ◌≤◌, ℕ, List, length, get_or, sym, ap, ◌∙◌, inl, inr, arith, subst}
use Rattle.std.specs.List.{HoldsAt}
use Rattle.std.specs.List.Sorted.{IsNonDecreasingBy, IsPartitionPoint}
use Rattle.std.specs.Ordering.{ordering_index, ordering_reverse}
use Rattle.std.specs.declared.cmp.Ordering.{Ordering}
use Rattle.std.specs.declared.cmp.Ordering.TheVariants.{Less, Equal, Greater}
use Rattle.std.proofs.lemmas.Bool.{cases_eq, cases_lt}
use Rattle.words.specs.Order.{IsLetterwiseGreater, letterwise_cmp}
use Rattle.words.specs.OrderLaws.{letterwise-IsAntisymmetric, letterwise_total}
use Rattle.free_poly.specs.declared.term.Term.{Term}
use Rattle.free_poly.specs.Terms.{total_at}
use Rattle.free_poly.specs.Poly.{IsPolynomial}
use Rattle.free_poly.proofs.Entries.{less_says}
use Rattle.free_poly.proofs.NormalForms.{compared, greater, letterwise-trans, same, smaller}
use Rattle.free_poly.proofs.Totals.{AreApart-from_polynomial, letterwise-apart, total_at-absent, total_at-found}

-- how the word stands to that of a term
abbrev pub standing : List ℕ → Term → Ordering
standing w t = letterwise_cmp w t.word

rank-le-two : (o : Ordering) → ordering_index o ≤ 2
rank-le-two Less = omega arith
rank-le-two Equal = omega arith
rank-le-two Greater = omega arith

-- a term with a greater word stands no higher
standing-le : (w : List ℕ) (s t : Term) → IsLetterwiseGreater s.word t.word → ordering_index (standing w s) ≤ ordering_index (standing w t)
standing-le w s t above = elim (compared w t.word) [
  | greater g ↦ rw g (rank-le-two (standing w s))
  | same e ↦ least (subst (IsLetterwiseGreater s.word) (sym e) above)
  | smaller g ↦ least (letterwise-trans s.word t.word w above g)
]
  where
    least : IsLetterwiseGreater s.word w → ordering_index (standing w s) ≤ ordering_index (standing w t)
    least g =
        let low : ordering_index (standing w s) ≡ 0 = ap ordering_index (letterwise_total.antisymm w s.word ∙ ap ordering_reverse g) in
        omega (arith, low)

-- along a polynomial the comparison of a word with the terms' words goes from less over equal to greater
pub standing-rises : (w : List ℕ) (f : List Term) → IsPolynomial f → IsNonDecreasingBy (λ t. ordering_index (standing w t)) f
standing-rises w f form i j d ordered within = elim (cases_eq i j) [
  | inl e ↦ let is : ordering_index (standing w (get_or f i d)) ≡ ordering_index (standing w (get_or f j d)) =
      ap (λ (k : ℕ). ordering_index (standing w (get_or f k d))) e in omega (arith, is)
  | inr other ↦ standing-le w (get_or f i d) (get_or f j d) (form.falling i j d (omega (arith, ordered, other)) within)
]

-- the coefficient at a word is that of a term whose word compares as equal to it
pub total_at-standing : (w : List ℕ) (f : List Term) (i : ℕ) (t : Term) → IsPolynomial f → i < length f →
    HoldsAt (λ s. standing w s ≡ Equal) f i → total_at f w ≡ (get_or f i t).coefficient
total_at-standing w f i t form within found = total_at-found f i t w (AreApart-from_polynomial f form) within
    (sym (letterwise-IsAntisymmetric w (get_or f i t).word (found t)))

-- the coefficient at a word is 0 where it is less than each word before some place and greater than each word from there on
pub total_at-between : (w : List ℕ) (f : List Term) (i : ℕ) → IsPartitionPoint (λ s. standing w s ≡ Less) (λ s. standing w s ≡ Greater) f i → total_at f w ≡ 0
total_at-between w f i parts = total_at-absent f w (λ k d within e. elim (cases_lt k i) [
  | inl before ↦ letterwise-apart (get_or f k d).word w (less_says w (get_or f k d).word (parts.0 k d (omega arith) before)) e
  | inr after ↦ letterwise-apart w (get_or f k d).word (parts.1 k d after within) (sym e)
])
