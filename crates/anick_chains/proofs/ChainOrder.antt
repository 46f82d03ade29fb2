-- The comparison of the chains of a degree: by length, and then piece by piece, where the greater word stands first.
use Rattle.std.proofs.Common.{ap₂, ◌≡◌, ◌≢◌, ◌<◌, ℕ, List, [], ◌∷◌, ◌++◌, length, refl, sym, ap, ◌∙◌, inl, inr, arith, subst}
use Rattle.std.proofs.lemmas.Cmp.{by_ranked, ranked}
use Rattle.std.specs.FinMap.{nat_cmp-IsAntisymmetric}
use Rattle.std.specs.declared.cmp.Ordering.{Ordering}
use Rattle.std.specs.declared.cmp.Ordering.TheVariants.{Less, Equal, Greater}
use Rattle.std.specs.Ordering.{nat_cmp, ordering_reverse, ordering_then}
use Rattle.std.specs.Cmp.{IsTotalOrder, back_total, nat_cmp_total, on_total, then_total}
use Rattle.std.specs.Cmp.Lexicographic.{lists_total}
use Rattle.words.specs.Words.{AreWeights}
use Rattle.words.specs.Order.{IsGreater, word_cmp}
use Rattle.words.specs.OrderLaws.{word_cmp-ties, word_cmp_total}
use Rattle.words.proofs.OrderFacts.{greater_says}
use Rattle.anick_chains.specs.Chains.{chain_degree}
use Rattle.anick_chains.specs.Compare.{falling_cmp, pieces_cmp}
use Rattle.anick_chains.specs.Listing.{HasGreaterPiece, StandsBefore, StandsInDegree}

-- the comparison is a total order
pub pieces_cmp_total : (weights : List ℕ) → IsTotalOrder (pieces_cmp weights)
pieces_cmp_total weights = then_total (on_total length nat_cmp_total) (lists_total (back_total (word_cmp_total weights)))

module _ (weights : List ℕ) (aw : AreWeights weights) where
  -- of two lists with as many pieces the one that comes first has the greater piece at the first difference
  pub falling_less : (a b : List (List ℕ)) → length a ≡ length b → falling_cmp weights a b ≡ Less → HasGreaterPiece weights a b
  falling_less [] [] e l = cc l
  falling_less [] (y ∷ b) e l = absurd (omega (arith, e))
  falling_less (x ∷ a) [] e l = absurd (omega (arith, e))
  falling_less (x ∷ a) (y ∷ b) e l = by_first (word_cmp weights y x) refl l (falling_less a b (omega (arith, e)))
    where
      by_first : (o : Ordering) → word_cmp weights y x ≡ o → ordering_then o (falling_cmp weights a b) ≡ Less
          → (falling_cmp weights a b ≡ Less → HasGreaterPiece weights a b) → HasGreaterPiece weights (x ∷ a) (y ∷ b)
      by_first Less f l on = record {
        before = [];
        greater = x;
        smaller = y;
        rest_a = a;
        rest_b = b;
        first_is = refl;
        second_is = refl;
        order = greater_says weights aw x y ((word_cmp_total weights).antisymm x y ∙ ap ordering_reverse f);
      }
      by_first Equal f l on =
          let r = on l in
          let same : y ≡ x = word_cmp-ties weights y x f in
          record {
            before = x ∷ r.before;
            greater = r.greater;
            smaller = r.smaller;
            rest_a = r.rest_a;
            rest_b = r.rest_b;
            first_is = ap (λ (c : List (List ℕ)). x ∷ c) r.first_is;
            second_is = ap₂ (λ (z : List ℕ) (c : List (List ℕ)). z ∷ c) same r.second_is;
            order = r.order;
          }
      by_first Greater f l on = cc l

  -- lists that tie are equal
  pub falling_ties : (a b : List (List ℕ)) → falling_cmp weights a b ≡ Equal → a ≡ b
  falling_ties [] [] l = refl
  falling_ties [] (y ∷ b) l = cc l
  falling_ties (x ∷ a) [] l = cc l
  falling_ties (x ∷ a) (y ∷ b) l = by_first (word_cmp weights y x) refl l (falling_ties a b)
    where
      by_first : (o : Ordering) → word_cmp weights y x ≡ o → ordering_then o (falling_cmp weights a b) ≡ Equal →
          (falling_cmp weights a b ≡ Equal → a ≡ b) → x ∷ a ≡ y ∷ b
      by_first Less f l on = cc l
      by_first Equal f l on = ap₂ (λ (z : List ℕ) (c : List (List ℕ)). z ∷ c) (sym (word_cmp-ties weights y x f)) (on l)
      by_first Greater f l on = cc l

  nat_less : (m n : ℕ) → nat_cmp m n ≡ Less → m < n
  nat_less m n e = by_ranked (m < n) (m ≡ n) (n < m) (nat_cmp m n) (ranked m n (nat_cmp m n) refl)
      (λ is below. below) (λ is same. (let f : Equal ≡ Less = sym is ∙ e in cc f)) (λ is above. (let f : Greater ≡ Less = sym is ∙ e in cc f))

  -- what comes first by the comparison stands before
  pub less_stands : (a b : List (List ℕ)) → pieces_cmp weights a b ≡ Less → StandsInDegree weights a b
  less_stands a b l = by_length (nat_cmp (length a) (length b)) refl l
    where
      by_length : (o : Ordering) → nat_cmp (length a) (length b) ≡ o → ordering_then o (falling_cmp weights a b) ≡ Less → StandsInDegree weights a b
      by_length Less f l = inl (nat_less (length a) (length b) f)
      by_length Equal f l = let e = nat_cmp-IsAntisymmetric (length a) (length b) f in inr (e, falling_less a b e l)
      by_length Greater f l = cc l

  -- what ties is equal
  pub pieces_ties : (a b : List (List ℕ)) → pieces_cmp weights a b ≡ Equal → a ≡ b
  pieces_ties a b l = by_length (nat_cmp (length a) (length b)) l
    where
      by_length : (o : Ordering) → ordering_then o (falling_cmp weights a b) ≡ Equal → a ≡ b
      by_length Less l = cc l
      by_length Equal l = falling_ties a b l
      by_length Greater l = cc l

greater_differs : (weights w : List ℕ) → IsGreater weights w w → ⊥
greater_differs weights w (inl lt) = omega (arith, lt)
greater_differs weights w (inr e) = omega (arith, e.1.smaller)

-- no list of pieces stands before itself
pub before_differs : (weights : List ℕ) (a b : List (List ℕ)) → StandsBefore weights a b → a ≢ b
before_differs weights a b (inl lt) e = omega (arith, lt, ap (chain_degree weights) e)
before_differs weights a b (inr (_, inl lt)) e = omega (arith, lt, ap length e)
before_differs weights a b (inr (_, inr h)) e = differs h.1.before h.1.greater h.1.smaller h.1.rest_a h.1.rest_b
    (sym h.1.first_is ∙ e ∙ h.1.second_is) h.1.order
  where
    differs : (front : List (List ℕ)) (x y : List ℕ) (s t : List (List ℕ)) → front ++ x ∷ s ≡ front ++ y ∷ t → IsGreater weights x y → ⊥
    differs [] x y s t same g = let one : x ≡ y = cc same in greater_differs weights y (subst (λ (w : List ℕ). IsGreater weights w y) one g)
    differs (z ∷ front) x y s t same g = differs front x y s t (cc same) g
