-- Two reduced bases of one span have the same leading columns and the same rows.
use Rattle.std.proofs.Common.{ap₂, ◌≡◌, ◌↔◌, List, [], ◌∷◌, refl, sym, ap, ◌∙◌, true≢false}
use Rattle.linear_algebra.specs.Fields.{Field}
use Rattle.linear_algebra.specs.Spans.{Vector, sum_of, IsInSpan}
use Rattle.linear_algebra.specs.Echelon.{AreZeroAt, IsZeroAtLeads, IsReduced, done, skip, lead, from_leads, AreSameAt, AreSameRows, AreInSpan, IsBasis, IsOneOf}
use Rattle.linear_algebra.proofs.Algebra.{zero_mul_add}
use Rattle.linear_algebra.proofs.Elimination.{leads-zero}

module _ (K : Field) (X : Type 0) where
  abbrev V : Type 0
  V = Vector K X

  -- each row of fs is had from those of es by its entries at their leading columns
  abbrev pub AreHadFrom : List X → List (X × V) → List (X × V) → Type 0
  AreHadFrom xs es [] = Unit {0}
  AreHadFrom xs es (f ∷ fs) = AreSameAt K X xs f.1 (sum_of K X (from_leads K X es f.1)) × AreHadFrom xs es fs

  one_is_not_zero : K.one ≡ K.zero → ⊥
  one_is_not_zero e = true≢false (sym K.zero_test ∙ ap K.is_zero (sym e) ∙ K.one_other)

  had_tail : (x : X) (xs : List X) (es fs : List (X × V)) → AreHadFrom (x ∷ xs) es fs → AreHadFrom xs es fs
  had_tail x xs es [] h = tt
  had_tail x xs es (f ∷ fs) h = (h.0.1, had_tail x xs es fs h.1)

  -- where u is the same as v at the columns, and v and w are the same everywhere, u is the same as w at the columns
  pub AreSameAt-trans : (xs : List X) (u v w : V) → AreSameAt K X xs u v → ((y : X) → v y ≡ w y) → AreSameAt K X xs u w
  AreSameAt-trans [] u v w s e = tt
  AreSameAt-trans (x ∷ xs) u v w s e = (s.0 ∙ e x, AreSameAt-trans xs u v w s.1 e)

  -- rows that are 0 at the first leading column are had from the others
  had_below : (x : X) (xs : List X) (e : X × V) (es fs : List (X × V)) → e.0 ≡ x → AreZeroAt K X x fs → AreHadFrom (x ∷ xs) (e ∷ es) fs → AreHadFrom xs es fs
  had_below x xs e es [] is z h = tt
  had_below x xs e es (f ∷ fs) is z h = (
    AreSameAt-trans xs f.1 _ _ h.0.1 (λ y. ap (λ (n : K.F). K.add (K.mul n (e.1 y)) (sum_of K X (from_leads K X es f.1) y)) (ap f.1 is ∙ z.0)
        ∙ zero_mul_add K (e.1 y) _),
    had_below x xs e es fs is z.1 h.1,
  )

  -- v is 0 at the leading columns of the one, so at those of the other
  zero_at_same : (xs : List X) (es fs : List (X × V)) (v : V) → AreSameRows K X xs es fs → IsZeroAtLeads K X v es → IsZeroAtLeads K X v fs
  zero_at_same xs [] [] v s z = tt
  zero_at_same xs [] (f ∷ fs) v s z = absurd s
  zero_at_same xs (e ∷ es) [] v s z = absurd s
  zero_at_same xs (e ∷ es) (f ∷ fs) v s z = (ap v (sym s.0) ∙ z.0, zero_at_same xs es fs v s.2 z.1)

  nothing_from_zeros : (fs : List (X × V)) (v : V) (y : X) → IsZeroAtLeads K X v fs → sum_of K X (from_leads K X fs v) y ≡ K.zero
  nothing_from_zeros [] v y z = refl
  nothing_from_zeros (f ∷ fs) v y z =
      ap (λ (n : K.F). K.add (K.mul n (f.1 y)) (sum_of K X (from_leads K X fs v) y)) z.0
      ∙ zero_mul_add K (f.1 y) _
      ∙ nothing_from_zeros fs v y z.1

  same_more : (x : X) (xs : List X) (es fs : List (X × V)) → AreZeroAt K X x es → AreZeroAt K X x fs → AreSameRows K X xs es fs → AreSameRows K X (x ∷ xs) es fs
  same_more x xs [] [] z w s = tt
  same_more x xs [] (f ∷ fs) z w s = absurd s
  same_more x xs (e ∷ es) [] z w s = absurd s
  same_more x xs (e ∷ es) (f ∷ fs) z w s = (s.0, (z.0 ∙ sym w.0, s.1), same_more x xs es fs z.1 w.1 s.2)

  -- two lists of reduced rows, each had from the other by entries at leading columns, have the same leading columns and the same rows
  pub one_basis : (xs : List X) (es fs : List (X × V)) → IsReduced K X xs es → IsReduced K X xs fs → AreHadFrom xs es fs →
      AreHadFrom xs fs es → AreSameRows K X xs es fs
  one_basis [] es fs done done h g = tt
  one_basis xs es fs (skip x ys es' z r) (skip x' ys' fs' w q) h g =
      same_more x ys es fs z w (one_basis ys es fs r q (had_tail x ys es fs h) (had_tail x ys fs es g))
  one_basis xs es fs (skip x ys es' z r) (lead x' ys' v fs' one w wl q) h g = absurd (one_is_not_zero (sym one ∙ h.0.0 ∙ leads-zero K X x es v z))
  one_basis xs es fs (lead x ys u es' one z zl r) (skip x' ys' fs' w q) h g = absurd (one_is_not_zero (sym one ∙ g.0.0 ∙ leads-zero K X x fs u w))
  one_basis xs es fs (lead x ys u es' one z zl r) (lead x' ys' v fs' one' w wl q) h g =
      let rest = one_basis ys es' fs' r q (had_below x ys (x, u) es' fs' refl w h.1) (had_below x ys (x, v) fs' es' refl z g.1) in
      let zeros = zero_at_same ys es' fs' u rest zl in
      let same : AreSameAt K X (x ∷ ys) u v = AreSameAt-trans (x ∷ ys) u _ v g.0 (λ y.
      ap₂ K.add (ap (λ (n : K.F). K.mul n (v y)) one ∙ K.mul_comm K.one (v y) ∙ K.mul_one (v y)) (nothing_from_zeros fs' u y zeros) ∙ K.add_zero (v y)) in
      (refl, same, same_more x ys es' fs' z w rest)

  -- rows of one span are had from those of another that has the same vectors
  had_from_basis : (xs : List X) (gs hs : List V) (es fs : List (X × V)) → IsBasis K X xs gs es →
      ((v : V) → IsInSpan K X (IsOneOf K X hs) v → IsInSpan K X (IsOneOf K X gs) v)
      → AreInSpan K X hs fs → AreHadFrom xs es fs
  had_from_basis xs gs hs es [] b within inside = tt
  had_from_basis xs gs hs es (f ∷ fs) b within inside = (b.coordinates f.1 (within f.1 inside.0), had_from_basis xs gs hs es fs b within inside.1)

  -- lists of vectors with one span have one reduced basis
  pub one_form : (xs : List X) (gs hs : List V) → ((v : V) → IsInSpan K X (IsOneOf K X gs) v ↔ IsInSpan K X (IsOneOf K X hs) v)
      → (es fs : List (X × V)) → IsBasis K X xs gs es → IsBasis K X xs hs fs → AreSameRows K X xs es fs
  one_form xs gs hs same es fs b c =
      one_basis xs es fs b.reduced c.reduced (had_from_basis xs gs hs es fs b (λ v. (same v).1) c.inside)
      (had_from_basis xs hs gs fs es c (λ v. (same v).0) b.inside)
