-- Members of the span of reduced rows are had by their entries at the leading columns.
use Rattle.std.proofs.Common.{ap₂, ◌≡◌, List, [], ◌∷◌, All, map, refl, sym, ap, ◌∙◌, inl, inr}
use Rattle.std.proofs.lemmas.List.Elements.{All-head, All-tail}
use Rattle.linear_algebra.specs.Fields.{Field}
use Rattle.linear_algebra.specs.Spans.{Vector, sum_of, IsInSpan}
use Rattle.linear_algebra.specs.Echelon.{AreInSpan, AreSameAt, AreZeroAt, IsBasis, IsOneOf, IsReduced, IsZeroAtLeads, from_leads, done, skip, lead}
use Rattle.linear_algebra.proofs.Algebra.{mul_zero, zero_add, add_swap}

module _ (K : Field) (X : Type 0) where
  abbrev W : Type 0
  W = Vector K X

  abbrev pub rows : List (X × W) → List W
  rows es = map (λ e. e.1) es

  -- the vector with the entries of v at the leading columns
  abbrev had : List (X × W) → W → W
  had es v = sum_of K X (from_leads K X es v)

  zero_mul : (a : K.F) → K.mul K.zero a ≡ K.zero
  zero_mul a = K.mul_comm K.zero a ∙ mul_zero K a

  nothing_had : (es : List (X × W)) (v : W) (y : X) → IsZeroAtLeads K X v es → had es v y ≡ K.zero
  nothing_had [] v y z = refl
  nothing_had (e ∷ es) v y z =
      ap (λ (n : K.F). K.add (K.mul n (e.1 y)) (had es v y)) z.0 ∙ ap (λ (n : K.F). K.add n (had es v y)) (zero_mul (e.1 y))
      ∙ zero_add K (had es v y) ∙ nothing_had es v y z.1

  zero_had : (es : List (X × W)) (y : X) → had es (λ x. K.zero) y ≡ K.zero
  zero_had [] y = refl
  zero_had (e ∷ es) y = ap (λ (n : K.F). K.add n (had es (λ x. K.zero) y)) (zero_mul (e.1 y)) ∙ zero_add K (had es (λ x. K.zero) y) ∙ zero_had es y

  had_linear : (es : List (X × W)) (a : K.F) (v w : W) (y : X) → had es (λ x. K.add (K.mul a (v x)) (w x)) y ≡ K.add (K.mul a (had es v y)) (had es w y)
  had_linear [] a v w y = sym (ap (λ (n : K.F). K.add n K.zero) (mul_zero K a) ∙ K.add_zero K.zero)
  had_linear (e ∷ es) a v w y =
      let first : K.mul (K.add (K.mul a (v e.0)) (w e.0)) (e.1 y) ≡ K.add (K.mul a (K.mul (v e.0) (e.1 y))) (K.mul (w e.0) (e.1 y)) =
      K.mul_comm (K.add (K.mul a (v e.0)) (w e.0)) (e.1 y) ∙ K.mul_add (e.1 y) (K.mul a (v e.0)) (w e.0)
      ∙ ap₂ K.add (K.mul_comm (e.1 y) (K.mul a (v e.0)) ∙ K.mul_assoc a (v e.0) (e.1 y)) (K.mul_comm (e.1 y) (w e.0)) in
      ap₂ K.add first (had_linear es a v w y)
      ∙ add_swap K (K.mul a (K.mul (v e.0) (e.1 y))) (K.mul (w e.0) (e.1 y)) (K.mul a (had es v y)) (had es w y)
      ∙ ap (λ (n : K.F). K.add n (K.add (K.mul (w e.0) (e.1 y)) (had es w y))) (sym (K.mul_add a (K.mul (v e.0) (e.1 y)) (had es v y)))

  zero_of_row : (x : X) (es : List (X × W)) (g : W) → AreZeroAt K X x es → IsOneOf K X (rows es) g → g x ≡ K.zero
  zero_of_row x [] g z h = absurd h
  zero_of_row x (e ∷ es) g z (inl is) = ap (λ (u : W). u x) is ∙ z.0
  zero_of_row x (e ∷ es) g z (inr h) = zero_of_row x es g z.1 h

  -- each row is had from itself
  row_had : (xs : List X) (es : List (X × W)) → IsReduced K X xs es → (g : W) → IsOneOf K X (rows es) g → (y : X) → g y ≡ had es g y
  row_had [] es done g h y = absurd h
  row_had xs es (skip x ys es' z r) g h y = row_had ys es' r g h y
  row_had xs es (lead x ys v es' one z zl r) g (inl is) y =
      let own : had ((x, v) ∷ es') v y ≡ v y =
      ap (λ (n : K.F). K.add (K.mul n (v y)) (had es' v y)) one ∙ ap₂ K.add (K.mul_comm K.one (v y) ∙ K.mul_one (v y))
      (nothing_had es' v y zl) ∙ K.add_zero (v y) in
      ap (λ (u : W). u y) is ∙ sym own ∙ ap (λ (u : W). had ((x, v) ∷ es') u y) (sym is)
  row_had xs es (lead x ys v es' one z zl r) g (inr h) y =
      row_had ys es' r g h y ∙ sym (ap (λ (n : K.F). K.add (K.mul n (v y)) (had es' g y)) (zero_of_row x es' g z h)
      ∙ ap (λ (n : K.F). K.add n (had es' g y)) (zero_mul (v y)) ∙ zero_add K (had es' g y))

  sum_had : (xs : List X) (es : List (X × W)) → IsReduced K X xs es → (cs : List (K.F × W)) → All (λ c. IsOneOf K X (rows es) c.1) cs →
      (y : X) → sum_of K X cs y ≡ had es (sum_of K X cs) y
  sum_had xs es r [] each y = sym (zero_had es y)
  sum_had xs es r (c ∷ cs) each y =
      ap₂ (λ (m n : K.F). K.add (K.mul c.0 m) n) (row_had xs es r c.1 (All-head (λ (d : K.F × W). IsOneOf K X (rows es) d.1) c cs each) y)
      (sum_had xs es r cs (All-tail (λ (d : K.F × W). IsOneOf K X (rows es) d.1) c cs each) y)
      ∙ sym (had_linear es c.0 c.1 (sum_of K X cs) y)

  member_had : (xs : List X) (es : List (X × W)) → IsReduced K X xs es → (v : W) → IsInSpan K X (IsOneOf K X (rows es)) v → (y : X) → v y ≡ had es v y
  member_had xs es r v s y =
      s.sum y ∙ sum_had xs es r s.parts s.each y ∙ (λ i. had es (λ x. sym (s.sum x) i) y)

  same_at : (xs : List X) (v w : W) → ((y : X) → v y ≡ w y) → AreSameAt K X xs v w
  same_at [] v w h = tt
  same_at (x ∷ xs) v w h = (h x, same_at xs v w h)

  each_in : (gs : List W) (es : List (X × W)) → ((g : W) → IsOneOf K X (rows es) g → IsInSpan K X (IsOneOf K X gs) g) → AreInSpan K X gs es
  each_in gs [] h = tt
  each_in gs (e ∷ es) h = (h e.1 (inl refl), each_in gs es (λ g one. h g (inr one)))

  -- reduced rows with the span of vectors are the reduced basis of this span
  pub basis_from : (xs : List X) (gs : List W) (es : List (X × W)) → IsReduced K X xs es
      → ((g : W) → IsOneOf K X (rows es) g → IsInSpan K X (IsOneOf K X gs) g) →
      ((v : W) → IsInSpan K X (IsOneOf K X gs) v → IsInSpan K X (IsOneOf K X (rows es)) v) → IsBasis K X xs gs es
  basis_from xs gs es r inside back = record {
    reduced = r;
    inside = each_in gs es inside;
    coordinates = λ v s. same_at xs v (had es v) (λ y. member_had xs es r v (back v s) y);
  }
