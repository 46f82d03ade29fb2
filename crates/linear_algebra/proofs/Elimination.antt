-- Elimination: each list of vectors has a reduced basis.
use Rattle.std.proofs.Common.{ap₂, ◌≡◌, List, [], ◌∷◌, map, refl, sym, ap, ◌∙◌, All, false, inl, inr}
use Rattle.std.proofs.lemmas.Bool.{cases_Bool}
use Rattle.std.proofs.lemmas.List.Elements.{All-head, All-tail}
use Rattle.linear_algebra.specs.Fields.{Field}
use Rattle.linear_algebra.specs.Spans.{Vector, sum_of, IsInSpan}
use Rattle.linear_algebra.specs.Echelon.{IsOneOf, AreZeroAt, IsZeroAtLeads, IsReduced, done, skip, lead, from_leads, AreSameAt, AreInSpan, IsBasis}
use Rattle.linear_algebra.proofs.Algebra.{zero_add, add_cancel, add_left_comm, add_swap, mul_zero, mul_zero_add, mul_neg}
use Rattle.linear_algebra.proofs.Algebra.{IsInSpan-zero, IsInSpan-add, IsInSpan-scaled, IsInSpan-one}

module _ (K : Field) (X : Type 0) where
  abbrev V : Type 0
  V = Vector K X

  abbrev Sp : List V → V → Type 0
  Sp gs v = IsInSpan K X (IsOneOf K X gs) v

  -- w less its entry at x times p
  abbrev pub cleared : X → V → V → V
  cleared x p w y = K.add (w y) (K.mul (K.neg (w x)) (p y))

  pub data IsPivot (x : X) (gs : List V) : Type 0 where
    found : (g : V) → IsOneOf K X gs g → K.is_zero (g x) ≡ false → IsPivot x gs
    none : ((g : V) → IsOneOf K X gs g → g x ≡ K.zero) → IsPivot x gs

  -- some vector of a list is other than 0 at x, or each of them is 0 there
  pub find_pivot : (x : X) (gs : List V) → IsPivot x gs
  find_pivot x [] = none (λ g h. absurd h)
  find_pivot x (g ∷ gs) = elim (cases_Bool (K.is_zero (g x))) [
    | inr other ↦ found g (inl refl) other
    | inl zero ↦ elim (find_pivot x gs) [
      | found h is other ↦ found h (inr is) other
      | none all ↦ none (λ h is. elim is [
        | inl e ↦ ap (λ (u : V). u x) e ∙ K.zero_is (g x) zero
        | inr r ↦ all h r
      ])
    ]
  ]

  -- sums of vectors that are all 0 at x
  sum_of-zero : (P : V → Type 0) (x : X) → ((g : V) → P g → g x ≡ K.zero) → (cs : List (K.F × V)) → All (λ c. P c.1) cs → sum_of K X cs x ≡ K.zero
  sum_of-zero P x h [] each = refl
  sum_of-zero P x h (c ∷ cs) each =
      ap (λ (n : K.F). K.add (K.mul c.0 n) (sum_of K X cs x)) (h c.1 (All-head (λ (d : K.F × V). P d.1) c cs each))
      ∙ mul_zero_add K c.0 (sum_of K X cs x)
      ∙ sum_of-zero P x h cs (All-tail (λ (d : K.F × V). P d.1) c cs each)

  -- where each vector with P is 0 at x, so is each vector of their span
  pub IsInSpan-zero_at : (P : V → Type 0) (x : X) → ((g : V) → P g → g x ≡ K.zero) → (v : V) → IsInSpan K X P v → v x ≡ K.zero
  IsInSpan-zero_at P x h v s = s.sum x ∙ sum_of-zero P x h s.parts s.each

  -- spans of members of a span
  collect_parts : (P Q : V → Type 0) → ((g : V) → P g → IsInSpan K X Q g) → (cs : List (K.F × V)) → All (λ c. P c.1) cs → IsInSpan K X Q (sum_of K X cs)
  collect_parts P Q h [] each = IsInSpan-zero K X Q
  collect_parts P Q h (c ∷ cs) each =
      IsInSpan-add K X Q (λ x. K.mul c.0 (c.1 x)) (sum_of K X cs)
      (IsInSpan-scaled K X Q c.0 c.1 (h c.1 (All-head (λ (d : K.F × V). P d.1) c cs each)))
      (collect_parts P Q h cs (All-tail (λ (d : K.F × V). P d.1) c cs each))

  -- what is the same at each column as a vector of a span is in the span
  pub same_span : (P : V → Type 0) (v w : V) → ((x : X) → v x ≡ w x) → IsInSpan K X P v → IsInSpan K X P w
  same_span P v w e s = record { parts = s.parts; each = s.each; sum = λ x. sym (e x) ∙ s.sum x }

  -- where each vector with P is in the span of those with Q, so is each vector of the span of those with P
  pub IsInSpan-trans : (P Q : V → Type 0) → ((g : V) → P g → IsInSpan K X Q g) → (v : V) → IsInSpan K X P v → IsInSpan K X Q v
  IsInSpan-trans P Q h v s = same_span Q (sum_of K X s.parts) v (λ x. sym (s.sum x)) (collect_parts P Q h s.parts s.each)

  neg_mul : (a b : K.F) → K.mul (K.neg a) b ≡ K.neg (K.mul a b)
  neg_mul a b = K.mul_comm (K.neg a) b ∙ mul_neg K b a ∙ ap K.neg (K.mul_comm b a)

  -- where b is 1, a + (- a) * b is 0
  pub cleared_here : (a b : K.F) → b ≡ K.one → K.add a (K.mul (K.neg a) b) ≡ K.zero
  cleared_here a b e = ap (λ (n : K.F). K.add a (K.mul (K.neg a) n)) e ∙ ap (K.add a) (K.mul_one (K.neg a)) ∙ K.add_neg a

  -- 0 + (- 0) * b is 0
  pub cleared_zero : (b : K.F) → K.add K.zero (K.mul (K.neg K.zero) b) ≡ K.zero
  cleared_zero b = zero_add K _ ∙ neg_mul K.zero b ∙ sym (zero_add K _) ∙ ap (λ (n : K.F). K.add n (K.neg (K.mul K.zero b))) (sym nothing)
      ∙ K.add_neg (K.mul K.zero b)
    where
      nothing : K.mul K.zero b ≡ K.zero
      nothing = K.mul_comm K.zero b ∙ mul_zero K b

  one_of_map : (f : V → V) (gs : List V) (h : V) → IsOneOf K X (map f gs) h → (g : V) × IsOneOf K X gs g × (h ≡ f g)
  one_of_map f [] h is = absurd is
  one_of_map f (g ∷ gs) h (inl e) = (g, inl refl, e)
  one_of_map f (g ∷ gs) h (inr r) = let m = one_of_map f gs h r in (m.0, inr m.1, m.2)

  map_one_of : (f : V → V) (gs : List V) (g : V) → IsOneOf K X gs g → IsOneOf K X (map f gs) (f g)
  map_one_of f [] g is = absurd is
  map_one_of f (h ∷ gs) g (inl e) = inl (ap f e)
  map_one_of f (h ∷ gs) g (inr r) = inr (map_one_of f gs g r)

  -- rows that are 0 at x add up to 0 there
  pub leads-zero : (x : X) (es : List (X × V)) (v : V) → AreZeroAt K X x es → sum_of K X (from_leads K X es v) x ≡ K.zero
  leads-zero x [] v z = refl
  leads-zero x (e ∷ es) v z =
      ap (λ (n : K.F). K.add (K.mul (v e.0) n) (sum_of K X (from_leads K X es v) x)) z.0
      ∙ mul_zero_add K (v e.0) (sum_of K X (from_leads K X es v) x)
      ∙ leads-zero x es v z.1

  -- what is had from the entries at the leading columns has these entries
  abbrev pub AreSameAtLeads : List (X × V) → V → V → Type 0
  AreSameAtLeads [] v w = Unit {0}
  AreSameAtLeads (e ∷ es) v w = (v e.0 ≡ w e.0) × AreSameAtLeads es v w

  same_more : (v w : V) (a : K.F) (q : V) (es : List (X × V)) → IsZeroAtLeads K X q es → AreSameAtLeads es w v →
      AreSameAtLeads es (λ y. K.add (K.mul a (q y)) (w y)) v
  same_more v w a q [] z s = tt
  same_more v w a q (e ∷ es) z s = (
    ap (λ (n : K.F). K.add (K.mul a n) (w e.0)) z.0 ∙ mul_zero_add K a (w e.0) ∙ s.0,
    same_more v w a q es z.1 s.1,
  )

  -- the sum of reduced rows, each times the entry of v at its leading column, has at the leading columns the entries of v
  pub own_entries : (xs : List X) (es : List (X × V)) (v : V) → IsReduced K X xs es → AreSameAtLeads es (sum_of K X (from_leads K X es v)) v
  own_entries [] es v done = tt
  own_entries xs es v (skip x ys es' z r) = own_entries ys es' v r
  own_entries xs es v (lead x ys q es' one z zl r) = (
    ap (λ (n : K.F). K.add (K.mul (v x) n) (sum_of K X (from_leads K X es' v) x)) one
        ∙ ap (λ (n : K.F). K.add n (sum_of K X (from_leads K X es' v) x)) (K.mul_one (v x))
        ∙ ap (K.add (v x)) (leads-zero x es' v z) ∙ K.add_zero (v x),
    same_more v (sum_of K X (from_leads K X es' v)) (v x) q es' zl (own_entries ys es' v r),
  )

  -- sums by entries are linear in the entries
  leads-linear : (es : List (X × V)) (v p : V) (a : K.F) (y : X)
      → sum_of K X (from_leads K X es (λ z. K.add (v z) (K.mul a (p z)))) y
      ≡ K.add (sum_of K X (from_leads K X es v) y) (K.mul a (sum_of K X (from_leads K X es p) y))
  leads-linear [] v p a y = sym (ap (K.add K.zero) (mul_zero K a) ∙ K.add_zero K.zero)
  leads-linear (e ∷ es) v p a y =
      let head : K.mul (K.add (v e.0) (K.mul a (p e.0))) (e.1 y) ≡ K.add (K.mul (v e.0) (e.1 y)) (K.mul a (K.mul (p e.0) (e.1 y))) =
      K.mul_comm (K.add (v e.0) (K.mul a (p e.0))) (e.1 y) ∙ K.mul_add (e.1 y) (v e.0) (K.mul a (p e.0))
      ∙ ap₂ K.add (K.mul_comm (e.1 y) (v e.0)) (K.mul_comm (e.1 y) (K.mul a (p e.0)) ∙ K.mul_assoc a (p e.0) (e.1 y)) in
      ap₂ K.add head (leads-linear es v p a y) ∙ add_swap K _ _ _ _ ∙ ap (K.add _) (sym (K.mul_add a _ _))

  neg_add : (a b : K.F) → K.neg (K.add a b) ≡ K.add (K.neg a) (K.neg b)
  neg_add a b = add_cancel K (K.add a b) (K.neg (K.add a b)) (K.add (K.neg a) (K.neg b))
      (K.add_neg (K.add a b) ∙ sym (add_swap K a b (K.neg a) (K.neg b) ∙ ap₂ K.add (K.add_neg a) (K.add_neg b) ∙ K.add_zero K.zero))

  -- a * (- u * w) is - (a * u) * w
  pub mul_neg_mul : (a u w : K.F) → K.mul a (K.mul (K.neg u) w) ≡ K.mul (K.neg (K.mul a u)) w
  mul_neg_mul a u w = sym (K.mul_assoc a (K.neg u) w) ∙ ap (λ (n : K.F). K.mul n w) (mul_neg K a u)

  add_mul : (a b w : K.F) → K.mul (K.add a b) w ≡ K.add (K.mul a w) (K.mul b w)
  add_mul a b w = K.mul_comm (K.add a b) w ∙ K.mul_add w a b ∙ ap₂ K.add (K.mul_comm w a) (K.mul_comm w b)

  -- a * (u - u' * w) + (s - s' * w) is a * u + s - (a * u' + s') * w
  pub cleared_sum : (a u s u' s' w : K.F) → K.add (K.mul a (K.add u (K.mul (K.neg u') w))) (K.add s (K.mul (K.neg s') w))
      ≡ K.add (K.add (K.mul a u) s) (K.mul (K.neg (K.add (K.mul a u') s')) w)
  cleared_sum a u s u' s' w =
      ap (λ (n : K.F). K.add n (K.add s (K.mul (K.neg s') w))) (K.mul_add a u (K.mul (K.neg u') w) ∙ ap (K.add (K.mul a u)) (mul_neg_mul a u' w))
      ∙ add_swap K (K.mul a u) (K.mul (K.neg (K.mul a u')) w) s (K.mul (K.neg s') w)
      ∙ ap (K.add (K.add (K.mul a u) s)) (sym (add_mul (K.neg (K.mul a u')) (K.neg s') w) ∙ ap (λ (n : K.F). K.mul n w) (sym (neg_add (K.mul a u') s')))

  -- clearing is linear, so a member of the span of gs is cleared to one of the span of the cleared gs
  cleared_parts : (x : X) (p : V) (gs : List V) (cs : List (K.F × V)) → All (λ c. IsOneOf K X gs c.1) cs
      → IsInSpan K X (IsOneOf K X (map (cleared x p) gs)) (cleared x p (sum_of K X cs))
  cleared_parts x p gs [] each = same_span _ (λ y. K.zero) _ (λ y. sym (cleared_zero (p y))) (IsInSpan-zero K X _)
  cleared_parts x p gs (c ∷ cs) each =
      same_span _ (λ y. K.add (K.mul c.0 (cleared x p c.1 y)) (cleared x p (sum_of K X cs) y)) _
      (λ y. cleared_sum c.0 (c.1 y) (sum_of K X cs y) (c.1 x) (sum_of K X cs x) (p y))
      (IsInSpan-add K X _ _ _
      (IsInSpan-scaled K X _ c.0 (cleared x p c.1) (IsInSpan-one K X _ (cleared x p c.1)
      (map_one_of (cleared x p) gs c.1 (All-head (λ (d : K.F × V). IsOneOf K X gs d.1) c cs each))))
      (cleared_parts x p gs cs (All-tail (λ (d : K.F × V). IsOneOf K X gs d.1) c cs each)))

  -- where v is in the span of gs, v cleared at x by p is in the span of gs cleared so
  pub cleared_member : (x : X) (p : V) (gs : List V) (v : V) → Sp gs v → Sp (map (cleared x p) gs) (cleared x p v)
  cleared_member x p gs v s =
      same_span _ (cleared x p (sum_of K X s.parts)) (cleared x p v)
      (λ y. ap₂ (λ (m n : K.F). K.add m (K.mul (K.neg n) (p y))) (sym (s.sum y)) (sym (s.sum x))) (cleared_parts x p gs s.parts s.each)

  -- the entry of v at x times p, and v cleared at x by p, are v together
  pub uncleared : (x : X) (p v : V) (y : X) → K.add (K.mul (v x) (p y)) (cleared x p v y) ≡ v y
  uncleared x p v y = add_left_comm K (K.mul (v x) (p y)) (v y) (K.mul (K.neg (v x)) (p y))
      ∙ ap (K.add (v y)) (ap (K.add (K.mul (v x) (p y))) (neg_mul (v x) (p y)) ∙ K.add_neg (K.mul (v x) (p y))) ∙ K.add_zero (v y)

  AreSameAt-map : (xs : List X) (v w v' w' : V) → ((y : X) → v y ≡ w y → v' y ≡ w' y) → AreSameAt K X xs v w → AreSameAt K X xs v' w'
  AreSameAt-map [] v w v' w' h s = tt
  AreSameAt-map (x ∷ xs) v w v' w' h s = (h x s.0, AreSameAt-map xs v w v' w' h s.1)

  -- from the entries of the cleared vector to those of the vector
  regained : (x : X) (es : List (X × V)) (p v : V) (y : X) → cleared x p v y ≡ sum_of K X (from_leads K X es (cleared x p v)) y
      → v y ≡ K.add (K.mul (v x) (K.add (p y) (K.mul (K.neg K.one) (sum_of K X (from_leads K X es p) y)))) (sum_of K X (from_leads K X es v) y)
  regained x es p v y e =
      let a = v x in let sv = sum_of K X (from_leads K X es v) y in let sp = sum_of K X (from_leads K X es p) y in
      let neg_one : K.mul a (K.mul (K.neg K.one) sp) ≡ K.mul (K.neg a) sp = mul_neg_mul a K.one sp ∙ ap (λ (n : K.F). K.mul (K.neg n) sp) (K.mul_one a) in
      sym (uncleared x p v y) ∙ ap (K.add (K.mul a (p y))) (e ∙ leads-linear es v p (K.neg a) y ∙ K.add_comm sv (K.mul (K.neg a) sp))
      ∙ sym (K.add_assoc (K.mul a (p y)) (K.mul (K.neg a) sp) sv)
      ∙ ap (λ (n : K.F). K.add n sv) (ap (K.add (K.mul a (p y))) (sym neg_one) ∙ sym (K.mul_add a (p y) (K.mul (K.neg K.one) sp)))

  AreInSpan-map : (gs hs : List V) (es : List (X × V)) → ((v : V) → Sp hs v → Sp gs v) → AreInSpan K X hs es → AreInSpan K X gs es
  AreInSpan-map gs hs [] h s = tt
  AreInSpan-map gs hs (e ∷ es) h s = (h e.1 s.0, AreInSpan-map gs hs es h s.1)

  AreZeroAt-from_span : (x : X) (gs : List V) (es : List (X × V)) → ((g : V) → IsOneOf K X gs g → g x ≡ K.zero) → AreInSpan K X gs es → AreZeroAt K X x es
  AreZeroAt-from_span x gs [] h s = tt
  AreZeroAt-from_span x gs (e ∷ es) h s = (IsInSpan-zero_at _ x h e.1 s.0, AreZeroAt-from_span x gs es h s.1)

  leads-inside : (gs : List V) (es : List (X × V)) (v : V) → AreInSpan K X gs es → Sp gs (sum_of K X (from_leads K X es v))
  leads-inside gs [] v s = IsInSpan-zero K X _
  leads-inside gs (e ∷ es) v s = IsInSpan-add K X _ _ _ (IsInSpan-scaled K X _ (v e.0) e.1 s.0) (leads-inside gs es v s.1)

  leads-cleared : (es : List (X × V)) (p q : V) → AreSameAtLeads es q p → IsZeroAtLeads K X (λ y. K.add (p y) (K.mul (K.neg K.one) (q y))) es
  leads-cleared [] p q s = tt
  leads-cleared (e ∷ es) p q s = (
    ap (λ (n : K.F). K.add (p e.0) (K.mul (K.neg K.one) n)) s.0 ∙ ap (K.add (p e.0))
        (neg_mul K.one (p e.0) ∙ ap K.neg (K.mul_comm K.one (p e.0) ∙ K.mul_one (p e.0))) ∙ K.add_neg (p e.0),
    leads-cleared es p q s.1,
  )

  -- each list of vectors has a reduced basis over the columns
  pub eliminated : (xs : List X) (gs : List V) → (es : List (X × V)) × IsBasis K X xs gs es
  eliminated [] gs = ([], record { reduced = done; inside = tt; coordinates = λ v s. tt })
  eliminated (x ∷ xs) gs = elim (find_pivot x gs) [
    | none all ↦
        let r = eliminated xs gs in
        let zero = AreZeroAt-from_span x gs r.0 all r.1.inside in (
          r.0,
          record {
            reduced = skip x xs r.0 zero r.1.reduced;
            inside = r.1.inside;
            coordinates = λ v s. (IsInSpan-zero_at _ x all v s ∙ sym (leads-zero x r.0 v zero), r.1.coordinates v s);
          },
        )
    | found g is other ↦
        let p : V = λ y. K.mul (K.inv (g x)) (g y) in
        let p_inside : Sp gs p = IsInSpan-scaled K X _ (K.inv (g x)) g (IsInSpan-one K X _ g is) in
        let p_one : p x ≡ K.one = K.mul_inv (g x) other in
        let hs = map (cleared x p) gs in
        let hs_zero : (h : V) → IsOneOf K X hs h → h x ≡ K.zero = λ h m. let o = one_of_map (cleared x p) gs h m in ap (λ (u : V). u x) o.2
        ∙ cleared_here (o.0 x) (p x) p_one in
        let hs_inside : (v : V) → Sp hs v → Sp gs v = IsInSpan-trans _ _ (λ h m. let o = one_of_map (cleared x p) gs h m in
        same_span _ (cleared x p o.0) h (λ y. ap (λ (u : V). u y) (sym o.2))
        (IsInSpan-add K X _ o.0 _ (IsInSpan-one K X _ o.0 o.1) (IsInSpan-scaled K X _ (K.neg (o.0 x)) p p_inside))) in
        let r = eliminated xs hs in
        let zero = AreZeroAt-from_span x hs r.0 hs_zero r.1.inside in
        let below : V = sum_of K X (from_leads K X r.0 p) in
        let q : V = λ y. K.add (p y) (K.mul (K.neg K.one) (below y)) in
        let below_zero : below x ≡ K.zero = leads-zero x r.0 p zero in
        let q_one : q x ≡ K.one = ap (λ (n : K.F). K.add (p x) (K.mul (K.neg K.one) n)) below_zero
        ∙ ap (K.add (p x)) (mul_zero K (K.neg K.one)) ∙ K.add_zero (p x) ∙ p_one in (
          (x, q) ∷ r.0,
          record {
            reduced = lead x xs q r.0 q_one zero (leads-cleared r.0 p below (own_entries xs r.0 p r.1.reduced)) r.1.reduced;
            inside = (
              IsInSpan-add K X _ p _ p_inside (IsInSpan-scaled K X _ (K.neg K.one) below
                  (hs_inside below (leads-inside hs r.0 p r.1.inside))),
              AreInSpan-map gs hs r.0 hs_inside r.1.inside,
            );
            coordinates = λ v s. (
              sym (ap₂ K.add (ap (K.mul (v x)) q_one ∙ K.mul_one (v x)) (leads-zero x r.0 v zero) ∙ K.add_zero (v x)),
              AreSameAt-map xs _ _ v _ (regained x r.0 p v) (r.1.coordinates (cleared x p v) (cleared_member x p gs v s)),
            );
          },
        )
  ]
