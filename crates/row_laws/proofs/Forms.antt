-- Reduced rows over columns in a strict order: their entries at leading columns and before them, and the first entry
-- of a member of their span.
use Rattle.std.proofs.Common.{◌≡◌, ◌≢◌, List, [], ◌∷◌, sym, ap, ◌∙◌, inl, inr, AllPairs, subst}
use Rattle.std.specs.List.{Contains}
use Rattle.std.proofs.lemmas.List.Elements.{All-contains}
use Rattle.std.proofs.lemmas.List.Kept.{AllPairs-cons}
use Rattle.words.proofs.Members.{AllPairs-first, AllPairs-nil, AllPairs-rest, All-from_members, Contains-cases, Contains-first, Contains-more, Contains-none}
use Rattle.linear_algebra.specs.Fields.{Field}
use Rattle.linear_algebra.specs.Spans.{Vector, sum_of}
use Rattle.linear_algebra.specs.Echelon.{AreSameAt, AreZeroAt, IsReduced, IsZeroAtLeads, done, skip, lead, from_leads}
use Rattle.linear_algebra.proofs.Algebra.{zero_add, mul_zero}
use Rattle.linear_algebra.proofs.Elimination.{leads-zero}
use Rattle.linear_algebra.proofs.Unique.{AreSameAt-trans}

module _ (K : Field) (X : Type 0) where
  abbrev V : Type 0
  V = Vector K X

  -- a row with its leading column
  abbrev Led : Type 0
  Led = X × V

  zero_at_member : (x : X) (es : List Led) (e : Led) → AreZeroAt K X x es → Contains es e → e.1 x ≡ K.zero
  zero_at_member x [] e z m = absurd (Contains-none e m)
  zero_at_member x (d ∷ es) e z m = elim (Contains-cases d es e m) [
    | inl is ↦ ap (λ (r : Led). r.1 x) (sym is) ∙ z.0
    | inr n ↦ zero_at_member x es e z.1 n
  ]

  zero_at_lead : (v : V) (es : List Led) (e : Led) → IsZeroAtLeads K X v es → Contains es e → v e.0 ≡ K.zero
  zero_at_lead v [] e z m = absurd (Contains-none e m)
  zero_at_lead v (d ∷ es) e z m = elim (Contains-cases d es e m) [
    | inl is ↦ ap (λ (r : Led). v r.0) (sym is) ∙ z.0
    | inr n ↦ zero_at_lead v es e z.1 n
  ]

  -- a row is 1 at its own leading column
  pub row_one : (xs : List X) (es : List Led) → IsReduced K X xs es → (e : Led) → Contains es e → e.1 e.0 ≡ K.one
  row_one xs es done e m = absurd (Contains-none e m)
  row_one xs es (skip x ys es' z r) e m = row_one ys es r e m
  row_one xs es (lead x ys v es' one z zl r) e m = elim (Contains-cases (x, v) es' e m) [
    | inl is ↦ subst (λ (d : Led). d.1 d.0 ≡ K.one) is one
    | inr n ↦ row_one ys es' r e n
  ]

  -- and 0 at those of the others
  pub row_zero : (xs : List X) (es : List Led) → IsReduced K X xs es → (e d : Led) → Contains es e → Contains es d → d.0 ≢ e.0 → e.1 d.0 ≡ K.zero
  row_zero xs es done e d m n ne = absurd (Contains-none e m)
  row_zero xs es (skip x ys es' z r) e d m n ne = row_zero ys es r e d m n ne
  row_zero xs es (lead x ys v es' one z zl r) e d m n ne = elim (Contains-cases (x, v) es' e m) [
    | inl is ↦ elim (Contains-cases (x, v) es' d n) [
      | inl same ↦ absurd (ne (ap (λ (c : Led). c.0) (sym same ∙ is)))
      | inr k ↦ ap (λ (c : Led). c.1 d.0) (sym is) ∙ zero_at_lead v es' d zl k
    ]
    | inr j ↦ elim (Contains-cases (x, v) es' d n) [
      | inl same ↦ ap (λ (c : Led). e.1 c.0) (sym same) ∙ zero_at_member x es' e z j
      | inr k ↦ row_zero ys es' r e d j k ne
    ]
  ]

  -- the leading column of each row is one of the columns
  pub lead_in_columns : (xs : List X) (es : List Led) → IsReduced K X xs es → (e : Led) → Contains es e → Contains xs e.0
  lead_in_columns xs es done e m = absurd (Contains-none e m)
  lead_in_columns xs es (skip x ys es' z r) e m = Contains-more x ys e.0 (lead_in_columns ys es r e m)
  lead_in_columns xs es (lead x ys v es' one z zl r) e m = elim (Contains-cases (x, v) es' e m) [
    | inl is ↦ subst (λ (d : Led). Contains (x ∷ ys) d.0) is (Contains-first x ys)
    | inr n ↦ Contains-more x ys e.0 (lead_in_columns ys es' r e n)
  ]

  module _ (R : X → X → Type 0) (strict : (x : X) → R x x → ⊥) (trans : (x y z : X) → R x y → R y z → R x z) where
    -- the rows stand in the order of their leading columns
    pub leads_ordered : (xs : List X) (es : List Led) → IsReduced K X xs es → AllPairs R xs → AllPairs (λ (d e : Led). R d.0 e.0) es
    leads_ordered xs es done h = AllPairs-nil (λ (d e : Led). R d.0 e.0)
    leads_ordered xs es (skip x ys es' z r) h = leads_ordered ys es r (AllPairs-rest R x ys h)
    leads_ordered xs es (lead x ys v es' one z zl r) h =
        AllPairs-cons (λ (d e : Led). R d.0 e.0) (x, v) es'
        (All-from_members (λ (e : Led). R x e.0) es' (λ e m. All-contains (R x) ys e.0 (AllPairs-first R x ys h) (lead_in_columns ys es' r e m)))
        (leads_ordered ys es' r (AllPairs-rest R x ys h))

    -- a row is 0 at the columns before its leading one
    pub row_before : (xs : List X) (es : List Led) → IsReduced K X xs es → AllPairs R xs → (e : Led) → Contains es e → (y : X) →
        Contains xs y → R y e.0 → e.1 y ≡ K.zero
    row_before xs es done h e m y n before = absurd (Contains-none e m)
    row_before xs es (skip x ys es' z r) h e m y n before = elim (Contains-cases x ys y n) [
      | inl is ↦ ap e.1 (sym is) ∙ zero_at_member x es e z m
      | inr k ↦ row_before ys es r (AllPairs-rest R x ys h) e m y k before
    ]
    row_before xs es (lead x ys v es' one z zl r) h e m y n before = elim (Contains-cases (x, v) es' e m) [
      | inl is ↦ absurd (elim (Contains-cases x ys y n) [
        | inl same ↦ strict y (subst (R y) (ap (λ (d : Led). d.0) (sym is) ∙ same) before)
        | inr k ↦ strict x (trans x y x (All-contains (R x) ys y (AllPairs-first R x ys h) k) (subst (R y) (ap (λ (d : Led). d.0) (sym is)) before))
      ])
      | inr j ↦ elim (Contains-cases x ys y n) [
        | inl same ↦ ap e.1 (sym same) ∙ zero_at_member x es' e z j
        | inr k ↦ row_before ys es' r (AllPairs-rest R x ys h) e j y k before
      ]
    ]

    -- a vector that is had from the rows has its first entry at a leading column
    pub first_led : (xs : List X) (es : List Led) → IsReduced K X xs es → AllPairs R xs → (v : V) → AreSameAt K X xs v (sum_of K X (from_leads K X es v))
        → (x : X) → Contains xs x → (v x ≡ K.zero → ⊥) → ((y : X) → Contains xs y → R y x → v y ≡ K.zero) → (e : Led) × Contains es e × (e.0 ≡ x)
    first_led xs es done h v s x m some none = absurd (Contains-none x m)
    first_led xs es (skip y ys es' z r) h v s x m some none = elim (Contains-cases y ys x m) [
      | inl is ↦ absurd (some (ap v (sym is) ∙ s.0 ∙ leads-zero K X y es v z))
      | inr n ↦ first_led ys es r (AllPairs-rest R y ys h) v s.1 x n some (λ q k before. none q (Contains-more y ys q k) before)
    ]
    first_led xs es (lead y ys g es' one z zl r) h v s x m some none = elim (Contains-cases y ys x m) [
      | inl is ↦ ((y, g), Contains-first (y, g) es', is)
      | inr n ↦
          let zero : v y ≡ K.zero = none y (Contains-first y ys) (All-contains (R y) ys x (AllPairs-first R y ys h) n) in
          let without : (q : X) → sum_of K X (from_leads K X ((y, g) ∷ es') v) q ≡ sum_of K X (from_leads K X es' v) q =
          λ q. ap (λ (a : K.F). K.add (K.mul a (g q)) (sum_of K X (from_leads K X es' v) q)) zero
          ∙ ap (λ (a : K.F). K.add a (sum_of K X (from_leads K X es' v) q)) (K.mul_comm K.zero (g q) ∙ mul_zero K (g q)) ∙ zero_add K _ in
          let l = first_led ys es' r (AllPairs-rest R y ys h) v (AreSameAt-trans K X ys v _ _ s.1 without) x n some
          (λ q k before. none q (Contains-more y ys q k) before) in
          (l.0, Contains-more (y, g) es' l.0 l.1, l.2)
    ]
