-- Sums of multiples of vectors each of which leads at a column of its own: it is 1 there and 0 before. Where such a sum
-- is 0 at the own columns before another column, it is 0 up to this one.
use Rattle.std.proofs.Common.{ap₂, ◌≡◌, ◌⊎◌, List, [], ◌∷◌, refl, sym, ap, ◌∙◌, inl, inr, All, AllPairs, subst}
use Rattle.std.specs.List.{Contains}
use Rattle.std.proofs.lemmas.List.Elements.{All-contains, All-head, All-tail}
use Rattle.words.proofs.Members.{AllPairs-first, AllPairs-rest, Contains-cases, Contains-none}
use Rattle.linear_algebra.specs.Fields.{Field}
use Rattle.linear_algebra.specs.Spans.{IsInSpan, Vector, sum_of}
use Rattle.linear_algebra.proofs.Algebra.{IsInSpan-add, IsInSpan-one, IsInSpan-scaled, IsInSpan-zero, add_left_comm, mul_zero, zero_add}
use Rattle.linear_algebra.proofs.Elimination.{IsInSpan-zero_at, same_span}

module _ (K : Field) (X : Type 0) (Leads : X → Vector K X → Type 0) where
  abbrev V : Type 0
  V = Vector K X

  -- a vector that leads at one of the columns
  pub record IsLeader (xs : List X) (v : V) : Type 0 where
    pub column : X
    pub within : Contains xs column
    pub leads : Leads column v

  abbrev Sp : List X → V → Type 0
  Sp xs v = IsInSpan K X (IsLeader xs) v

  -- a multiple of the vector that leads at x, and a sum for the other columns
  record HasPart (x : X) (xs : List X) (v : V) : Type 0 where
    pub factor : K.F
    pub leader : V
    pub leads : Leads x leader
    pub rest : V
    pub spanned : Sp xs rest
    pub sum : (y : X) → v y ≡ K.add (K.mul factor (leader y)) (rest y)

  two_factors : (a b t r : K.F) → K.add (K.mul a t) (K.add (K.mul b t) r) ≡ K.add (K.mul (K.add a b) t) r
  two_factors a b t r =
      sym (K.add_assoc (K.mul a t) (K.mul b t) r)
      ∙ ap (λ (n : K.F). K.add n r) (ap₂ K.add (K.mul_comm a t) (K.mul_comm b t) ∙ sym (K.mul_add t a b) ∙ K.mul_comm t (K.add a b))

  module _ (Before : X → X → Type 0) (trans : (x y z : X) → Before x y → Before y z → Before x z) (one : (x : X) (u : V) → Leads x u → u x ≡ K.one)
      (before : (x y : X) (u : V) → Leads x u → Before y x → u y ≡ K.zero) (only : (x : X) (u v : V) → Leads x u → Leads x v → u ≡ v) where
    split : (x : X) (xs : List X) (cs : List (K.F × V)) → All (λ c. IsLeader (x ∷ xs) c.1) cs → Sp xs (sum_of K X cs) ⊎ HasPart x xs (sum_of K X cs)
    split x xs [] each = inl (IsInSpan-zero K X (IsLeader xs))
    split x xs (c ∷ cs) each =
        let h = All-head (λ (e : K.F × V). IsLeader (x ∷ xs) e.1) c cs each in
        let r = split x xs cs (All-tail (λ (e : K.F × V). IsLeader (x ∷ xs) e.1) c cs each) in
        let others : V = sum_of K X cs in
        elim (Contains-cases x xs h.column h.within) [
          | inl is ↦
              let own : Leads x c.1 = subst (λ (z : X). Leads z c.1) (sym is) h.leads in
              elim r [
                | inl s ↦ inr (record { factor = c.0; leader = c.1; leads = own; rest = others; spanned = s; sum = λ y. refl })
                | inr q ↦ inr (record {
                  factor = K.add c.0 q.factor;
                  leader = q.leader;
                  leads = q.leads;
                  rest = q.rest;
                  spanned = q.spanned;
                  sum = λ y. ap₂ K.add (ap (λ (u : V). K.mul c.0 (u y)) (only x c.1 q.leader own q.leads)) (q.sum y)
                      ∙ two_factors c.0 q.factor (q.leader y) (q.rest y);
                })
              ]
          | inr later ↦
              let own : Sp xs (λ y. K.mul c.0 (c.1 y)) = IsInSpan-scaled K X (IsLeader xs) c.0 c.1
              (IsInSpan-one K X (IsLeader xs) c.1 (record { column = h.column; within = later; leads = h.leads })) in
              elim r [
                | inl s ↦ inl (IsInSpan-add K X (IsLeader xs) (λ y. K.mul c.0 (c.1 y)) others own s)
                | inr q ↦ inr (record {
                  factor = q.factor;
                  leader = q.leader;
                  leads = q.leads;
                  rest = λ y. K.add (K.mul c.0 (c.1 y)) (q.rest y);
                  spanned = IsInSpan-add K X (IsLeader xs) (λ y. K.mul c.0 (c.1 y)) q.rest own q.spanned;
                  sum = λ y. ap (K.add (K.mul c.0 (c.1 y))) (q.sum y) ∙ add_left_comm K (K.mul c.0 (c.1 y)) (K.mul q.factor (q.leader y)) (q.rest y);
                })
              ]
        ]

    -- a sum for columns behind x is 0 at x and before
    zero_before : (x : X) (xs : List X) → AllPairs Before (x ∷ xs) → (v : V) → Sp xs v → (y : X) → ((y ≡ x) ⊎ Before y x) → v y ≡ K.zero
    zero_before x xs ordered v s y from = IsInSpan-zero_at K X (IsLeader xs) y (λ g h.
        let behind : Before x h.column = All-contains (Before x) xs h.column (AllPairs-first Before x xs ordered) h.within in
        before h.column y g h.leads (elim from [
          | inl is ↦ subst (λ (z : X). Before z h.column) (sym is) behind
          | inr ahead ↦ trans y x h.column ahead behind
        ])) v s

    -- a sum of leaders that is 0 at their columns before one where none leads is 0 at this one and before it
    pub zero_up_to : (xs : List X) → AllPairs Before xs → (v : V) → Sp xs v → (w : X) → Contains xs w → ((u : V) → Leads w u → ⊥)
        → ((x : X) (u : V) → Leads x u → Before x w → v x ≡ K.zero) → (y : X) → ((y ≡ w) ⊎ Before y w) → v y ≡ K.zero
    zero_up_to [] ordered v s w m free none y from = absurd (Contains-none w m)
    zero_up_to (x ∷ xs) ordered v s w m free none y from =
        let rest = zero_up_to xs (AllPairs-rest Before x xs ordered) v in
        let alone : Sp xs (sum_of K X s.parts) → Sp xs v = same_span K X (IsLeader xs) (sum_of K X s.parts) v (λ z. sym (s.sum z)) in
        elim (split x xs s.parts s.each) [
          | inl r ↦ elim (Contains-cases x xs w m) [
            | inl is ↦ zero_before x xs ordered v (alone r) y (subst (λ (z : X). (y ≡ z) ⊎ Before y z) (sym is) from)
            | inr later ↦ rest (alone r) w later free none y from
          ]
          | inr q ↦ elim (Contains-cases x xs w m) [
            | inl is ↦ absurd (free q.leader (subst (λ (z : X). Leads z q.leader) is q.leads))
            | inr later ↦
                let ahead : Before x w = All-contains (Before x) xs w (AllPairs-first Before x xs ordered) later in
                let factor : q.factor ≡ K.zero =
                sym (s.sum x ∙ q.sum x ∙ ap₂ (λ (t r : K.F). K.add (K.mul q.factor t) r) (one x q.leader q.leads)
                (zero_before x xs ordered q.rest q.spanned x (inl refl)) ∙ K.add_zero _ ∙ K.mul_one q.factor)
                ∙ none x q.leader q.leads ahead in
                rest (same_span K X (IsLeader xs) q.rest v (λ z.
                sym (s.sum z ∙ q.sum z ∙ ap (λ (a : K.F). K.add (K.mul a (q.leader z)) (q.rest z)) factor
                ∙ ap (λ (n : K.F). K.add n (q.rest z)) (K.mul_comm K.zero (q.leader z) ∙ mul_zero K (q.leader z)) ∙ zero_add K (q.rest z))) q.spanned)
                w later free none y from
          ]
        ]
