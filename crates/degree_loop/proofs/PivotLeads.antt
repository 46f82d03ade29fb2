-- The leading columns of the echelon form of a problem are the held columns of its pivots, whoever found these.
use Rattle.std.proofs.Common.{◌≡◌, ◌⊎◌, ◌<◌, ℕ, true, List, Option, Some, get_or, refl, sym, ap, ◌∙◌, inl, inr, arith, subst}
use Rattle.std.specs.List.{Contains, range_with_len}
use Rattle.std.proofs.lemmas.Bool.{cases_lt}
use Rattle.std.proofs.lemmas.List.Elements.{All-contains}
use Rattle.std.proofs.lemmas.List.FromFn.{get_or-map-range_with_len}
use Rattle.words.proofs.Degrees.{Contains-range, range-rising}
use Rattle.field_table.specs.Residues.{IsFieldModulus}
use Rattle.linear_algebra.specs.Fields.{Field}
use Rattle.linear_algebra.specs.Mod.{of, residue_field}
use Rattle.linear_algebra.specs.Spans.{IsInSpan, Vector}
use Rattle.linear_algebra.proofs.Algebra.{IsInSpan-one}
use Rattle.linear_algebra.proofs.Elimination.{IsInSpan-trans}
use Rattle.back_reduce.specs.declared.problem.Problem.{Problem}
use Rattle.back_reduce.specs.Pivots.{ArePivots, held_row, held_rows}
use Rattle.back_reduce.specs.Problems.{rows_of}
use Rattle.back_reduce.specs.Rows.{IsInRowSpan, IsRow, vector}
use Rattle.back_reduce.specs.Rref.{IsRref}
use Rattle.back_reduce.proofs.RowLists.{OneOf, held_one, one_held, option_cases}
use Rattle.row_laws.proofs.Leaders.{first_leads, lead_within, led_rows, none_before, of_lead, one_there, row_combined, with_lead}
use Rattle.row_laws.proofs.Leading.{IsLeader, zero_up_to}

-- a row is 1 at a column and 0 before it
pub record LeadsAt (c : ℕ) (row : List ℕ) : Type 0 where
  pub one : get_or row c 0 ≡ 1
  pub before : (j : ℕ) → j < c → get_or row j 0 ≡ 0

module _ (problem : Problem) (holder : ℕ → Option ℕ) (value : ℕ → ℕ → ℕ) (pivots : ArePivots problem holder value) (modulus : IsFieldModulus problem.modulus)
    (echelon : List (List ℕ)) (rref : IsRref problem.modulus problem.m (rows_of problem) echelon) where
  abbrev p : ℕ
  p = problem.modulus

  abbrev m : ℕ
  m = problem.m

  abbrev Kp : Field
  Kp = residue_field p modulus

  abbrev V : Type 0
  V = Vector Kp ℕ

  abbrev vec : List ℕ → V
  vec = vector p modulus

  -- a column with a holder
  pub record HasHolder (c : ℕ) : Type 0 where
    pub below : c < m
    pub row : ℕ
    pub is : holder c ≡ Some row

  abbrev es : List (ℕ × V)
  es = led_rows p m modulus (rows_of problem) echelon rref

  abbrev own_row : ℕ → V
  own_row c = vec (held_row m value c)

  own_at : (c j : ℕ) → j < m → get_or (held_row m value c) j 0 ≡ value c j
  own_at c j lt = get_or-map-range_with_len (value c) 0 m j j 0 lt (omega arith)

  -- the row of a column with a holder
  abbrev IsHeldRow : ℕ → V → Type 0
  IsHeldRow c v = HasHolder c × (v ≡ own_row c)

  own_one : (c : ℕ) (v : V) → IsHeldRow c v → v c ≡ Kp.one
  own_one c v h = ap (λ (u : V). u c) h.1
      ∙ ap (of p modulus.two_or_more modulus.has_inverse) (own_at c c h.0.below ∙ (pivots.each c h.0.row h.0.below h.0.is).one)

  own_before : (c j : ℕ) (v : V) → IsHeldRow c v → j < c → v j ≡ Kp.zero
  own_before c j v h lt = ap (λ (u : V). u j) h.1 ∙ ap (of p modulus.two_or_more modulus.has_inverse)
      (own_at c j (omega (arith, lt, h.0.below)) ∙ (pivots.each c h.0.row h.0.below h.0.is).before j lt)

  known : (c : ℕ) → HasHolder c ⊎ (HasHolder c → ⊥)
  known c = elim (cases_lt c m) [
    | inl lt ↦ option_cases (HasHolder c ⊎ (HasHolder c → ⊥)) (holder c) (λ none. inr (λ h. let e = sym none ∙ h.is in cc e))
        (λ r is. inl (record { below = lt; row = r; is = is }))
    | inr past ↦ inr (λ h. omega (arith, past, h.below))
  ]

  one_is_other : Kp.one ≡ Kp.zero → ⊥
  one_is_other e = let t : Kp.is_zero Kp.one ≡ true = ap Kp.is_zero e ∙ Kp.zero_test in let f = Kp.one_other in cc (t, f)

  led_row : (c : ℕ) (r : List ℕ) → Contains echelon r → Contains es (c, vec r) → LeadsAt c r
  led_row c r k n =
      let is_row : IsRow p m r = All-contains (IsRow p m) echelon r rref.each k in
      record {
        one = one_there p m modulus (rows_of problem) echelon rref c r n is_row;
        before = none_before p m modulus (rows_of problem) echelon rref c r n is_row;
      }

  -- a held column leads a row of the form
  pub held_leads : (c : ℕ) → HasHolder c → (r : List ℕ) × Contains echelon r × LeadsAt c r
  held_leads c h =
      let inside : IsInRowSpan p modulus (rows_of problem) (own_row c) =
      (pivots.span modulus (own_row c)).0 (IsInSpan-one Kp ℕ (OneOf p modulus (held_rows m holder value)) (own_row c)
      (one_held p modulus m holder value c h.row h.below h.is)) in
      let e = first_leads p m modulus (rows_of problem) echelon rref (own_row c) inside c h.below
      (λ zero. one_is_other (sym (own_one c (own_row c) (h, refl)) ∙ zero)) (λ j lt. own_before c j (own_row c) (h, refl) lt) in
      let r = of_lead vec rref.leads echelon e.0 e.1 in
      let there : Contains es (c, vec r.0) = subst (Contains es) (λ i. (e.2 i, r.2 i)) e.1 in
      (r.0, r.1, led_row c r.0 r.1 there)

  -- a row of the form leads at a held column
  pub row_leads : (r : List ℕ) → Contains echelon r → (c : ℕ) × HasHolder c × LeadsAt c r
  row_leads r k =
      let l = with_lead vec rref.leads echelon rref.count r k in
      let own = led_row l.0 r k l.1 in
      let inside : IsInRowSpan p modulus (held_rows m holder value) (vec r) =
      (pivots.span modulus (vec r)).1 (row_combined p m modulus (rows_of problem) echelon rref (l.0, vec r) l.1) in
      let from : IsInSpan Kp ℕ (IsLeader Kp ℕ IsHeldRow (range_with_len 0 m)) (vec r) =
      IsInSpan-trans Kp ℕ (OneOf p modulus (held_rows m holder value)) (IsLeader Kp ℕ IsHeldRow (range_with_len 0 m))
      (λ g one. (let f = held_one p modulus m holder value g one in
      IsInSpan-one Kp ℕ (IsLeader Kp ℕ IsHeldRow (range_with_len 0 m)) g (record {
        column = f.column;
        within = Contains-range 0 m f.column (omega arith) f.below;
        leads = (record { below = omega (arith, f.below); row = f.holds; is = f.held }, f.is);
      }))) (vec r) inside in
      let lt : l.0 < m = lead_within p m modulus (rows_of problem) echelon rref (l.0, vec r) l.1 in (
        l.0,
        elim (known l.0) [
          | inl held ↦ held
          | inr free ↦ absurd (one_is_other (sym (ap (of p modulus.two_or_more modulus.has_inverse) own.one)
              ∙ zero_up_to Kp ℕ IsHeldRow (λ i j. i < j) (λ i j k a b. omega (arith, a, b)) own_one own_before (λ c u v h k. h.1 ∙ sym k.1)
              (range_with_len 0 m) (range-rising 0 m) (vec r) from l.0 (Contains-range 0 m l.0 (omega arith) (omega (arith, lt)))
              (λ u h. free h.0) (λ c u h before. ap (of p modulus.two_or_more modulus.has_inverse) (own.before c before)) l.0 (inl refl)))
        ],
        own,
      )
