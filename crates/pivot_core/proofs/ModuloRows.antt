-- A row that loses a held row, or of which nothing is left.
use Rattle.std.proofs.Common.{◌≡◌, ℕ, ◌*◌, ◌<◌, ◌≤◌, inl, inr, List, length, get_or, sym, ap, ◌∙◌, arith}
use Rattle.std.proofs.Math.Nat.{mod-lt}
use Rattle.std.proofs.lemmas.Bool.{cases_lt}
use Rattle.std.proofs.lemmas.List.{get_or_past}
use Rattle.field_table.specs.Residues.{IsFieldModulus, negative_of, product_of}
use Rattle.linear_algebra.specs.Fields.{Field}
use Rattle.linear_algebra.proofs.Algebra.{IsInSpan-add, IsInSpan-scaled, IsInSpan-zero, zero_add}
use Rattle.linear_algebra.proofs.Elimination.{same_span}
use Rattle.back_reduce.specs.declared.problem.Problem.{Problem}
use Rattle.back_reduce.proofs.Vectors.{res, vec-plus, vec-zero}
use Rattle.pivot_core.specs.Views.{difference, inverse_of, lead_at, made_monic}
use Rattle.pivot_core.specs.Runs.{State}
use Rattle.pivot_core.specs.Rule.{IsModulo}
use Rattle.pivot_core.proofs.Combinations.{product-other, regrouped, res-negative, res-product, restored, vec-made_monic}
use Rattle.pivot_core.proofs.Effects.{KeepsHeld}
use Rattle.pivot_core.proofs.HeldRows.{HeldSpan, Kp, OneHeld, Vp, spans_grow, vector_of}
use Rattle.pivot_core.proofs.Monic.{inverse_of-right, lead_at-before}

-- a row without a leading column is 0
pub zero_row : (m : ℕ) (y : List ℕ) → length y ≡ m → m ≤ lead_at y → (c : ℕ) → get_or y c 0 ≡ 0
zero_row m y size past c = elim (cases_lt c m) [
  | inl lt ↦ lead_at-before y c (omega (arith, lt, past))
  | inr le ↦ get_or_past y c 0 (omega (arith, le, size))
]

module _ (problem : Problem) (modulus : IsFieldModulus problem.modulus) where
  abbrev p : ℕ
  p = problem.modulus

  abbrev k : Field
  k = Kp problem modulus

  abbrev of_residue : ℕ → k.F
  of_residue n = res p modulus n

  -- where held rows stay, a row that is a multiple of another but for a rest in their span is so afterwards
  pub modulo_grows : (s t : State) → KeepsHeld problem s t → (row current : List ℕ) → IsModulo problem modulus s row current →
      IsModulo problem modulus t row current
  modulo_grows s t keeps row current h = record {
    factor = h.factor;
    some = h.some;
    residue = h.residue;
    rest = h.rest;
    inside = spans_grow problem modulus s t keeps h.rest h.inside;
    sum = h.sum;
  }

  -- a row that is not 0, and itself made monic
  pub begins_modulo : (s : State) (y : List ℕ) → 0 < get_or y (lead_at y) 0 → get_or y (lead_at y) 0 < p → IsModulo problem modulus s y (made_monic p y)
  begins_modulo s y some small = record {
    factor = get_or y (lead_at y) 0;
    some = some;
    residue = small;
    rest = λ c. k.zero;
    inside = IsInSpan-zero k ℕ (OneHeld problem modulus s);
    sum = λ c. vec-made_monic p modulus y c some small ∙ sym (k.add_zero
        (k.mul (of_residue (get_or y (lead_at y) 0)) (vector_of problem modulus (made_monic p y) c)));
  }

  -- a multiple of a vector of the span, and a vector of the span
  multiple_and_rest : (s : State) (a : k.F) (u r : Vp problem modulus) → HeldSpan problem modulus s u → HeldSpan problem modulus s r →
      HeldSpan problem modulus s (λ c. k.add (k.mul a (u c)) (r c))
  multiple_and_rest s a u r hu hr = IsInSpan-add k ℕ (OneHeld problem modulus s) (λ c. k.mul a (u c)) r
      (IsInSpan-scaled k ℕ (OneHeld problem modulus s) a u hu) hr

  -- a row that is a multiple of a vector of the span, but for a rest in the span
  pub modulo_inside : (s : State) (row current : List ℕ) → IsModulo problem modulus s row current →
      HeldSpan problem modulus s (vector_of problem modulus current) → HeldSpan problem modulus s (vector_of problem modulus row)
  modulo_inside s row current h inside =
      same_span k ℕ (OneHeld problem modulus s) (λ c. k.add (k.mul (of_residue h.factor) (vector_of problem modulus current c)) (h.rest c))
      (vector_of problem modulus row) (λ c. sym (h.sum c))
      (multiple_and_rest s (of_residue h.factor) (vector_of problem modulus current) h.rest inside h.inside)

  module _ (current h y : List ℕ) (size : length current ≡ length h) (is : y ≡ difference p current h) where
    -- what is left and what was lost
    split : (c : ℕ) → vector_of problem modulus current c ≡ k.add (vector_of problem modulus y c) (vector_of problem modulus h c)
    split c =
        let less : vector_of problem modulus y c ≡ k.add (vector_of problem modulus current c) (k.mul (k.neg k.one) (vector_of problem modulus h c)) =
        ap (λ (row : List ℕ). vector_of problem modulus row c) is ∙ vec-plus p modulus (negative_of p 1) current h size c
        ∙ ap (λ (a : k.F). k.add (vector_of problem modulus current c) (k.mul a (vector_of problem modulus h c))) (res-negative p modulus) in
        sym (ap (λ (a : k.F). k.add a (vector_of problem modulus h c)) less ∙ restored k (vector_of problem modulus current c) (vector_of problem modulus h c))

    -- where nothing is left
    pub nothing_left : (s : State) (m : ℕ) → length y ≡ m → m ≤ lead_at y → HeldSpan problem modulus s (vector_of problem modulus h) →
        HeldSpan problem modulus s (vector_of problem modulus current)
    nothing_left s m wide past inside =
        same_span k ℕ (OneHeld problem modulus s) (vector_of problem modulus h) (vector_of problem modulus current)
        (λ c. sym (split c ∙ ap (λ (a : k.F). k.add a (vector_of problem modulus h c)) (vec-zero p modulus y c (zero_row m y wide past c))
        ∙ zero_add k (vector_of problem modulus h c)))
        inside

    -- what is left, made monic
    pub loses_row : (s : State) (row : List ℕ) → IsModulo problem modulus s row current →
        HeldSpan problem modulus s (vector_of problem modulus h) → 0 < get_or y (lead_at y) 0 → get_or y (lead_at y) 0 < p →
        IsModulo problem modulus s row (made_monic p y)
    loses_row s row r inside some small =
        let b : ℕ = get_or y (lead_at y) 0 in
        let f : ℕ = r.factor in
        let z : Vp problem modulus = vector_of problem modulus (made_monic p y) in
        let lost : Vp problem modulus = vector_of problem modulus h in
        record {
          factor = product_of p f b;
          some = omega (arith, product-other p f b (inverse_of p b) r.some r.residue (inverse_of-right p b modulus some small));
          residue = mod-lt (f * b) {m = p} (omega (arith, modulus.two_or_more));
          rest = λ c. k.add (k.mul (of_residue f) (lost c)) (r.rest c);
          inside = multiple_and_rest s (of_residue f) lost r.rest inside r.inside;
          sum = λ c. r.sum c
              ∙ ap (λ (a : k.F). k.add (k.mul (of_residue f) a) (r.rest c))
              (split c ∙ ap (λ (a : k.F). k.add a (lost c)) (vec-made_monic p modulus y c some small))
              ∙ regrouped k (of_residue f) (of_residue b) (z c) (lost c) (r.rest c)
              ∙ ap (λ (a : k.F). k.add (k.mul a (z c)) (k.add (k.mul (of_residue f) (lost c)) (r.rest c))) (sym (res-product p modulus f b));
        }
