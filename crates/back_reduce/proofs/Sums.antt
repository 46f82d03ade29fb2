-- Rows with sums of multiples of others added, and spans.
use Rattle.std.proofs.Common.{◌≡◌, ℕ, List, length, sym, ap, ◌∙◌}
use Rattle.field_table.specs.Residues.{IsFieldModulus, plus_multiple}
use Rattle.linear_algebra.specs.Fields.{Field}
use Rattle.linear_algebra.specs.Spans.{IsInSpan}
use Rattle.linear_algebra.proofs.Algebra.{mul_neg, IsInSpan-add, IsInSpan-scaled, IsInSpan-zero}
use Rattle.linear_algebra.proofs.Elimination.{IsInSpan-trans, same_span}
use Rattle.back_reduce.specs.Table.{IsPlusSum}
use Rattle.back_reduce.proofs.Vectors.{K, V, res, vec, vec-plus}

module _ (p : ℕ) (modulus : IsFieldModulus p) where
  abbrev Kp : Field
  Kp = K p modulus

  abbrev Vp : Type 0
  Vp = V p modulus

  undone : (n r : Kp.F) → n ≡ Kp.add (Kp.add n r) (Kp.mul (Kp.neg Kp.one) r)
  undone n r =
      let back : Kp.mul (Kp.neg Kp.one) r ≡ Kp.neg r = Kp.mul_comm (Kp.neg Kp.one) r ∙ mul_neg Kp r Kp.one ∙ ap Kp.neg (Kp.mul_one r) in
      sym (Kp.add_assoc n r (Kp.mul (Kp.neg Kp.one) r) ∙ ap (λ (s : Kp.F). Kp.add n (Kp.add r s)) back ∙ ap (Kp.add n) (Kp.add_neg r) ∙ Kp.add_zero n)

  module _ (P : Vp → Type 0) where
    -- a row is itself and an empty sum of multiples
    pub plus_nothing : (row now : List ℕ) → now ≡ row → IsPlusSum p modulus P row now
    plus_nothing row now e = record {
      rest = λ c. Kp.zero;
      inside = IsInSpan-zero Kp ℕ P;
      sum = λ c. ap (λ (r : List ℕ). vec p modulus r c) e ∙ sym (Kp.add_zero (vec p modulus row c));
    }

    -- a row and a sum of multiples stays one where a multiple of a vector of the span is added
    pub plus_more : (a : ℕ) (row now next pivot : List ℕ) → length now ≡ length pivot → next ≡ plus_multiple p a now pivot →
        IsInSpan Kp ℕ P (vec p modulus pivot)
        → IsPlusSum p modulus P row now → IsPlusSum p modulus P row next
    plus_more a row now next pivot l e inside s = record {
      rest = λ c. Kp.add (s.rest c) (Kp.mul (res p modulus a) (vec p modulus pivot c));
      inside = IsInSpan-add Kp ℕ P s.rest (λ c. Kp.mul (res p modulus a) (vec p modulus pivot c)) s.inside
          (IsInSpan-scaled Kp ℕ P (res p modulus a) (vec p modulus pivot) inside);
      sum = λ c. ap (λ (r : List ℕ). vec p modulus r c) e ∙ vec-plus p modulus a now pivot l c
          ∙ ap (λ (n : Kp.F). Kp.add n (Kp.mul (res p modulus a) (vec p modulus pivot c))) (s.sum c)
          ∙ Kp.add_assoc (vec p modulus row c) (s.rest c) (Kp.mul (res p modulus a) (vec p modulus pivot c));
    }

    module _ (Q : Vp → Type 0) (within : (v : Vp) → P v → IsInSpan Kp ℕ Q v) where
      -- what is left of a row of the span is in the span
      pub plus_inside : (row now : List ℕ) → IsPlusSum p modulus P row now → IsInSpan Kp ℕ Q (vec p modulus row) → IsInSpan Kp ℕ Q (vec p modulus now)
      plus_inside row now s h =
          same_span Kp ℕ Q (λ c. Kp.add (vec p modulus row c) (s.rest c)) (vec p modulus now) (λ c. sym (s.sum c))
          (IsInSpan-add Kp ℕ Q (vec p modulus row) s.rest h (IsInSpan-trans Kp ℕ P Q within s.rest s.inside))

      -- a row of which what is left is in the span is in the span
      pub plus_back : (row now : List ℕ) → IsPlusSum p modulus P row now → IsInSpan Kp ℕ Q (vec p modulus now) → IsInSpan Kp ℕ Q (vec p modulus row)
      plus_back row now s h =
          same_span Kp ℕ Q (λ c. Kp.add (vec p modulus now c) (Kp.mul (Kp.neg Kp.one) (s.rest c))) (vec p modulus row)
          (λ c. ap (λ (n : Kp.F). Kp.add n (Kp.mul (Kp.neg Kp.one) (s.rest c))) (s.sum c) ∙ sym (undone (vec p modulus row c) (s.rest c)))
          (IsInSpan-add Kp ℕ Q (vec p modulus now) (λ c. Kp.mul (Kp.neg Kp.one) (s.rest c)) h
          (IsInSpan-scaled Kp ℕ Q (Kp.neg Kp.one) s.rest (IsInSpan-trans Kp ℕ P Q within s.rest s.inside)))
