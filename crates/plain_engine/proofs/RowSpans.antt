-- Lists of rows with one span.
use Rattle.std.proofs.Common.{◌≡◌, ◌≤◌, ℕ, List, [], ◌∷◌, ◌++◌, All, append-nil, length, sym, ap, ◌∙◌, inl, inr, arith, subst}
use Rattle.std.specs.List.{Contains}
use Rattle.std.proofs.lemmas.List.{append_assoc}
use Rattle.std.proofs.lemmas.List.Elements.{All-contains, Contains-append_cases, Contains-append_left, Contains-append_right}
use Rattle.words.proofs.Members.{Contains-cases, Contains-none}
use Rattle.field_table.specs.Residues.{IsFieldModulus}
use Rattle.linear_algebra.specs.Laws.{ResidueVector}
use Rattle.linear_algebra.specs.Mod.{residue_field}
use Rattle.linear_algebra.proofs.Algebra.{IsInSpan-one}
use Rattle.linear_algebra.proofs.Elimination.{IsInSpan-trans, IsInSpan-zero_at}
use Rattle.back_reduce.specs.Rows.{IsInRowSpan, IsRow, vector}
use Rattle.back_reduce.proofs.Echelons.{contained_one, one_contained}
use Rattle.back_reduce.proofs.RowLists.{OneOf}
use Rattle.back_reduce.proofs.Vectors.{vec-past}
use Rattle.plain_engine.specs.Spans.{HaveOneSpan, SpansAll}

module _ (p : ℕ) (modulus : IsFieldModulus p) where
  -- a row of a list is in its span
  pub span_one : (rows : List (List ℕ)) (r : List ℕ) → Contains rows r → IsInRowSpan p modulus rows (vector p modulus r)
  span_one rows r m = IsInSpan-one (residue_field p modulus) ℕ (OneOf p modulus rows) (vector p modulus r) (contained_one p 0 modulus rows r m)

  -- rows in a span have their span in it
  pub span_within : (rows more : List (List ℕ)) → ((r : List ℕ) → Contains rows r → IsInRowSpan p modulus more (vector p modulus r)) →
      (v : ResidueVector p modulus ℕ) → IsInRowSpan p modulus rows v → IsInRowSpan p modulus more v
  span_within rows more h = IsInSpan-trans (residue_field p modulus) ℕ (OneOf p modulus rows) (OneOf p modulus more) (λ g one. (
      let r = one_contained p 0 modulus rows g one in
      subst (IsInRowSpan p modulus more) (sym r.2) (h r.0 r.1)))

  -- members of the span of rows of m residues are 0 past m columns
  pub span_past : (m : ℕ) (rows : List (List ℕ)) → All (IsRow p m) rows → (v : ResidueVector p modulus ℕ) → IsInRowSpan p modulus rows v →
      (c : ℕ) → m ≤ c → v c ≡ (residue_field p modulus).zero
  span_past m rows are v s c beyond = IsInSpan-zero_at (residue_field p modulus) ℕ (OneOf p modulus rows) c (λ g one. (
      let r = one_contained p m modulus rows g one in
      let size : length r.0 ≡ m = (All-contains (IsRow p m) rows r.0 are r.1).size in
      ap (λ (u : ResidueVector p modulus ℕ). u c) r.2 ∙ vec-past p modulus r.0 c (omega (arith, size, beyond)))) v s

  appended : (rows others more : List (List ℕ)) → ((v : ResidueVector p modulus ℕ) → IsInRowSpan p modulus rows v → IsInRowSpan p modulus others v) →
      (v : ResidueVector p modulus ℕ) → IsInRowSpan p modulus (rows ++ more) v → IsInRowSpan p modulus (others ++ more) v
  appended rows others more h = span_within (rows ++ more) (others ++ more) (λ r m. elim (Contains-append_cases rows more r m) [
    | inl n ↦ span_within others (others ++ more) (λ s k. span_one (others ++ more) s (Contains-append_left others more s k)) (vector p modulus r)
        (h (vector p modulus r) (span_one rows r n))
    | inr n ↦ span_one (others ++ more) r (Contains-append_right others more r n)
  ])

module _ (p : ℕ) where
  -- a list of rows has one span with itself
  pub one_span-same : (rows : List (List ℕ)) → HaveOneSpan p rows rows
  one_span-same rows = record { same = λ modulus v. ((λ s. s), (λ s. s)) }

  -- no more rows leave the span as it is
  pub one_span-none : (rows : List (List ℕ)) → HaveOneSpan p (rows ++ []) rows
  one_span-none rows = subst (λ (xs : List (List ℕ)). HaveOneSpan p xs rows) (sym (append-nil rows)) (one_span-same rows)

  -- two lists of rows that each have one span with a third have one span
  pub one_span-trans : (rows others last : List (List ℕ)) → HaveOneSpan p rows others → HaveOneSpan p others last → HaveOneSpan p rows last
  one_span-trans rows others last h k = record {
    same = λ modulus v. ((λ s. (k.same modulus v).0 ((h.same modulus v).0 s)), (λ s. (h.same modulus v).1 ((k.same modulus v).1 s)));
  }

  -- lists with one span have one span with the same rows behind both
  pub one_span-append : (rows others more : List (List ℕ)) → HaveOneSpan p rows others → HaveOneSpan p (rows ++ more) (others ++ more)
  one_span-append rows others more h = record {
    same = λ modulus v. (
      appended p modulus rows others more (λ u. (h.same modulus u).0) v,
      appended p modulus others rows more (λ u. (h.same modulus u).1) v,
    );
  }

  -- where first and front have one span with middle, and middle and more with last, so have first, front and more with last
  pub one_span-joined : (first front middle more last : List (List ℕ)) → HaveOneSpan p (first ++ front) middle → HaveOneSpan p (middle ++ more) last →
      HaveOneSpan p (first ++ (front ++ more)) last
  one_span-joined first front middle more last h k = subst (λ (rows : List (List ℕ)). HaveOneSpan p rows last) (append_assoc first front more)
      (one_span-trans ((first ++ front) ++ more) (middle ++ more) last (one_span-append (first ++ front) middle more h) k)

  -- a span of all has each row of m residues
  pub one_span-full : (m : ℕ) (rows : List (List ℕ)) (row : List ℕ) → SpansAll p m rows → length row ≡ m → HaveOneSpan p (rows ++ row ∷ []) rows
  one_span-full m rows row full size = record {
    same = λ modulus v. (
      span_within p modulus (rows ++ row ∷ []) rows (λ r n. elim (Contains-append_cases rows (row ∷ []) r n) [
        | inl k ↦ span_one p modulus rows r k
        | inr k ↦ elim (Contains-cases row [] r k) [
          | inl is ↦ full modulus (vector p modulus r) (λ c beyond. vec-past p modulus r c (omega (arith, beyond, size, ap length is)))
          | inr none ↦ absurd (Contains-none r none)
        ]
      ]) v,
      span_within p modulus rows (rows ++ row ∷ []) (λ r k. span_one p modulus (rows ++ row ∷ []) r (Contains-append_left rows (row ∷ []) r k)) v,
    );
  }

  -- more rows span all, too
  pub spans_all-append : (m : ℕ) (rows more : List (List ℕ)) → SpansAll p m rows → SpansAll p m (rows ++ more)
  spans_all-append m rows more full modulus v past =
      span_within p modulus rows (rows ++ more) (λ r k. span_one p modulus (rows ++ more) r (Contains-append_left rows more r k)) v (full modulus v past)
