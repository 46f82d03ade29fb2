-- Pivots by other numbers that agree with theirs at the columns.
use Rattle.std.proofs.Common.{◌≡◌, ◌↔◌, ℕ, zero, suc, ◌+◌, ◌<◌, ◌≤◌, List, [], ◌∷◌, ◌++◌, Option, None, Some, map, refl, sym, ap, ap₂, ◌∙◌}
use Rattle.std.proofs.Common.{arith, subst}
use Rattle.std.specs.List.{flat_map, range_with_len}
use Rattle.std.proofs.lemmas.List.{map-append}
use Rattle.pivot_core.proofs.Effects.{listed_same}
use Rattle.std.proofs.lemmas.List.Concat.{flat_map-cons}
use Rattle.back_reduce.specs.declared.problem.Problem.{Problem}
use Rattle.back_reduce.specs.Pivots.{ArePivots, held_row, held_rows, where_held}
use Rattle.back_reduce.specs.Problems.{rows_of}
use Rattle.back_reduce.specs.Rows.{IsInRowSpan}

-- pivots by other functions that agree at the columns
module _ (problem : Problem) (h g : ℕ → Option ℕ) (v w : ℕ → ℕ → ℕ) (holds : (c : ℕ) → c < problem.m → h c ≡ g c)
    (has : (c j : ℕ) → c < problem.m → j < problem.m → v c j ≡ w c j) where
  row_same : (c : ℕ) → c < problem.m → held_row problem.m v c ≡ held_row problem.m w c
  row_same c lt = listed_same (v c) (w c) 0 problem.m (λ j lj. has c j lt (omega (arith, lj)))

  where_same : (o : Option ℕ) (c : ℕ) → c < problem.m → map (held_row problem.m v) (where_held o c) ≡ map (held_row problem.m w) (where_held o c)
  where_same None c lt = refl
  where_same (Some r) c lt = ap (λ l. l ∷ []) (row_same c lt)

  rows_from : (a n : ℕ) → a + n ≤ problem.m → map (held_row problem.m v) (flat_map (λ c. where_held (h c) c) (range_with_len a n)) ≡ map (held_row problem.m w)
      (flat_map (λ c. where_held (g c) c) (range_with_len a n))
  rows_from a zero le = refl
  rows_from a (suc n) le =
      let lt : a < problem.m = omega (arith, le) in
      ap (map (held_row problem.m v)) (flat_map-cons (λ c. where_held (h c) c) a (range_with_len (a + 1) n))
      ∙ map-append (held_row problem.m v) (where_held (h a) a) (flat_map (λ c. where_held (h c) c) (range_with_len (a + 1) n))
      ∙ ap₂ ◌++◌ (ap (λ o. map (held_row problem.m v) (where_held o a)) (holds a lt) ∙ where_same (g a) a lt) (rows_from (a + 1) n (omega (arith, le)))
      ∙ sym (ap (map (held_row problem.m w)) (flat_map-cons (λ c. where_held (g c) c) a (range_with_len (a + 1) n))
      ∙ map-append (held_row problem.m w) (where_held (g a) a) (flat_map (λ c. where_held (g c) c) (range_with_len (a + 1) n)))

  rows_same : held_rows problem.m h v ≡ held_rows problem.m g w
  rows_same = rows_from 0 problem.m (omega arith)

  -- pivots are told by any numbers that agree with theirs below m
  pub pivots_same : ArePivots problem g w → ArePivots problem h v
  pivots_same p = record {
    each = λ c r lt e. (let k = p.each c r lt (sym (holds c lt) ∙ e) in record {
      row = k.row;
      residues = λ j lj. omega (arith, k.residues j lj, has c j lt lj);
      before = λ j lj. before c j lt lj k.before;
      one = has c c lt lt ∙ k.one;
    });
    apart = λ c d r lt lt' e e'. p.apart c d r lt lt' (sym (holds c lt) ∙ e) (sym (holds d lt') ∙ e');
    free = λ c k lt lk e. has c k lt lk ∙ p.free c k lt lk (sym (holds c lt) ∙ e);
    span = λ modulus u. subst (λ (rows : List (List ℕ)). IsInRowSpan problem.modulus modulus rows u ↔ IsInRowSpan problem.modulus modulus (rows_of problem) u)
        (sym rows_same) (p.span modulus u);
  }
    where
      before : (c j : ℕ) → c < problem.m → j < c → ((k : ℕ) → k < c → w c k ≡ 0) → v c j ≡ 0
      before c j lt lj h = has c j lt (omega (arith, lt, lj)) ∙ h j lj
