-- Rows that are 0 before a place, changed from there on.
use Rattle.std.proofs.Common.{◌≡◌, ◌+◌, ◌-◌, ◌≤◌, ◌==◌, ℕ, zero, suc, Bool, true, false, cond, List, [], ◌∷◌, ◌++◌, drop, length, map, take}
use Rattle.std.proofs.Common.{refl, sym, ap, ap₂, ◌∙◌, arith}
use Rattle.std.proofs.lemmas.Bool.{eqb-true}
use Rattle.std.proofs.lemmas.List.{append-nil, drop_all, length-drop, take_all}
use Rattle.field_table.specs.Residues.{plus_multiple, product_of}
use Rattle.back_reduce.proofs.Vectors.{scaled_zero}
use Rattle.pivot_core.specs.Views.{lead_at, zeros}
use Rattle.pivot_core.proofs.Zeros.{plus_multiple-zeros}
use borrow.Rule.Slice.PartMut.{put_mid}

-- nothing stands after a part up to the end
pub part_to_end : (from k : ℕ) (row rest : List ℕ) → k ≡ length row - from → put_mid from k row rest ≡ take from row ++ rest
part_to_end from k row rest is =
    let none : drop k (drop from row) ≡ [] = drop_all k (drop from row) (omega (arith, length-drop from row, is)) in
    ap (λ (z : List ℕ). take from row ++ (rest ++ z)) none ∙ ap (λ (z : List ℕ). take from row ++ z) (append-nil rest)

-- the part itself is all from there on
pub part_whole : (from k : ℕ) (row : List ℕ) → k ≡ length row - from → take k (drop from row) ≡ drop from row
part_whole from k row is = take_all k (drop from row) (omega (arith, length-drop from row, is))

-- the part of a row from a place up to the end is as long as the row less this place
pub length-part : (from k : ℕ) (row : List ℕ) → k ≡ length row - from → length (take k (drop from row)) ≡ length row - from
length-part from k row is = ap length (part_whole from k row is) ∙ length-drop from row

-- the first entry of a row whose leading column comes later
leads_later : (from x : ℕ) (xs : List ℕ) → suc from ≤ lead_at (x ∷ xs) → (x ≡ 0) × (from ≤ lead_at xs)
leads_later from x xs le = by_answer (x == 0) refl le
  where
    by_answer : (b : Bool) → (x == 0) ≡ b → suc from ≤ cond b (suc (lead_at xs)) 0 → (x ≡ 0) × (from ≤ lead_at xs)
    by_answer true e le = (eqb-true x 0 e, omega (arith, le))
    by_answer false e le = absurd (omega (arith, le))

-- zeros from a place on are zeros
pub cleared_from : (from k : ℕ) (row rest : List ℕ) → from ≤ lead_at row → from + k ≡ length row → rest ≡ zeros k → take from row ++ rest ≡ zeros (length row)
cleared_from zero k row rest le size is = is ∙ ap zeros (omega (arith, size))
cleared_from (suc from) k [] rest le size is = absurd (omega (arith, size))
cleared_from (suc from) k (x ∷ xs) rest le size is =
    let h = leads_later from x xs le in
    ap₂ (λ (y : ℕ) (ys : List ℕ). y ∷ ys) h.0 (cleared_from from k xs rest h.1 (omega (arith, size)) is)

-- and a multiple that is added from there on to zeros is the whole multiple
pub scaled_from : (p a from : ℕ) (row rest : List ℕ) → from ≤ lead_at row → from ≤ length row
    → rest ≡ plus_multiple p a (drop from (zeros (length row))) (drop from row)
    → take from (zeros (length row)) ++ rest ≡ map (λ r. product_of p a r) row
scaled_from p a zero row rest le within is = is ∙ plus_multiple-zeros p a row
scaled_from p a (suc from) [] rest le within is = absurd (omega (arith, within))
scaled_from p a (suc from) (x ∷ xs) rest le within is =
    let h = leads_later from x xs le in
    ap₂ (λ (y : ℕ) (ys : List ℕ). y ∷ ys) (sym (ap (product_of p a) h.0 ∙ scaled_zero p a)) (scaled_from p a from xs rest h.1 (omega (arith, within)) is)
