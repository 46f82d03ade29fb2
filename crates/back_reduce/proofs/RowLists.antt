-- The rows of a problem, and held rows, as lists and one by one.
use Rattle.std.proofs.Common.{◌≡◌, ◌+◌, ◌*◌, ◌<◌, ◌≤◌, ℕ, zero, suc, List, [], ◌∷◌, ◌++◌, All, Option, None, Some, map, length, drop, refl, sym, ap, take}
use Rattle.std.proofs.Common.{◌∙◌, inl, inr, arith, subst}
use Rattle.std.specs.List.{flat_map, range_with_len}
use Rattle.std.proofs.lemmas.Bool.{cases_eq}
use Rattle.std.proofs.lemmas.List.{length-drop, length-take-le}
use Rattle.std.proofs.lemmas.List.Elements.{All-drop, All-take}
use Rattle.std.proofs.lemmas.List.FromFn.{fill_by_all, get_or-map-range_with_len, length-map-range_with_len}
use Rattle.std.proofs.lemmas.Nat.{mul-le}
use Rattle.field_table.specs.Residues.{IsFieldModulus}
use Rattle.linear_algebra.specs.Echelon.{IsOneOf}
use Rattle.linear_algebra.specs.Fields.{Field}
use Rattle.back_reduce.specs.declared.problem.Problem.{Problem}
use Rattle.back_reduce.specs.Pivots.{held_row, held_rows, where_held}
use Rattle.back_reduce.specs.Problems.{row_of, rows_of}
use Rattle.back_reduce.specs.Rows.{cut_rows, IsRow}
use Rattle.back_reduce.proofs.Vectors.{K, V, vec}

row_end : (m n r : ℕ) → r < n → r * m + m ≤ n * m
row_end m n r lt = omega (arith, mul-le (r + 1) m n m (omega arith) (omega arith))

-- n rows are cut
pub length-cut_rows : (m n : ℕ) (cells : List ℕ) → length (cut_rows m n cells) ≡ n
length-cut_rows m n cells = length-map-range_with_len (λ r. take m (drop (r * m) cells)) 0 n

-- rows that are cut from residues have m of them each
pub cut_rows-are : (p m n : ℕ) (cells : List ℕ) → length cells ≡ n * m → All (λ a. a < p) cells → All (IsRow p m) (cut_rows m n cells)
cut_rows-are p m n cells l residues r d within =
    let lt : r < n = omega (arith, within, length-cut_rows m n cells) in
    subst (IsRow p m) (sym (get_or-map-range_with_len (λ (k : ℕ). take m (drop (k * m) cells)) 0 n r r d lt (omega arith))) (record {
      size = length-take-le m (drop (r * m) cells) (omega (arith, length-drop (r * m) cells, l, row_end m n r lt));
      residues = All-take (λ a. a < p) m (drop (r * m) cells) (All-drop (λ a. a < p) (r * m) cells residues);
    })

-- each row of a problem has m residues
pub row_is : (problem : Problem) (r : ℕ) → r < problem.n → IsRow problem.modulus problem.m (row_of problem.rows.items r)
row_is problem r lt = problem.each r [] (omega (arith, lt, problem.count))

rows_by_number : (problem : Problem) → rows_of problem ≡ map (row_of problem.rows.items) (range_with_len 0 problem.n)
rows_by_number problem = fill_by_all (row_of problem.rows.items) problem.rows.items problem.n [] problem.count (λ k lt. refl)

-- an option is none or some
pub option_cases : {A : Type 0} (B : Type 0) (x : Option A) → (x ≡ None → B) → ((a : A) → x ≡ Some a → B) → B
option_cases B None h k = h refl
option_cases B (Some a) h k = k a refl

module _ (p : ℕ) (modulus : IsFieldModulus p) where
  abbrev Kr : Field
  Kr = K p modulus

  abbrev Vr : Type 0
  Vr = V p modulus

  abbrev pub OneOf : List (List ℕ) → Vr → Type 0
  OneOf rows v = IsOneOf Kr ℕ (map (vec p modulus) rows) v

  module _ (g : ℕ → List ℕ) where
    -- the vector of the row with a number of a range is one of those of the range
    pub one_of_range : (a n k : ℕ) → a ≤ k → k < a + n → OneOf (map g (range_with_len a n)) (vec p modulus (g k))
    one_of_range a zero k le lt = absurd (omega (arith, le, lt))
    one_of_range a (suc n) k le lt = elim (cases_eq k a) [
      | inl is ↦ inl (ap (λ (i : ℕ). vec p modulus (g i)) is)
      | inr other ↦ inr (one_of_range (a + 1) n k (omega (arith, le, other)) (omega (arith, lt)))
    ]

    -- each vector of a range of rows is that of a row with a number of the range
    pub range_one_of : (a n : ℕ) (v : Vr) → OneOf (map g (range_with_len a n)) v → (k : ℕ) × (a ≤ k) × (k < a + n) × (v ≡ vec p modulus (g k))
    range_one_of a zero v h = absurd h
    range_one_of a (suc n) v (inl e) = (a, omega arith, omega arith, e)
    range_one_of a (suc n) v (inr h) = let r = range_one_of (a + 1) n v h in (r.0, omega (arith, r.1), omega (arith, r.2), r.3)

    module _ (holder : ℕ → Option ℕ) where
      abbrev columns_from : ℕ → ℕ → List ℕ
      columns_from a n = flat_map (λ c. where_held (holder c) c) (range_with_len a n)

      first_held : (a r n : ℕ) (x : Option ℕ) → x ≡ Some r → OneOf (map g (where_held x a ++ columns_from (a + 1) n)) (vec p modulus (g a))
      first_held a r n None e = cc e
      first_held a r n (Some s) e = inl refl

      later_held : (a n : ℕ) (x : Option ℕ) (v : Vr) → OneOf (map g (columns_from (a + 1) n)) v → OneOf (map g (where_held x a ++ columns_from (a + 1) n)) v
      later_held a n None v h = h
      later_held a n (Some s) v h = inr h

      held_from : (a n c r : ℕ) → a ≤ c → c < a + n → holder c ≡ Some r → OneOf (map g (columns_from a n)) (vec p modulus (g c))
      held_from a zero c r le lt e = absurd (omega (arith, le, lt))
      held_from a (suc n) c r le lt e = elim (cases_eq c a) [
        | inl is ↦ subst (λ (i : ℕ). OneOf (map g (columns_from a (suc n))) (vec p modulus (g i))) (sym is)
            (first_held a r n (holder a) (ap holder (sym is) ∙ e))
        | inr other ↦ later_held a n (holder a) (vec p modulus (g c)) (held_from (a + 1) n c r (omega (arith, le, other)) (omega (arith, lt)) e)
      ]

      -- a member leads at a held column
      pub record IsFrom (a n : ℕ) (v : Vr) : Type 0 where
        pub column : ℕ
        pub holds : ℕ
        pub from : a ≤ column
        pub below : column < a + n
        pub held : holder column ≡ Some holds
        pub is : v ≡ vec p modulus (g column)

      from_later : (a n : ℕ) (v : Vr) → IsFrom (a + 1) n v → IsFrom a (suc n) v
      from_later a n v h = record { column = h.column; holds = h.holds; from = omega (arith, h.from); below = omega (arith, h.below); held = h.held; is = h.is }

      mutual_step : (a n : ℕ) (x : Option ℕ) (v : Vr) → holder a ≡ x → (OneOf (map g (columns_from (a + 1) n)) v → IsFrom (a + 1) n v) →
          OneOf (map g (where_held x a ++ columns_from (a + 1) n)) v → IsFrom a (suc n) v
      mutual_step a n None v e k h = from_later a n v (k h)
      mutual_step a n (Some r) v e k (inl is) = record { column = a; holds = r; from = omega arith; below = omega arith; held = e; is = is }
      mutual_step a n (Some r) v e k (inr h) = from_later a n v (k h)

      from_held : (a n : ℕ) (v : Vr) → OneOf (map g (columns_from a n)) v → IsFrom a n v
      from_held a zero v h = absurd h
      from_held a (suc n) v h = mutual_step a n (holder a) v refl (from_held (a + 1) n v) h

  -- the vector of each row of a problem, by its number, is one of those of its rows
  pub problem_row : (problem : Problem) (k : ℕ) → k < problem.n → OneOf (rows_of problem) (vec p modulus (row_of problem.rows.items k))
  problem_row problem k lt = subst (λ (rows : List (List ℕ)). OneOf rows (vec p modulus (row_of problem.rows.items k))) (sym (rows_by_number problem))
      (one_of_range (row_of problem.rows.items) 0 problem.n k (omega arith) (omega arith))

  -- each vector of a problem's rows is that of a row with a number below n
  pub row_problem : (problem : Problem) (v : Vr) → OneOf (rows_of problem) v →
      (k : ℕ) × (k < problem.n) × (v ≡ vec p modulus (row_of problem.rows.items k))
  row_problem problem v h =
      let one = subst (λ (rows : List (List ℕ)). OneOf rows v) (rows_by_number problem) h in
      let r = range_one_of (row_of problem.rows.items) 0 problem.n v one in (r.0, omega (arith, r.2), r.3)

  -- the vector of the row of each held column is one of those of the held rows
  pub one_held : (m : ℕ) (holder : ℕ → Option ℕ) (value : ℕ → ℕ → ℕ) (c r : ℕ) → c < m → holder c ≡ Some r →
      OneOf (held_rows m holder value) (vec p modulus (held_row m value c))
  one_held m holder value c r lt e = held_from (held_row m value) holder 0 m c r (omega arith) (omega arith) e

  -- each vector of the held rows is that of the row of a held column
  pub held_one : (m : ℕ) (holder : ℕ → Option ℕ) (value : ℕ → ℕ → ℕ) (v : Vr) → OneOf (held_rows m holder value) v → IsFrom (held_row m value) holder 0 m v
  held_one m holder value v h = from_held (held_row m value) holder 0 m v h
