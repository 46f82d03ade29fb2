-- A table after the rows of a problem have been inserted.
use Rattle.std.proofs.Common.{◌≡◌, ◌+◌, ◌<◌, ℕ, List, Option, None, Some, length, get_or, set, replicate, sym, ap, ◌∙◌, inl, inr, arith, subst}
use Rattle.std.proofs.lemmas.Bool.{cases_eq, cases_lt}
use Rattle.std.proofs.lemmas.List.{get_or-replicate, length-replicate}
use Rattle.std.proofs.lemmas.List.FromFn.{fill_by_all}
use Rattle.linear_algebra.specs.Spans.{IsInSpan}
use Rattle.linear_algebra.proofs.Algebra.{IsInSpan-one}
use Rattle.linear_algebra.proofs.Elimination.{IsInSpan-trans}
use Rattle.back_reduce.specs.declared.problem.Problem.{Problem}
use Rattle.back_reduce.specs.declared.table.Held.{Held}
use Rattle.back_reduce.specs.Pivots.{held_row, held_rows, IsHolder}
use Rattle.back_reduce.specs.Problems.{row_of, rows_of}
use Rattle.back_reduce.specs.Rows.{IsInRowSpan}
use Rattle.back_reduce.specs.Sequential.{holder_in, holder_of, value_in, value_of, IsSequential}
use Rattle.back_reduce.specs.Table.{held_at, nothing, placed, IsEliminated, IsHeldVector, IsInserted, IsLeader, IsTable}
use Rattle.back_reduce.proofs.RowLists.{held_one, one_held, option_cases, problem_row, row_problem, OneOf}
use Rattle.back_reduce.proofs.Tables.{has_inserted, held_within, none_is_some, put_elsewhere, put_there, same_some}
use Rattle.back_reduce.proofs.Vectors.{K, vec}

-- a row of the table after an insertion is new or was there
data IsPutOrHeld (holder : ℕ) (table : List (Option Held)) (at c : ℕ) (held : Held) : Type 0 where
  own : c ≡ at → held.holder ≡ holder → IsPutOrHeld holder table at c held
  old : held_at table c ≡ Some held → IsPutOrHeld holder table at c held

put_or_held : (holder : ℕ) (table : List (Option Held)) (at : ℕ) (put : Held) → at < length table → put.holder ≡ holder →
    (c : ℕ) (held : Held) → held_at (set table at (Some put)) c ≡ Some held → IsPutOrHeld holder table at c held
put_or_held holder table at put within is c held there = elim (cases_eq c at) [
  | inl same ↦ own same (ap (λ (h : Held). h.holder) (sym (same_some put held
      (sym (put_there table at put within) ∙ ap (held_at (set table at (Some put))) (sym same) ∙ there))) ∙ is)
  | inr other ↦ old (sym (put_elsewhere table at put within c other) ∙ there)
]

-- the column at which an insertion puts a row, if any
record HasHolders (holder : ℕ) (table after : List (Option Held)) : Type 0 where
  at : ℕ
  cases : (c : ℕ) (held : Held) → held_at after c ≡ Some held → IsPutOrHeld holder table at c held

has_holders : (p holder : ℕ) (table : List (Option Held)) (row : List ℕ) (after : List (Option Held)) → IsInserted p holder table row after
    → HasHolders holder table after
has_holders p holder table row after (nothing left sum zeros is) =
    subst (HasHolders holder table) (sym is) (record { at = 0; cases = λ c held there. old there })
has_holders p holder table row after (placed left c a put sum within free lt one own_holder own_row is) =
    subst (HasHolders holder table) (sym is) (record { at = c; cases = put_or_held holder table c put within own_holder })

earlier_more : (holder : ℕ) (table : List (Option Held)) (at c : ℕ) (held : Held) →
    ((k : ℕ) (h : Held) → held_at table k ≡ Some h → h.holder < holder) → IsPutOrHeld holder table at c held → held.holder < holder + 1
earlier_more holder table at c held h (own same is) = omega (arith, is)
earlier_more holder table at c held h (old there) = omega (arith, h c held there)

apart_more : (holder : ℕ) (table : List (Option Held)) (at c d : ℕ) (first second : Held) → ((k : ℕ) (h : Held) → held_at table k ≡ Some h → h.holder < holder)
    → ((held_at table c ≡ Some first) → (held_at table d ≡ Some second) → first.holder ≡ second.holder → c ≡ d)
    → IsPutOrHeld holder table at c first → IsPutOrHeld holder table at d second → first.holder ≡ second.holder → c ≡ d
apart_more holder table at c d first second h k (own same is) (own same' is') e = same ∙ sym same'
apart_more holder table at c d first second h k (own same is) (old there) e = absurd (omega (arith, h d second there, is, e))
apart_more holder table at c d first second h k (old there) (own same is) e = absurd (omega (arith, h c first there, is, e))
apart_more holder table at c d first second h k (old there) (old there') e = k there there' e

-- the table after the first r rows of a problem, with row r inserted, is the table after the first r + 1
pub eliminated_more : (problem : Problem) (r : ℕ) (table after : List (Option Held)) → r < problem.n → IsEliminated problem r table →
    IsTable problem.modulus problem.m after
    → IsInserted problem.modulus r table (row_of problem.rows.items r) after → IsEliminated problem (r + 1) after
eliminated_more problem r table after lt h is_table inserted =
    let row = row_of problem.rows.items r in
    let holders = has_holders problem.modulus r table row after inserted in
    record {
      is_table = is_table;
      earlier = λ c held there. earlier_more r table holders.at c held h.earlier (holders.cases c held there);
      apart = λ c d first second there there'. apart_more r table holders.at c d first second h.earlier (h.apart c d first second)
          (holders.cases c first there) (holders.cases d second there');
      inside = λ modulus. (has_inserted problem.modulus modulus r (OneOf problem.modulus modulus (rows_of problem)) table row after
          inserted).spanned (h.inside modulus)
          (IsInSpan-one (K problem.modulus modulus) ℕ (OneOf problem.modulus modulus (rows_of problem)) (vec problem.modulus modulus row)
          (problem_row problem.modulus modulus problem r lt));
      reached = λ modulus k below. (
          let done = has_inserted problem.modulus modulus r (OneOf problem.modulus modulus (rows_of problem)) table row after inserted in
          let P = IsHeldVector problem.modulus modulus table in
          let Q = IsHeldVector problem.modulus modulus after in
          elim (cases_lt k r) [
            | inl before ↦ IsInSpan-trans (K problem.modulus modulus) ℕ P Q
                (λ v own. IsInSpan-one (K problem.modulus modulus) ℕ Q v
                (record { column = own.column; held = own.held; there = done.kept own.column own.held own.there; is = own.is }))
                (vec problem.modulus modulus (row_of problem.rows.items k)) (h.reached modulus k before)
            | inr last ↦ (let same : k ≡ r = omega arith in subst (λ (i : ℕ). IsInSpan (K problem.modulus modulus) ℕ Q
                (vec problem.modulus modulus (row_of problem.rows.items i))) (sym same) done.reached)
          ]);
    }

-- what the table tells of a column
holder_read : (table : List (Option Held)) (c : ℕ) (held : Held) → held_at table c ≡ Some held → holder_in table c ≡ Some held.holder
holder_read table c held there = ap holder_of there

value_read : (table : List (Option Held)) (c k : ℕ) (held : Held) → held_at table c ≡ Some held → value_in table c k ≡ get_or held.row k 0
value_read table c k held there = ap (λ (x : Option Held). value_of x k) there

held_of_holder : (table : List (Option Held)) (c r : ℕ) (B : Type 0) → holder_in table c ≡ Some r →
    ((held : Held) → held_at table c ≡ Some held → held.holder ≡ r → B) → B
held_of_holder table c r B e k = option_cases B (held_at table c) (λ none. absurd (none_is_some r (sym (ap holder_of none) ∙ e)))
    (λ held there. k held there (same_some held.holder r (sym (holder_read table c held there) ∙ e)))

-- the row of a column that is held
pub row_held : (m : ℕ) (table : List (Option Held)) (c : ℕ) (held : Held) → length held.row ≡ m → held_at table c ≡ Some held →
    held_row m (value_in table) c ≡ held.row
row_held m table c held size there = sym (fill_by_all (value_in table c) held.row m 0 size (λ k lt. sym (value_read table c k held there)))

-- and 0 where it is not
pub row_free : (m : ℕ) (table : List (Option Held)) (c : ℕ) → held_at table c ≡ None → held_row m (value_in table) c ≡ replicate m 0
row_free m table c free = sym (fill_by_all (value_in table c) (replicate m 0) m 0 (length-replicate m 0)
    (λ k lt. get_or-replicate m k 0 0 lt ∙ sym (ap (λ (x : Option Held). value_of x k) free)))

-- the table after all rows of a problem has the problem's pivots
pub sequential : (problem : Problem) (table : List (Option Held)) → IsEliminated problem problem.n table → IsSequential problem table
sequential problem table h =
    let p = problem.modulus in
    let m = problem.m in
    let leader : (c : ℕ) (held : Held) → held_at table c ≡ Some held → IsLeader p m c held.row =
    λ c held there. h.is_table.leaders c held (omega (arith, held_within table c held there, h.is_table.size)) there in
    let rows = held_rows m (holder_in table) (value_in table) in
    record {
      size = h.is_table.size;
      widths = λ c held there. (leader c held there).size;
      pivots = record {
        each = λ c r lt e. held_of_holder table c r (IsHolder p m problem.n (value_in table c) c r) e (λ held there is. record {
          row = omega (arith, h.earlier c held there, is);
          residues = λ k within. subst (λ (n : ℕ). n < p) (sym (value_read table c k held there))
              ((leader c held there).residues k 0 (omega (arith, within, (leader c held there).size)));
          before = λ k below. value_read table c k held there ∙ (leader c held there).before k below;
          one = value_read table c c held there ∙ (leader c held there).one;
        });
        apart = λ c d r lt lt' e e'. held_of_holder table c r (c ≡ d) e
            (λ first there is. held_of_holder table d r (c ≡ d) e' (λ second there' is'. h.apart c d first second there there'
            (is ∙ sym is')));
        free = λ c k lt lt' e. option_cases (value_in table c k ≡ 0) (held_at table c) (λ none. ap (λ (x : Option Held). value_of x k) none)
            (λ held there. absurd (none_is_some held.holder (sym e ∙ holder_read table c held there)));
        span = λ modulus v. (
          IsInSpan-trans (K p modulus) ℕ (OneOf p modulus rows) (OneOf p modulus (rows_of problem))
              (λ u one. (let f = held_one p modulus m (holder_in table) (value_in table) u one in
              held_of_holder table f.column f.holds (IsInRowSpan p modulus (rows_of problem) u) f.held (λ held there is.
              subst (IsInRowSpan p modulus (rows_of problem)) (sym (f.is
              ∙ ap (vec p modulus) (row_held m table f.column held (leader f.column held there).size there)))
              (h.inside modulus f.column held there)))) v,
          IsInSpan-trans (K p modulus) ℕ (OneOf p modulus (rows_of problem)) (OneOf p modulus rows)
              (λ u one. (let f = row_problem p modulus problem u one in
              subst (IsInRowSpan p modulus rows) (sym f.2) (IsInSpan-trans (K p modulus) ℕ (IsHeldVector p modulus table) (OneOf p modulus rows)
              (λ w own. IsInSpan-one (K p modulus) ℕ (OneOf p modulus rows) w
              (subst (OneOf p modulus rows) (ap (vec p modulus) (row_held m table own.column own.held
              (leader own.column own.held own.there).size own.there) ∙ sym own.is)
              (one_held p modulus m (holder_in table) (value_in table) own.column own.held.holder
              (omega (arith, held_within table own.column own.held own.there, h.is_table.size))
              (holder_read table own.column own.held own.there))))
              (vec p modulus (row_of problem.rows.items f.0)) (h.reached modulus f.0 f.1)))) v,
        );
      };
    }
