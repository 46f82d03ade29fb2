use Rattle.std.proofs.Common.{◌≡◌, ◌≢◌, ◌<◌, ℕ, List, None, Some, Option, length, get_or, refl, sym, ap, ◌∙◌, inl, inr, arith, subst}
use Rattle.std.proofs.lemmas.Bool.{cases_eq}
use Rattle.std.proofs.lemmas.List.{get_or_default, get_or_read}
use Rattle.field_table.specs.Residues.{negative_of, plus_multiple}
use Rattle.back_reduce.specs.declared.table.Held.{Held}
use Rattle.back_reduce.specs.Table.{held_at, IsHeldVector, IsLeader}
use Rattle.back_reduce.proofs.Sums.{plus_more, plus_nothing}
use Rattle.back_reduce.proofs.Tables.{own_rows}
use Rattle.back_reduce.proofs.Vectors.{gone_entry, kept_entry}
use Rattle.back_reduce.proofs.table.free_column.Goals as goal

-- what is read at a column
read : (table : List (Option Held)) (at : ℕ) (found : Option Held) (held : Held) → at < length table → found ≡ get_or table at found →
    found ≡ Some held → held_at table at ≡ Some held
read table at found held within e is = sym (get_or_read table at found within e None) ∙ is

pub loop-at-init : goal.loop-at-init
loop-at-init c = record {
  residues = c.requires.residues;
  before = c.requires.before;
  reduced = λ modulus. plus_nothing c.args.field.now modulus (IsHeldVector c.args.field.now modulus c.args.table.now) c.args.row.now c.args.row.now refl;
}

pub clear_entry-requires-clause-leader : goal.clear_entry-requires-clause-leader
clear_entry-requires-clause-leader c =
    let there = read c.args.table.now c.loop-at.at c.index-table-at.result c.in-Some.held (omega (arith, c.requires.table.size))
    c.index-table-at.is c.in-Some.is in
    let leader = c.requires.table.leaders c.loop-at.at c.in-Some.held (omega arith) there in
    let size : length c.loop-at.row ≡ length c.args.row.now = omega arith in
    subst (λ (n : ℕ). IsLeader c.args.field.now n c.loop-at.at c.in-Some.held.row) (sym size) leader

pub loop-at-preserved : goal.loop-at-preserved
loop-at-preserved c =
    let p = c.args.field.now in
    let table = c.args.table.now in
    let row = c.loop-at.row in
    let at = c.loop-at.at in
    let held = c.in-Some.held in
    let pivot = held.row in
    let within : at < length row = omega arith in
    let size : length row ≡ length c.args.row.now = omega arith in
    let there = read table at c.index-table-at.result held (omega (arith, c.requires.table.size)) c.index-table-at.is c.in-Some.is in
    let leader = c.requires.table.leaders at held (omega arith) there in
    let other : get_or row at 0 ≢ 0 = c.if-row-at-eq0.false in
    let factor = negative_of p (get_or row at 0) in
    let sums : c.clear_entry.new.row ≡ plus_multiple p factor row pivot = c.clear_entry.ensures.sums in
    let kept : (k : ℕ) → k < at → get_or c.clear_entry.new.row k 0 ≡ get_or row k 0 =
    λ k lt. ap (λ (r : List ℕ). get_or r k 0) sums ∙ kept_entry p (length c.args.row.now) factor at k row pivot size
    c.loop-at.invariant.residues leader lt (omega (arith, lt, within, size)) in
    record {
      residues = c.clear_entry.ensures.residues;
      before = λ k lt. elim (cases_eq k at) [
        | inl is ↦ ap (λ (n : ℕ). get_or c.clear_entry.new.row n 0) is ∙ ap (λ (r : List ℕ). get_or r at 0) sums
            ∙ gone_entry p (length c.args.row.now) at row pivot size c.loop-at.invariant.residues leader (omega (arith, within, size)) other
        | inr earlier ↦ kept k (omega (arith, lt, earlier)) ∙ c.loop-at.invariant.before k (omega (arith, lt, earlier))
      ];
      reduced = λ modulus. plus_more p modulus (IsHeldVector p modulus table) factor c.args.row.now row c.clear_entry.new.row pivot
          (omega (arith, size, leader.size)) sums
          (own_rows p modulus table at held there) (c.loop-at.invariant.reduced modulus);
    }

pub returns-clause-free : goal.returns-clause-free
returns-clause-free c = λ k d within. get_or_default c.loop-at.row k d 0 within ∙ c.loop-at.invariant.before k (omega (arith, within))
