use Rattle.std.proofs.Common.{◌≡◌, ◌<◌, ◌≤◌, ℕ, List, AllPairs, Ok, Err, length, get_or, sym, ap, ◌∙◌, inl, inr, arith, subst}
use Rattle.std.proofs.lemmas.Bool.{cases_eq, cases_lt}
use Rattle.std.proofs.lemmas.List.{get_or_read}
use Rattle.std.proofs.lemmas.List.Sorted.{searched}
use Rattle.back_reduce.specs.Entries.{entries_row}
use Rattle.back_reduce.proofs.EntryRows.{entries_row-at, entries_row-other}
use Rattle.back_reduce.proofs.form.Listed.at.Goals as goal

rising_or_same : (columns : List ℕ) → AllPairs (λ c d. c < d) columns → (i j : ℕ) → i ≤ j → j < length columns →
    get_or columns i 0 ≤ get_or columns j 0
rising_or_same columns rising i j le within = elim (cases_eq i j) [
  | inl same ↦ omega (arith, ap (λ (n : ℕ). get_or columns n 0) same)
  | inr other ↦ omega (arith, rising i j 0 (omega (arith, le, other)) within)
]

pub returns-in-Ok : goal.returns-in-Ok
returns-in-Ok c =
    let row = c.args.self.now in
    let columns = row.columns.items in
    let found = searched c.deref.result.now c.args.column (Ok c.in-Ok.place) c.in-Ok.ensures.position
    (subst (λ (l : List ℕ). (i j : ℕ) → i ≤ j → j < length l → get_or l i 0 ≤ get_or l j 0) (sym c.deref.ensures.value)
    (rising_or_same columns row.entries.rising)) in
    let i = c.in-Ok.place in
    let within : i < length columns = omega (arith, found.0, ap length c.deref.ensures.value) in
    let is : get_or columns i 0 ≡ c.args.column = ap (λ (l : List ℕ). get_or l i 0) (sym c.deref.ensures.value) ∙ found.1 in
    get_or_read row.residues.items i c.index.result.now (omega (arith, within, row.entries.same)) c.index.ensures 0
    ∙ sym (entries_row-at row.width columns row.residues.items i row.entries within)
    ∙ ap (λ (k : ℕ). get_or (entries_row row.width columns row.residues.items) k 0) is

pub returns-in-Err : goal.returns-in-Err
returns-in-Err c =
    let row = c.args.self.now in
    let columns = row.columns.items in
    let found = searched c.deref.result.now c.args.column (Err c.in-Err.field-0) c.in-Err.ensures.position
    (subst (λ (l : List ℕ). (i j : ℕ) → i ≤ j → j < length l → get_or l i 0 ≤ get_or l j 0) (sym c.deref.ensures.value)
    (rising_or_same columns row.entries.rising)) in
    let same = c.deref.ensures.value in
    sym (entries_row-other row.width columns row.residues.items c.args.column (λ i within is. elim (cases_lt i c.in-Err.field-0) [
      | inl below ↦ absurd (omega (arith, found.1 i below, is, ap (λ (l : List ℕ). get_or l i 0) same))
      | inr from ↦ absurd (omega (arith, found.2 i from (omega (arith, within, ap length same)), is, ap (λ (l : List ℕ). get_or l i 0) same))
    ]))
