use Rattle.std.proofs.Common.{◌≡◌, ◌*◌, ◌/◌, ◌<◌, ◌≤◌, ℕ, List, [], All, ◌++◌, drop, get_or, length, map, sym, take, ap, ◌∙◌, arith, subst}
use Rattle.std.specs.List.{AllZip}
use Rattle.std.proofs.lemmas.List.{get_or-map, length-map, length-replicate}
use Rattle.free_poly.specs.declared.term.Term.{Term}
use Rattle.row_laws.specs.Contested.{AreContestedRows, IsContestedRow}
use Rattle.symbolic_prep.specs.Closed.{ClosedColumns}
use Rattle.back_reduce.specs.Entries.{AreEntries}
use Rattle.row_store.specs.declared.left.Left.{Left}
use Rattle.row_store.specs.Blocks.{lane}
use Rattle.row_store.specs.Entries.{dense_of, reducers_over, AreColumnLists}
use Rattle.row_store.specs.Sums.{cells_of, IsLeft, IsRowAmong}
use Rattle.row_store.proofs.ContestedColumns.{contested-few}
use Rattle.row_store.proofs.Dense.{dense-residues, written}
use Rattle.row_store.proofs.Zipped.{zip_each}
use Rattle.row_store.proofs.LaneWalk.{one_of}
use Rattle.row_store.proofs.LeftRows.{left_row, lists, width}
use Rattle.rayon.proofs.ListFacts.{IfOk-then}
use Rattle.row_store.proofs.eight.reduced_block.Goals as goal

-- what is known of the columns
among : (p : ℕ) (closed : ClosedColumns) (places : List ℕ) (rows : List (List Term)) → length rows ≡ 8 → All (IsRowAmong p closed places) rows →
    IsRowAmong p closed places (get_or rows 0 [])
among p closed places rows eight h = h 0 [] (omega (arith, eight))

columns_few : (p : ℕ) (closed : ClosedColumns) (places : List ℕ) (rows : List (List Term)) → length rows ≡ 8 → All (IsRowAmong p closed places) rows →
    length closed.columns ≤ 1048576
columns_few p closed places rows eight h = (among p closed places rows eight h).few

pub overflow_cast-m : goal.overflow_cast-m
overflow_cast-m c =
    let closed = c.args.closed.now in
    let few = columns_few c.args.field.now closed c.args.places.now c.args.rows.now c.requires.eight c.requires.rows in
    omega (arith, ap length c.contested.ensures, contested-few closed.columns closed.reducers, few)

pub write_lanes-requires-clause-falling : goal.write_lanes-requires-clause-falling
write_lanes-requires-clause-falling c =
    (among c.args.field.now c.args.closed.now c.args.places.now c.args.rows.now c.requires.eight c.requires.rows).reducing.falling

pub write_lanes-requires-clause-on_columns : goal.write_lanes-requires-clause-on_columns
write_lanes-requires-clause-on_columns c = λ k d low. (c.requires.rows k d low).on_columns

pub write_lanes-requires-clause-few : goal.write_lanes-requires-clause-few
write_lanes-requires-clause-few c = columns_few c.args.field.now c.args.closed.now c.args.places.now c.args.rows.now c.requires.eight c.requires.rows

pub clear_block-requires-clause-falling : goal.clear_block-requires-clause-falling
clear_block-requires-clause-falling c =
    (among c.args.field.now c.args.closed.now c.args.places.now c.args.rows.now c.requires.eight c.requires.rows).reducing.falling

pub clear_block-requires-clause-clearing : goal.clear_block-requires-clause-clearing
clear_block-requires-clause-clearing c =
    let p = c.args.field.now in
    let closed = c.args.closed.now in
    let row = among p closed c.args.places.now c.args.rows.now c.requires.eight c.requires.rows in
    let n = length c.write_lanes.new.sums / 8 in
    let size : n ≡ length closed.columns = omega (
      arith,
      c.write_lanes.auto.sums,
      ap length c.as_mut_slice-sums.ensures.value,
      ap length c.in_ok-held.ensures.sums,
      length-replicate {A = ℕ} (c.len-count.result * 8) 0,
      c.len-count.ensures,
    ) in
    record {
      modulus = omega (arith, c.modulus-p.ensures.field.two_or_more, c.modulus-p.ensures.value);
      small = omega (arith, c.modulus-p.ensures.small, c.modulus-p.ensures.value);
      few = omega (arith, size, row.few);
      lists = subst (λ (q : ℕ). AreColumnLists q n (reducers_over closed)) (sym c.modulus-p.ensures.value) (lists p closed row.reducing n size);
      are_places = row.are_places;
    }

pub clear_block-requires-clause-rows : goal.clear_block-requires-clause-rows
clear_block-requires-clause-rows c = λ i low.
    let p = c.args.field.now in
    let rows = c.args.rows.now in
    let inside : i < length rows = omega (arith, low, c.requires.eight) in
    subst (λ (q : ℕ). All (λ a. a < q) (lane c.write_lanes.new.sums i)) (sym c.modulus-p.ensures.value)
    (subst (λ (row : List ℕ). All (λ a. a < p) row) (sym (c.write_lanes.ensures.lanes i [] low))
    (dense-residues p c.args.closed.now.columns (get_or rows i []) (omega (arith, c.modulus-p.ensures.field.two_or_more))
    (c.write_lanes.ensures.forms i [] inside)
    (c.requires.rows i [] inside).residues))

pub rows_of-requires : goal.rows_of-requires
rows_of-requires c =
    let p = c.args.field.now in
    let closed = c.args.closed.now in
    let rows = c.args.rows.now in
    let row = among p closed c.args.places.now rows c.requires.eight c.requires.rows in
    let next : List Left = c.clear_block.new.left in
    let now = written c.in_ok-left.left.len c.in_ok-left.left.items next (c.clear_block.auto.left ∙ ap length c.as_mut_slice.ensures.value)
    (ap length (sym c.as_mut_slice.ensures.value) ∙ c.as_mut_slice.ensures.len) in
    let count : length next ≡ 8 = c.clear_block.auto.left ∙ ap length c.as_mut_slice.ensures.value ∙ c.in_ok-left.ensures.count in
    subst (All (λ l. AreEntries (length c.contested.result.now) l.places.items l.residues.items)) (sym now) (λ k d low.
    subst (λ (m : ℕ). AreEntries m (get_or next k d).places.items (get_or next k d).residues.items)
    (sym (width p closed row.reducing c.contested.result.now c.contested.ensures)) (c.in_ok-clear_block.ensures.left k d (omega (arith, low, count))).held)

pub returns : goal.returns
returns c =
    let p = c.args.field.now in
    let closed = c.args.closed.now in
    let rows = c.args.rows.now in
    let words = c.contested.result.now in
    let m = length words in
    let row = among p closed c.args.places.now rows c.requires.eight c.requires.rows in
    let next : List Left = c.clear_block.new.left in
    let now = written c.in_ok-left.left.len c.in_ok-left.left.items next (c.clear_block.auto.left ∙ ap length c.as_mut_slice.ensures.value)
    (ap length (sym c.as_mut_slice.ensures.value) ∙ c.as_mut_slice.ensures.len) in
    let count : length next ≡ 8 = c.clear_block.auto.left ∙ ap length c.as_mut_slice.ensures.value ∙ c.in_ok-left.ensures.count in
    let size : length (map (cells_of m) next) ≡ 8 = length-map next (cells_of m) ∙ count in
    let R : List Term → List ℕ → Type 0 = IsContestedRow p closed.columns closed.reducers in
    let each : AllZip R rows (map (cells_of m) next) = zip_each R rows (map (cells_of m) next) (c.requires.eight ∙ sym size) (λ k d e low. (
    let inside : k < 8 = omega (arith, low, c.requires.eight) in
    let l : Left = one_of next count in
    let rs = reducers_over closed in
    let start = dense_of closed.columns (get_or rows k d) in
    let left : IsLeft p rs start (get_or next k l) = subst (λ (q : ℕ). IsLeft q rs start (get_or next k l)) c.modulus-p.ensures.value
    (subst (λ (s : List ℕ). IsLeft c.modulus-p.result rs s (get_or next k l)) (c.write_lanes.ensures.lanes k d inside)
    (c.in_ok-clear_block.ensures.left k l inside)) in
    subst (R (get_or rows k d)) (sym (get_or-map (cells_of m) next k l e (omega (arith, inside, count))))
    (left_row p closed row.reducing c.modulus-p.ensures.field (get_or rows k d) (get_or next k l) words (c.requires.rows k d low).on_columns
    c.contested.ensures left))) in
    IfOk-then c.rows_of.result (λ found. found.items ≡ map (cells_of m) (take c.in_ok-left.left.len (next ++ drop (length next) c.in_ok-left.left.items)))
    (λ found. AreContestedRows p closed.columns closed.reducers rows found.items) c.rows_of.ensures
    (λ found same. subst (AllZip R rows) (sym (same ∙ ap (map (cells_of m)) now)) each)
