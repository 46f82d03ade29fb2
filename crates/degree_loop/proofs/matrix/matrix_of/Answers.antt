use Rattle.std.proofs.Common.{Err, ap, arith}
use Rattle.words.proofs.Faults.{same_fault}
use Rattle.ideal_laws.specs.Ideal.{ideal_of}
use Rattle.degree_loop.proofs.DegreeClosure.{reducer_residues, rows_degree, rows_letters, rows_on_columns, rows_residues}
use Rattle.degree_loop.proofs.MatrixLimits.{cells_pass, close_passes, few_columns, is_matrix, matrix_within}
use Rattle.degree_loop.proofs.matrix.matrix_of.Goals as goal

pub close-requires-clause-degree : goal.close-requires-clause-degree
close-requires-clause-degree g c =
    let law = c.next_degree_law.ensures in
    let are = rw (← c.as_slice-rows.ensures.value) at c.in_ok-rows.ensures.rows in
    rw law.below.same_weights (rows_degree _ law.setting _ _ law.lower _ are)

pub close-requires-clause-letters : goal.close-requires-clause-letters
close-requires-clause-letters g c =
    let law = c.next_degree_law.ensures in
    let are = rw (← c.as_slice-rows.ensures.value) at c.in_ok-rows.ensures.rows in
    rw law.below.same_weights (rows_letters _ law.setting _ _ law.lower _ are)

pub returns-in_err-closed-clause-limit : goal.returns-in_err-closed-clause-limit
returns-in_err-closed-clause-limit g c = λ kind degree value e.
    let are = rw (← c.as_slice-rows.ensures.value) at c.in_ok-rows.ensures.rows in
    let h = c.in_err-closed.ensures.limit kind degree value
    (ap Err (same_fault c.from_residual-in_err-closed.result _ _ c.from_residual-in_err-closed.ensures.1 e)) in (
      h.0,
      close_passes (ideal_of c.args.field.now c.args.presentation.now) c.args.below.now c.args.d c.args.limits.now _ are
          c.in_ok-rows.ensures.within kind value h.1,
    )

pub contested_rows-requires-clause-columns : goal.contested_rows-requires-clause-columns
contested_rows-requires-clause-columns g c = λ κs lives.
    let law = c.next_degree_law.ensures in
    let are = rw (← c.as_slice-rows.ensures.value) at c.in_ok-rows.ensures.rows in
    let closed = c.in_ok-closed.ensures in
    let few = few_columns (ideal_of c.args.field.now c.args.presentation.now) c.args.below.now c.args.d law.one_quantity c.args.limits.now _ are
    c.in_ok-closed.closed closed.closed closed.within in
    omega (arith, few, c.requires.limits.columns)

pub contested_rows-requires-clause-reducers : goal.contested_rows-requires-clause-reducers
contested_rows-requires-clause-reducers g c = λ κs lives.
    let law = c.next_degree_law.ensures in
    let are = rw (← c.as_slice-rows.ensures.value) at c.in_ok-rows.ensures.rows in
    reducer_residues _ law.setting _ _ law.lower _ are c.in_ok-closed.closed c.in_ok-closed.ensures.closed

pub contested_rows-requires-clause-on_columns : goal.contested_rows-requires-clause-on_columns
contested_rows-requires-clause-on_columns g c = λ κs lives.
    let law = c.next_degree_law.ensures in
    let are = rw (← c.as_slice-rows.ensures.value) at c.in_ok-rows.ensures.rows in
    rows_on_columns _ law.setting _ _ law.lower _ are c.in_ok-closed.closed.columns c.in_ok-closed.ensures.closed.are_columns

pub contested_rows-requires-clause-residues : goal.contested_rows-requires-clause-residues
contested_rows-requires-clause-residues g c = λ κs lives.
    let law = c.next_degree_law.ensures in
    let are = rw (← c.as_slice-rows.ensures.value) at c.in_ok-rows.ensures.rows in
    rows_residues _ law.setting _ _ law.lower _ are

pub returns-in_err-problem-clause-limit : goal.returns-in_err-problem-clause-limit
returns-in_err-problem-clause-limit g c = λ kind degree value e.
    let are = rw (← c.as_slice-rows.ensures.value) at c.in_ok-rows.ensures.rows in
    let closed = c.in_ok-closed.ensures in
    let h = c.in_err-problem.ensures.limit kind degree value
    (ap Err (same_fault c.from_residual-in_err-problem.result _ _ c.from_residual-in_err-problem.ensures.1 e)) in (
      h.0,
      cells_pass (ideal_of c.args.field.now c.args.presentation.now) c.args.below.now c.args.d c.args.limits.now _ are
          c.in_ok-rows.ensures.within c.in_ok-closed.closed closed.closed closed.within kind value h.1,
    )

pub returns-clause-matrix : goal.returns-clause-matrix
returns-clause-matrix g c =
    let are = rw (← c.as_slice-rows.ensures.value) at c.in_ok-rows.ensures.rows in
    is_matrix _ _ _ _ are c.in_ok-closed.closed c.in_ok-closed.ensures.closed c.in_ok-problem.problem c.in_ok-problem.ensures.rows

pub returns-clause-within : goal.returns-clause-within
returns-clause-within g c =
    let are = rw (← c.as_slice-rows.ensures.value) at c.in_ok-rows.ensures.rows in
    let closed = c.in_ok-closed.ensures in
    matrix_within (ideal_of c.args.field.now c.args.presentation.now) c.args.below.now c.args.d c.args.limits.now _ are
    c.in_ok-rows.ensures.within c.in_ok-closed.closed closed.closed closed.within c.in_ok-problem.ensures.within
