use Rattle.degree_loop.proofs.DegreeClosure.{reducer_residues, rows_on_columns, rows_residues}
use Rattle.worked_examples.proofs.rows.assert_cells.Goals as goal

pub contested_rows-requires-clause-reducers : goal.contested_rows-requires-clause-reducers
contested_rows-requires-clause-reducers g c = λ κs lives.
    let law = c.next_degree_law.ensures in
    reducer_residues _ law.setting _ _ law.lower _ c.requires.rows c.args.closed.now c.requires.closed

pub contested_rows-requires-clause-on_columns : goal.contested_rows-requires-clause-on_columns
contested_rows-requires-clause-on_columns g c = λ κs lives.
    let law = c.next_degree_law.ensures in
    rows_on_columns _ law.setting _ _ law.lower _ c.requires.rows c.args.closed.now.columns c.requires.closed.are_columns

pub contested_rows-requires-clause-residues : goal.contested_rows-requires-clause-residues
contested_rows-requires-clause-residues g c = λ κs lives.
    let law = c.next_degree_law.ensures in
    rows_residues _ law.setting _ _ law.lower _ c.requires.rows
