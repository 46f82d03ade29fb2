use Rattle.std.proofs.Common.{◌++◌, ℕ, List, subst}
use Rattle.std.specs.List.{AllZip}
use Rattle.free_poly.specs.declared.term.Term.{Term}
use Rattle.ideal_laws.specs.Ideal.{ideal_of}
use Rattle.ideal_laws.specs.Quantities.{AreRows}
use Rattle.overlaps.specs.Listed.{AreListed, IsRowFor}
use Rattle.overlaps.proofs.Rows.{are_rows, each_is}
use Rattle.degree_loop.proofs.DegreeClosure.{rows_degree, rows_letters}
use Rattle.worked_examples.proofs.rows.rows_above.Goals as goal

pub obstruction_rows-requires-clause-obstructions : goal.obstruction_rows-requires-clause-obstructions
obstruction_rows-requires-clause-obstructions g c = λ κs lives.
    each_is c.args.basis.now.weights c.args.basis.now.elements c.args.d c.args.found.now c.requires.listed

pub returns-clause-rows : goal.returns-clause-rows
returns-clause-rows g c =
    let p = c.args.field.now in
    let G = c.args.basis.now.elements in
    let d = c.args.d in
    let found = c.args.found.now in
    let rows = c.in_ok-rows.rows.items in
    let listed = subst (λ (w : List ℕ). AreListed w G d found) c.requires.next.same_weights c.requires.listed in
    let each = subst (λ (w : List ℕ). AllZip (IsRowFor p w G) found rows) c.requires.next.same_weights c.in_ok-rows.ensures in
    subst (λ (fs : List (List Term)). AreRows (ideal_of c.args.field.now c.args.given.now) G d (fs ++ rows)) c.requires.none
    (are_rows (ideal_of c.args.field.now c.args.given.now) G d found rows listed each)

pub returns-clause-degree : goal.returns-clause-degree
returns-clause-degree g c =
    let law = c.next_degree_law.ensures in
    rw law.below.same_weights (rows_degree _ law.setting _ _ law.lower _ (returns-clause-rows g c))

pub returns-clause-letters : goal.returns-clause-letters
returns-clause-letters g c =
    let law = c.next_degree_law.ensures in
    rw law.below.same_weights (rows_letters _ law.setting _ _ law.lower _ (returns-clause-rows g c))
