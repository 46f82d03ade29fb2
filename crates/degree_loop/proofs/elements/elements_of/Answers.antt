use Rattle.std.proofs.Common.{◌≡◌, ℕ, List, All, AllPairs, length, refl, subst, sym, arith}
use Rattle.words.specs.Order.{IsLetterwiseGreater}
use Rattle.ideal_laws.specs.Ideal.{ideal_of}
use Rattle.ideal_laws.specs.Quantities.{contested_words}
use Rattle.back_reduce.specs.Rows.{IsRow}
use Rattle.row_laws.proofs.ClosedColumns.{contested_falling}
use Rattle.degree_loop.proofs.Finished.{basis_monic, basis_of, elements_few, form_of, terms_pass, terms_within}
use Rattle.degree_loop.proofs.Listing.{few_elements}
use Rattle.degree_loop.proofs.elements.elements_of.Goals as goal

pub elements_on-requires-clause-falling : goal.elements_on-requires-clause-falling
elements_on-requires-clause-falling g c = λ κs lives.
    let closed = c.args.closed.now in
    subst (AllPairs IsLetterwiseGreater) (sym c.contested.ensures)
    (contested_falling closed.columns closed.reducers c.requires.matrix.are_closed.are_columns.falling)

pub elements_on-requires-clause-width : goal.elements_on-requires-clause-width
elements_on-requires-clause-width g c = λ κs lives.
    let p = c.args.field.now in
    let closed = c.args.closed.now in
    let problem = g.P.PivotRows.given c.args.pivots.now in
    let echelon = c.in_ok-echelon.echelon.items in
    let form = form_of (ideal_of c.args.field.now c.args.presentation.now) c.args.below.now.elements c.args.d
    closed problem c.requires.matrix echelon c.in_ok-echelon.ensures in
    let columns : c.contested.result.now ≡ contested_words closed.columns closed.reducers = c.contested.ensures in
    let rows : All (IsRow p (length c.contested.result.now)) echelon =
    subst (λ (ws : List (List ℕ)). All (IsRow p (length ws)) echelon) (sym columns) form.each in
    subst (All (λ (row : List ℕ). length row ≡ length c.contested.result.now)) (sym c.as_slice.ensures.value)
    (λ k row low. (rows k row low).size)

pub returns-then-count-from-clause-limit : goal.returns-then-count-from-clause-limit
returns-then-count-from-clause-limit g c = λ kind degree value e.
    let law = c.next_degree_law.ensures in
    let elements = c.in_ok-elements.elements.items in
    let made = rw (c.as_slice.ensures.value, c.contested.ensures) at c.in_ok-elements.ensures in
    let basis = basis_of _ _ _ c.args.closed.now (g.P.PivotRows.given c.args.pivots.now) c.requires.matrix c.rows_law.ensures.basis
    law.setting law.lower c.in_ok-echelon.echelon.items c.in_ok-echelon.ensures elements made in
    let count = rw c.as_slice-2.ensures.value at c.terms_with-count.ensures in
    terms_pass _ c.args.below.now c.args.d c.args.most c.terms_with-count.result elements basis
    (omega (arith, c.ranges.most.fits)) count (omega (arith, c.if-count-from.true, c.from.ensures)) kind degree value _ refl e

pub returns-clause-elements : goal.returns-clause-elements
returns-clause-elements g c =
    let law = c.next_degree_law.ensures in
    let made = rw (c.as_slice.ensures.value, c.contested.ensures) at c.in_ok-elements.ensures in
    rw c.from_vec.ensures (basis_of _ _ _ c.args.closed.now (g.P.PivotRows.given c.args.pivots.now) c.requires.matrix c.rows_law.ensures.basis
    law.setting law.lower c.in_ok-echelon.echelon.items c.in_ok-echelon.ensures c.in_ok-elements.elements.items made)

pub returns-clause-few : goal.returns-clause-few
returns-clause-few g c =
    let elements = c.in_ok-elements.elements.items in
    let basis = rw c.from_vec.ensures at (returns-clause-elements g c) in
    let count = rw c.as_slice-2.ensures.value at c.terms_with-count.ensures in
    rw c.from_vec.ensures (elements_few _ c.args.below.now c.args.d c.args.most c.terms_with-count.result elements basis
    (omega (arith, c.ranges.most.fits)) count (omega (arith, c.if-count-from.false, c.from.ensures))
    (few_elements elements (basis_monic _ c.args.d elements basis)))

pub returns-clause-within : goal.returns-clause-within
returns-clause-within g c =
    let basis = rw c.from_vec.ensures at (returns-clause-elements g c) in
    let count = rw c.as_slice-2.ensures.value at c.terms_with-count.ensures in
    terms_within _ c.args.below.now c.args.d c.args.most c.terms_with-count.result c.in_ok-elements.elements.items basis
    (omega (arith, c.ranges.most.fits)) count (omega (arith, c.if-count-from.false, c.from.ensures))
