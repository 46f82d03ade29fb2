use Rattle.std.proofs.Common.{◌≡◌, ◌+◌, ◌<◌, ◌≤◌, ◌++◌, ℕ, List, All, Err, length, length-append, refl, subst, sym, ap, ◌∙◌, inl, arith}
use Rattle.std.specs.List.{AllZip}
use Rattle.std.proofs.lemmas.List.{length-map}
use Rattle.words.proofs.Faults.{same_fault}
use Rattle.free_poly.specs.declared.term.Term.{Term}
use Rattle.ideal_laws.specs.Closure.{AreObstructions}
use Rattle.ideal_laws.specs.Engine.{of_degree}
use Rattle.ideal_laws.specs.Ideal.{ideal_of}
use Rattle.ideal_laws.specs.Quantities.{AreRows}
use Rattle.overlaps.specs.declared.obstruction.Obstruction.{Obstruction}
use Rattle.overlaps.specs.Listed.{AreListed, IsOf, IsRowFor, obstruction_of}
use Rattle.overlaps.proofs.Rows.{are_rows, each_is}
use Rattle.std.proofs.lemmas.Slice.Zip.{AllZip-long}
use Rattle.degree_loop.proofs.rows.rows_of_degree.Goals as goal

pub returns-in_err-found-clause-limit : goal.returns-in_err-found-clause-limit
returns-in_err-found-clause-limit g c = λ kind degree value e.
    let h = c.in_err-found.ensures.limit kind degree value (ap Err (same_fault c.from_residual.result _ _ c.from_residual.ensures.1 e)) in
    let listed = subst (λ (ws : List ℕ). AreObstructions ws c.args.below.now.elements c.args.d h.3.0) c.requires.weights h.3.1 in
    let many : c.args.most < length (of_degree c.args.presentation.now.alphabet.weights c.args.d c.args.presentation.now.relations) + length
    h.3.0 = omega (arith, h.3.2, c.count_of_degree-given.ensures) in (
      h.0,
      inl (
        length (of_degree c.args.presentation.now.alphabet.weights c.args.d c.args.presentation.now.relations) + length h.3.0,
        (h.3.0, listed, refl),
        many,
        h.1,
        h.2,
      ),
    )

pub obstruction_rows-requires-clause-obstructions : goal.obstruction_rows-requires-clause-obstructions
obstruction_rows-requires-clause-obstructions g c = λ κs lives.
    let below = c.args.below.now in
    subst (All (IsOf below.weights below.elements)) (sym c.as_slice.ensures.value)
    (each_is below.weights below.elements c.args.d c.in_ok-found.found.items c.in_ok-found.ensures.listed)

pub returns-clause-rows : goal.returns-clause-rows
returns-clause-rows g c =
    let p = c.args.field.now in
    let below = c.args.below.now in
    let ideal = ideal_of c.args.field.now c.args.presentation.now in
    let found = c.in_ok-found.found.items in
    let listed = subst (λ (ws : List ℕ). AreListed ws below.elements c.args.d found) c.requires.weights c.in_ok-found.ensures.listed in
    let each = subst (λ (ws : List ℕ). AllZip (IsRowFor p ws below.elements) found c.in_ok-others.others.items) c.requires.weights
    (subst (λ (xs : List Obstruction). AllZip (IsRowFor p below.weights below.elements) xs c.in_ok-others.others.items)
    c.as_slice.ensures.value c.in_ok-others.ensures) in
    subst (AreRows ideal below.elements c.args.d)
    (sym (c.in_ok-append.ensures.items ∙ ap (λ (fs : List (List Term)). fs ++ c.in_ok-others.others.items) c.in_ok-rows.ensures))
    (are_rows ideal below.elements c.args.d found c.in_ok-others.others.items listed each)

pub returns-clause-few : goal.returns-clause-few
returns-clause-few g c =
    let p = c.args.field.now in
    let below = c.args.below.now in
    let others = c.in_ok-others.others.items in
    let found = c.in_ok-found.found.items in
    let each = subst (λ (xs : List Obstruction). AllZip (IsRowFor p below.weights below.elements) xs others) c.as_slice.ensures.value c.in_ok-others.ensures in
    omega (
      arith,
      ap length c.in_ok-append.ensures.items,
      length-append c.in_ok-rows.rows.items others,
      ap length c.in_ok-rows.ensures,
      c.count_of_degree-given.ensures,
      c.in_ok-found.ensures.within,
      AllZip-long (IsRowFor p below.weights below.elements) found others each,
    )

pub returns-clause-within : goal.returns-clause-within
returns-clause-within g c =
    let below = c.args.below.now in
    let listed = subst (λ (ws : List ℕ). AreListed ws below.elements c.args.d c.in_ok-found.found.items) c.requires.weights c.in_ok-found.ensures.listed in
    let given = of_degree c.args.presentation.now.alphabet.weights c.args.d c.args.presentation.now.relations in
    let count : length c.in_ok-found.found.items ≡ length listed.overlaps = ap length listed.shown ∙ length-map listed.overlaps obstruction_of in
    let within : length given + length listed.overlaps ≤ c.args.most = omega (arith, c.in_ok-found.ensures.within, c.count_of_degree-given.ensures, count) in
    ((length given + length listed.overlaps, (listed.overlaps, listed.are_obstructions, refl), within), tt)
