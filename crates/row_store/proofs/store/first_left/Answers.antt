use Rattle.std.proofs.Common.{◌≡◌, ◌≤◌, [], ℕ, List, Option, length, take, sym, ◌∙◌, arith, subst}
use Rattle.std.proofs.lemmas.List.{length-take-le}
use Rattle.free_poly.specs.declared.term.Term.{Term}
use Rattle.row_laws.specs.Contested.{AreContestedRows, IsContestedRow}
use Rattle.row_store.specs.Sums.{IsRowAmong}
use Rattle.std.proofs.lemmas.Slice.Zip.{AllZip-long}
use Rattle.row_store.proofs.Zipped.{zip_next}
use Rattle.row_store.proofs.store.first_left.Goals as goal

pub loop-row-init : goal.loop-row-init
loop-row-init c =
    subst (AreContestedRows c.args.field.now c.args.closed.now.columns c.args.closed.now.reducers []) (sym c.in_ok-left.ensures.items) tt

pub loop-row-preserved : goal.loop-row-preserved
loop-row-preserved c =
    zip_next (IsContestedRow c.args.field.now c.args.closed.now.columns c.args.closed.now.reducers) c.args.rows.now c.loop-row.left.items
    c.push.new.self.items c.loop-row.row-index c.row-item.result c.in_ok-reduced_row.field-0 c.loop-row.invariant (omega arith) c.row-item.is
    c.in_ok-reduced_row.ensures c.in_ok-push.ensures.items

pub reduced_row-requires : goal.reduced_row-requires
reduced_row-requires c =
    subst (IsRowAmong c.args.field.now c.args.closed.now c.args.places.now) (sym c.row-item.is)
    (c.requires c.loop-row.row-index c.row-item.result (omega arith))

-- as many rows as were cleared
cleared : (p : ℕ) (columns : List (List ℕ)) (reducers : List (Option (List Term))) (rows : List (List Term)) (i : ℕ) (left : List (List ℕ)) → i ≤ length rows →
    AreContestedRows p columns reducers (take i rows) left → i ≡ length left
cleared p columns reducers rows i left within h =
    let all : length (take i rows) ≡ i = length-take-le i rows within in
    sym (AllZip-long (IsContestedRow p columns reducers) (take i rows) left h ∙ all)

pub returns-then-buffer-most-clause-few : goal.returns-then-buffer-most-clause-few
returns-then-buffer-most-clause-few c =
    let closed = c.args.closed.now in
    let same = cleared c.args.field.now closed.columns closed.reducers c.args.rows.now c.loop-row.row-index c.loop-row.left.items (omega arith)
    c.loop-row.invariant in
    omega (arith, same)

pub returns-then-buffer-most-clause-first : goal.returns-then-buffer-most-clause-first
returns-then-buffer-most-clause-first c =
    let closed = c.args.closed.now in
    let left = c.loop-row.left.items in
    let same = cleared c.args.field.now closed.columns closed.reducers c.args.rows.now c.loop-row.row-index left (omega arith) c.loop-row.invariant in
    subst (λ (i : ℕ). AreContestedRows c.args.field.now closed.columns closed.reducers (take i c.args.rows.now) left) same c.loop-row.invariant

pub returns-clause-few : goal.returns-clause-few
returns-clause-few c =
    let closed = c.args.closed.now in
    let same = cleared c.args.field.now closed.columns closed.reducers c.args.rows.now c.loop-row.row-index c.loop-row.left.items (omega arith)
    c.loop-row.invariant in
    omega (arith, same)

pub returns-clause-first : goal.returns-clause-first
returns-clause-first c =
    let closed = c.args.closed.now in
    let left = c.loop-row.left.items in
    let same = cleared c.args.field.now closed.columns closed.reducers c.args.rows.now c.loop-row.row-index left (omega arith) c.loop-row.invariant in
    subst (λ (i : ℕ). AreContestedRows c.args.field.now closed.columns closed.reducers (take i c.args.rows.now) left) same c.loop-row.invariant
