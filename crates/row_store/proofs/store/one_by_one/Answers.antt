use Rattle.std.proofs.Common.{[], List, sym, arith, subst}
use Rattle.std.proofs.lemmas.List.{take_all}
use Rattle.free_poly.specs.declared.term.Term.{Term}
use Rattle.row_laws.specs.Contested.{AreContestedRows, IsContestedRow}
use Rattle.row_store.specs.Sums.{IsRowAmong}
use Rattle.row_store.proofs.Zipped.{zip_next}
use Rattle.row_store.proofs.store.one_by_one.Goals as goal

pub loop-row-init : goal.loop-row-init
loop-row-init c =
    subst (AreContestedRows c.args.field.now c.args.closed.now.columns c.args.closed.now.reducers []) (sym c.in_ok-left.ensures.items) tt

pub loop-row-preserved : goal.loop-row-preserved
loop-row-preserved c =
    zip_next (IsContestedRow c.args.field.now c.args.closed.now.columns c.args.closed.now.reducers) c.args.rows.now c.loop-row.left.items
    c.push.new.self.items c.loop-row.row-index c.row-item.result c.in_ok-reduced_row.field-0 c.loop-row.invariant (omega arith) c.row-item.is
    c.in_ok-reduced_row.ensures c.in_ok-push.ensures.items

pub reduced_row-requires : goal.reduced_row-requires
reduced_row-requires c =
    subst (IsRowAmong c.args.field.now c.args.closed.now c.args.places.now) (sym c.row-item.is)
    (c.requires c.loop-row.row-index c.row-item.result (omega arith))

pub returns : goal.returns
returns c =
    let closed = c.args.closed.now in
    subst (λ (rows : List (List Term)). AreContestedRows c.args.field.now closed.columns closed.reducers rows c.loop-row.left.items)
    (take_all c.loop-row.row-index c.args.rows.now (omega arith)) c.loop-row.invariant
