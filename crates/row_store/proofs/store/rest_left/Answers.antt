use Rattle.std.proofs.Common.{◌-◌, ◌*◌, ◌%◌, ◌++◌, ℕ, List, drop, take, length, sym, subst}
use Rattle.std.specs.List.{AllZip}
use Rattle.std.proofs.lemmas.List.{take-append-drop, take_rest}
use Rattle.free_poly.specs.declared.term.Term.{Term}
use Rattle.row_laws.specs.Contested.{IsContestedRow}
use Rattle.rayon.proofs.ListFacts.{AllZip-append}
use Rattle.row_store.proofs.store.rest_left.Goals as goal

pub returns : goal.returns
returns g c =
    let closed = c.args.closed.now in
    let R : List Term → List ℕ → Type 0 = IsContestedRow c.args.field.now closed.columns closed.reducers in
    let rows = c.args.rows.now in
    let left : List (List ℕ) = c.in_ok-left.left.items in
    let others : List (List ℕ) = c.in_ok-others.others.items in
    let whole = length rows - length rows % (c.min-hands.result * 8) in
    let behind : AllZip R (drop whole rows) others =
    subst (λ (fs : List (List Term)). AllZip R fs others) (take_rest rows whole) c.in_ok-others.ensures in
    let all : AllZip R rows (left ++ others) =
    subst (λ (fs : List (List Term)). AllZip R fs (left ++ others)) (take-append-drop whole rows)
    (AllZip-append R (take whole rows) (drop whole rows) left others c.in_ok-left.ensures behind) in
    subst (AllZip R rows) (sym c.in_ok-push_part.ensures) all
