use Rattle.std.proofs.Common.{◌≡◌, ◌-◌, ◌++◌, ℕ, List, drop, take, length, sym, ap, ◌∙◌, arith, subst}
use Rattle.std.specs.List.{AllZip}
use Rattle.std.proofs.lemmas.List.{length-drop, take-append-drop, take_all}
use Rattle.free_poly.specs.declared.term.Term.{Term}
use Rattle.row_laws.specs.Contested.{IsContestedRow}
use Rattle.rayon.proofs.ListFacts.{AllZip-append}
use Rattle.row_store.proofs.store.rows_left.Goals as goal

pub returns : goal.returns
returns g c =
    let closed = c.args.closed.now in
    let R : List Term → List ℕ → Type 0 = IsContestedRow c.args.field.now closed.columns closed.reducers in
    let rows = c.args.rows.now in
    let left : List (List ℕ) = c.in_ok-left.left.items in
    let rest : List (List ℕ) = c.in_ok-others.others.items in
    let len = c.len-2.result in
    let count : len ≡ length left = omega (arith, c.len-2.ensures, c.in_ok-left.left.ok) in
    let short : length (drop len rows) ≡ length rows - len = length-drop len rows in
    let behind : take (length rows - len) (drop len rows) ≡ drop (length left) rows =
    take_all (length rows - len) (drop len rows) (omega (arith, short)) ∙ ap (λ (n : ℕ). drop n rows) count in
    let other : AllZip R (drop (length left) rows) rest = subst (λ (fs : List (List Term)). AllZip R fs rest) behind c.in_ok-others.ensures in
    let all : AllZip R rows (left ++ rest) =
    subst (λ (fs : List (List Term)). AllZip R fs (left ++ rest)) (take-append-drop (length left) rows)
    (AllZip-append R (take (length left) rows) (drop (length left) rows) left rest c.in_ok-left.ensures.first other) in
    subst (AllZip R rows) (sym c.in_ok-push_part.ensures) all
