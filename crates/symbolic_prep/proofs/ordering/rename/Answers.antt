use Rattle.std.proofs.Common.{◌≡◌, ◌+◌, ◌<◌, ℕ, List, ◌∷◌, ◌++◌, [], ap, ◌∙◌, arith, get_or, length, sym, take}
use Rattle.std.proofs.lemmas.List.{get_or_read_under, length-set, map-append, take_more, take_more_set}
use Rattle.symbolic_prep.specs.Orders.{columns_at}
use Rattle.symbolic_prep.proofs.Moved.{same_behind, same_here}
use Rattle.symbolic_prep.proofs.ordering.rename.Goals as goal

pub bounds-columns-index : goal.bounds-columns-index
bounds-columns-index c =
    let i = c.loop-at.at in
    let xs = c.loop-at.numbers.items in
    let within : i < length xs = omega (arith, c.loop-at-test.true, c.len-at-end.ensures, c.args.numbers.now.ok, c.loop-at.invariant.size) in
    let read : c.index.result.now ≡ get_or xs i 0 = get_or_read_under xs i (length xs) c.index.result.now 0 c.index.ensures within (omega arith) in
    let here = same_here xs c.args.numbers.now.items i c.loop-at.invariant.rest 0 in
    let below : get_or c.args.numbers.now.items i 0 < length c.args.columns.now = c.requires i 0 (omega (arith, within, c.loop-at.invariant.size)) in
    omega (arith, read, here, below)

pub loop-at-preserved : goal.loop-at-preserved
loop-at-preserved c =
    let i = c.loop-at.at in
    let xs = c.loop-at.numbers.items in
    let old = c.args.numbers.now.items in
    let columns = c.args.columns.now in
    let within : i < length xs = omega (arith, c.loop-at-test.true, c.len-at-end.ensures, c.args.numbers.now.ok, c.loop-at.invariant.size) in
    let inside : i < length old = omega (arith, within, c.loop-at.invariant.size) in
    let read : c.index.result.now ≡ get_or xs i 0 = get_or_read_under xs i (length xs) c.index.result.now 0 c.index.ensures within (omega arith) in
    let column = get_or columns c.index.result.now 0 in
    let f : ℕ → ℕ = λ n. get_or columns n 0 in
    record {
      size = length-set xs i column ∙ c.loop-at.invariant.size;
      done = take_more_set xs i column within ∙ ap (λ (l : List ℕ). l ++ column ∷ []) c.loop-at.invariant.done
          ∙ ap (λ (n : ℕ). columns_at columns (take i old) ++ f n ∷ []) (read ∙ same_here xs old i c.loop-at.invariant.rest 0)
          ∙ sym (ap (columns_at columns) (take_more old i 0 inside) ∙ map-append f (take i old) (get_or old i 0 ∷ []));
      rest = same_behind xs old i c.loop-at.invariant.rest column;
    }
