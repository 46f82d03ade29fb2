use Rattle.std.proofs.Common.{◌≡◌, ◌+◌, ◌<◌, ◌++◌, [], ℕ, Err, arith, length, map, ap, ◌∙◌}
use Rattle.std.proofs.lemmas.List.{length-map}
use Rattle.std.proofs.lemmas.List.Sorted.{length_permutation}
use Rattle.words.proofs.Faults.{same_fault}
use Rattle.overlaps.specs.Listed.{obstruction_of}
use Rattle.overlaps.specs.Walk.{blocks}
use Rattle.overlaps.proofs.Apart.{are_obstructions, in_order}
use Rattle.overlaps.proofs.Sorted.{sorted_listed}
use Rattle.overlaps.proofs.Sums.{all_upto, appended, joined-many, joined-more}
use Rattle.overlaps.proofs.listing.obstructions.Goals as goal

pub returns-in_err-push_element-clause-many : goal.returns-in_err-push_element-clause-many
returns-in_err-push_element-clause-many c = λ e.
    let b = c.args.basis.now in
    let kept = c.done-done.ensures.kept in
    let more : c.args.most < length c.loop-left.found.items + length (blocks b.weights b.elements c.args.d c.loop-left.left) =
    c.in_err-push_element.ensures.many (ap Err (same_fault c.from_residual.result _ _ c.from_residual.ensures.1 e)) in
    let size = ap length c.loop-left.invariant.so_far ∙ length-map (all_upto b.weights b.elements c.args.d c.loop-left.left) obstruction_of in
    let all = joined-many (blocks b.weights b.elements c.args.d) 0 c.loop-left.left (length b.elements) c.args.most
    (length c.loop-left.found.items) c.loop-left.left
    (omega (arith, c.loop-left-test.true, c.len-left-end.ensures)) (omega arith) size more in
    ((in_order b kept c.requires c.args.d).list, are_obstructions b kept c.requires c.args.d, omega (arith, all, (in_order b kept c.requires c.args.d).size))

pub loop-left-preserved : goal.loop-left-preserved
loop-left-preserved c =
    let b = c.args.basis.now in
    let left = c.loop-left.left in
    let same : 0 + left ≡ left = omega arith in
    let grown : all_upto b.weights b.elements c.args.d (left + 1) ≡ all_upto b.weights b.elements c.args.d left ++ blocks b.weights b.elements c.args.d left =
    joined-more (blocks b.weights b.elements c.args.d) 0 left ∙ ap
    (λ (k : ℕ). all_upto b.weights b.elements c.args.d left ++ blocks b.weights b.elements c.args.d k) same in
    record {
      so_far = appended [] _ _ _ _ _ c.loop-left.invariant.so_far c.in_ok-push_element.ensures.blocks grown;
      within = c.in_ok-push_element.ensures.within;
    }

pub returns-clause-listed : goal.returns-clause-listed
returns-clause-listed c =
    let b = c.args.basis.now in
    let last : c.loop-left.left ≡ length b.elements = omega (arith, c.loop-left-test.false, c.loop-left.auto.left-end, c.len-left-end.ensures) in
    sorted_listed b c.done-done.ensures.kept c.requires c.args.d c.loop-left.found.items _
    (c.loop-left.invariant.so_far ∙ ap (λ (k : ℕ). map obstruction_of (all_upto b.weights b.elements c.args.d k)) last)
    c.sort.ensures.same c.sort.ensures.sorted

pub returns-clause-within : goal.returns-clause-within
returns-clause-within c = omega (arith, length_permutation _ _ c.sort.ensures.same, c.loop-left.invariant.within)
