use Rattle.std.proofs.Common.{◌≡◌, ◌+◌, ◌*◌, ◌/◌, ◌≤◌, ℕ, length, get_or, sym, ap, ◌∙◌, arith}
use Rattle.row_store.specs.Blocks.{lane}
use Rattle.row_store.specs.Entries.{reducers_over}
use Rattle.row_store.proofs.LaneViews.{length-lane}
use Rattle.row_store.proofs.LaneWalk.{lanes_end, lanes_marks, lanes_zeros}
use Rattle.row_store.proofs.WordWalks.{words_past}
use Rattle.row_store.proofs.Walk.{walk_start}
use Rattle.row_store.proofs.block.clear_block.Goals as goal

pub loop-k-init : goal.loop-k-init
loop-k-init c = record {
  whole = c.requires.whole;
  count = c.requires.count;
  each = λ i d low. (
      let none = c.requires.nothing i d (omega (arith, low, c.requires.count)) in
      walk_start c.args.p (reducers_over c.args.closed.now) (lane c.args.sums.now i) (omega (arith, c.requires.clearing.modulus)) c.args.bits.now
      (get_or c.args.left.now i d) (c.requires.rows i low) (c.requires.marks i low) none.0 none.1);
}

-- all columns are done
done : (c : goal.After-loop-k) → length c.loop-k.sums / 8 ≤ c.loop-k.k * 64
done c =
    let size : length c.loop-k.sums / 8 ≡ length c.args.sums.now / 8 = ap (λ (n : ℕ). n / 8) c.loop-k.auto.sums in
    let words : length c.args.bits.now ≡ length c.args.sums.now / 8 / 64 + 1 =
    (c.requires.marks 0 (omega arith)).words ∙ ap (λ (n : ℕ). n / 64 + 1) (length-lane c.args.sums.now 0) in
    omega (arith, size, words_past (length c.args.sums.now / 8) (length c.args.bits.now) c.loop-k.k words c.loop-k-test.false)

pub returns-clause-left : goal.returns-clause-left
returns-clause-left c =
    lanes_end c.args.p (reducers_over c.args.closed.now) (λ i. lane c.args.sums.now i) (omega (arith, c.requires.clearing.modulus)) (c.loop-k.k * 64)
    c.loop-k.sums c.loop-k.bits c.loop-k.left (done c) c.loop-k.invariant
    (c.requires.clearing.lists.size ∙ ap (λ (n : ℕ). n / 8) (sym c.loop-k.auto.sums))

pub returns-clause-sums : goal.returns-clause-sums
returns-clause-sums c =
    lanes_zeros c.args.p (reducers_over c.args.closed.now) (λ i. lane c.args.sums.now i) (omega (arith, c.requires.clearing.modulus)) (c.loop-k.k * 64)
    c.loop-k.sums c.loop-k.bits c.loop-k.left (done c) c.loop-k.invariant

pub returns-clause-bits : goal.returns-clause-bits
returns-clause-bits c =
    lanes_marks c.args.p (reducers_over c.args.closed.now) (λ i. lane c.args.sums.now i) (omega (arith, c.requires.clearing.modulus)) (c.loop-k.k * 64)
    c.loop-k.sums c.loop-k.bits c.loop-k.left (done c) c.loop-k.invariant

pub loop-k-preserved : goal.loop-k-preserved
loop-k-preserved c = c.in_ok-clear_word.ensures (λ i. lane c.args.sums.now i) c.loop-k.invariant
