use Rattle.std.proofs.Common.{◌+◌, ◌*◌, ◌/◌, ◌<◌, ◌≤◌, ℕ, List, Option, get_or, length, arith, rules, w64}
use Rattle.std.specs.Int.{trailing_zeros}
use Rattle.row_store.specs.declared.left.Left.{Left}
use Rattle.row_store.specs.Blocks.{AreWalked}
use Rattle.row_store.specs.Entries.{reducers_over, Reducer}
use Rattle.row_store.proofs.LaneViews.{length-lane}
use Rattle.row_store.proofs.LaneWalk.{lanes_walk, one_of}
use Rattle.row_store.proofs.WordWalks.{word_ends, word_first, word_next, word_over, word_stepped}
use Rattle.row_store.proofs.block.clear_word.Goals as goal

pub returns-then-rest-eq0 : goal.returns-then-rest-eq0
returns-then-rest-eq0 c = word_ends c.args.k c.loop-step.step c.loop-step.bits
    (lanes_walk c.args.p (reducers_over c.args.closed.now) (omega (arith, c.requires.clearing.modulus)) c.loop-step.sums c.loop-step.bits c.loop-step.left)
    c.loop-step.invariant c.if-rest-eq0.true

pub clear_column-requires-clause-within : goal.clear_column-requires-clause-within
clear_column-requires-clause-within c =
    let h = c.loop-step.invariant.3 c.requires.walked.0 c.requires.walked.1 in
    let first = word_first c.loop-step.bits c.args.k c.if-rest-eq0.false (search rules) in
    let low = (h.each 0 (one_of c.loop-step.left h.count) (omega arith)).marks.within
    (c.args.k * 64 + trailing_zeros w64 (get_or c.loop-step.bits c.args.k 0)) first.1 in
    omega (arith, low, length-lane c.loop-step.sums 0)

pub clear_column-requires-clause-walked : goal.clear_column-requires-clause-walked
clear_column-requires-clause-walked c = (
  c.requires.walked.0,
  word_next c.args.k c.loop-step.step c.loop-step.bits
      (lanes_walk c.args.p (reducers_over c.args.closed.now) (omega (arith, c.requires.clearing.modulus)) c.loop-step.sums c.loop-step.bits c.loop-step.left)
      c.loop-step.invariant c.if-rest-eq0.false (search rules) c.requires.walked.0 c.requires.walked.1,
)

pub loop-step-preserved : goal.loop-step-preserved
loop-step-preserved c = word_stepped c.args.k c.loop-step.step c.loop-step.bits
    (lanes_walk c.args.p (reducers_over c.args.closed.now) (omega (arith, c.requires.clearing.modulus)) c.loop-step.sums c.loop-step.bits c.loop-step.left)
    c.loop-step.invariant c.if-rest-eq0.false (search rules) c.requires.walked.0 c.requires.walked.1 (λ s h. c.in_ok-clear_column.ensures s h)

pub loop-step-init : goal.loop-step-init
loop-step-init c = (c.args.k * 64, omega arith, omega arith, λ s h. h)

pub returns : goal.returns
returns c = word_over c.args.k c.loop-step.step c.loop-step.bits
    (lanes_walk c.args.p (reducers_over c.args.closed.now) (omega (arith, c.requires.clearing.modulus)) c.loop-step.sums c.loop-step.bits c.loop-step.left)
    c.loop-step.invariant (omega arith)

-- the word stands for few columns
few : (p : ℕ) (rs : List (Option Reducer)) (starts : ℕ → List ℕ) (at k : ℕ) (sums bits : List ℕ) (left : List Left) →
    AreWalked p rs starts at sums bits left → k < length bits → length sums / 8 ≤ 1048576 → k * 64 ≤ 1048576
few p rs starts at k sums bits left h within most = omega (
  arith,
  (h.each 0 (one_of left h.count) (omega arith)).marks.words,
  length-lane sums 0,
  within,
  most,
)

pub overflow_mul-at : goal.overflow_mul-at
overflow_mul-at c =
    let low = few c.args.p (reducers_over c.args.closed.now) c.requires.walked.0 (c.args.k * 64) c.args.k c.args.sums.now c.args.bits.now c.args.left.now
    c.requires.walked.1 c.requires.within c.requires.clearing.few in
    omega (arith, low)

pub overflow_add-at : goal.overflow_add-at
overflow_add-at c =
    let low = few c.args.p (reducers_over c.args.closed.now) c.requires.walked.0 (c.args.k * 64) c.args.k c.args.sums.now c.args.bits.now c.args.left.now
    c.requires.walked.1 c.requires.within c.requires.clearing.few in
    omega (arith, low, (word_first c.loop-step.bits c.args.k c.if-rest-eq0.false (search rules)).0)
