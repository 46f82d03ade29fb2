use Rattle.std.proofs.Common.{◌≡◌, ◌++◌, ◌-◌, ℕ, List, arith, length, length-take, take, sym, ap, ◌∙◌}
use Rattle.words.specs.Words.{degree_of}
use Rattle.words.proofs.Weights.{degree_of-more, degree_of-take, length-le-degree_of}
use Rattle.anick_chains.specs.Walk.{ends_of}
use Rattle.anick_chains.proofs.Members.{joined, joined-one}
use Rattle.anick_chains.proofs.next.next_pieces.Goals as goal

pub overflow_sub-d : goal.overflow_sub-d
overflow_sub-d c =
    omega (arith, c.loop-before.invariant.degree, degree_of-take c.args.tips.now.basis.now.weights c.args.piece.now c.loop-before.before, c.requires.fits)

pub push_ends-requires-clause-room : goal.push_ends-requires-clause-room
push_ends-requires-clause-room c =
    let ws = c.args.tips.now.basis.now.weights in
    let front = take c.loop-before.before c.args.piece.now in
    omega (
      arith,
      c.loop-before.invariant.degree,
      c.requires.room,
      c.requires.fits,
      c.loop-before-test.true,
      degree_of-take ws c.args.piece.now c.loop-before.before,
      length-le-degree_of ws c.requires.tips.kept.weights front,
      length-take c.loop-before.before c.args.piece.now,
    )

pub overflow_add-degree : goal.overflow_add-degree
overflow_add-degree c =
    omega (
      arith,
      c.loop-before.invariant.degree,
      degree_of-take c.args.tips.now.basis.now.weights c.args.piece.now c.loop-before.before,
      c.requires.fits,
      c.requires.room,
      c.weight.ensures.small,
      c.from-degree.ensures,
    )

pub loop-before-preserved : goal.loop-before-preserved
loop-before-preserved c =
    let b = c.args.tips.now.basis.now in
    let q = c.args.piece.now in
    let at = c.loop-before.before in
    let f : ℕ → List (List ℕ) = λ k. ends_of b.weights b.elements q k (c.args.d - degree_of b.weights (take k q)) in
    record {
      degree = omega (
        arith,
        c.loop-before.invariant.degree,
        c.from-degree.ensures,
        c.weight.ensures.value,
        degree_of-more b.weights q at c.loop-before-test.true,
      );
      so_far = c.in_ok-push_ends.ensures
          ∙ ap (λ (rs : List (List ℕ)). rs ++ ends_of b.weights b.elements q at (c.args.d - c.loop-before.degree)) c.loop-before.invariant.so_far
          ∙ ap (λ (n : ℕ). joined f at ++ ends_of b.weights b.elements q at (c.args.d - n)) c.loop-before.invariant.degree ∙ sym (joined-one f at);
    }

pub returns : goal.returns
returns c =
    let b = c.args.tips.now.basis.now in
    let q = c.args.piece.now in
    let last : c.loop-before.before ≡ length q = omega (arith, c.loop-before-test.false, c.loop-before.auto.before-end) in
    c.loop-before.invariant.so_far ∙ ap (joined (λ (k : ℕ). ends_of b.weights b.elements q k (c.args.d - degree_of b.weights (take k q)))) last
