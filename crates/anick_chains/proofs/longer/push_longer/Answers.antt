use Rattle.std.proofs.Common.{◌≡◌, ◌≤◌, ◌+◌, ◌++◌, ◌-◌, List, ℕ, OnOk, length, arith, subst, ap, ◌∙◌}
use Rattle.words.specs.Words.{degree_of}
use Rattle.anick_chains.specs.Chains.{chain_degree}
use Rattle.anick_chains.specs.Listed.{with_degree}
use Rattle.anick_chains.specs.Walk.{continued, last_piece, next_of, next_pieces}
use Rattle.anick_chains.proofs.LastPieces.{last_piece-degree}
use Rattle.anick_chains.proofs.longer.push_longer.Goals as goal

-- what was counted is the degree of the last piece, a part of that of the chain
last_degree : (weights own piece : List ℕ) (n : ℕ) (pieces items : List (List ℕ)) → n ≡ degree_of own piece → own ≡ weights →
    piece ≡ last_piece items → items ≡ pieces → (n ≡ degree_of weights (last_piece pieces)) × (n ≤ chain_degree weights pieces)
last_degree weights own piece n pieces items counted same last is =
    let degree : n ≡ degree_of weights (last_piece pieces) = counted ∙ (λ i. degree_of (same i) ((last ∙ ap last_piece is) i)) in
    (degree, omega (arith, degree, last_piece-degree weights pieces))

pub overflow_cast-both : goal.overflow_cast-both
overflow_cast-both c =
    let weights = c.as_slice.ensures.value ∙ c.requires.tips.weighted in
    let degree = last_degree _ _ _ _ _ _ c.word_degree.ensures weights c.last_piece-last.ensures c.as_slice-pieces.ensures in
    omega (arith, degree.1, c.requires.below, c.requires.degree, c.requires.room)

pub overflow_add-both : goal.overflow_add-both
overflow_add-both c =
    let weights = c.as_slice.ensures.value ∙ c.requires.tips.weighted in
    let degree = last_degree _ _ _ _ _ _ c.word_degree.ensures weights c.last_piece-last.ensures c.as_slice-pieces.ensures in
    omega (arith, degree.1, c.requires.below, c.requires.degree, c.requires.room)

pub next_pieces-requires-clause-room : goal.next_pieces-requires-clause-room
next_pieces-requires-clause-room c =
    let weights = c.as_slice.ensures.value ∙ c.requires.tips.weighted in
    let degree = last_degree _ _ _ _ _ _ c.word_degree.ensures weights c.last_piece-last.ensures c.as_slice-pieces.ensures in
    omega (arith, degree.1, c.requires.below, c.requires.degree, c.requires.room)

pub returns : goal.returns
returns c =
    let b = c.args.tips.now.basis.now in
    let front = c.as_slice-pieces.ensures in
    let last : c.last_piece-last.result.now ≡ last_piece c.args.chain.now.pieces = c.last_piece-last.ensures ∙ ap last_piece front in
    let weights = c.as_slice.ensures.value ∙ c.requires.tips.weighted in
    let degree = last_degree _ _ _ _ _ _ c.word_degree.ensures weights c.last_piece-last.ensures front in
    let next : c.in_ok-next.next.items ≡ next_of b.weights b.elements c.args.degree c.args.chain.now.pieces =
    c.in_ok-next.ensures ∙ ap (λ (w : List ℕ). next_pieces b.weights b.elements w (c.word_degree.result + (c.args.degree - c.args.chain.now.degree))) last
    ∙ ap (next_pieces b.weights b.elements (last_piece c.args.chain.now.pieces)) (omega (arith, degree.0, c.requires.degree)) in
    record {
      longer =
          subst (λ (f : List (List ℕ)). OnOk c.push_continued.result (c.push_continued.new.block.items ≡ c.args.block.now.items
          ++ with_degree c.args.degree (continued f (next_of b.weights b.elements c.args.degree c.args.chain.now.pieces)))) front
          (subst (λ (n : List (List ℕ)). OnOk c.push_continued.result (c.push_continued.new.block.items ≡ c.args.block.now.items
          ++ with_degree c.args.degree (continued c.as_slice-pieces.result.now n))) next c.push_continued.ensures.continued);
      within = c.push_continued.ensures.within;
      many = λ d e. let m = c.push_continued.ensures.many d e in (m.0, omega (arith, m.1, ap length next));
    }
