use Rattle.std.proofs.Common.{◌≡◌, ◌+◌, ◌-◌, ◌^◌, ◌<◌, ◌≤◌, ℕ, List, length, get_or, min, sym, ap, ◌∙◌, arith}
use Rattle.std.specs.List.{flat_map, range_with_len}
use Rattle.words.specs.Words.{weight_of, with_letter, words_of_degree}
use Rattle.degree_words.specs.Lists.{AreCounts}
use Rattle.degree_words.proofs.Listing.{before_letter, count_more, count_same, unfolds_at}
use Rattle.degree_words.proofs.counts.count_of.Goals as goal
use Rattle.degree_words.proofs.counts.count_of.Goals.{then-weight-k, else-weight-k}

-- the words of one more letter are counted by the number of a lower degree
counted : (weights counts : List ℕ) (k x weight count next : ℕ) → AreCounts weights counts k → weight ≡ weight_of weights x → 0 < weight →
    weight ≤ k → count ≡ min (length (before_letter weights (words_of_degree weights) k x x)) (2 ^ 64 - 1)
    → next ≡ min (count + get_or counts (k - weight) 0) (2 ^ 64 - 1) →
    next ≡ min (length (before_letter weights (words_of_degree weights) k x (x + 1))) (2 ^ 64 - 1)
counted weights counts k x weight count next h is some le c e =
    e ∙ count_more weights (words_of_degree weights) k x (2 ^ 64 - 1) count (get_or counts (k - weight) 0) (omega (arith, is, le)) c
    (ap (λ (n : ℕ). get_or counts (k - n) 0) is ∙ h.counted (k - weight_of weights x) (omega (arith, some, le, is)))

pub loop-letter-preserved : goal.loop-letter-preserved
loop-letter-preserved c =
    let weights = c.args.alphabet.now.weights in
    let x = c.loop-letter.letter in
    let is : c.from-weight.result ≡ weight_of weights x = c.from-weight.ensures ∙ c.weight.ensures.value in
    let some : 0 < c.from-weight.result = omega (arith, is, c.weight.ensures.some, c.weight.ensures.value) in
    elim c.if-weight-k.branch [
      | then-weight-k w ↦ counted weights c.args.counts.now c.args.k x c.from-weight.result c.loop-letter.count c.if-weight-k.count
          c.requires.counts is some w.if-weight-k.true c.loop-letter.invariant (w.count-is ∙ w.saturating_add-count.ensures)
      | else-weight-k w ↦ w.count-is ∙ count_same weights (words_of_degree weights) c.args.k x (2 ^ 64 - 1) c.loop-letter.count
          (omega (arith, is, w.if-weight-k.false)) c.loop-letter.invariant
    ]

pub returns : goal.returns
returns c =
    let weights = c.args.alphabet.now.weights in
    let last : c.loop-letter.letter ≡ length weights = omega (arith, c.len-letter-end.ensures.count) in
    c.loop-letter.invariant
    ∙ ap (λ (n : ℕ). min (length (flat_map (with_letter weights (words_of_degree weights) c.args.k) (range_with_len 0 n))) (2 ^ 64 - 1)) last
    ∙ ap (λ (ws : List (List ℕ)). min (length ws) (2 ^ 64 - 1)) (sym (unfolds_at weights c.len-letter-end.ensures.alphabet.weights c.args.k c.requires.some))
