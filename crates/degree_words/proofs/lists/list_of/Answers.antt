use Rattle.std.proofs.Common.{◌≡◌, ◌-◌, ◌<◌, ◌++◌, ◌∷◌, [], ℕ, List, Global, Vec, map, ap, ◌∙◌, arith}
use Rattle.std.proofs.lemmas.List.{get_or_read}
use Rattle.words.specs.Words.{weight_of}
use Rattle.degree_words.specs.Lists.{list_at}
use Rattle.degree_words.proofs.Listing.{list_more, list_same}
use Rattle.degree_words.proofs.lists.list_of.Goals as goal
use Rattle.degree_words.proofs.lists.list_of.Goals.{then-weight-k+in_ok-push_words, else-weight-k}

pub loop-letter-preserved : goal.loop-letter-preserved
loop-letter-preserved c =
    let weights = c.args.alphabet.now.weights in
    let lists = c.args.lists.now in
    let k = c.args.k in
    let x = c.loop-letter.letter in
    let old = c.loop-letter.words.items in
    let n = c.from-weight.result in
    let items = λ (v : Vec (List ℕ) Global). v.items in
    let is : n ≡ weight_of weights x = c.from-weight.ensures ∙ c.weight.ensures.value in
    let some : 0 < n = omega (arith, c.from-weight.ensures, c.weight.ensures.some) in
    elim c.if-weight-k.branch [
      | then-weight-k+in_ok-push_words w ↦
          ap items w.words-is ∙ w.in_ok-push_words.ensures
          ∙ ap (λ (tails : List (List ℕ)). old ++ map (λ w. x ∷ w) tails)
          (w.as_slice-tails.ensures ∙ get_or_read lists (k - n) w.index-lists-k.result
          (omega (arith, some, w.if-weight-k.true, c.requires.below)) w.index-lists-k.is [] ∙ ap (λ (m : ℕ). list_at lists (k - m)) is)
          ∙ list_more weights (list_at lists) k x old (omega (arith, is, w.if-weight-k.true)) c.loop-letter.invariant
      | else-weight-k w ↦ ap items w.words-is ∙ list_same weights (list_at lists) k x old (omega (arith, is, w.if-weight-k.false)) c.loop-letter.invariant
    ]
