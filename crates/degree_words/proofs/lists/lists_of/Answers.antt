use Rattle.std.proofs.Common.{◌≡◌, ◌+◌, ◌-◌, ◌^◌, ◌++◌, ◌∷◌, [], ℕ, List, Global, Vec, length, min, get_or, subst, sym, ap, ◌∙◌, arith}
use Rattle.std.specs.List.{flat_map, range_with_len}
use Rattle.std.proofs.lemmas.List.{nil_from_length}
use Rattle.words.specs.Words.{with_letter, words_of_degree}
use Rattle.degree_words.specs.Lists.{AreLists, list_at}
use Rattle.degree_words.proofs.Listing.{list_unfolds, lists_more}
use Rattle.degree_words.proofs.lists.lists_of.Goals as goal
use Rattle.degree_words.proofs.lists.lists_of.Goals.{then-counts-d-eq0, else-counts-d-eq0+then-k-eq0+in_ok-words, else-counts-d-eq0+else-k-eq0+in_ok-words-2}

pub loop-k-preserved : goal.loop-k-preserved
loop-k-preserved c =
    let weights = c.args.alphabet.now.weights in
    let counts = c.args.counts.now in
    let d = c.args.d in
    let k = c.loop-k.k in
    let lists = c.loop-k.lists.items in
    let words = c.if-counts-d-eq0.words.items in
    let items = λ (v : Vec (List ℕ) Global). v.items in
    let count : get_or counts (d - k) 0 ≡ min (length (words_of_degree weights (d - k))) (2 ^ 64 - 1) = c.requires.counts.counted (d - k) (omega arith) in
    let pushed : c.push.new.self.items ≡ lists ++ words ∷ [] = c.in_ok-push.ensures.items ∙ ap (λ (ws : List (List ℕ)). lists ++ ws ∷ []) c.from_vec.ensures in
    let size : words_of_degree weights (d - k) ≡ [] → length (words_of_degree weights (d - k)) ≡ 0 = ap length in
    subst (λ (ls : List (List (List ℕ))). AreLists weights d ls (k + 1)) (sym pushed) (elim c.if-counts-d-eq0.branch [
      | then-counts-d-eq0 w ↦
          (let none : words_of_degree weights (d - k) ≡ [] = nil_from_length (words_of_degree weights (d - k)) (omega (arith, count, w.if-counts-d-eq0.true)) in
          lists_more weights d k lists words c.loop-k.invariant (λ some. absurd (some none)) (λ _. ap items w.words-is ∙ w.new-words.ensures.items))
      | else-counts-d-eq0+then-k-eq0+in_ok-words w ↦
          lists_more weights d k lists words c.loop-k.invariant
          (λ some. ap items w.words-is ∙ w.in_ok-words.ensures ∙ ap (words_of_degree weights) (sym w.if-k-eq0.true))
          (λ none. absurd (omega (arith, size none, count, w.if-counts-d-eq0.false)))
      | else-counts-d-eq0+else-k-eq0+in_ok-words-2 w ↦
          lists_more weights d k lists words c.loop-k.invariant
          (λ some. ap items w.words-is ∙ w.in_ok-words-2.ensures ∙ ap
          (λ (ls : List (List (List ℕ))). flat_map (with_letter weights (list_at ls) k) (range_with_len 0 (length weights)))
          w.as_slice.ensures.value
          ∙ list_unfolds weights c.len-letters.ensures.alphabet.weights d k lists (omega (arith, w.if-k-eq0.false))
          (omega (arith, c.loop-k-test.true)) c.loop-k.invariant some)
          (λ none. absurd (omega (arith, size none, count, w.if-counts-d-eq0.false)))
    ])
