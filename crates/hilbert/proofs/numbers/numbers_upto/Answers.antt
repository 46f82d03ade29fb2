use Rattle.std.proofs.Common.{◌≡◌, ◌+◌, ◌++◌, ◌∷◌, ◌≤◌, ◌∙◌, ℕ, [], Err, List, ap, arith, length, subst, sym}
use Rattle.normal_words.specs.Normal.{AreNormal, WordsOfDegree, next_of}
use Rattle.hilbert.specs.Series.{AreCounts, AreHeld}
use Rattle.hilbert.proofs.Steps.{IsNextHeld, counts-more, first_large, held-more, no_counts, none_next, normal_words_of}
use Rattle.hilbert.proofs.numbers.numbers_upto.Goals as goal

pub loop-degree-init : goal.loop-degree-init
loop-degree-init c =
    let weights = c.args.alphabet.now.weights in (
      λ G i. subst (AreCounts weights G c.args.most 0) (sym c.new-numbers.ensures.items) (no_counts weights G c.args.most),
      subst (IsNextHeld weights c.args.index.now 0) (sym c.new-held.ensures.items) (none_next weights c.args.index.now),
    )

pub words_after-requires-clause-held : goal.words_after-requires-clause-held
words_after-requires-clause-held c = subst (AreHeld c.args.alphabet.now.weights c.args.index.now) (sym c.as_slice.ensures.value)
    c.loop-degree.invariant.1.are_held

pub words_after-requires-clause-room : goal.words_after-requires-clause-room
words_after-requires-clause-room c =
    let room : next_of c.loop-degree.held.items ≤ 64 = omega (arith, c.loop-degree.invariant.1.is_next, c.requires.bound) in
    subst (λ (hs : List WordsOfDegree). next_of hs ≤ 64) (sym c.as_slice.ensures.value) room

pub hold-requires : goal.hold-requires
hold-requires c = c.loop-degree.invariant.1.few

pub returns-in-Err-TooMany-clause-limit : goal.returns-in-Err-TooMany-clause-limit
returns-in-Err-TooMany-clause-limit c = λ degree value below e G i.
    let weights = c.args.alphabet.now.weights in
    let leads = c.args.index.now in
    let d = c.loop-degree.degree in
    let m = c.in-Err-TooMany.ensures.many (ap Err c.in-Err-TooMany.field-0-is) in
    let next = ap next_of c.as_slice.ensures.value ∙ c.loop-degree.invariant.1.is_next in
    let normal = subst (λ (k : ℕ). AreNormal weights leads k m.0) next m.1 in
    let same : d ≡ degree = cc in
    let kept : c.from.result + 1 ≡ value = cc in
    let numbers : c.from_vec.result ≡ below = cc in
    first_large weights G c.args.most c.args.bound d degree value c.loop-degree.numbers.items below m.0 (omega arith)
    (c.loop-degree.invariant.0 G i) (normal_words_of weights G leads d m.0 i normal) m.2 same
    (omega (arith, kept, c.from.ensures)) (sym c.from_vec.ensures ∙ numbers)

pub loop-degree-preserved : goal.loop-degree-preserved
loop-degree-preserved c =
    let weights = c.args.alphabet.now.weights in
    let leads = c.args.index.now in
    let d = c.loop-degree.degree in
    let words = c.in-Ok.words.words in
    let numbers = c.loop-degree.numbers.items in
    let next = ap next_of c.as_slice.ensures.value ∙ c.loop-degree.invariant.1.is_next in
    let normal = subst (λ (k : ℕ). AreNormal weights leads k words) next c.in-Ok.ensures.words in
    let grown = c.in_ok-push_number-in-Ok.ensures ∙ ap (λ (us : List (List ℕ)). numbers ++ length us ∷ []) c.words-in-Ok.ensures in (
      λ G i. subst (AreCounts weights G c.args.most (d + 1)) (sym grown)
          (counts-more weights G c.args.most d numbers words (c.loop-degree.invariant.0 G i)
          (normal_words_of weights G leads d words i normal) c.in-Ok.ensures.within),
      subst (IsNextHeld weights leads (d + 1)) (sym c.in_ok-hold-in-Ok.ensures.last)
          (held-more weights leads c.loop-degree.held.items c.in-Ok.words d c.loop-degree.invariant.1 (c.in-Ok.ensures.degree ∙ next)
          normal),
    )

pub returns-clause-counts : goal.returns-clause-counts
returns-clause-counts c = λ G i.
    let last : c.loop-degree.degree ≡ c.args.bound + 1 = omega arith in
    subst (λ (k : ℕ). AreCounts c.args.alphabet.now.weights G c.args.most k c.loop-degree.numbers.items) last (c.loop-degree.invariant.0 G i)
