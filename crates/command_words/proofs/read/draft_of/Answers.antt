use Rattle.std.proofs.Common.{◌++◌, ◌+◌, ◌≡◌, ◌≤◌, ◌∷◌, List, [], ap, arith, length, get_or, length-take, map, rules, refl, subst, sym, take, ◌∙◌, ℕ}
use Rattle.std.specs.Prelude.{string_bytes}
use Rattle.std.proofs.lemmas.List.{length-map}
use Rattle.command_words.specs.Refusals.{IsRefused}
use Rattle.command_words.specs.JobOf.{IsFirstRefusal}
use Rattle.command_words.specs.Draft.{IsDraft}
use Rattle.command_words.proofs.Drafts.{draft_more, draft_none, few, refused_so}
use Rattle.command_words.proofs.Parts.{map-split, map-take-more}
use Rattle.command_words.proofs.read.draft_of.Goals as goal

pub loop-word-init : goal.loop-word-init
loop-word-init c = record { draft = draft_none c.args.command c.new-draft.result.values c.new-draft.ensures; counted = refl }

pub loop-word-preserved : goal.loop-word-preserved
loop-word-preserved c =
    let words = c.args.words.now in
    let before = map string_bytes (take c.loop-word.word-index words) in
    let word = c.as_bytes.ensures.value ∙ ap string_bytes c.word-item.is in
    let more = draft_more c.args.command before c.loop-word.draft.values c.loop-word.invariant.draft c.take.new.self.values
    c.as_bytes.result.now c.in_ok-take.ensures in
    let all = sym (map-take-more string_bytes words c.loop-word.word-index c.word-item.result c.loop-word-test.true) in
    record {
      draft = subst (λ (ws : List (List ℕ)). IsDraft c.args.command ws c.take.new.self.values) all
          (subst (λ (w : List ℕ). IsDraft c.args.command (before ++ w ∷ []) c.take.new.self.values) word more);
      counted = omega (arith, c.loop-word.invariant.counted);
    }

pub returns-in_err-take : goal.returns-in_err-take
returns-in_err-take c =
    let words = c.args.words.now in
    let before = map string_bytes (take c.loop-word.word-index words) in
    let item = string_bytes (get_or words c.loop-word.word-index c.word-item.result) in
    let word = c.as_bytes.ensures.value ∙ ap string_bytes c.word-item.is in
    let fault = c.in_err-take.field-0.0 in
    let number : c.loop-word.number ≡ length before + 2 = omega (
      arith,
      c.loop-word.invariant.counted,
      length-map (take c.loop-word.word-index words) string_bytes,
      length-take c.loop-word.word-index words,
      c.loop-word-test.true,
    ) in
    let refused = refused_so c.args.command before c.loop-word.draft.values c.loop-word.invariant.draft c.as_bytes.result.now
    c.loop-word.number fault number c.in_err-take.ensures in
    let parts = map-split string_bytes words c.loop-word.word-index c.word-item.result c.loop-word-test.true in
    let first : IsFirstRefusal c.args.command (map string_bytes words) fault = record {
      before = before;
      word = item;
      after = parts.0;
      words_are = parts.1;
      taken = c.loop-word.invariant.draft.taken;
      refused = subst (λ (w : List ℕ). IsRefused c.args.command before w fault) word refused;
    } in
    search (rules, first)

pub overflow_add-number : goal.overflow_add-number
overflow_add-number c =
    let words = c.args.words.now in
    let before = map string_bytes (take c.loop-word.word-index words) in
    let most : length before ≤ 12 = few c.args.command before c.loop-word.draft.values c.loop-word.invariant.draft in
    omega (
      arith,
      most,
      c.loop-word.invariant.counted,
      length-map (take c.loop-word.word-index words) string_bytes,
      length-take c.loop-word.word-index words,
      c.loop-word-test.true,
    )
