use Rattle.std.proofs.Common.{◌≡◌, ◌++◌, ◌-◌, List, ℕ, OnOk, Some, codes, drop, length, take, rules, subst, sym, ap, ◌∙◌, append_assoc}
use Rattle.std.specs.List.{flat_map, join_by, slice_get}
use Rattle.poly_writer.specs.Texts.{word_text}
use Rattle.anick_chains.proofs.Blocks.{joined_pieces}
use Rattle.anick_chains.proofs.text.push_pieces.Goals as goal

pub returns : goal.returns
returns c =
    let f : List ℕ → List ℕ = word_text c.args.alphabet.now.names in
    let pieces = c.args.pieces.now in
    let first : slice_get pieces 0 ≡ Some c.in-Some.first.now = search rules in
    let rest : List ℕ = flat_map (λ y. codes "|" ++ f y) (take (length pieces - 1) (drop 1 pieces)) in
    let whole : c.push_word.new.text.items ++ rest ≡ c.args.text.now.items ++ join_by f (codes "|") pieces =
    ap (λ (t : List ℕ). t ++ rest) c.in_ok-push_word.ensures ∙ ap (λ (w : List ℕ). (c.args.text.now.items ++ f w) ++ rest) c.letters.ensures
    ∙ append_assoc c.args.text.now.items (f c.in-Some.first.now) rest
    ∙ ap (λ (t : List ℕ). c.args.text.now.items ++ t) (sym (joined_pieces f (codes "|") pieces c.in-Some.first.now first)) in
    subst (λ (t : List ℕ). OnOk c.push_rest.result (c.push_rest.new.text.items ≡ t)) whole c.push_rest.ensures
