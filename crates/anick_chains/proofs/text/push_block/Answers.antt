use Rattle.std.proofs.Common.{◌≡◌, ◌++◌, Bool, List, ℕ, OnOk, if◌then◌else◌, length, subst, sym, ap, ◌∙◌, [], append_assoc}
use Rattle.std.specs.List.{flat_map}
use Rattle.std.proofs.lemmas.List.{length-map}
use Rattle.std.proofs.lemmas.List.Folds.{flat_map-map}
use Rattle.anick_chains.specs.declared.chain.Chain.{Chain}
use Rattle.anick_chains.specs.Listed.{pieces_of}
use Rattle.anick_chains.specs.Texts.{chain_line, count_line}
use Rattle.anick_chains.proofs.text.push_block.Goals as goal

pub returns : goal.returns
returns c =
    let names = c.args.alphabet.now.names in
    let chains = c.args.chains.now in
    let head : ℕ → List ℕ = count_line c.args.degree c.args.size in
    let lines : List ℕ = flat_map (λ (x : Chain). chain_line names x.pieces) chains in
    let whole : c.push_count.new.text.items ++ lines ≡ c.args.text.now.items
    ++ (head (length (pieces_of chains)) ++ (if c.args.list then flat_map (chain_line names) (pieces_of chains) else [])) =
    ap (λ (t : List ℕ). t ++ lines) c.in_ok-push_count.ensures ∙ append_assoc c.args.text.now.items (head (length chains)) lines
    ∙ ap (λ (n : ℕ). c.args.text.now.items ++ (head n ++ lines)) (sym (length-map chains (λ (x : Chain). x.pieces)))
    ∙ ap (λ (t : List ℕ). c.args.text.now.items ++ (head (length (pieces_of chains)) ++ t))
    (sym (flat_map-map (chain_line names) (λ (x : Chain). x.pieces) chains))
    ∙ ap (λ (b : Bool). c.args.text.now.items ++ (head (length (pieces_of chains))
    ++ (if b then flat_map (chain_line names) (pieces_of chains) else []))) (sym c.if-not-list.false) in
    subst (λ (t : List ℕ). OnOk c.push_lines.result (c.push_lines.new.text.items ≡ t)) whole c.push_lines.ensures
