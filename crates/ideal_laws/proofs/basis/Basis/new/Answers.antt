use Rattle.std.proofs.Common.{◌≡◌, ℕ, List, take, sym, ap, ◌∙◌, subst}
use Rattle.free_poly.specs.declared.term.Term.{Term}
use Rattle.ideal_laws.specs.Kept.{IsStored}
use Rattle.ideal_laws.proofs.Grown.{stored_none}
use Rattle.ideal_laws.proofs.basis.Basis.new.Goals as goal

pub invariant_of-result : goal.invariant_of-result
invariant_of-result c =
    let weights : take c.len.result c.weights_of.result ≡ c.args.alphabet.now.weights =
    ap (λ (n : ℕ). take n c.weights_of.result) c.len.ensures.count ∙ c.weights_of.ensures.kept in
    let elements = c.new.ensures.items in
    subst (λ (ws : List ℕ). IsStored (record { weights = ws; done = 0; elements = c.new.result.items }) c.no_ends.result) (sym weights)
    (subst (λ (fs : List (List Term)). IsStored (record { weights = c.args.alphabet.now.weights; done = 0; elements = fs }) c.no_ends.result) (sym elements)
    (stored_none c.args.alphabet.now.weights c.no_ends.result c.len.ensures.alphabet.some c.len.ensures.few c.weights_of.ensures.weights
    c.no_ends.ensures.size c.no_ends.ensures.none))

pub returns-clause-kept : goal.returns-clause-kept
returns-clause-kept c = (invariant_of-result c).kept
