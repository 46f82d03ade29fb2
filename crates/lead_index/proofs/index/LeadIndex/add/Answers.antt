use Rattle.std.proofs.Common.{◌++◌, ◌∷◌, ◌∙◌, [], ℕ, List, ap, drop, subst, sym}
use Rattle.lead_index.specs.declared.lead.Lead.{Lead}
use Rattle.lead_index.specs.declared.tree.Node.{Node}
use Rattle.lead_index.specs.Leads.{IsFresh, IsIndex}
use Rattle.lead_index.specs.Tree.{HasPath, IsAttached, IsTree}
use Rattle.lead_index.proofs.Grown.{grown}
use Rattle.lead_index.proofs.LeadLemmas.{IsIndex-added, take-drop_rest}
use Rattle.lead_index.proofs.Trees.{IsTree-grown}
use Rattle.lead_index.proofs.index.LeadIndex.add.Goals as goal

pub invariant_of-self-2 : goal.invariant_of-self-2
invariant_of-self-2 c =
    let leads : List Lead = c.self.inside.leads.items in
    let letters : List ℕ = c.args.lead.now in
    let old : List Node = c.self.inside.nodes.items in
    let mid : List Node = c.attach-place.new.nodes.items in
    let new : List Node = c.push_path.new.nodes.items in
    let place : ℕ = c.attach-place.result in
    let fresh : IsFresh leads letters = subst (λ (xs : List Lead). IsFresh xs letters) (sym c.self.view_is) c.requires in
    let attached : IsAttached old mid letters place = subst (λ (xs : List Node). IsAttached xs mid letters place)
    c.in_ok-reserve.ensures.items c.attach-place.ensures.attached in
    let path : HasPath mid new (drop place letters) c.args.element =
    subst (λ (xs : List ℕ). HasPath mid new xs c.args.element) (take-drop_rest letters place) c.push_path.ensures in
    let g = grown old mid new leads letters c.args.element place c.self.invariant.1 fresh attached path in
    let tree = IsTree-grown old new leads g.0 (drop place letters) letters c.args.element c.self.invariant.1 g.1 in
    let index = IsIndex-added leads (record { word = letters; element = c.args.element }) c.self.invariant.0 fresh in
    let items = c.in_ok-push.ensures.items ∙ ap (λ (w : List ℕ). leads ++ record { word = w; element = c.args.element } ∷ []) c.in_ok-word.ensures in
    (subst IsIndex (sym items) index, subst (λ (xs : List Lead). IsTree new xs) (sym items) tree, tt)
