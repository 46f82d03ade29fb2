use Rattle.std.proofs.Common.{List, subst, sym}
use Rattle.lead_index.specs.declared.lead.Lead.{Lead}
use Rattle.lead_index.specs.declared.tree.Node.{Node}
use Rattle.lead_index.specs.Leads.{IsIndex}
use Rattle.lead_index.specs.Tree.{IsTree}
use Rattle.lead_index.proofs.Answering.{answered}
use Rattle.lead_index.proofs.LeadLemmas.{take-drop_rest}
use Rattle.lead_index.proofs.index.LeadIndex.starts.Goals as goal

pub returns-in-Some-clause-element : goal.returns-in-Some-clause-element
returns-in-Some-clause-element c =
    let index : IsIndex c.args.self.now = subst IsIndex c.self.view_is c.self.invariant.0 in
    let own : IsTree c.self.inside.nodes.items c.args.self.now = subst (λ (ls : List Lead). IsTree c.self.inside.nodes.items ls)
    c.self.view_is c.self.invariant.1 in
    let tree : IsTree c.as_slice.result.now c.args.self.now = subst (λ (xs : List Node). IsTree xs c.args.self.now) (sym c.as_slice.ensures.value) own in
    answered c.as_slice.result.now c.args.self.now c.args.word.now _ c.args.at index tree c.requires.within
    (take-drop_rest c.args.word.now c.args.at) c.element.result c.element.ensures

pub returns-in-None-clause-element : goal.returns-in-None-clause-element
returns-in-None-clause-element c =
    let index : IsIndex c.args.self.now = subst IsIndex c.self.view_is c.self.invariant.0 in
    let own : IsTree c.self.inside.nodes.items c.args.self.now = subst (λ (ls : List Lead). IsTree c.self.inside.nodes.items ls)
    c.self.view_is c.self.invariant.1 in
    let tree : IsTree c.as_slice-in-None.result.now c.args.self.now =
    subst (λ (xs : List Node). IsTree xs c.args.self.now) (sym c.as_slice-in-None.ensures.value) own in
    answered c.as_slice-in-None.result.now c.args.self.now c.args.word.now _ c.args.at index tree c.requires.within
    (take-drop_rest c.args.word.now c.args.at) c.first_element.result c.first_element.ensures
