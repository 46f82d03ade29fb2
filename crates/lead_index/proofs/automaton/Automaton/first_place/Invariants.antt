use Rattle.std.proofs.Common.{◌<◌, List, length}
use Rattle.lead_index.specs.declared.lead.Lead.{Lead}
use Rattle.lead_index.specs.Leads.{IsIndex}
use Rattle.lead_index.specs.Tree.{IsTree}
use Rattle.lead_index.proofs.Scans.{IsScan}
use Rattle.lead_index.proofs.automaton.Automaton.first_place.Given as goal

abbrev pub invariant-loop-i : goal.invariant-loop-i
invariant-loop-i l = (l.state < length l.nodes)
    × ((leads : List Lead) → IsIndex leads → (tree : IsTree l.nodes leads) → IsScan leads l.word l.i (tree.before l.state))
