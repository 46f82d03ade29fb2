use Rattle.std.proofs.Common.{◌<◌, ℕ, All, take}
use Rattle.words.specs.Words.{OccursAt}
use Rattle.lead_index.specs.Leads.{IsFreeAt}
use Rattle.lead_index.proofs.index.LeadIndex.scan_reducer.Given as goal

abbrev pub invariant-loop-lead : goal.invariant-loop-lead
invariant-loop-lead l = ((k : ℕ) → k < l.at → IsFreeAt l.self l.word k) × All (λ m. OccursAt m.word l.word l.at → ⊥) (take l.lead-index l.leads)

abbrev pub invariant-loop-at : goal.invariant-loop-at
invariant-loop-at l = (k : ℕ) → k < l.at → IsFreeAt l.self l.word k
