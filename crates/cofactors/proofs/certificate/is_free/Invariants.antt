use Rattle.std.proofs.Common.{All, take}
use Rattle.lead_index.specs.Leads.{IsFree}
use Rattle.cofactors.proofs.certificate.is_free.Given as goal

abbrev pub invariant-loop-term : goal.invariant-loop-term
invariant-loop-term l = All (λ t. IsFree l.index t.word) (take l.term-index l.question)
