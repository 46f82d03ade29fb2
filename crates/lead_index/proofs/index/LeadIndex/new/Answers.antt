use Rattle.lead_index.proofs.Answering.{IsIndex-nil, IsTree-nil}
use Rattle.lead_index.proofs.index.LeadIndex.new.Goals as goal

pub invariant_of-result : goal.invariant_of-result
invariant_of-result c = (IsIndex-nil _ c.new.ensures.items, IsTree-nil _ _ c.new-2.ensures.items c.new.ensures.items, tt)
