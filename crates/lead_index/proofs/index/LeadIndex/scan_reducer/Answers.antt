use Rattle.std.proofs.Common.{◌≡◌, false, true, arith, below_more}
use Rattle.lead_index.specs.Leads.{IsFreeAt}
use Rattle.lead_index.proofs.LeadLemmas.{first_place, found_lead, free_from_places, none_at_all, none_more}
use Rattle.lead_index.proofs.index.LeadIndex.scan_reducer.Goals as goal

pub returns-then-occurs_at : goal.returns-then-occurs_at
returns-then-occurs_at c =
    let e = c.leads-leads.ensures in
    first_place _ _ c.loop-at.at _ c.loop-at.invariant
    (found_lead _ _ e.index e.value _ _ c.loop-lead.lead-index c.lead-item.result _ (omega arith) c.lead-item.is c.letters.ensures
    (c.occurs_at.ensures.0 c.if-occurs_at.true))

pub loop-lead-preserved : goal.loop-lead-preserved
loop-lead-preserved c = (
  c.loop-lead.invariant.0,
  none_more _ _ _ c.loop-lead.lead-index c.lead-item.result c.letters.result.now (omega arith) c.lead-item.is c.letters.ensures
      (λ o. let t : c.occurs_at.result ≡ true = c.occurs_at.ensures.1 o in let f : c.occurs_at.result ≡ false = c.if-occurs_at.false in cc)
      c.loop-lead.invariant.1,
)

pub loop-at-preserved : goal.loop-at-preserved
loop-at-preserved c =
    below_more (λ k. IsFreeAt c.args.self.now c.args.word.now k) c.loop-at.at c.loop-at.invariant
    (none_at_all _ _ c.leads-leads.ensures.value _ _ c.loop-lead.lead-index (omega arith) c.loop-lead.invariant.1)

pub returns : goal.returns
returns c = free_from_places c.args.self.now c.leads-leads.ensures.index c.args.word.now (λ k lt. c.loop-at.invariant k (omega arith))
