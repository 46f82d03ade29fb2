use Rattle.std.proofs.Common.{◌≡◌, ◌+◌, ℕ, max, sym, ap, ap₂, ◌∙◌, subst}
use Rattle.pivot_core.specs.declared.event.Reply.{Reply}
use Rattle.pivot_core.specs.declared.event.Reply.TheVariants as reply
use Rattle.pivot_core.specs.declared.view.Phase.{Phase}
use Rattle.pivot_core.specs.declared.view.Phase.TheVariants as phase
use Rattle.pivot_core.specs.declared.sight.Sight.{Sight}
use Rattle.pivot_core.specs.Phases.{IsUnread}
use Rattle.pivot_core.specs.Steps.{IsMet}
use Rattle.pivot_core.specs.Views.{begin, sight_of}
use Rattle.pivot_core.specs.Words.{row_in, stamp_in}
use Rattle.pivot_core.proofs.MetRows.{meets_held}
use Rattle.pivot_core.proofs.view.View.look.Goals as goal

pub returns-clause-met : goal.returns-clause-met
returns-clause-met c =
    let problem = c.args.problem.now in
    let v : Sight = sight_of c.args.self.now in
    let old : ℕ = c.args.old in
    let clock : c.max-self.result ≡ max v.clock (stamp_in old) = c.max-self.ensures ∙ ap (max v.clock) c.stamp_told-stamp.ensures in
    let unread : IsUnread problem.m (phase.Looking c.args.row c.args.column) v.seen = subst (λ (f : Phase). IsUnread problem.m f v.seen)
    c.requires.phase c.requires.may.sight.unread in
    let same : record v {
      steps = v.steps + 1;
      clock = c.max-self.result;
      phase = phase.Reading c.args.row c.args.column c.row_told-holder.result c.args.column;
    }
    ≡ begin problem (record v { steps = v.steps + 1; clock = max v.clock (stamp_in old) }) c.args.row c.args.column (row_in old) =
    λ i. record v {
      steps = v.steps + 1;
      clock = clock i;
      phase = phase.Reading c.args.row c.args.column (c.row_told-holder.ensures i)
          c.args.column;
      seen = unread i;
    } in
    let now : sight_of c.begin.new.self ≡ begin problem (record v { steps = v.steps + 1; clock = max v.clock (stamp_in old) }) c.args.row
    c.args.column (row_in old) = c.begin.ensures.begun ∙ same in
    let told : reply.Held c.row_told-holder.result c.stamp_told-stamp.result ≡ reply.Held (row_in old) (stamp_in old) =
    ap₂ (λ (r n : ℕ). reply.Held r n) c.row_told-holder.ensures c.stamp_told-stamp.ensures in
    subst (λ (w : Sight). IsMet problem v old w (reply.Held c.row_told-holder.result c.stamp_told-stamp.result)) (sym now)
    (subst (λ (r : Reply). IsMet problem v old (begin problem (record v { steps = v.steps + 1; clock = max v.clock (stamp_in old) })
    c.args.row c.args.column (row_in old)) r) (sym told)
    (meets_held problem v old c.requires.phase c.if-old-eq0.false))
