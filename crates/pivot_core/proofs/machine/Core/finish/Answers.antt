use Rattle.std.proofs.Common.{List, length, sym, ap, ◌∙◌, subst}
use Rattle.std.proofs.lemmas.Simd.{map-map}
use Rattle.pivot_core.specs.declared.sight.Sight.{Sight}
use Rattle.pivot_core.specs.declared.view.View.{View}
use Rattle.pivot_core.specs.Claimed.{ClaimedPivots}
use Rattle.pivot_core.specs.Cores.{Machine, state_of}
use Rattle.pivot_core.specs.Laws.{logs_of}
use Rattle.pivot_core.specs.Runs.{HasEnded, State}
use Rattle.pivot_core.specs.Views.{sight_of}
use Rattle.pivot_core.proofs.Kept.{claimed_pivots}
use Rattle.pivot_core.proofs.RunLaws.{ended_pivots}
use Rattle.pivot_core.proofs.machine.Core.finish.Goals as goal

pub invariant_of-result : goal.invariant_of-result
invariant_of-result c =
    let problem = c.self.inside.problem in
    let run = c.self.invariant in
    let views : List View = c.self.inside.views.items in
    let s : State = state_of c.self.inside.words.items views in
    let rule : ClaimedPivots problem (length views) s = subst (ClaimedPivots problem (length views)) (sym run.reached)
    (claimed_pivots problem (length views) run.setting run.events) in
    let ended : HasEnded problem s = subst (λ (k : Machine). HasEnded k.problem k.state) (sym c.self.view_is) c.requires in
    record { count = rule.ranges.words; pivots = ended_pivots problem (length views) s run.setting rule ended }

pub returns-clause-logs : goal.returns-clause-logs
returns-clause-logs c =
    let views : List View = c.self.inside.views.items in
    c.calls_of-logs.ensures ∙ sym (map-map (λ (v : Sight). v.calls) sight_of views) ∙ ap (λ (k : Machine). logs_of k.state) c.self.view_is
