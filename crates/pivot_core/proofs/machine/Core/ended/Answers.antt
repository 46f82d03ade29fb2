use Rattle.std.proofs.Common.{◌≡◌, ◌+◌, ◌↔◌, IsTrue, length, nat_eq, sym, ◌∙◌, subst}
use Rattle.std.specs.List.{sum_by}
use Rattle.std.proofs.lemmas.Bool.{eq-eqb, eqb-true}
use Rattle.std.proofs.lemmas.List.{length-map}
use Rattle.pivot_core.specs.Cores.{Machine, state_of}
use Rattle.pivot_core.specs.Runs.{HasEnded, State}
use Rattle.pivot_core.specs.Views.{sight_of}
use Rattle.pivot_core.proofs.Ended.{ended_from_none, none_from_ended, one_ended}
use Rattle.pivot_core.proofs.machine.Core.ended.Goals as goal

pub returns : goal.returns
returns c =
    let inside = c.self.inside in
    let s : State = state_of inside.words.items inside.views.items in
    let count : inside.going + sum_by one_ended s.views ≡ length s.views = c.self.invariant.ended ∙ sym (length-map inside.views.items sight_of) in
    subst (λ (k : Machine). IsTrue (nat_eq inside.going 0) ↔ HasEnded k.problem k.state) c.self.view_is (
      λ none. ended_from_none inside.problem s inside.going count (eqb-true inside.going 0 none),
      λ ended. eq-eqb inside.going 0 (none_from_ended inside.problem s inside.going count ended),
    )
