use Rattle.std.proofs.Common.{refl}
use Rattle.lead_index.proofs.Moves.{move_read}
use Rattle.lead_index.proofs.StepWalks.{step_ends, step_goes, step_stops}
use Rattle.lead_index.proofs.Walks.{walk_all}
use Rattle.lead_index.proofs.automaton.Automaton.element.Goals as goal

pub returns-then-here : goal.returns-then-here
returns-then-here c =
    let m = move_read _ _ _ c.requires.moves _ c.from-letter.result c.loop-place.invariant.within c.if-letter-self.false _ c.index-here.ensures in
    step_stops _ _ _ c.requires.rising c.loop-place-test.true _ _ _ (m.falls c.if-here.true) c.from-letter.ensures refl c.loop-place.invariant

pub returns-in-Finds : goal.returns-in-Finds
returns-in-Finds c =
    let m = move_read _ _ _ c.requires.moves _ c.from-letter.result c.loop-place.invariant.within c.if-letter-self.false _ c.index-here.ensures in
    step_ends _ _ _ c.requires.rising c.loop-place-test.true _ _ _ _ (m.ends c.if-here.false c.in-Finds.is) c.from-letter.ensures refl c.loop-place.invariant

pub loop-place-preserved : goal.loop-place-preserved
loop-place-preserved c =
    let m = move_read _ _ _ c.requires.moves _ c.from-letter.result c.loop-place.invariant.within c.if-letter-self.false _ c.index-here.ensures in
    step_goes _ _ _ c.requires.rising c.loop-place-test.true _ _ _ _ (m.goes c.if-here.false c.in-Moves.is) c.from-letter.ensures refl c.loop-place.invariant

pub returns : goal.returns
returns c = walk_all _ _ _ _ c.loop-place.invariant c.loop-place-test.false
