use Rattle.std.proofs.Common.{All, ◌∷◌, [], refl, subst, sym}
use Rattle.std.proofs.lemmas.List.Elements.{All-append, All-cons, All-nil}
use Rattle.lead_index.specs.declared.automaton.State.{State}
use Rattle.lead_index.specs.Automaton.{IsState}
use Rattle.lead_index.proofs.Moves.{behind_read, move_set, state_below}
use Rattle.lead_index.proofs.automaton.fill.Goals as goal

pub move_of-here-requires-clause-behind : goal.move_of-here-requires-clause-behind
move_of-here-requires-clause-behind c = behind_read _ c.requires.rising c.args.state c.requires.state c.loop-letter.letter _ _ c.loop-letter.invariant.0
    c.loop-letter-test.true _ _ c.index.ensures c.behind-behind.ensures.first c.behind-behind.ensures.below

pub loop-letter-preserved-then-not-has_state : goal.loop-letter-preserved-then-not-has_state
loop-letter-preserved-then-not-has_state c = (
  move_set _ _ _ c.loop-letter.invariant.0 _ c.loop-letter.letter c.requires.state.within c.loop-letter-test.true _ c.move_of-here.ensures,
  c.loop-letter.invariant.1,
)

pub loop-letter-preserved : goal.loop-letter-preserved
loop-letter-preserved c =
    let nodes = c.args.nodes.now in
    let down = c.if-not-has_state.ensures in
    let behind = behind_read nodes c.requires.rising c.args.state c.requires.state c.loop-letter.letter _ _ c.loop-letter.invariant.0
    c.loop-letter-test.true _ c.behind-behind.result c.index.ensures c.behind-behind.ensures.first c.behind-behind.ensures.below in
    let child : State = record { node = c.move_of-here.result.to; fall = c.behind-behind.result.to; depth = c.in-Some.depth } in
    let is : IsState nodes child = state_below nodes c.requires.rising c.args.state c.requires.state c.loop-letter.letter _ c.behind-behind.result child
    (c.move_of-here.ensures.goes down.0 down.1) refl behind down.2 refl c.in-Some.ensures.1 in (
      move_set _ _ _ c.loop-letter.invariant.0 _ c.loop-letter.letter c.requires.state.within c.loop-letter-test.true _ c.move_of-here.ensures,
      subst (All (IsState nodes)) (sym c.in_ok-push.ensures.items)
          (All-append (IsState nodes) c.loop-letter.states.items (child ∷ []) c.loop-letter.invariant.1
          (All-cons (IsState nodes) child [] is (All-nil (IsState nodes)))),
    )
