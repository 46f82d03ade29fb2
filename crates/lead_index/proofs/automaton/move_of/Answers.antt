use Rattle.std.proofs.Common.{refl}
use Rattle.lead_index.proofs.Moves.{move_ends, move_goes, move_stops}
use Rattle.lead_index.proofs.automaton.move_of.Goals as goal

pub returns-in-Stops : goal.returns-in-Stops
returns-in-Stops c = move_stops _ c.requires.rising c.args.state c.requires.state c.args.letter _ c.step_at.ensures c.in-Stops.is c.args.behind _
    c.requires.behind refl refl refl refl

pub returns-in-Goes : goal.returns-in-Goes
returns-in-Goes c = move_goes _ c.requires.rising c.args.state c.requires.state c.args.letter _ _ c.step_at.ensures c.in-Goes.is refl refl

pub returns-in-Ends : goal.returns-in-Ends
returns-in-Ends c = move_ends _ c.requires.rising c.args.state c.requires.state c.args.letter _ _ c.step_at.ensures c.in-Ends.is refl refl c.requires.depth
