use Rattle.degree_loop.proofs.Schedules.{leads_to_one_state}
use Rattle.degree_loop.proofs.laws.schedule_law.Goals as goal

pub returns : goal.returns
returns c = leads_to_one_state
