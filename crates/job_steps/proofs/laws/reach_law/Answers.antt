use Rattle.job_steps.proofs.OneOutcome.{has_one_outcome, has_one_reach, has_one_text}
use Rattle.job_steps.proofs.laws.reach_law.Goals as goal

pub returns-clause-reach : goal.returns-clause-reach
returns-clause-reach c = has_one_reach

pub returns-clause-text : goal.returns-clause-text
returns-clause-text c = has_one_text

pub returns-clause-outcome : goal.returns-clause-outcome
returns-clause-outcome c = has_one_outcome
