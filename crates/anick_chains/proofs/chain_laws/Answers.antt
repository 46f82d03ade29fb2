use Rattle.anick_chains.proofs.BasisChains.{has_minimal_chains}
use Rattle.anick_chains.proofs.Extensions.{has_extensions}
use Rattle.anick_chains.proofs.chain_laws.Goals as goal

pub returns-clause-extensions : goal.returns-clause-extensions
returns-clause-extensions c = has_extensions

pub returns-clause-minimal : goal.returns-clause-minimal
returns-clause-minimal c = has_minimal_chains
