use Rattle.back_reduce.proofs.Eliminated.{sequential}
use Rattle.back_reduce.proofs.elimination.eliminate.Goals as goal

pub invariant_of-result : goal.invariant_of-result
invariant_of-result c = sequential c.args.problem c.in_ok-table.table.items c.in_ok-table.ensures
