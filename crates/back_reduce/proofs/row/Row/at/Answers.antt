use Rattle.std.proofs.Common.{arith}
use Rattle.back_reduce.proofs.EntryRows.{listed_width}
use Rattle.back_reduce.proofs.row.Row.at.Goals as goal

pub at-requires : goal.at-requires
at-requires c = omega (arith, c.requires, listed_width c.self.inside.form c.in-Listed.listed c.args.self.now c.self.view_is c.in-Listed.is)
