use Rattle.std.proofs.Common.{sym}
use Rattle.back_reduce.proofs.EntryRows.{listed_width}
use Rattle.back_reduce.proofs.row.Row.len.Goals as goal

pub returns-in-Listed : goal.returns-in-Listed
returns-in-Listed c = sym (listed_width c.self.inside.form c.in-Listed.listed c.args.self.now c.self.view_is c.in-Listed.is)
