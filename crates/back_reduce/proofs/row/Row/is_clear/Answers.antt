use Rattle.std.proofs.Common.{◌∙◌}
use Rattle.back_reduce.proofs.EntryRows.{listed_width}
use Rattle.back_reduce.proofs.row.Row.is_clear.Goals as goal

pub is_clear-requires-in-Listed : goal.is_clear-requires-in-Listed
is_clear-requires-in-Listed c = c.requires ∙ listed_width c.self.inside.form c.in-Listed.listed c.args.self.now c.self.view_is c.in-Listed.is
