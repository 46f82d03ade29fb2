use Rattle.std.proofs.Common.{◌∙◌}
use Rattle.back_reduce.proofs.EntryRows.{listed_width}
use Rattle.back_reduce.proofs.row.Row.add_multiple.Goals as goal

pub add_multiple-requires-clause-width : goal.add_multiple-requires-clause-width
add_multiple-requires-clause-width c = c.requires.width ∙ listed_width c.self.inside.form c.in-Listed.listed c.args.self.now c.self.view_is c.in-Listed.is
