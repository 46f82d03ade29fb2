use Rattle.std.proofs.Common.{◌∙◌}
use Rattle.back_reduce.proofs.EntryRows.{listed_width}
use Rattle.back_reduce.proofs.row.Row.write.Goals as goal

pub write-requires : goal.write-requires
write-requires c = c.requires ∙ listed_width c.self.inside.form c.in-Listed.listed c.args.self.now c.self.view_is c.in-Listed.is
