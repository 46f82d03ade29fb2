use Rattle.pivot_table.proofs.RowReads.{taken_on}
use Rattle.pivot_table.proofs.race.Race.read_row.Goals as goal

pub returns-clause-taken : goal.returns-clause-taken
returns-clause-taken c = taken_on c.args.self.now c.args.worker.now c.read_on.new.worker c.read_word.new.worker _ c.read_on.ensures.taken
    c.read_word.ensures.taken
