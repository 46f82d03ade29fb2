use Rattle.std.proofs.Common.{refl}
use Rattle.symbolic_prep.proofs.PackedWords.{back_as}
use Rattle.symbolic_prep.proofs.packing.back.Goals as goal

pub returns : goal.returns
returns c = back_as c.args.packing.bits c.args.packing.room c.args.word _ c.args.at c.requires.word c.requires.within refl c.last_letters.ensures
