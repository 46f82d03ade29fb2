use Rattle.std.proofs.Common.{arith}
use Rattle.symbolic_prep.proofs.PackedWords.{front_as}
use Rattle.symbolic_prep.proofs.packing.front.Goals as goal

pub returns : goal.returns
returns c = front_as c.args.packing.bits c.args.packing.room c.args.word _ c.requires.word c.requires.within (omega (arith, c.last_bits-rest.ensures))
