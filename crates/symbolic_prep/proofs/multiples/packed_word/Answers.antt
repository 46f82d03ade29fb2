use Rattle.std.proofs.Common.{refl}
use Rattle.symbolic_prep.proofs.PackedWords.{packed_as}
use Rattle.symbolic_prep.proofs.multiples.packed_word.Goals as goal

pub returns : goal.returns
returns c = packed_as c.args.packing.bits c.args.packing.room c.args.letters.now _ c.requires.over c.requires.fits c.pack.ensures refl
