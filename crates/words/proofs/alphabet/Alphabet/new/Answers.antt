use Rattle.words.proofs.NameLists.{repeated_says}
use Rattle.words.proofs.alphabet.Alphabet.new.Goals as goal

pub returns-in-Some-clause-repeated : goal.returns-in-Some-clause-repeated
returns-in-Some-clause-repeated c = repeated_says (λ name. name.items) c.args.names.items c.in-Some.fault (rw c.as_slice.ensures.value at c.in-Some.ensures)
