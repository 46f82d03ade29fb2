use Rattle.std.proofs.Common.{◌≡◌, ◌++◌, take}
use Rattle.std.specs.List.{flat_map}
use Rattle.poly_writer.specs.Texts.{term_text}
use Rattle.cofactors.proofs.text.push_normal.Given as goal

abbrev pub invariant-loop-term : goal.invariant-loop-term
invariant-loop-term l = l.text.items ≡ l.initial.text.items ++ flat_map (term_text l.alphabet.names l.field) (take l.term-index l.others)
