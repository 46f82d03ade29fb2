use Rattle.poly_writer.specs.Texts.{basis_text}
use Rattle.bergman_cli.proofs.ModuleTexts.{IsTextBefore, lists_of}
use Rattle.bergman_cli.proofs.module.basis_text.Given as goal

abbrev pub invariant-loop-part : goal.invariant-loop-part
invariant-loop-part l = IsTextBefore l.given.alphabet.names l.field l.degrees
    (basis_text l.given.alphabet.names l.field (lists_of l.degrees)) l.part-index l.text.items
