use Rattle.std.proofs.Common.{◌∙◌, List, Option, ap, map}
use Rattle.ideal_laws.specs.Quantities.{contested_words}
use Rattle.symbolic_prep.specs.declared.lists.Span.{Span}
use Rattle.symbolic_prep.specs.Columns.{words_in}
use Rattle.symbolic_prep.specs.Numbers.{reducer_on}
use Rattle.symbolic_prep.proofs.closed.Closed.of.Goals as goal

pub invariant_of-result : goal.invariant_of-result
invariant_of-result c =
    let columns = words_in c.args.columns in
    let numbers = c.args.lists.numbers.items in
    let residues = c.args.lists.residues in
    let h = c.requires in
    record {
      few = h.few;
      falling = h.falling;
      size = h.size;
      within = h.within;
      reducers = h.reducers;
      contested_is = c.in_ok-contested.ensures columns numbers residues
          ∙ ap (λ (ss : List (Option Span)). contested_words columns (map (reducer_on columns numbers residues) ss))
          c.as_slice.ensures.value;
    }
