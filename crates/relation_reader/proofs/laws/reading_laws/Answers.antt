use Rattle.std.proofs.Common.{◌+◌, ◌-◌, ◌<◌, ◌≤◌, length, arith, ap, ◌∙◌, Some}
use Rattle.relation_reader.specs.declared.place.Place.TheVariants as places
use Rattle.relation_reader.specs.Grammar.{reached}
use Rattle.relation_reader.proofs.TextSplits.{split-from}
use Rattle.relation_reader.proofs.OneSplit.{splits-once}
use Rattle.relation_reader.proofs.Spelled.{spelled-walk, tight}
use Rattle.relation_reader.proofs.Trees.{tree-of}
use Rattle.relation_reader.proofs.SpelledOnce.{spells_once}
use Rattle.relation_reader.proofs.OneReading.{has_one_reading}
use Rattle.relation_reader.proofs.laws.reading_laws.Goals as goal

pub returns : goal.returns
returns c = record {
  split = λ text.
      let few : length text - 0 < length text + 1 = omega arith in
      let inside : 0 ≤ length text = omega arith in
      let s = split-from text (length text + 1) 0 few inside in
      record { tokens = s.tokens; stop = s.stop; splits = s.splits; only = λ ts r h. splits-once text 0 ts r s.tokens s.stop h s.splits };
  grammar = λ ls. (tree-of ls, λ h. ap (reached (Some places.Beginning)) h.1 ∙ spelled-walk h.0);
  tight = λ ls place h. tight place;
  once = spells_once;
  reading = has_one_reading;
}
