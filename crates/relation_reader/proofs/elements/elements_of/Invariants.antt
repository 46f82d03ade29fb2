use Rattle.std.proofs.Common.{◌≡◌, ◌≢◌, ◌≤◌, [], All, length, map, take}
use Rattle.relation_reader.specs.Elements.{AreSound, IsFitting}
use Rattle.relation_reader.proofs.elements.elements_of.Given as goal

abbrev pub invariant-loop-terms : goal.invariant-loop-terms
invariant-loop-terms l = record {
  count : l.relation ≡ length l.yielded;
  few : length l.elements.items ≤ l.relation;
  sound : AreSound l.field l.alphabet.weights (take l.relation (map (λ terms. terms.items) l.fn.relations.items)) l.elements.items;
  fitting : All (IsFitting l.field l.alphabet.weights) l.elements.items;
  others : All (λ f. f ≢ []) l.elements.items;
}
