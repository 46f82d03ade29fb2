use Rattle.std.proofs.Common.{◌≡◌, ◌*◌, ◌<◌, ◌≤◌, ℕ, List, Vec, Global, get_or, length, take}
use Rattle.row_laws.specs.Contested.{AreContestedRows}
use Rattle.row_store.specs.Deals.{part_of, turned}
use Rattle.row_store.proofs.store.side_by_side.Given as goal

abbrev pub invariant-loop-part : goal.invariant-loop-part
invariant-loop-part g l = record {
  count : length l.parts.items ≡ l.deal.hands * l.deal.turns;
  done : AreContestedRows l.field l.closed.columns l.closed.reducers (take (l.part * l.deal.size) l.rows) l.left.items;
  open_parts : (part : ℕ) (d : Vec (List ℕ) Global) → l.part ≤ part → part < l.deal.hands * l.deal.turns →
      AreContestedRows l.field l.closed.columns l.closed.reducers (part_of l.deal.size l.rows part)
      (get_or l.parts.items (turned l.deal.hands l.deal.turns part) d).items;
}
