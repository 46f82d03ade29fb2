use Rattle.std.proofs.Common.{◌≡◌, ◌*◌, ◌/◌, ◌<◌, ◌≤◌, max}
use Rattle.pivot_core.specs.declared.view.Phase.TheVariants as phase
use Rattle.pivot_table.proofs.RowReads.{ReadsAt}
use Rattle.pivot_table.proofs.race.Race.read_on.Given as goal

abbrev pub invariant-loop-next : goal.invariant-loop-next
invariant-loop-next l = record {
  was : l.worker-inside.view.phase ≡ phase.Reading l.row l.column l.holder l.at;
  from : l.at ≤ l.next;
  upto : l.next ≤ l.even;
  reading : ReadsAt l.self-inside l.fn.worker l.worker-inside l.row l.column l.holder l.at l.next;
}

abbrev pub invariant-loop-pair : goal.invariant-loop-pair
invariant-loop-pair l = record {
  was : l.worker-inside.view.phase ≡ phase.Reading l.row l.column l.holder l.at;
  from : l.even / 2 ≤ l.pair;
  upto : l.pair ≤ l.last / 2;
  reading : ReadsAt l.self-inside l.fn.worker l.worker-inside l.row l.column l.holder l.at (max l.even (2 * l.pair));
}

abbrev pub invariant-loop-next-2 : goal.invariant-loop-next-2
invariant-loop-next-2 l = record {
  was : l.worker-inside.view.phase ≡ phase.Reading l.row l.column l.holder l.at;
  from : l.at ≤ l.next;
  within : l.next < l.self-inside.setting.problem.m;
  reading : ReadsAt l.self-inside l.fn.worker l.worker-inside l.row l.column l.holder l.at l.next;
}
