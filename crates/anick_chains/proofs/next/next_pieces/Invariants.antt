use Rattle.std.proofs.Common.{◌≡◌, ◌-◌, ℕ, take}
use Rattle.words.specs.Words.{degree_of}
use Rattle.anick_chains.specs.Walk.{ends_of}
use Rattle.anick_chains.proofs.Members.{joined}
use Rattle.anick_chains.proofs.next.next_pieces.Given as goal

abbrev pub invariant-loop-before : goal.invariant-loop-before
invariant-loop-before l = record {
  degree : l.degree ≡ degree_of l.tips.basis.now.weights (take l.before l.piece);
  so_far : l.found.items
      ≡ joined (λ (k : ℕ). ends_of l.tips.basis.now.weights l.tips.basis.now.elements l.piece k
      (l.d - degree_of l.tips.basis.now.weights (take k l.piece))) l.before;
}
