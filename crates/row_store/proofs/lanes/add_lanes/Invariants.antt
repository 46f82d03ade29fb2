use Rattle.std.proofs.Common.{◌≡◌, ◌≢◌, ◌+◌, ◌*◌, ◌<◌, ℕ, All, get_or, take}
use Rattle.row_store.specs.Entries.{entries_on, residue_at}
use Rattle.row_store.specs.Marks.{mark_at}
use Rattle.row_store.proofs.lanes.add_lanes.Given as goal

abbrev pub invariant-loop-place : goal.invariant-loop-place
invariant-loop-place l = record {
  sums : (k i : ℕ) → i < 8 → get_or l.sums (k * 8 + i) 0
      ≡ get_or l.initial.sums (k * 8 + i) 0 + get_or l.factors i 0 * residue_at (take l.place (entries_on l.columns l.residues)) k;
  kept : (k : ℕ) → mark_at l.initial.bits k ≡ 1 → mark_at l.bits k ≡ 1;
  marked : (k : ℕ) → residue_at (take l.place (entries_on l.columns l.residues)) k ≢ 0 → mark_at l.bits k ≡ 1;
  others : (k : ℕ) → All (λ e. e.column ≢ k) (take l.place (entries_on l.columns l.residues)) → mark_at l.bits k ≡ mark_at l.initial.bits k;
}
