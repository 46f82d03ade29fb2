use Rattle.std.proofs.Common.{◌≡◌, ◌≢◌, ◌+◌, ◌*◌, ◌/◌, ◌<◌, ℕ, List, All, get_or, length, arith, subst}
use Rattle.row_store.specs.Entries.{entries_on, residue_at, Entry}
use Rattle.row_store.specs.Marks.{mark_at}
use Rattle.row_store.proofs.LaneSums.{lanes_fit, lanes_more}
use Rattle.row_store.proofs.Residues.{marks_more, seen_within}
use Rattle.row_store.proofs.SeenEntries.{all_seen, entry_now, now_column, now_is, now_within}
use Rattle.row_store.proofs.lanes.add_lanes.Goals as goal

pub load-sums : goal.load-sums
load-sums c =
    let low = now_column c.loop-place.place c.args.columns.now c.args.residues.now c.requires.sizes (omega arith) c.requires.entries.0
    (length c.args.sums.now / 8) c.requires.entries.1 in
    omega (arith, low, c.requires.whole)

pub added-requires : goal.added-requires
added-requires c =
    let p = c.requires.entries.0 in
    let n = length c.args.sums.now / 8 in
    let i = c.loop-place.place in
    let ns = c.args.columns.now in
    let rs = c.args.residues.now in
    let es = entries_on ns rs in
    let e = entry_now i ns rs c.requires.sizes (omega arith) in
    let lt = now_within i ns rs c.requires.sizes (omega arith) in
    let is = now_is i ns rs c.requires.sizes (omega arith) in
    let low = seen_within p n i es e c.requires.entries.1 lt is in
    record {
      room = lanes_fit p n i es e c.requires.entries.1 lt is c.args.sums.now c.args.factors c.loop-place.sums c.fits-factors.0
          (omega (arith, low, c.requires.whole)) c.loop-place.invariant.sums c.requires.room;
    }

pub loop-place-preserved : goal.loop-place-preserved
loop-place-preserved c =
    let p = c.requires.entries.0 in
    let n = length c.args.sums.now / 8 in
    let i = c.loop-place.place in
    let ns = c.args.columns.now in
    let rs = c.args.residues.now in
    let es = entries_on ns rs in
    let e = entry_now i ns rs c.requires.sizes (omega arith) in
    let h = c.requires.entries.1 in
    let lt = now_within i ns rs c.requires.sizes (omega arith) in
    let is = now_is i ns rs c.requires.sizes (omega arith) in
    let low = seen_within p n i es e h lt is in
    let inv = c.loop-place.invariant in
    let marks = marks_more p n i es e h lt is c.args.bits.now c.loop-place.bits c.mark.new.bits c.mark.ensures.own c.mark.ensures.others
    (record { kept = inv.kept; marked = inv.marked; others = inv.others }) in
    record {
      sums = lanes_more p n i es e h lt is c.args.sums.now c.args.factors c.loop-place.sums c.fits-factors.0
          (omega (arith, low, c.requires.whole)) inv.sums c.added.result c.added.ensures;
      kept = marks.kept;
      marked = marks.marked;
      others = marks.others;
    }

pub returns-clause-sums : goal.returns-clause-sums
returns-clause-sums c = subst (λ (es : List Entry). (k j : ℕ) → j < 8 → get_or c.loop-place.sums (k * 8 + j) 0
    ≡ get_or c.args.sums.now (k * 8 + j) 0 + get_or c.args.factors j 0 * residue_at es k)
    (all_seen c.loop-place.place c.args.columns.now c.args.residues.now c.requires.sizes (omega arith)) c.loop-place.invariant.sums

pub returns-clause-marked : goal.returns-clause-marked
returns-clause-marked c = subst (λ (es : List Entry). (k : ℕ) → residue_at es k ≢ 0 → mark_at c.loop-place.bits k ≡ 1)
    (all_seen c.loop-place.place c.args.columns.now c.args.residues.now c.requires.sizes (omega arith)) c.loop-place.invariant.marked

pub returns-clause-others : goal.returns-clause-others
returns-clause-others c = subst (λ (es : List Entry). (k : ℕ) → All (λ e. e.column ≢ k) es →
    mark_at c.loop-place.bits k ≡ mark_at c.args.bits.now k) (all_seen c.loop-place.place c.args.columns.now c.args.residues.now c.requires.sizes (omega arith))
    c.loop-place.invariant.others
