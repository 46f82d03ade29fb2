use Rattle.std.proofs.Common.{◌≡◌, ◌≢◌, ◌+◌, ◌*◌, ◌/◌, ◌%◌, ◌^◌, ◌<◌, ℕ, List, All, drop, get_or, length, map, set}
use Rattle.std.proofs.Common.{sym, ap, ◌∙◌, arith, subst}
use Rattle.std.proofs.lemmas.List.{length-set}
use Rattle.ideal_laws.specs.Basis.{below_lead}
use Rattle.row_store.specs.declared.left.Left.{Left}
use Rattle.row_store.specs.Blocks.{lane, AreWalked}
use Rattle.row_store.specs.Entries.{entries_on, entry_of, reducers_over, residue_at, AreEntries, Entry, IsColumnList}
use Rattle.row_store.specs.Marks.{mark_at}
use Rattle.row_store.specs.Sums.{IsWalked}
use Rattle.row_store.proofs.ColumnsFound.{absent, found, list_at, over}
use Rattle.row_store.proofs.LaneViews.{get_or-lane, length-lane}
use Rattle.row_store.proofs.LaneWalk.{lane_added, lane_taken, one_of}
use Rattle.row_store.proofs.WalkLeft.{walk_left}
use Rattle.row_store.proofs.Tails.{tail_same, tail_sizes}
use Rattle.row_store.proofs.Walk.{tail_entries, tail_room, walk_reduced}
use Rattle.row_store.proofs.block.clear_column.Goals as goal

-- a bit for each column
words : (p : ℕ) (rs : _) (starts : ℕ → List ℕ) (at : ℕ) (sums bits : List ℕ) (left : List Left) → AreWalked p rs starts at sums bits left →
    length bits ≡ length sums / 8 / 64 + 1
words p rs starts at sums bits left h = (h.each 0 (one_of left h.count) (omega arith)).marks.words ∙ ap (λ (n : ℕ). n / 64 + 1) (length-lane sums 0)

pub take_residues-found-requires-clause-within : goal.take_residues-found-requires-clause-within
take_residues-found-requires-clause-within c = omega (arith, c.requires.within, c.requires.walked.1.whole)

pub unmark-requires : goal.unmark-requires
unmark-requires c =
    let h = c.requires.walked.1 in
    let size = words c.args.p (reducers_over c.args.closed.now) c.requires.walked.0 c.args.at c.args.sums.now c.args.bits.now c.args.left.now h in
    record { within = omega (arith, size, c.requires.within) }

pub add_lanes-requires-clause-sizes : goal.add_lanes-requires-clause-sizes
add_lanes-requires-clause-sizes c =
    let h = c.in-Some.ensures in
    tail_sizes c.args.closed.now.columns c.in-Some.columns.now c.in-Some.residues.now (below_lead h.0) h.2

pub add_lanes-requires-clause-entries : goal.add_lanes-requires-clause-entries
add_lanes-requires-clause-entries c =
    let p = c.args.p in
    let n = length c.args.sums.now / 8 in
    let closed = c.args.closed.now in
    let u = c.in-Some.ensures in
    let es : List Entry = map (entry_of closed.columns) u.0 in
    let list = list_at p n closed c.args.at u.0 c.requires.clearing.lists c.requires.within u.1 in
    let same : length c.take_residues-found.new.sums / 8 ≡ n = ap (λ (m : ℕ). m / 8) c.take_residues-found.auto.sums in (
      p,
      subst (AreEntries p (length c.take_residues-found.new.sums / 8))
          (sym (tail_same closed.columns c.requires.falling u.0 c.in-Some.columns.now c.in-Some.residues.now u.2))
          (subst (λ (m : ℕ). AreEntries p m (drop 1 es)) (sym same) (tail_entries p n es list.are)),
    )

pub add_lanes-requires-clause-words : goal.add_lanes-requires-clause-words
add_lanes-requires-clause-words c =
    let h = c.requires.walked.1 in
    c.unmark.auto.bits ∙ words c.args.p (reducers_over c.args.closed.now) c.requires.walked.0 c.args.at c.args.sums.now c.args.bits.now c.args.left.now h
    ∙ ap (λ (n : ℕ). n / 8 / 64 + 1) (sym c.take_residues-found.auto.sums)

pub add_lanes-requires-clause-room : goal.add_lanes-requires-clause-room
add_lanes-requires-clause-room c = λ k i low.
    let p = c.args.p in
    let at = c.args.at in
    let sums = c.args.sums.now in
    let first = c.take_residues-found.new.sums in
    let left = c.args.left.now in
    let n = length sums / 8 in
    let closed = c.args.closed.now in
    let rs = reducers_over closed in
    let walked = c.requires.walked.1 in
    let d = one_of left walked.count in
    let start = c.requires.walked.0 i in
    let h = walked.each i d low in
    let u = c.in-Some.ensures in
    let es : List Entry = map (entry_of closed.columns) u.0 in
    let a = get_or c.opposites.result i 0 in
    let long : n ≡ length start = sym (length-lane sums i) ∙ h.long in
    let lt : at < length start = omega (arith, c.requires.within, long) in
    let there = found p n closed at u.0 c.requires.clearing.lists c.requires.within u.1 in
    let list = subst (λ (m : ℕ). IsColumnList p m at es) long (list_at p n closed at u.0 c.requires.clearing.lists c.requires.within u.1) in
    let is_x : get_or c.take_residues-found.result i 0 ≡ get_or (lane sums i) at 0 % p =
    c.take_residues-found.ensures.residues i low ∙ ap (λ (s : ℕ). s % p) (sym (get_or-lane sums i at walked.whole)) in
    let gone : (get_or (lane sums i) at 0 % p + a) % p ≡ 0 = ap (λ (x : ℕ). (x + a) % p) (sym is_x) ∙ c.opposites.ensures.opposite i low in
    let room = tail_room p rs start (omega (arith, c.requires.clearing.modulus)) at (lane sums i) c.args.bits.now (get_or left i d) h (over closed u.0)
    there lt list c.unmark.new.bits c.unmark.auto.bits c.unmark.ensures.own c.unmark.ensures.others a (c.opposites.ensures.below i low) gone
    (omega (arith, c.requires.clearing.few, long)) c.requires.clearing.small k in
    let whole : length first ≡ length first / 8 * 8 = omega (arith, walked.whole, c.take_residues-found.auto.sums) in
    let taken = lane_taken sums first first at i a (λ k. 0) walked.whole c.take_residues-found.auto.sums c.requires.within
    (c.take_residues-found.ensures.zeros i low) (λ k other. c.take_residues-found.ensures.others k i low other) in
    let shown : get_or (set (lane sums i) at 0) k 0 ≡ get_or first (k * 8 + i) 0 =
    ap (λ (l : List ℕ). get_or l k 0) (sym taken) ∙ get_or-lane first i k whole in
    subst (λ (es : List Entry). get_or first (k * 8 + i) 0 + a * residue_at es k < 2 ^ 64)
    (sym (tail_same closed.columns c.requires.falling u.0 c.in-Some.columns.now c.in-Some.residues.now u.2))
    (subst (λ (s : ℕ). s + a * residue_at (drop 1 es) k < 2 ^ 64) shown room)

pub returns-in-Some : goal.returns-in-Some
returns-in-Some c = λ starts walked. record {
  whole = omega (arith, walked.whole, c.take_residues-found.auto.sums, c.add_lanes.auto.sums);
  count = walked.count;
  each = λ i d low. (
      let p = c.args.p in
      let at = c.args.at in
      let sums = c.args.sums.now in
      let first = c.take_residues-found.new.sums in
      let second = c.add_lanes.new.sums in
      let bits2 = c.add_lanes.new.bits in
      let left = c.args.left.now in
      let n = length sums / 8 in
      let closed = c.args.closed.now in
      let rs = reducers_over closed in
      let start = starts i in
      let h = walked.each i d low in
      let u = c.in-Some.ensures in
      let es : List Entry = map (entry_of closed.columns) u.0 in
      let a = get_or c.opposites.result i 0 in
      let long : n ≡ length start = sym (length-lane sums i) ∙ h.long in
      let lt : at < length start = omega (arith, c.requires.within, long) in
      let there = found p n closed at u.0 c.requires.clearing.lists c.requires.within u.1 in
      let list = subst (λ (m : ℕ). IsColumnList p m at es) long (list_at p n closed at u.0 c.requires.clearing.lists c.requires.within u.1) in
      let is_x : get_or c.take_residues-found.result i 0 ≡ get_or (lane sums i) at 0 % p =
      c.take_residues-found.ensures.residues i low ∙ ap (λ (s : ℕ). s % p) (sym (get_or-lane sums i at walked.whole)) in
      let gone : (get_or (lane sums i) at 0 % p + a) % p ≡ 0 = ap (λ (x : ℕ). (x + a) % p) (sym is_x) ∙ c.opposites.ensures.opposite i low in
      let same : entries_on c.in-Some.columns.now c.in-Some.residues.now ≡ drop 1 es =
      tail_same closed.columns c.requires.falling u.0 c.in-Some.columns.now c.in-Some.residues.now u.2 in
      let now = set (lane sums i) at 0 in
      let added : (k : ℕ) → get_or (lane second i) k 0 ≡ get_or now k 0 + a * residue_at (drop 1 es) k =
      lane_added sums first second at i a (residue_at (drop 1 es)) walked.whole c.take_residues-found.auto.sums c.requires.within
      (c.take_residues-found.ensures.zeros i low) (λ k other. c.take_residues-found.ensures.others k i low other) c.add_lanes.auto.sums
      (subst (λ (t : List Entry). (k : ℕ) → get_or second (k * 8 + i) 0 ≡ get_or first (k * 8 + i) 0 + a * residue_at t k) same
      (λ k. c.add_lanes.ensures.sums k i low)) in
      walk_reduced p rs start (omega (arith, c.requires.clearing.modulus)) at (lane sums i) c.args.bits.now (get_or left i d) h (over closed u.0)
      there lt list c.unmark.new.bits c.unmark.auto.bits c.unmark.ensures.own c.unmark.ensures.others a (c.opposites.ensures.below i low) gone
      (lane second i) bits2
      (length-lane second i ∙ ap (λ (m : ℕ). m / 8) (c.add_lanes.auto.sums ∙ c.take_residues-found.auto.sums)
      ∙ sym (length-set (lane sums i) at 0 ∙ length-lane sums i))
      c.add_lanes.auto.bits (λ k. ap (λ (s : ℕ). s % p) (added k)) (λ k. omega (arith, added k))
      (λ great. absurd (omega (arith, great, c.requires.delayed))) c.add_lanes.ensures.kept
      (subst (λ (t : List Entry). (k : ℕ) → residue_at t k ≢ 0 → mark_at bits2 k ≡ 1) same c.add_lanes.ensures.marked)
      (subst (λ (t : List Entry). (k : ℕ) → All (λ e. e.column ≢ k) t → mark_at bits2 k ≡ mark_at c.unmark.new.bits k) same c.add_lanes.ensures.others));
}

pub returns-in_ok-push_residues-in-None : goal.returns-in_ok-push_residues-in-None
returns-in_ok-push_residues-in-None c = λ starts walked. record {
  whole = omega (arith, walked.whole, c.take_residues-found.auto.sums);
  count = c.push_residues.auto.left ∙ walked.count;
  each = λ i d low. (
      let p = c.args.p in
      let at = c.args.at in
      let sums = c.args.sums.now in
      let first = c.take_residues-found.new.sums in
      let left = c.args.left.now in
      let next = c.push_residues.new.left in
      let n = length sums / 8 in
      let closed = c.args.closed.now in
      let rs = reducers_over closed in
      let lists = c.requires.clearing.lists in
      let h = walked.each i d low in
      let long : n ≡ length (starts i) = sym (length-lane sums i) ∙ h.long in
      let is_x : get_or c.take_residues-found.result i 0 ≡ get_or (lane sums i) at 0 % p =
      c.take_residues-found.ensures.residues i low ∙ ap (λ (s : ℕ). s % p) (sym (get_or-lane sums i at walked.whole)) in
      let taken = lane_taken sums first first at i 0 (λ k. 0) walked.whole c.take_residues-found.auto.sums c.requires.within
      (c.take_residues-found.ensures.zeros i low) (λ k other. c.take_residues-found.ensures.others k i low other) in
      subst (λ (l : List ℕ). IsWalked p rs (starts i) (at + 1) l c.unmark.new.bits (get_or next i d)) (sym taken)
      (walk_left p rs (starts i) (omega (arith, c.requires.clearing.modulus)) at (lane sums i) c.args.bits.now (get_or left i d) h c.unmark.new.bits
      (get_or next i d) (lists.size ∙ long) (omega (arith, c.requires.within, long)) c.unmark.auto.bits c.unmark.ensures.own c.unmark.ensures.others
      (absent p n closed at lists c.requires.within c.in-None.ensures) (get_or c.take_residues-found.result i 0) is_x (get_or c.args.places.now at 0)
      (c.requires.clearing.are_places.each at (omega (arith, c.requires.within, lists.size))) (c.in_ok-push_residues-in-None.ensures i d low)));
}
