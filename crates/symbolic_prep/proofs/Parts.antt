-- Parts of lists, from one place to another.
use Rattle.std.proofs.Common.{◌≡◌, ◌+◌, ◌-◌, ◌≤◌, ℕ, List, [], ◌++◌, length, take, drop, sym, ap, ◌∙◌, arith, append_assoc, length-append}
use Rattle.std.specs.List.{slice_range}
use Rattle.std.proofs.Math.Seq.{drop-append_seam, take-append_seam}
use Rattle.std.proofs.lemmas.List.{append-nil}
use Rattle.symbolic_prep.specs.Numbers.{IsLonger, IsPart}

module _ {X : Type 0} (xs part : List X) (start end : ℕ) where
  -- what stands there
  pub range_is : IsPart xs part start end → slice_range xs start end ≡ part
  range_is h =
      ap (slice_range xs start) (sym h.ends) ∙ ap (λ (s : ℕ). slice_range xs s (s + length part)) (sym h.starts)
      ∙ (let long : length h.before + length part - length h.before ≡ length part = omega arith in ap (λ (k : ℕ). take k (drop (length h.before) xs)) long)
      ∙ ap (λ ys. take (length part) (drop (length h.before) ys)) (h.joined ∙ append_assoc h.before part h.behind)
      ∙ ap (take (length part)) (drop-append_seam h.before (part ++ h.behind)) ∙ take-append_seam part h.behind

  -- the part ends within the list
  pub part_within : IsPart xs part start end → end ≤ length xs
  part_within h = omega (
    arith,
    ap length h.joined,
    length-append (h.before ++ part) h.behind,
    length-append h.before part,
    h.starts,
    h.ends,
  )

  -- it still does in a longer list
  pub part_longer : (longer : List X) → IsLonger xs longer → IsPart xs part start end → IsPart longer part start end
  part_longer longer l h = record {
    before = h.before;
    behind = h.behind ++ l.more;
    joined = l.joined ∙ ap (λ ys. ys ++ l.more) h.joined ∙ append_assoc (h.before ++ part) h.behind l.more;
    starts = h.starts;
    ends = h.ends;
  }

-- the part that a list has got
pub part_last : {X : Type 0} (old new part : List X) (start end : ℕ) → new ≡ old ++ part → length old ≡ start → length new ≡ end →
    IsPart new part start end
part_last old new part start end joined starts ends = record {
  before = old;
  behind = [];
  joined = joined ∙ sym (append-nil (old ++ part));
  starts = starts;
  ends = omega (arith, starts, ends, ap length joined, length-append old part);
}
