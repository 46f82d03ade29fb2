use Rattle.std.proofs.Common.{◌≡◌, ◌+◌, ◌*◌, ◌/◌, ◌<◌, ℕ, List, [], Some, length, refl, set, sym, take, ap, ◌∙◌, arith, inl, inr, subst}
use Rattle.std.specs.List.{slice_get}
use Rattle.std.proofs.lemmas.Bool.{cases_eq}
use Rattle.std.proofs.lemmas.Option.{get_or_from_slice_get, slice_get_within}
use Rattle.row_store.specs.Blocks.{lane}
use Rattle.row_store.specs.Entries.{dense_of}
use Rattle.row_store.specs.Marks.{AreMarks}
use Rattle.free_poly.specs.declared.term.Term.{Term}
use Rattle.free_poly.specs.Poly.{IsPolynomial}
use Rattle.row_store.proofs.Bits.{AreMarks-more, AreMarks-set}
use Rattle.row_store.proofs.Dense.{dense_more, dense_none, there}
use Rattle.row_store.proofs.LaneViews.{length-lane, write-other, write-own}
use Rattle.row_store.proofs.rows.write_lane.Goals as goal

pub column_of-at-requires : goal.column_of-at-requires
column_of-at-requires c =
    there c.args.closed.now.columns c.args.row.now c.terms-terms.result.now c.loop-term.term-index c.term-item.result
    c.letters.result.now c.terms-terms.ensures.value c.requires.on_columns (omega arith) c.term-item.is c.letters.ensures

-- a column is one of the sums
below : (columns : List (List ℕ)) (sums now : List ℕ) (at : ℕ) (w : List ℕ) → length sums ≡ length columns * 8 → length now ≡ length sums →
    slice_get columns at ≡ Some w → at < length now / 8
below columns sums now at w whole long here = omega (arith, slice_get_within columns at w here, whole, long)

pub loop-term-preserved : goal.loop-term-preserved
loop-term-preserved c =
    let items = c.terms-terms.result.now in
    let columns = c.args.closed.now.columns in
    let i = c.args.i in
    let n = c.loop-term.term-index in
    let t : Term = c.term-item.result in
    let at = c.column_of-at.result in
    let v = c.from.result in
    let sums = c.loop-term.sums in
    let here : slice_get columns at ≡ Some c.letters.result.now = c.column_of-at.ensures in
    let within = slice_get_within columns at c.letters.result.now here in
    let h = c.loop-term.invariant in
    let form : IsPolynomial items = subst IsPolynomial (sym c.terms-terms.ensures.value) c.terms-terms.ensures.form in
    let whole : length sums ≡ length sums / 8 * 8 = omega (arith, c.requires.whole, c.loop-term.auto.sums) in
    let lt : at < length sums / 8 = below columns c.args.sums.now sums at c.letters.result.now c.requires.whole c.loop-term.auto.sums here in
    let low = c.requires.lane in
    let own = write-own sums at i v whole lt low in
    record {
      own = own ∙ ap (λ (d : List ℕ). set d at v) h.own ∙ ap (set (dense_of columns (take n items)) at) c.from.ensures
          ∙ dense_more columns items n at t c.requires.falling form (omega arith) c.term-item.is within
          (get_or_from_slice_get columns at c.letters.result.now [] here ∙ c.letters.ensures);
      others = λ j less apart. write-other sums at i v whole lt low j less apart ∙ h.others j less apart;
      marks = λ j less. elim (cases_eq j i) [
        | inl same ↦ subst (λ (k : ℕ). AreMarks (lane (set sums (at * 8 + i) v) k) c.mark.new.bits) (sym same)
            (subst (λ (l : List ℕ). AreMarks l c.mark.new.bits) (sym own)
            (AreMarks-set (lane sums i) c.loop-term.bits c.mark.new.bits at v (h.marks i low) (omega (arith, lt, length-lane sums i)) c.mark.auto.bits
            c.mark.ensures.own c.mark.ensures.others))
        | inr apart ↦ subst (λ (l : List ℕ). AreMarks l c.mark.new.bits) (sym (write-other sums at i v whole lt low j less apart))
            (AreMarks-more (lane sums j) c.loop-term.bits c.mark.new.bits at (h.marks j less) (omega (arith, lt, length-lane sums j)) c.mark.auto.bits
            c.mark.ensures.own c.mark.ensures.others)
      ];
    }

pub loop-term-init : goal.loop-term-init
loop-term-init c = record {
  own = c.requires.zeros ∙ dense_none c.args.closed.now.columns (length c.args.closed.now.columns) refl;
  others = λ j less apart. refl;
  marks = c.requires.marks;
}
