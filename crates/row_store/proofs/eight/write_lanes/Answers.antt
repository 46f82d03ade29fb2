use Rattle.std.proofs.Common.{◌≢◌, ◌<◌, ℕ, List, get_or, length, sym, ap, ◌∙◌, arith, inl, inr, subst}
use Rattle.std.proofs.lemmas.Bool.{cases_eq}
use Rattle.std.proofs.lemmas.List.{get_or_default}
use Rattle.free_poly.specs.declared.term.Term.{Term}
use Rattle.free_poly.specs.Poly.{IsPolynomial}
use Rattle.row_store.specs.Blocks.{lane}
use Rattle.row_store.specs.Contested.{IsOnColumns}
use Rattle.row_store.specs.Entries.{dense_of}
use Rattle.row_store.proofs.Bits.{AreMarks-none}
use Rattle.row_store.proofs.LaneViews.{lane-zeros}
use Rattle.row_store.proofs.eight.write_lanes.Goals as goal

pub loop-i-init : goal.loop-i-init
loop-i-init c =
    let n = length c.args.closed.now.columns in
    let none = λ (j : ℕ) (low : j < 8). lane-zeros c.args.sums.now n j c.requires.zeros low in
    record {
      forms = λ j f low. absurd (omega (arith, low));
      done = λ j f low. absurd (omega (arith, low));
      open_lanes = λ j past low. none j low;
      marks = λ j low. AreMarks-none n (lane c.args.sums.now j) c.args.bits.now (none j low) c.requires.words c.requires.unmarked;
    }

pub write_lane-requires-clause-on_columns : goal.write_lane-requires-clause-on_columns
write_lane-requires-clause-on_columns c =
    subst (IsOnColumns c.args.closed.now.columns) (sym c.index-rows-i.is)
    (c.requires.on_columns c.loop-i.i c.index-rows-i.result (omega (arith, c.loop-i-test.true, c.requires.eight)))

pub loop-i-preserved : goal.loop-i-preserved
loop-i-preserved c =
    let i = c.loop-i.i in
    let h = c.loop-i.invariant in
    let columns = c.args.closed.now.columns in
    let rows = c.args.rows.now in
    let own = λ (f : List Term). c.index-rows-i.is ∙ get_or_default rows i c.index-rows-i.result f (omega (arith, c.loop-i-test.true, c.requires.eight)) in
    record {
      forms = λ j f low. elim (cases_eq j i) [
        | inl same ↦ subst (λ (k : ℕ). IsPolynomial (get_or rows k f)) (sym same) (subst IsPolynomial (own f) c.write_lane.ensures.form)
        | inr apart ↦ h.forms j f (omega (arith, low, apart))
      ];
      done = λ j f low. elim (cases_eq j i) [
        | inl same ↦ ap (lane c.write_lane.new.sums) same ∙ c.write_lane.ensures.own
            ∙ ap (dense_of columns) (own f ∙ ap (λ (k : ℕ). get_or rows k f) (sym same))
        | inr apart ↦ c.write_lane.ensures.others j (omega (arith, low, apart, c.loop-i-test.true)) apart ∙ h.done j f (omega (arith, low, apart))
      ];
      open_lanes = λ j past low. (
          let apart : j ≢ i = λ same. (omega (arith, past, same)) in
          c.write_lane.ensures.others j low apart ∙ h.open_lanes j (omega (arith, past)) low);
      marks = c.write_lane.ensures.marks;
    }
