use Rattle.std.proofs.Common.{◌⊎◌, ◌↔◌, ℕ, List, Err, arith, map, subst, sym, ap, ◌∙◌}
use Rattle.std.specs.List.{Contains}
use Rattle.std.proofs.lemmas.List.{take_all}
use Rattle.std.proofs.lemmas.Result.{err_from_is_err_and}
use Rattle.free_poly.specs.declared.term.Term.{Term}
use Rattle.ideal_laws.specs.Quantities.{words_of}
use Rattle.words.proofs.Faults.{one_fault}
use Rattle.symbolic_prep.specs.Numbers.{IsGrown}
use Rattle.symbolic_prep.specs.Walk.{HasMore}
use Rattle.symbolic_prep.proofs.RowWords.{grown_says, row_words}
use Rattle.symbolic_prep.proofs.Sets.{rows_many, rows_more}
use Rattle.symbolic_prep.proofs.by_number.table_of.Goals as goal

pub returns-in_err-add_words-clause-many : goal.returns-in_err-add_words-clause-many
returns-in_err-add_words-clause-many c = λ e.
    let p = err_from_is_err_and c.from_residual-in_err-add_words.result c.from_residual-in_err-add_words.ensures.1 in
    let own = row_words c.args.rows.now c.loop-row.row-index c.row-item.result c.terms.result.now c.args.packing.bits c.args.packing.room
    c.loop-row.table.bits c.loop-row.table.room c.in_ok-words.words.items c.as_slice.result.now (omega arith) c.row-item.is c.terms.ensures.value
    c.requires.fits c.in_ok-words.ensures c.as_slice.ensures.value c.loop-row.invariant.bits c.loop-row.invariant.room in
    rows_many c.args.rows.now c.loop-row.table.words c.loop-row.row-index c.row-item.result c.args.most (omega arith) c.row-item.is
    c.loop-row.invariant.words (subst (λ (ws : List (List ℕ)). HasMore c.args.most (λ w. Contains c.loop-row.table.words w ⊎ Contains ws w)) own
    (c.in_err-add_words.ensures.many (ap Err (sym p.2 ∙ one_fault c.from_residual-in_err-add_words.result _ _ p.1 e))))

pub loop-row-preserved : goal.loop-row-preserved
loop-row-preserved c =
    let new = c.add_words.new.table.words in
    let so_far = c.loop-row.table.words in
    let row : List Term = c.row-item.result in
    let own = row_words c.args.rows.now c.loop-row.row-index row c.terms.result.now c.args.packing.bits c.args.packing.room
    c.loop-row.table.bits c.loop-row.table.room c.in_ok-words.words.items c.as_slice.result.now (omega arith) c.row-item.is c.terms.ensures.value
    c.requires.fits c.in_ok-words.ensures c.as_slice.ensures.value c.loop-row.invariant.bits c.loop-row.invariant.room in
    record {
      words = rows_more c.args.rows.now so_far new c.loop-row.row-index row (omega arith) c.row-item.is c.loop-row.invariant.words
          (grown_says so_far new (map (λ (t : Term). t.word) row) (subst (IsGrown so_far new) own c.in_ok-add_words.ensures.grown));
      within = c.in_ok-add_words.ensures.within;
      bits = c.in_ok-add_words.ensures.bits ∙ c.loop-row.invariant.bits;
      room = c.in_ok-add_words.ensures.room ∙ c.loop-row.invariant.room;
    }

pub returns-clause-words : goal.returns-clause-words
returns-clause-words c =
    subst (λ (rs : List (List Term)). (w : List ℕ) → Contains c.loop-row.table.words w ↔ Contains (words_of rs) w)
    (take_all c.loop-row.row-index c.args.rows.now (omega arith)) c.loop-row.invariant.words
