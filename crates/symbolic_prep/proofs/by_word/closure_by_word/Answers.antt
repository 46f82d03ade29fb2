use Rattle.std.proofs.Common.{◌≤◌, ℕ, List, All, Err, arith, ap, le-leb, leb-true, length, subst, sym, ◌∙◌}
use Rattle.std.specs.BTreeSet.{keys}
use Rattle.std.specs.List.{AllZip}
use Rattle.std.proofs.lemmas.Result.{err_from_is_err_and}
use Rattle.ideal_laws.specs.Closure.{HasReducer}
use Rattle.ideal_laws.specs.Quantities.{words_of}
use Rattle.words.proofs.Faults.{one_fault}
use Rattle.symbolic_prep.specs.Columns.{IsOnColumns}
use Rattle.symbolic_prep.specs.Numbers.{IsSpanOf}
use Rattle.symbolic_prep.proofs.ByWord.{closure_on_columns}
use Rattle.symbolic_prep.proofs.Ending.{AllZip-length}
use Rattle.symbolic_prep.proofs.ListedClosures.{listed-same, walked_listed}
use Rattle.symbolic_prep.proofs.RowWords.{given_words, more_than, rows_more_than}
use Rattle.symbolic_prep.proofs.by_word.closure_by_word.Goals as goal

pub returns-in_err-pending-clause-many : goal.returns-in_err-pending-clause-many
returns-in_err-pending-clause-many c = λ e.
    let p = err_from_is_err_and c.from_residual.result c.from_residual.ensures.1 in
    rows_more_than c.args.basis.now c.done-done.ensures.kept c.requires.rows.form c.args.d c.args.rows.now c.requires.rows.letters c.requires.rows.degree
    c.args.index.now c.keeps.ensures c.requires.rows.index c.args.most
    (c.in_err-pending.ensures.many (ap Err (sym p.2 ∙ one_fault c.from_residual.result _ _ p.1 e)))

pub walk-requires-clause-words : goal.walk-requires-clause-words
walk-requires-clause-words c = given_words c.args.basis.now c.done-done.ensures.kept c.requires.rows.form c.args.d c.args.rows.now
    c.requires.rows.letters c.requires.rows.degree (keys c.in_ok-pending.pending) c.in_ok-pending.ensures.words

pub returns-in_err-walked-clause-many : goal.returns-in_err-walked-clause-many
returns-in_err-walked-clause-many c = λ e.
    let p = err_from_is_err_and c.from_residual-in_err-walked.result c.from_residual-in_err-walked.ensures.1 in
    more_than c.args.basis.now c.done-done.ensures.kept c.requires.rows.form c.args.d c.args.rows.now c.requires.rows.letters c.requires.rows.degree
    (keys c.in_ok-pending.pending) c.in_ok-pending.ensures.words c.args.most
    (c.in_err-walked.ensures.many (ap Err (sym p.2 ∙ one_fault c.from_residual-in_err-walked.result _ _ p.1 e)))

pub listed_if-requires-clause-size : goal.listed_if-requires-clause-size
listed_if-requires-clause-size c =
    let b = c.args.basis.now in
    let w = c.in_ok-walked.walked in
    let h = c.in_ok-walked.ensures.walked in
    omega (
      arith,
      ap length c.as_slice.ensures.value,
      ap length c.as_slice-2.ensures.value,
      h.counted.size,
      AllZip-length (HasReducer b.elements) w.columns.items h.reducers h.closed.are_reducers,
    )

pub listed_if-requires-clause-on_columns : goal.listed_if-requires-clause-on_columns
listed_if-requires-clause-on_columns c = λ held.
    let b = c.args.basis.now in
    let w = c.in_ok-walked.walked in
    let h = c.in_ok-walked.ensures.walked in
    let le : w.entries ≤ c.args.limit = omega (arith, leb-true _ _ held, c.from.ensures) in
    let on = closure_on_columns b.elements (keys c.in_ok-pending.pending) w.columns.items h.reducers h.closed.are_columns h.closed.are_reducers in
    subst (λ (cs : List (List ℕ)). All (IsOnColumns cs) c.as_slice-2.result.now) (sym c.as_slice.ensures.value)
    (subst (All (IsOnColumns w.columns.items)) (sym (c.as_slice-2.ensures.value ∙ h.counted.same le)) on)

pub returns-clause-listed : goal.returns-clause-listed
returns-clause-listed c =
    let b = c.args.basis.now in
    let w = c.in_ok-walked.walked in
    let spans = c.in_ok-lists.lists.spans.items in
    let numbers = c.in_ok-lists.lists.numbers.items in
    let residues = c.in_ok-lists.lists.residues in
    listed-same b.elements (keys c.in_ok-pending.pending) (words_of c.args.rows.now) c.args.entries c.args.limit w.columns.items spans
    numbers residues w.entries c.in_ok-pending.ensures.words
    (walked_listed b.elements (keys c.in_ok-pending.pending) c.args.entries c.args.limit w.columns.items w.reducers.items w.entries spans
    numbers residues c.in_ok-walked.ensures.walked
    (λ le. subst (AllZip (IsSpanOf w.columns.items numbers residues) spans) c.as_slice-2.ensures.value
    (subst (λ (cs : List (List ℕ)). AllZip (IsSpanOf cs numbers residues) spans c.as_slice-2.result.now) c.as_slice.ensures.value
    (c.in_ok-lists.ensures (le-leb _ _ (omega (arith, le, c.from.ensures)))))))
