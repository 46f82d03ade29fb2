use Rattle.std.proofs.Common.{Err, ap, sym, ◌∙◌}
use Rattle.std.proofs.lemmas.Result.{err_from_is_err_and}
use Rattle.ideal_laws.specs.Quantities.{words_of}
use Rattle.words.proofs.Faults.{one_fault}
use Rattle.symbolic_prep.proofs.ListedClosures.{listed-same, one_degree}
use Rattle.symbolic_prep.proofs.RowWords.{given_word, given_words, more_than, rows_digits, rows_more_than, rows_room}
use Rattle.symbolic_prep.proofs.by_number.closure_by_number.Goals as goal

pub table_of-requires-clause-over : goal.table_of-requires-clause-over
table_of-requires-clause-over c =
    let b = c.args.basis.now in
    rows_digits b.weights c.done-done.ensures.kept.weights c.args.d c.args.packing.bits c.args.packing.room c.args.rows.now
    c.requires.packing.letters_fit c.requires.rows.letters

pub table_of-requires-clause-fits : goal.table_of-requires-clause-fits
table_of-requires-clause-fits c =
    let b = c.args.basis.now in
    rows_room b.weights c.done-done.ensures.kept.weights c.args.d c.args.packing.bits c.args.packing.room c.args.rows.now
    c.requires.packing.words_fit c.requires.rows.degree

pub returns-in_err-table-clause-many : goal.returns-in_err-table-clause-many
returns-in_err-table-clause-many c = λ e.
    let p = err_from_is_err_and c.from_residual.result c.from_residual.ensures.1 in
    rows_more_than c.args.basis.now c.done-done.ensures.kept c.requires.rows.form c.args.d c.args.rows.now c.requires.rows.letters c.requires.rows.degree
    c.args.index.now c.keeps.ensures c.requires.rows.index c.args.most
    (c.in_err-table.ensures.many (ap Err (sym p.2 ∙ one_fault c.from_residual.result _ _ p.1 e)))

pub walk_by_number-requires-clause-words : goal.walk_by_number-requires-clause-words
walk_by_number-requires-clause-words c = given_words c.args.basis.now c.done-done.ensures.kept c.requires.rows.form c.args.d c.args.rows.now
    c.requires.rows.letters c.requires.rows.degree c.in_ok-table.table.words c.in_ok-table.ensures.words

pub returns-in_err-numbered-clause-many : goal.returns-in_err-numbered-clause-many
returns-in_err-numbered-clause-many c = λ e.
    let p = err_from_is_err_and c.from_residual-in_err-numbered.result c.from_residual-in_err-numbered.ensures.1 in
    more_than c.args.basis.now c.done-done.ensures.kept c.requires.rows.form c.args.d c.args.rows.now c.requires.rows.letters c.requires.rows.degree
    c.in_ok-table.table.words c.in_ok-table.ensures.words c.args.most
    (c.in_err-numbered.ensures.many (ap Err (sym p.2 ∙ one_fault c.from_residual-in_err-numbered.result _ _ p.1 e)))

pub in_order-requires-clause-degree : goal.in_order-requires-clause-degree
in_order-requires-clause-degree c =
    let b = c.args.basis.now in
    let given = c.in_ok-table.table.words in
    one_degree b c.done-done.ensures.kept c.requires.rows.form c.args.d given
    (given_word b c.done-done.ensures.kept c.requires.rows.form c.args.d c.args.rows.now c.requires.rows.letters c.requires.rows.degree given
    c.in_ok-table.ensures.words) c.in_ok-numbered.numbered.table.words c.in_ok-numbered.ensures.walked.numbered.sound

pub returns-clause-listed : goal.returns-clause-listed
returns-clause-listed c =
    let b = c.args.basis.now in
    let l = c.in_ok-in_order.field-0 in
    listed-same b.elements c.in_ok-table.table.words (words_of c.args.rows.now) c.args.entries c.args.limit _ l.lists.spans.items
    l.lists.numbers.items l.lists.residues l.entries c.in_ok-table.ensures.words
    (c.in_ok-in_order.ensures.listed b.elements c.in_ok-table.table.words c.args.entries c.in_ok-numbered.ensures.walked
    c.in_ok-residues.ensures)
