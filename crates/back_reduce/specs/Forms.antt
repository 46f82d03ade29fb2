-- The row in each of the two forms in which it may be held.
use Rattle.std.specs.Prelude.{ℕ, List}
use Rattle.back_reduce.specs.declared.form.Listed.{Listed}
use Rattle.back_reduce.specs.declared.form.Form.{Form}
use Rattle.back_reduce.specs.declared.form.Form.TheVariants as form
use Rattle.back_reduce.specs.Entries.{entries_row}

abbrev pub listed_row : Listed → List ℕ
listed_row listed = entries_row listed.width listed.columns.items listed.residues.items

abbrev pub row_in : Form → List ℕ
row_in (form.Full residues) = residues.items
row_in (form.Listed listed) = listed_row listed
