use Rattle.std.proofs.Common.{◌*◌, ◌%◌, ℕ, get_or, ap, ◌∙◌, refl}
use Rattle.std.proofs.lemmas.List.{get_or-replicate}
use Rattle.std.proofs.lemmas.Simd.{get_or-chunk, length-chunk}
use Rattle.row_store.proofs.LaneSums.{column_at, column_other, remainder_lane}
use lib.Lanes.{chunk}
use Rattle.row_store.proofs.lanes.take_residues.Goals as goal

pub returns-clause-residues : goal.returns-clause-residues
returns-clause-residues c = λ i low.
    let sums = c.args.sums.now in
    let place = c.args.at * 8 in
    remainder_lane c.from.result (chunk place 8 sums) i (length-chunk place 8 sums c.requires.within) low
    ∙ ap (λ (q : ℕ). get_or (chunk place 8 sums) i 0 % q) c.from.ensures
    ∙ ap (λ (s : ℕ). s % c.args.p) (get_or-chunk place 8 sums i 0 low)

pub returns-clause-zeros : goal.returns-clause-zeros
returns-clause-zeros c = λ i low. column_at c.args.at c.args.sums.now _ c.requires.within refl i low ∙ get_or-replicate 8 i 0 0 low

pub returns-clause-others : goal.returns-clause-others
returns-clause-others c = λ k i low other. column_other c.args.at c.args.sums.now _ c.requires.within refl k i low other
