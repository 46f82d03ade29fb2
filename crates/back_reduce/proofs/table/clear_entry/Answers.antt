use Rattle.std.proofs.Common.{◌<◌, ℕ, All, length, sym, ap, ◌∙◌, arith, subst}
use Rattle.field_table.specs.Residues.{plus_multiple}
use Rattle.field_table.proofs.Multiples.{plus_multiple-residues}
use Rattle.back_reduce.proofs.Vectors.{leader_within}
use Rattle.back_reduce.proofs.table.clear_entry.Goals as goal

pub returns-clause-sums : goal.returns-clause-sums
returns-clause-sums c =
    c.add_multiple.ensures ∙ ap (λ (n : ℕ). plus_multiple c.args.field.now n c.args.row.now c.args.leader.now) c.neg-a.ensures

pub returns-clause-residues : goal.returns-clause-residues
returns-clause-residues c =
    let first = c.requires.row c.args.at 0 (leader_within c.args.field.now (length c.args.row.now) c.args.at c.args.leader.now c.requires.leader) in
    subst (All (λ r. r < c.args.field.now)) (sym (returns-clause-sums c))
    (plus_multiple-residues c.args.field.now _ c.args.row.now c.args.leader.now (omega (arith, first)) (sym c.requires.leader.size))
