use Rattle.std.proofs.Common.{◌≡◌, ◌<◌, arith, subst, sym}
use Rattle.std.specs.List.{All}
use Rattle.field_table.specs.Residues.{plus_multiple}
use Rattle.field_table.proofs.Multiples.{plus_multiple-residues, plus_multiple_by_places}
use Rattle.field_table.proofs.field.Field.axpy.Goals as goal

pub returns-clause-sums : goal.returns-clause-sums
returns-clause-sums c =
    plus_multiple_by_places c.args.self.now c.args.a c.args.y.now c.args.x.now c.loop-at.y (omega arith) c.requires.lengths
    (λ k within. rw (← c.self.view_is) (c.loop-at.invariant.0 k (omega (arith, within))))

pub returns-clause-residues : goal.returns-clause-residues
returns-clause-residues c =
    let sums : c.loop-at.y ≡ plus_multiple c.args.self.now c.args.a c.args.y.now c.args.x.now = returns-clause-sums c in
    subst (All (λ r. r < c.args.self.now)) (sym sums) (plus_multiple-residues c.args.self.now c.args.a c.args.y.now c.args.x.now
    (omega arith) c.requires.lengths)
