use Rattle.std.proofs.Common.{ap₂, ◌≡◌, ◌-◌, ◌++◌, [], ℕ, List, length, take, drop, ap, ◌∙◌}
use Rattle.free_poly.specs.Poly.{IsPolynomial}
use Rattle.free_poly.specs.Terms.{HasResidues, IsSame, scaled}
use Rattle.overlaps.specs.Walk.{lead_word}
use Rattle.overlaps.proofs.Fronts.{rest-all}
use Rattle.overlaps.proofs.Rows.{IfOk-three, is_row, left_within, no_prefix, residues-product, right_within}
use Rattle.overlaps.proofs.obstruction.Obstruction.row.Goals as goal

pub times-requires : goal.times-requires
times-requires c =
    let b = c.args.basis.now in
    let kept = c.lead_at-covered.ensures.kept in
    no_prefix b kept c.args.self.now.left c.element.result.now (left_within b kept c.args.self.now c.requires.obstruction) c.element.ensures

pub element-requires-2 : goal.element-requires-2
element-requires-2 c = right_within c.args.basis.now c.lead_at-covered.ensures.kept c.args.self.now c.requires.obstruction

pub times-requires-2 : goal.times-requires-2
times-requires-2 c =
    let b = c.args.basis.now in
    let kept = c.lead_at-covered.ensures.kept in
    no_prefix b kept c.args.self.now.right c.element-2.result.now (right_within b kept c.args.self.now c.requires.obstruction) c.element-2.ensures

pub add_scaled-requires-clause-residues : goal.add_scaled-requires-clause-residues
add_scaled-requires-clause-residues c =
    let b = c.args.basis.now in
    let letters : List ℕ = c.letters-letters.result.now in
    let covered = length c.lead_at-covered.result.now in
    let within = left_within b c.lead_at-covered.ensures.kept c.args.self.now c.requires.obstruction in
    residues-product c.args.field.now b.elements c.args.self.now.left c.element.result.now c.in_ok-first.first []
    (take (length letters - covered) (drop covered letters)) c.requires.residues within c.element.ensures c.in_ok-first.ensures.product

pub add_scaled-requires-clause-other_residues : goal.add_scaled-requires-clause-other_residues
add_scaled-requires-clause-other_residues c =
    let b = c.args.basis.now in
    let letters : List ℕ = c.letters-letters.result.now in
    let covered = length c.lead_at-covered.result.now in
    let within = right_within b c.lead_at-covered.ensures.kept c.args.self.now c.requires.obstruction in
    residues-product c.args.field.now b.elements c.args.self.now.right c.element-2.result.now c.in_ok-second.second
    (take (covered - c.args.self.now.shared) letters) [] c.requires.residues within c.element-2.ensures c.in_ok-second.ensures.product

pub returns : goal.returns
returns c =
    let b = c.args.basis.now in
    let p = c.args.field.now in
    let x = c.args.self.now in
    let kept = c.lead_at-covered.ensures.kept in
    let letters : List ℕ = c.letters-letters.result.now in
    let covered = length c.lead_at-covered.result.now in
    let front : take (covered - x.shared) letters ≡ take (length (lead_word b.elements x.left) - x.shared) x.word =
    ap₂ (λ (v w : List ℕ). take (length v - x.shared) w) c.lead_at-covered.ensures.lead c.letters-letters.ensures in
    let back : take (length letters - covered) (drop covered letters) ≡ drop (length (lead_word b.elements x.left)) x.word =
    rest-all letters covered ∙ ap₂ (λ (v w : List ℕ). drop (length v) w) c.lead_at-covered.ensures.lead c.letters-letters.ensures in
    IfOk-three (λ row. IsSame p row (c.in_ok-first.first ++ scaled (c.modulus.result - 1) c.in_ok-second.second)) IsPolynomial (HasResidues p) _
    (λ row sum form residues. is_row b kept p (c.modulus.result - 1) x c.in_ok-first.first c.in_ok-second.second
    (take (covered - x.shared) letters) (take (length letters - covered) (drop covered letters))
    c.element.result.now c.element-2.result.now (ap (λ (n : ℕ). n - 1) c.modulus.ensures.value) c.element.ensures c.element-2.ensures front
    back c.in_ok-first.ensures.product c.in_ok-second.ensures.product row sum form residues)
    c.add_scaled.result c.add_scaled.ensures.sum c.add_scaled.ensures.form c.add_scaled.ensures.residues
