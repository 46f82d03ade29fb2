use Rattle.std.proofs.Common.{◌≡◌, ◌<◌, ◌+◌, ◌-◌, ◌%◌, ℕ, List, Result, Ok, Err, subst, sym, ap, ◌∙◌, arith}
use Rattle.std.proofs.Math.Nat.{add-mod-mod, mod_self}
use Rattle.std.specs.Result.{IfOk}
use Rattle.free_poly.specs.Poly.{lead_or_none}
use Rattle.free_poly.specs.Terms.{total_at}
use Rattle.free_poly.proofs.Totals.{AreApart-from_polynomial, total_residue}
use Rattle.field_table.specs.Residues.{negative_of}
use Rattle.cofactors.specs.declared.row.Row.{Row}
use Rattle.cofactors.specs.Rows.{IsPlusTimes, IsRow}
use Rattle.cofactors.proofs.Clearing.{one_at_lead, plus_none, zero_here}
use Rattle.cofactors.proofs.row.without_lead.Goals as goal

pub returns-then-entry-eq0-clause-plus : goal.returns-then-entry-eq0-clause-plus
returns-then-entry-eq0-clause-plus c = (0, plus_none c.args.field.now c.args.leader.now c.args.row)

pub neg-requires : goal.neg-requires
neg-requires c =
    let p = c.args.field.now in
    let row = c.requires.row in
    subst (λ (n : ℕ). n < p) (sym c.entry_at_lead-entry.ensures)
    (total_residue p (omega (arith, c.modulus-modulus.ensures.field.two_or_more)) c.args.row.element
    (AreApart-from_polynomial c.args.row.element row.form) row.residues (lead_or_none c.args.leader.now.element))

-- what the sum gives, where there is one
zero_after : {E : Type 0} (p a : ℕ) (leader before : Row) (r : Result Row E) (w : List ℕ) → 0 < p → total_at leader.element w ≡ 1 →
    (total_at before.element w + a) % p ≡ 0
    → IfOk r (IsRow p) → IfOk r (λ after. IsPlusTimes p a leader before after) → IfOk r (λ after. total_at after.element w ≡ 0)
zero_after p a leader before (Ok after) w some one none row plus = zero_here p a leader before after plus some row w one none
zero_after p a leader before (Err e) w some one none row plus = tt

pub returns-clause-zero : goal.returns-clause-zero
returns-clause-zero c =
    let p = c.args.field.now in
    let row = c.requires.row in
    let leader = c.args.leader.now in
    let entry = total_at c.args.row.element (lead_or_none leader.element) in
    let some : 0 < p = omega (arith, c.modulus-modulus.ensures.field.two_or_more) in
    let small : entry < p = total_residue p some c.args.row.element (AreApart-from_polynomial c.args.row.element row.form) row.residues
    (lead_or_none leader.element) in
    let a : c.neg.result ≡ (p - entry) % p = c.neg.ensures ∙ ap (negative_of p) c.entry_at_lead-entry.ensures in
    let whole : entry + (p - entry) ≡ p = omega (arith, small) in
    let none : (entry + c.neg.result) % p ≡ 0 = ap (λ (n : ℕ). (entry + n) % p) a ∙ add-mod-mod entry (p - entry) p
    ∙ ap (λ (n : ℕ). n % p) whole ∙ mod_self p in
    zero_after p c.neg.result leader c.args.row c.plus_leader.result (lead_or_none leader.element) some
    (one_at_lead leader.element c.requires.monic c.requires.leader.form) none c.plus_leader.ensures.row c.plus_leader.ensures.sum
