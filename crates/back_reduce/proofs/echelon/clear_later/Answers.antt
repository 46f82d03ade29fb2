use Rattle.std.proofs.Common.{◌≡◌, ◌≢◌, ◌<◌, ℕ, List, length, get_or, refl, sym, ap, ◌∙◌, inl, inr, arith, subst}
use Rattle.std.specs.List.{Contains}
use Rattle.std.proofs.lemmas.Bool.{cases_eq}
use Rattle.std.proofs.lemmas.List.{get_or_read}
use Rattle.std.proofs.lemmas.List.Elements.{Contains-get_or}
use Rattle.linear_algebra.proofs.Algebra.{IsInSpan-one}
use Rattle.field_table.specs.Residues.{negative_of, plus_multiple}
use Rattle.back_reduce.specs.declared.echelon.Leader.{Leader}
use Rattle.back_reduce.specs.Leaders.{IsLaterVector}
use Rattle.back_reduce.specs.Table.{IsLeader}
use Rattle.back_reduce.proofs.Sums.{plus_more, plus_nothing}
use Rattle.back_reduce.proofs.Vectors.{gone_entry, kept_entry, leader_within, K, vec}
use Rattle.back_reduce.proofs.echelon.clear_later.Goals as goal

pub loop-later-init : goal.loop-later-init
loop-later-init c = record {
  leader = c.requires.own;
  zeros = λ k d none. absurd (omega (arith, none));
  sum = λ modulus. plus_nothing c.args.field.now modulus (IsLaterVector c.args.field.now modulus c.args.leaders.now c.args.column)
      c.args.row.now c.args.row.now refl;
}

pub loop-later-preserved : goal.loop-later-preserved
loop-later-preserved c =
    let p = c.args.field.now in
    let leaders = c.args.leaders.now in
    let column = c.args.column in
    let m = length c.args.row.now in
    let row = c.loop-later.row in
    let next = c.clear_entry.new.row in
    let index = c.loop-later.later-index in
    let later : Leader = c.later-item.result in
    let pivot = later.row in
    let within : index < length leaders = omega arith in
    let at = later.column in
    let leader : IsLeader p m at pivot = subst (λ (l : Leader). IsLeader p m l.column l.row) (sym c.later-item.is)
    (c.requires.leaders.each index later within) in
    let there : Contains leaders later = subst (Contains leaders) (sym c.later-item.is) (Contains-get_or leaders index later within) in
    let after : column < at = c.if-later-column.false in
    let below : at < m = leader_within p m at pivot leader in
    let now = c.loop-later.invariant.leader in
    let other : get_or row at 0 ≢ 0 = c.if-row-at-eq0.false in
    let factor = negative_of p (get_or row at 0) in
    let sums : next ≡ plus_multiple p factor row pivot = c.clear_entry.ensures.sums in
    let kept : (k : ℕ) → k < at → get_or next k 0 ≡ get_or row k 0 =
    λ k lt. ap (λ (r : List ℕ). get_or r k 0) sums ∙ kept_entry p m factor at k row pivot now.size now.residues leader lt (omega (arith, lt, below)) in
    record {
      leader = record {
        size = omega (arith, c.clear_entry.auto.row, now.size);
        residues = c.clear_entry.ensures.residues;
        one = kept column after ∙ now.one;
        before = λ k lt. kept k (omega (arith, lt, after)) ∙ now.before k lt;
      };
      zeros = λ k d lt right. elim (cases_eq k index) [
        | inl is ↦ (
            let same : get_or leaders k d ≡ later = ap (λ (n : ℕ). get_or leaders n d) is ∙ sym (get_or_read leaders index later within c.later-item.is d) in
            ap (λ (l : Leader). get_or next l.column 0) same ∙ ap (λ (r : List ℕ). get_or r at 0) sums
            ∙ gone_entry p m at row pivot now.size now.residues leader below other)
        | inr earlier ↦ (
            let less : (get_or leaders k d).column < at =
            subst (λ (l : Leader). (get_or leaders k d).column < l.column) (sym (get_or_read leaders index later within c.later-item.is d))
            (c.requires.leaders.rising k index d (omega (arith, lt, earlier)) within) in
            kept (get_or leaders k d).column less ∙ c.loop-later.invariant.zeros k d (omega (arith, lt, earlier)) right)
      ];
      sum = λ modulus. plus_more p modulus (IsLaterVector p modulus leaders column) factor c.args.row.now row next pivot
          (omega (arith, now.size, leader.size)) sums
          (IsInSpan-one (K p modulus) ℕ (IsLaterVector p modulus leaders column) (vec p modulus pivot)
          (record { later = later; there = there; after = after; is = refl }))
          (c.loop-later.invariant.sum modulus);
    }
