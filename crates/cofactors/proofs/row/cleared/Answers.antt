use Rattle.std.proofs.Common.{◌≡◌, ◌+◌, ◌<◌, ◌%◌, ◌++◌, ◌∷◌, ℕ, List, [], length, take, get_or, sym, ap, ◌∙◌, arith, subst, append-nil}
use Rattle.std.specs.List.{Contains}
use Rattle.std.proofs.lemmas.List.{take_more}
use Rattle.std.proofs.lemmas.List.Elements.{All-contains, All-nil}
use Rattle.words.specs.Order.{IsLetterwiseGreater}
use Rattle.free_poly.specs.declared.term.Term.{Term}
use Rattle.free_poly.specs.Poly.{IsMonic}
use Rattle.free_poly.specs.Terms.{total_at}
use Rattle.cofactors.specs.declared.row.Row.{Row}
use Rattle.cofactors.specs.Rows.{IsRow, IsTracked, IsZeroAtLeads, lead_word}
use Rattle.cofactors.proofs.Clearing.{earlier, plus-spanned, plus-tracked, zero-push}
use Rattle.cofactors.proofs.row.cleared.Goals as goal

pub loop-leader-init : goal.loop-leader-init
loop-leader-init c = record {
  row = c.requires.row;
  spanned = record {
    parts = [];
    among = All-nil (λ (x : ℕ × Row). Contains c.args.leaders.now x.1);
    sum = λ w. ap (λ (f : List Term). total_at f w % c.args.field.now) (sym (append-nil c.args.row.element));
  };
  tracked = λ fs base h k. k;
  zero = All-nil (λ (r : Row). total_at c.args.row.element (lead_word r) ≡ 0);
}

pub without_lead-requires-clause-leader : goal.without_lead-requires-clause-leader
without_lead-requires-clause-leader c = All-contains (IsRow c.args.field.now) c.args.leaders.now c.leader-item.result
    c.requires.leaders.each (c.loop-leader.leader-index, c.loop-leader-test.true, sym c.leader-item.is)

pub without_lead-requires-clause-monic : goal.without_lead-requires-clause-monic
without_lead-requires-clause-monic c = All-contains (λ (r : Row). IsMonic r.element) c.args.leaders.now c.leader-item.result
    c.requires.leaders.monic (c.loop-leader.leader-index, c.loop-leader-test.true, sym c.leader-item.is)

pub without_lead-requires-clause-row : goal.without_lead-requires-clause-row
without_lead-requires-clause-row c = c.loop-leader.invariant.row

pub loop-leader-preserved : goal.loop-leader-preserved
loop-leader-preserved c =
    let p = c.args.field.now in
    let leaders = c.args.leaders.now in
    let i = c.loop-leader.leader-index in
    let leader = c.leader-item.result in
    let before = c.loop-leader.left in
    let after = c.in_ok-left.left in
    let within : i < length leaders = c.loop-leader-test.true in
    let is : leader ≡ get_or leaders i leader = c.leader-item.is in
    let member : Contains leaders leader = (i, within, sym is) in
    let plus = c.in_ok-left.ensures.plus in
    let some : 0 < p = omega (arith, c.modulus-modulus.ensures.field.two_or_more) in
    let own = All-contains (IsRow p) leaders leader c.requires.leaders.each member in
    let greater = earlier (λ (r s : Row). IsLetterwiseGreater (lead_word r) (lead_word s)) leaders i leader c.requires.leaders.falling within is in
    let more : take (i + 1) leaders ≡ take i leaders ++ leader ∷ [] = take_more leaders i leader within ∙ ap (λ (r : Row). take i leaders ++ r ∷ []) (sym is) in
    record {
      row = c.in_ok-left.ensures.row;
      spanned = plus-spanned p plus.0 leader before after plus.1 some leaders c.args.row.element member c.loop-leader.invariant.spanned;
      tracked = λ fs base h k. plus-tracked p plus.0 leader before after plus.1 fs base
          (All-contains (IsTracked p fs []) leaders leader h member) (c.loop-leader.invariant.tracked fs base h k);
      zero = subst (λ (rs : List Row). IsZeroAtLeads rs after.element) (sym more)
          (zero-push p plus.0 leader before after plus.1 some c.in_ok-left.ensures.row own (take i leaders) greater
          c.loop-leader.invariant.zero c.in_ok-left.ensures.zero);
    }
