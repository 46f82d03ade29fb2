use Rattle.std.proofs.Common.{◌≡◌, ◌+◌, ◌%◌, ◌<◌, ℕ, All, length, sym, ap, ◌∙◌, arith, subst}
use Rattle.std.proofs.Math.Nat.{mod-lt}
use Rattle.std.proofs.lemmas.List.{length_push}
use Rattle.std.proofs.lemmas.List.Elements.{All-push}
use Rattle.lane_kernel.proofs.tests.residues.Goals as goal

residue : (p v n : ℕ) → 0 < p → v ≡ n % p → v < p
residue p v n pos e = subst (λ (i : ℕ). i < p) (sym e) (mod-lt n {m = p} pos)

pub loop-k-preserved : goal.loop-k-preserved
loop-k-preserved c =
    let p = c.args.field.now in
    let own : c.from_wide.result < p = residue p c.from_wide.result _ (omega (arith, c.modulus-modulus.ensures.field.two_or_more)) c.from_wide.ensures in
    let items = c.in_ok-push.ensures.items in
    record {
      all = subst (All (λ r. r < p)) (sym items) (All-push (λ r. r < p) c.loop-k.all.items c.from_wide.result c.loop-k.invariant.all own);
      len = ap length items ∙ length_push c.loop-k.all.items c.from_wide.result ∙ ap (λ (n : ℕ). n + 1) c.loop-k.invariant.len;
    }
