-- Degrees in which no quantity passes, and the first in which one does.
use Rattle.std.proofs.Common.{◌≡◌, ◌+◌, ◌-◌, ◌<◌, ℕ, List, refl, sym, inl, inr, arith, subst}
use Rattle.std.proofs.lemmas.Bool.{cases_lt}
use Rattle.ideal_laws.specs.Ideal.{Ideal}
use Rattle.ideal_laws.specs.declared.limits.LimitKind.{LimitKind}
use Rattle.ideal_laws.specs.Engine.{Elements, IsReducedUpto}
use Rattle.ideal_laws.specs.Kept.{IsBelow, IsKept}
use Rattle.ideal_laws.specs.Quantities.{IsFirstPassing, IsFirstRefused, IsQuantity, NonePasses, NonePassesUpto}

module _ (ideal : Ideal) (limits : List (LimitKind × ℕ)) (below : Elements) (kept : IsKept below)
    (same : below.weights ≡ ideal.weights) (reduced : IsReducedUpto ideal.modulus ideal.relations below) where
  is_below : IsBelow ideal (below.done + 1) below
  is_below = record { kept = kept; next = refl; same_weights = same; reduced = reduced }

  abbrev Q : LimitKind → ℕ → Type 0
  Q = IsQuantity ideal below (below.done + 1)

  -- where no quantity passes up to the last degree that is done, and none in the next one, none passes up to the next one
  pub upto_next : (d : ℕ) → below.done ≡ d → NonePassesUpto ideal limits d → NonePasses Q limits →
      NonePassesUpto ideal limits (d + 1)
  upto_next d is before here e from le = elim (cases_lt d e) [
    | inl last ↦
        let at : below.done + 1 ≡ e = omega (arith, last, le, is) in (
          below,
          subst (λ (n : ℕ). IsBelow ideal n below) at is_below,
          subst (λ (n : ℕ). NonePasses (IsQuantity ideal below n) limits) at here,
        )
    | inr earlier ↦ before e from earlier
  ]

  -- where no quantity passes up to the last degree that is done, and one passes in the next one, within the bound, it is the first refused
  pub refused_next : (d bound : ℕ) → below.done ≡ d → d < bound → NonePassesUpto ideal limits d → (kind : LimitKind) (degree value : ℕ)
      → (degree ≡ below.done + 1) × IsFirstPassing Q limits kind value → IsFirstRefused ideal limits bound kind degree value
  refused_next d bound is within before kind degree value h = record {
    from = omega (arith, h.0);
    upto = omega (arith, h.0, is, within);
    before = subst (NonePassesUpto ideal limits) (let at : d ≡ degree - 1 = omega (arith, h.0, is) in at) before;
    below = below;
    is_below = subst (λ (n : ℕ). IsBelow ideal n below) (sym h.0) is_below;
    passes = subst (λ (n : ℕ). IsFirstPassing (IsQuantity ideal below n) limits kind value) (sym h.0) h.1;
  }
