-- Of a reduced basis the chains over the leading words are those over the minimal words.
use Rattle.std.proofs.Common.{◌+◌, ◌≤◌, ℕ, List, length, refl, arith}
use Rattle.free_poly.specs.declared.term.Term.{Term}
use Rattle.ideal_laws.specs.Engine.{Elements, IsReducedUpto}
use Rattle.ideal_laws.specs.Ideal.{IsMinimal, ideal_over}
use Rattle.ideal_laws.specs.Kept.{IsKept}
use Rattle.ideal_laws.specs.Laws.{IsSetting}
use Rattle.ideal_laws.specs.Overlaps.{AreLower}
use Rattle.ideal_laws.proofs.Lower.{lists_lower}
use Rattle.anick_chains.specs.declared.chain.Chain.{Chain}
use Rattle.anick_chains.specs.Listed.{AreListed, AreListedOf}
use Rattle.anick_chains.proofs.BasisChains.{has_minimal_chains}

module _ (b : Elements) (kept : IsKept b) (p : ℕ) (relations : List (List Term)) (st : IsSetting (ideal_over p b.weights relations))
    (upto : IsReducedUpto p relations b) where
  lower : AreLower (ideal_over p b.weights relations) (b.done + 1) b.elements
  lower = lists_lower (ideal_over p b.weights relations) st (b.done + 1) b (record { kept = kept; next = refl; same_weights = refl; reduced = upto })

  -- up to the last degree that is done
  pub listed_minimal : (bound : ℕ) → bound ≤ b.done → (found : List Chain) → AreListedOf b bound found
      → AreListed (IsMinimal (ideal_over p b.weights relations)) (length b.weights) b.weights bound found
  listed_minimal bound le found h = record {
    degrees = h.degrees;
    chains = record {
      exactly = λ c. (
        (λ m. let r = (h.chains.exactly c).0 m in (
          (has_minimal_chains (ideal_over p b.weights relations) st (b.done + 1) b.elements lower c
              (omega (arith, le, r.1))).0 r.0,
          r.1,
        )),
        (λ r. (h.chains.exactly c).1 (
          (has_minimal_chains (ideal_over p b.weights relations) st (b.done + 1) b.elements lower c (omega (arith, le, r.1))).1 r.0,
          r.1,
        )),
      );
      ordered = h.chains.ordered;
    };
  }
