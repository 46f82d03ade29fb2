-- What is told of a right module over the reduced basis of its ideal.
use Rattle.std.proofs.Common.{◌≡◌, ◌+◌, ℕ, All, List, ap, arith, subst, sym}
use Rattle.free_poly.specs.declared.term.Term.{Term}
use Rattle.ideal_laws.specs.Ideal.{ideal_of, ideal_over}
use Rattle.ideal_laws.specs.declared.engine.EngineFault.{EngineFault}
use Rattle.ideal_laws.specs.declared.engine.EngineFault.TheVariants as engine
use Rattle.ideal_laws.specs.declared.limits.LimitKind.{LimitKind}
use Rattle.ideal_laws.specs.declared.presentation.Presentation.{Presentation}
use Rattle.ideal_laws.specs.Basis.{IsReducedBasis}
use Rattle.ideal_laws.specs.Engine.{Elements, IsReducedUpto, of_degree}
use Rattle.ideal_laws.specs.Kept.{IsBelow, IsKept}
use Rattle.ideal_laws.specs.Laws.{IsSetting}
use Rattle.ideal_laws.proofs.Lower.{lists_lower}
use Rattle.lead_index.specs.declared.lead.Lead.{Lead}
use Rattle.lead_index.specs.Leads.{IsIndexOf}
use Rattle.hilbert.proofs.Indexed.{indexes_leads}
use Rattle.right_modules.specs.declared.module.ModuleDegree.{ModuleDegree}
use Rattle.right_modules.specs.declared.module.ModuleFault.TheVariants as own
use Rattle.right_modules.specs.Answered.{AreModuleDegrees, ArePartsUpto, AreShaped, fault_of, free_letters}
use Rattle.right_modules.specs.Extended.{TellsOutside}
use Rattle.right_modules.specs.Laws.{IsModuleSetting}
use Rattle.right_modules.specs.Module.{IsShaped}
use Rattle.right_modules.specs.ModuleBasis.{IsModuleBasis}
use Rattle.right_modules.proofs.ModuleCounts.{outside_where_normal}
use Rattle.right_modules.proofs.ModuleReduced.{part_is_basis}

-- a fault that is a limit comes of the engine's limit
pub limit_from_fault : (fault : EngineFault) (kind : LimitKind) (degree value : ℕ) → fault_of fault ≡ own.Limit kind degree value
    → fault ≡ engine.Limit kind degree value
limit_from_fault (engine.Limit k d v) kind degree value e = cc e
limit_from_fault engine.NoMemory kind degree value e = cc e

-- what is asked of the relations is what is told of the presentation
pub shaped_from : (given : Presentation) (gens free : ℕ) (relations : List (List Term)) → relations ≡ given.relations → free ≡ free_letters given gens
    → All (IsShaped free) relations
    → AreShaped given gens
shaped_from given gens free relations same letters h =
    subst (λ (n : ℕ). All (IsShaped n) given.relations) letters (subst (All (IsShaped free)) same h)

-- the reduced basis up to a bound is what lies below the degree after it
pub below_after : (p : ℕ) (given : Presentation) (bound : ℕ) (basis : Elements) → IsKept basis → basis.done ≡ bound
    → basis.weights ≡ given.alphabet.weights → IsReducedUpto p given.relations basis
    → IsBelow (ideal_of p given) (bound + 1) basis
below_after p given bound basis kept done weights reduced =
    record { kept = kept; next = ap (λ (n : ℕ). n + 1) done; same_weights = weights; reduced = reduced }

module _ (p : ℕ) (given : Presentation) (gens bound : ℕ) (basis : Elements) (st : IsSetting (ideal_of p given))
    (shaped : AreShaped given gens) (below : IsBelow (ideal_of p given) (bound + 1) basis) where
  abbrev weights : List ℕ
  weights = given.alphabet.weights

  abbrev free : ℕ
  free = free_letters given gens

  abbrev ms : IsModuleSetting (ideal_over p weights given.relations) free
  ms = record { setting = st; shaped = shaped }

  -- the elements that lead with a module word are the reduced module bases
  pub degrees_are : (degrees : List ModuleDegree) → ArePartsUpto free basis bound degrees → AreModuleDegrees p given gens bound degrees
  degrees_are degrees h = record {
    size = h.size;
    numbered = h.numbered;
    each = λ k m lt. subst (IsModuleBasis (ideal_over p weights given.relations) free (k + 1)) (sym (h.each k m lt))
        (part_is_basis (ideal_over p weights given.relations) free ms (k + 1) (of_degree basis.weights (k + 1) basis.elements)
        (subst (λ (ws : List ℕ). IsReducedBasis (ideal_over p ws given.relations) (k + 1) (of_degree basis.weights (k + 1) basis.elements)) below.same_weights
        (below.reduced (k + 1) (omega arith) (omega (arith, lt, below.next)))));
  }

  -- the index of its leading words tells which module words are outside
  pub tells_outside : (leads : List Lead) → IsIndexOf basis.elements leads → TellsOutside p given gens bound leads
  tells_outside leads is =
      let index = indexes_leads basis below.kept leads is in
      let lower = lists_lower (ideal_over p weights given.relations) st (bound + 1) basis below in
      record {
        setting = ms;
        says = λ d w le m.
            let normal = outside_where_normal (ideal_over p weights given.relations) free ms (bound + 1) basis.elements lower d w (omega (arith, le)) m in
            (λ not. (index.says w).1 (normal.0 not), λ h. normal.1 ((index.says w).0 h));
      }
