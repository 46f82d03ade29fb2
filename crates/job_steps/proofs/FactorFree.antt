-- The leading words of a basis that is reduced up to its degree.
use Rattle.std.proofs.Common.{◌≡◌, ◌+◌, ℕ, refl}
use Rattle.ideal_laws.specs.declared.presentation.Presentation.{Presentation}
use Rattle.ideal_laws.specs.Closure.{IsFactorFree}
use Rattle.ideal_laws.specs.Engine.{Elements, IsReducedUpto}
use Rattle.ideal_laws.specs.Ideal.{ideal_of}
use Rattle.ideal_laws.specs.Kept.{IsKept}
use Rattle.ideal_laws.specs.Laws.{IsSetting}
use Rattle.ideal_laws.specs.Overlaps.{ListsFactorFree}

-- none of them is a factor of another
pub factor_free_upto : ListsFactorFree → (p : ℕ) (given : Presentation) (basis : Elements) → IsSetting (ideal_of p given) → IsKept basis →
    basis.weights ≡ given.alphabet.weights → IsReducedUpto p given.relations basis → IsFactorFree basis.elements
factor_free_upto law p given basis st kept weights reduced =
    law (ideal_of p given) st (basis.done + 1) basis (record { kept = kept; next = refl; same_weights = weights; reduced = reduced })
