-- What tests that are false say.
use Rattle.std.proofs.Common.{◌≡◌, ◌||◌, Bool, true, false, refl}
use Rattle.std.specs.Prelude.{not}

-- a disjunction is false only where both of its sides are
pub both_false : (a b : Bool) → (a || b) ≡ false → (a ≡ false) × (b ≡ false)
both_false true b e = absurd (let f : true ≡ false = e in cc)
both_false false b e = (refl, e)

-- a negation is false only of what is true
pub not_false : (a : Bool) → not a ≡ false → a ≡ true
not_false true e = refl
not_false false e = absurd (let f : true ≡ false = e in cc)
