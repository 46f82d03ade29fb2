-- How many columns are contested.
use Rattle.std.proofs.Common.{◌≡◌, ℕ, List, [], ◌∷◌, Option, None, Some, length, refl, arith}
use Rattle.std.specs.List.{AllZip}
use Rattle.free_poly.specs.declared.term.Term.{Term}
use Rattle.ideal_laws.specs.Closure.{HasReducer}
use Rattle.ideal_laws.specs.Quantities.{contested_in, contested_words}

-- there are as many as columns without a reducer
pub length-contested : (G : List (List Term)) (columns : List (List ℕ)) (reducers : List (Option (List Term))) → AllZip (HasReducer G) columns reducers
    → length (contested_words columns reducers) ≡ contested_in reducers
length-contested G [] [] z = refl
length-contested G [] (r ∷ rs) z = absurd z
length-contested G (w ∷ ws) [] z = absurd z
length-contested G (w ∷ ws) (None ∷ rs) z = let rest = length-contested G ws rs z.1 in omega (arith, rest)
length-contested G (w ∷ ws) (Some r ∷ rs) z = length-contested G ws rs z.1
