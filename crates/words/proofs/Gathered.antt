-- What a parallel map with a closure that may fail gathers.
use Rattle.std.proofs.Common.{◌≡◌, List, [], ◌∷◌, map, Result, Ok, Err, subst, sym}
use Rattle.std.specs.Result.{IfOk, MatchResult}
use Rattle.std.specs.List.{AllZip, Contains}

through : {X Y Z : Type 0} (E : Type 0) (f : Z → X) (R : X → Y → Type 0) (zs : List Z) (ys : List Y)
    → AllZip (λ z (r : Result Y E). IfOk r (R (f z))) zs (map Ok ys) → AllZip R (map f zs) ys
through E f R [] [] h = tt
through E f R [] (y ∷ ys) h = absurd h
through E f R (z ∷ zs) [] h = absurd h
through E f R (z ∷ zs) (y ∷ ys) h = (h.0, through E f R zs ys h.1)

-- each result was Ok, and the list has what they gave, in order
pub gathered : {X Y Z C E : Type 0} (f : Z → X) (items : C → List Y) (R : X → Y → Type 0)
    → (s : List X) (zs : List Z) (all : List (Result Y E)) (r : Result C E) → map f zs ≡ s
    → AllZip (λ z (r : Result Y E). IfOk r (R (f z))) zs all
    → MatchResult r (λ c. (ys : List Y) × (all ≡ map Ok ys) × (items c ≡ ys)) (λ e. Contains all (Err e))
    → IfOk r (λ c. AllZip R s (items c))
gathered f items R s zs all (Err e) shown each is = tt
gathered {X} {Y} {Z} {C} {E} f items R s zs all (Ok c) shown each is =
    let each' = subst (AllZip (λ z (r : Result Y E). IfOk r (R (f z))) zs) is.1 each in
    subst (λ (l : List X). AllZip R l (items c)) shown (subst (AllZip R (map f zs)) (sym is.2) (through E f R zs is.0 each'))
