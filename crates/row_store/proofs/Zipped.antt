-- Two lists that stand beside each other in a relation, place by place.
use Rattle.std.proofs.Common.{◌≡◌, ◌+◌, ◌++◌, ◌∷◌, [], ◌<◌, ℕ, zero, suc, List, All, get_or, length, take, sym, ap, ◌∙◌, arith, subst}
use Rattle.std.specs.List.{AllZip}
use Rattle.std.proofs.lemmas.List.{take_more}
use Rattle.std.proofs.lemmas.List.Elements.{All-cons, All-nil}
use Rattle.std.proofs.lemmas.Slice.Zip.{all_zipped_more}

-- what stands beside an item
pub zip_at : {X Y : Type 0} (R : X → Y → Type 0) (xs : List X) (ys : List Y) (k : ℕ) (d : X) (e : Y) → AllZip R xs ys → k < length xs →
    R (get_or xs k d) (get_or ys k e)
zip_at R [] ys k d e h lt = absurd (omega (arith, lt))
zip_at R (x ∷ xs) [] k d e h lt = absurd h
zip_at R (x ∷ xs) (y ∷ ys) zero d e h lt = h.0
zip_at R (x ∷ xs) (y ∷ ys) (suc k) d e h lt = zip_at R xs ys k d e h.1 (omega (arith, lt))

-- what the relation says of the second list alone
pub zip_right : {X Y : Type 0} (R : X → Y → Type 0) (Q : Y → Type 0) → ((x : X) (y : Y) → R x y → Q y) → (xs : List X) (ys : List Y) → AllZip R xs ys → All Q ys
zip_right R Q f [] [] z = All-nil Q
zip_right R Q f [] (y ∷ ys) z = absurd z
zip_right R Q f (x ∷ xs) [] z = absurd z
zip_right R Q f (x ∷ xs) (y ∷ ys) z = All-cons Q y ys (f x y z.0) (zip_right R Q f xs ys z.1)

-- lists of one length, place by place
pub zip_each : {X Y : Type 0} (R : X → Y → Type 0) (xs : List X) (ys : List Y) → length xs ≡ length ys
    → ((k : ℕ) (d : X) (e : Y) → k < length xs → R (get_or xs k d) (get_or ys k e)) → AllZip R xs ys
zip_each R [] [] l h = tt
zip_each R [] (y ∷ ys) l h = absurd (omega (arith, l))
zip_each R (x ∷ xs) [] l h = absurd (omega (arith, l))
zip_each R (x ∷ xs) (y ∷ ys) l h = (h zero x y (omega arith), zip_each R xs ys (omega (arith, l)) (λ k d e lt. h (suc k) d e (omega (arith, lt))))

-- the first items of a list have what stands beside them, and the next one is given its own
pub zip_next : {X Y : Type 0} (R : X → Y → Type 0) (xs : List X) (ys next : List Y) (i : ℕ) (x : X) (y : Y) → AllZip R (take i xs) ys → i < length xs →
    x ≡ get_or xs i x → R x y → next ≡ ys ++ y ∷ [] → AllZip R (take (i + 1) xs) next
zip_next R xs ys next i x y h within is own grown =
    let more : take (i + 1) xs ≡ take i xs ++ x ∷ [] = take_more xs i x within ∙ ap (λ z. take i xs ++ z ∷ []) (sym is) in
    subst (λ zs. AllZip R zs next) (sym more) (subst (AllZip R (take i xs ++ x ∷ [])) (sym grown) (all_zipped_more R (take i xs) ys x y h own))
