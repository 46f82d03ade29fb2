-- Words by number in another order.
use Rattle.std.proofs.Common.{◌≡◌, ◌↔◌, ℕ, zero, suc, List, [], ◌∷◌, length, refl, ap, ◌∙◌, arith, AllPairs, Option, Some, subst}
use Rattle.std.specs.List.{AllZip, Contains, slice_get}
use Rattle.std.proofs.lemmas.Option.{get_or_from_slice_get, slice_get-get_or, slice_get_within}
use Rattle.words.specs.Order.{IsLetterwiseGreater}
use Rattle.free_poly.specs.declared.term.Term.{Term}
use Rattle.ideal_laws.specs.Closure.{HasReducer, IsInClosure}
use Rattle.symbolic_prep.specs.Closed.{IsClosed}
use Rattle.symbolic_prep.specs.Numbers.{IsListing}

module _ {X Y : Type 0} (R : X → Y → Type 0) where
  -- two lists, place by place
  pub AllZip-at : (xs : List X) (ys : List Y) (n : ℕ) (x : X) (y : Y) → AllZip R xs ys → slice_get xs n ≡ Some x → slice_get ys n ≡ Some y → R x y
  AllZip-at [] ys n x y z at here = absurd (let lt = slice_get_within [] n x at in omega (arith, lt))
  AllZip-at (u ∷ xs) [] n x y z at here = absurd z
  AllZip-at (u ∷ xs) (v ∷ ys) zero x y z at here =
      let first : u ≡ x = cc (at) in
      let second : v ≡ y = cc (here) in
      subst (λ (s : X). R s y) first (subst (R u) second z.0)
  AllZip-at (u ∷ xs) (v ∷ ys) (suc n) x y z at here = AllZip-at xs ys n x y z.1 at here

  AllZip-from : (xs : List X) (ys : List Y) → length ys ≡ length xs →
      ((n : ℕ) (x : X) (y : Y) → slice_get xs n ≡ Some x → slice_get ys n ≡ Some y → R x y) → AllZip R xs ys
  AllZip-from [] [] same h = tt
  AllZip-from [] (y ∷ ys) same h = absurd (omega (arith, same))
  AllZip-from (x ∷ xs) [] same h = absurd (omega (arith, same))
  AllZip-from (x ∷ xs) (y ∷ ys) same h = (h zero x y refl refl, AllZip-from xs ys (omega (arith, same)) (λ n u v at here. h (suc n) u v at here))

-- the words of a closure with their reducers, put in falling order, are its columns with theirs
pub closed_listing : (G : List (List Term)) (given_words words columns : List (List ℕ))
    (reducers columns_reducers : List (Option (List Term))) → ((w : List ℕ) → Contains words w ↔ IsInClosure G given_words w) →
    AllZip (HasReducer G) words reducers
    → IsListing words reducers columns columns_reducers → AllPairs IsLetterwiseGreater columns →
    IsClosed G given_words (record { columns = columns; reducers = columns_reducers })
closed_listing G given_words words columns reducers columns_reducers closure zipped listing falling = record {
  are_columns = record {
    exactly = λ w. (
      λ m. let k = listing.from m.0 m.1 in (closure w).0 (
        k.0,
        k.1,
        get_or_from_slice_get words k.0 w w (k.2 ∙ slice_get-get_or columns m.0 w m.1 ∙ ap Some m.2),
      ),
      λ i. listing.all w ((closure w).1 i),
    );
    falling = falling;
  };
  are_reducers = AllZip-from (HasReducer G) columns columns_reducers listing.size (λ c w o at here.
      let k = listing.from c (slice_get_within columns c w at) in
      AllZip-at (HasReducer G) words reducers k.0 w o zipped (k.2 ∙ at) (k.3 ∙ here));
}
