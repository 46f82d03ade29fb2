-- Two lists that rise, with the same elements of each rank in the same order, are one.
use Rattle.std.proofs.Common.{◌≡◌, ℕ, zero, suc, ◌<◌, Bool, true, false, not, ◌&&◌, List, [], ◌∷◌, length, get_or, filter, refl, sym, ap, ◌∙◌, arith}
use Rattle.std.proofs.Common.{inl, inr, suc-le-suc, zero-le}
use Rattle.std.proofs.lemmas.Bool.{cond-true, cond-false, cases_Bool, and_parts, not-true}
use Rattle.std.proofs.lemmas.List.Sorted.{sorted_far}
use Rattle.std.specs.Cmp.{IsStrictWeakOrder}
use Rattle.std.specs.List.Sorted.{IsSortedBy, ties}

-- where the first element passes a test, it stands before those of the rest that pass
pub filter-kept : {X : Type 0} (p : X → Bool) (y : X) (ys : List X) → p y ≡ true → filter p (y ∷ ys) ≡ y ∷ filter p ys
filter-kept p y ys h = cond-true _ _ _ h

-- where the first element fails a test, those that pass are those of the rest
pub filter-dropped : {X : Type 0} (p : X → Bool) (y : X) (ys : List X) → p y ≡ false → filter p (y ∷ ys) ≡ filter p ys
filter-dropped p y ys h = cond-false _ _ _ h

module _ {X : Type 0} (lt : X → X → Bool) where
  -- no element of the list is less
  abbrev pub NoneBelow : X → List X → Type 0
  NoneBelow x [] = Unit {0}
  NoneBelow x (y ∷ ys) = (lt y x ≡ false) × NoneBelow x ys

  -- no element is less than an earlier one
  abbrev pub Rises : List X → Type 0
  Rises [] = Unit {0}
  Rises (x ∷ xs) = NoneBelow x xs × Rises xs

  NoneBelow-at : (x : X) (ys : List X) → ((j : ℕ) → j < length ys → lt (get_or ys j x) x ≡ false) → NoneBelow x ys
  NoneBelow-at x [] h = tt
  NoneBelow-at x (y ∷ ys) h = (h zero (suc-le-suc zero-le), NoneBelow-at x ys (λ j le. h (suc j) (suc-le-suc le)))

  Rises-at : (ys : List X) → ((i j : ℕ) (d : X) → i < j → j < length ys → lt (get_or ys j d) (get_or ys i d) ≡ false) → Rises ys
  Rises-at [] h = tt
  Rises-at (y ∷ ys) h = (
    NoneBelow-at y ys (λ j le. h zero (suc j) y (suc-le-suc zero-le) (suc-le-suc le)),
    Rises-at ys (λ i j d less within. h (suc i) (suc j) d (suc-le-suc less) (suc-le-suc within)),
  )

  tied : (x y : X) → lt x y ≡ false → lt y x ≡ false → ties lt x y ≡ true
  tied x y h k = ap (λ (b : Bool). not b && not (lt y x)) h ∙ ap not k

  -- of two elements that tie neither is less than the other
  pub tied_parts : (x y : X) → ties lt x y ≡ true → (lt x y ≡ false) × (lt y x ≡ false)
  tied_parts x y h = let parts = and_parts (not (lt x y)) (not (lt y x)) h in (not-true _ parts.0, not-true _ parts.1)

  module _ (o : IsStrictWeakOrder lt) where
    irreflexive : (x : X) → lt x x ≡ false
    irreflexive x = elim (cases_Bool (lt x x)) [ inl h ↦ o.one_way x x h | inr h ↦ h ]

    -- a sorted list rises
    pub Rises-from_sort : (ys : List X) → IsSortedBy lt ys → Rises ys
    Rises-from_sort ys h = Rises-at ys (λ i j d less within. sorted_far lt o ys h i j d (omega (arith, less)) within)

    -- an element of this rank is there, so one below all is not above it
    NoneBelow-found : (y x : X) (ys : List X) (w : X) (ws : List X) → NoneBelow y ys → filter (ties lt x) ys ≡ w ∷ ws → lt x y ≡ false
    NoneBelow-found y x [] w ws h e = cc
    NoneBelow-found y x (z ∷ zs) w ws h e = elim (cases_Bool (ties lt x z)) [
      | inl with ↦ o.chain x z y (tied_parts x z with).0 h.0
      | inr without ↦ NoneBelow-found y x zs w ws h.1 (sym (filter-dropped (ties lt x) z zs without) ∙ e)
    ]

    -- the least elements tie, so they are the first of their rank in both lists
    pub same_from_ties : (ys zs : List X) → Rises ys → Rises zs → ((x : X) → filter (ties lt x) ys ≡ filter (ties lt x) zs) → ys ≡ zs
    same_from_ties [] [] left right same = refl
    same_from_ties [] (z ∷ zs) left right same =
        let clash = same z ∙ filter-kept (ties lt z) z zs (tied z z (irreflexive z) (irreflexive z)) in cc
    same_from_ties (y ∷ ys) [] left right same =
        let clash = sym (same y) ∙ filter-kept (ties lt y) y ys (tied y y (irreflexive y) (irreflexive y)) in cc
    same_from_ties (y ∷ ys) (z ∷ zs) left right same =
        let at_y = filter-kept (ties lt y) y ys (tied y y (irreflexive y) (irreflexive y)) in
        let at_z = filter-kept (ties lt z) z zs (tied z z (irreflexive z) (irreflexive z)) in
        let up : lt y z ≡ false = NoneBelow-found z y (z ∷ zs) y _ (irreflexive z, right.0) (sym (same y) ∙ at_y) in
        let down : lt z y ≡ false = NoneBelow-found y z (y ∷ ys) z _ (irreflexive y, left.0) (same z ∙ at_z) in
        let heads = sym at_y ∙ same y ∙ filter-kept (ties lt y) z zs (tied y z up down) in
        let head : y ≡ z = cc in
        let tails : (x : X) → filter (ties lt x) ys ≡ filter (ties lt x) zs =
        λ x. elim (cases_Bool (ties lt x y)) [
          | inl with ↦
              let both = sym (filter-kept (ties lt x) y ys with) ∙ same x ∙ filter-kept (ties lt x) z zs (ap (ties lt x) (sym head) ∙ with) in cc
          | inr without ↦
              sym (filter-dropped (ties lt x) y ys without) ∙ same x ∙ filter-dropped (ties lt x) z zs (ap (ties lt x) (sym head) ∙ without)
        ] in
        ap (λ (w : X). w ∷ ys) head ∙ ap (λ (l : List X). z ∷ l) (same_from_ties ys zs left.1 right.1 tails)
