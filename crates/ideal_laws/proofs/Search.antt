-- Lists under a question that is decided: a search, and the members that have the answer yes.
use Rattle.std.proofs.Common.{◌≡◌, ◌⊎◌, List, [], ◌∷◌, refl, sym, ◌∙◌, inl, inr, AllPairs, subst}
use Rattle.std.specs.List.{Contains}
use Rattle.std.proofs.lemmas.List.Elements.{All-contains}
use Rattle.std.proofs.lemmas.List.Kept.{AllPairs-cons}
use Rattle.words.proofs.Members.{AllPairs-first, AllPairs-nil, AllPairs-rest, All-from_members, Contains-cases, Contains-first, Contains-more, Contains-none}

module _ {X : Type 0} (P : X → Type 0) (decide : (x : X) → P x ⊎ (P x → ⊥)) where
  pub data IsSearched (xs : List X) : Type 0 where
    found : (x : X) → Contains xs x → P x → IsSearched xs
    none : ((x : X) → Contains xs x → P x → ⊥) → IsSearched xs

  -- some member of a list has P, or none has it
  pub search_list : (xs : List X) → IsSearched xs
  search_list [] = none (λ x m h. Contains-none x m)
  search_list (x ∷ xs) = elim (decide x) [
    | inl h ↦ found x (Contains-first x xs) h
    | inr other ↦ elim (search_list xs) [
      | found y m h ↦ found y (Contains-more x xs y m) h
      | none all ↦ none (λ y m h. elim (Contains-cases x xs y m) [
        | inl e ↦ other (subst P (sym e) h)
        | inr n ↦ all y n h
      ])
    ]
  ]

  -- x before the list where the answer is yes
  abbrev pub kept_if : (x : X) → P x ⊎ (P x → ⊥) → List X → List X
  kept_if x (inl h) xs = x ∷ xs
  kept_if x (inr h) xs = xs

  abbrev pub kept : List X → List X
  kept [] = []
  kept (x ∷ xs) = kept_if x (decide x) (kept xs)

  -- a member of a list that has P is kept
  pub in_kept : (xs : List X) (x : X) → Contains xs x → P x → Contains (kept xs) x
  in_kept [] x m h = absurd (Contains-none x m)
  in_kept (y ∷ xs) x m h = by_answer (decide y) (Contains-cases y xs x m) (λ n. in_kept xs x n h)
    where
      by_answer : (a : P y ⊎ (P y → ⊥)) → (y ≡ x) ⊎ Contains xs x → (Contains xs x → Contains (kept xs) x) → Contains (kept_if y a (kept xs)) x
      by_answer (inl q) (inl e) f = subst (Contains (y ∷ kept xs)) e (Contains-first y (kept xs))
      by_answer (inl q) (inr n) f = Contains-more y (kept xs) x (f n)
      by_answer (inr q) (inl e) f = absurd (q (subst P (sym e) h))
      by_answer (inr q) (inr n) f = f n

  -- what is kept is a member of the list that has P
  pub kept-says : (xs : List X) (x : X) → Contains (kept xs) x → Contains xs x × P x
  kept-says [] x m = absurd (Contains-none x m)
  kept-says (y ∷ xs) x m = by_answer (decide y) m (λ n. kept-says xs x n)
    where
      by_answer : (a : P y ⊎ (P y → ⊥)) → Contains (kept_if y a (kept xs)) x → (Contains (kept xs) x → Contains xs x × P x) → Contains (y ∷ xs) x × P x
      by_answer (inl q) n f = elim (Contains-cases y (kept xs) x n) [
        | inl e ↦ (subst (Contains (y ∷ xs)) e (Contains-first y xs), subst P e q)
        | inr k ↦ let r = f k in (Contains-more y xs x r.0, r.1)
      ]
      by_answer (inr q) n f = let r = f n in (Contains-more y xs x r.0, r.1)

  -- what holds of all pairs of a list holds of all pairs of those that are kept
  pub AllPairs-kept : (R : X → X → Type 0) (xs : List X) → AllPairs R xs → AllPairs R (kept xs)
  AllPairs-kept R [] h = AllPairs-nil R
  AllPairs-kept R (y ∷ xs) h = by_answer (decide y) (AllPairs-kept R xs (AllPairs-rest R y xs h))
    where
      by_answer : (a : P y ⊎ (P y → ⊥)) → AllPairs R (kept xs) → AllPairs R (kept_if y a (kept xs))
      by_answer (inl q) r = AllPairs-cons R y (kept xs) (All-from_members (R y) (kept xs)
          (λ z m. All-contains (R y) xs z (AllPairs-first R y xs h) (kept-says xs z m).0)) r
      by_answer (inr q) r = r

-- lists in one strict order
module _ {X : Type 0} (R : X → X → Type 0) (strict : (x : X) → R x x → ⊥) (trans : (x y z : X) → R x y → R y z → R x z) where
  abbrev HasSame : List X → List X → Type 0
  HasSame xs ys = (x : X) → Contains xs x → Contains ys x

  heads : (x y : X) (xs ys : List X) → AllPairs R (x ∷ xs) → AllPairs R (y ∷ ys) → Contains (y ∷ ys) x → Contains (x ∷ xs) y → x ≡ y
  heads x y xs ys h k m n = elim (Contains-cases y ys x m) [
    | inl e ↦ sym e
    | inr later ↦ elim (Contains-cases x xs y n) [
      | inl e ↦ e
      | inr after ↦ absurd (strict x (trans x y x (All-contains (R x) xs y (AllPairs-first R x xs h) after)
          (All-contains (R y) ys x (AllPairs-first R y ys k) later)))
    ]
  ]

  tails : (x y : X) (xs ys : List X) → AllPairs R (x ∷ xs) → x ≡ y → HasSame (x ∷ xs) (y ∷ ys) → HasSame xs ys
  tails x y xs ys h e s z m = elim (Contains-cases y ys z (s z (Contains-more x xs z m))) [
    | inr n ↦ n
    | inl is ↦ absurd (strict z (subst (λ (w : X). R w z) (e ∙ is) (All-contains (R x) xs z (AllPairs-first R x xs h) m)))
  ]

  -- two lists in one strict order with the same members are one
  pub same_lists : (xs ys : List X) → AllPairs R xs → AllPairs R ys → HasSame xs ys → HasSame ys xs → xs ≡ ys
  same_lists [] [] h k s t = refl
  same_lists [] (y ∷ ys) h k s t = absurd (Contains-none y (t y (Contains-first y ys)))
  same_lists (x ∷ xs) [] h k s t = absurd (Contains-none x (s x (Contains-first x xs)))
  same_lists (x ∷ xs) (y ∷ ys) h k s t =
      let e = heads x y xs ys h k (s x (Contains-first x xs)) (t y (Contains-first y ys)) in
      let rest = same_lists xs ys (AllPairs-rest R x xs h) (AllPairs-rest R y ys k) (tails x y xs ys h e s) (tails y x ys xs k (sym e) t) in
      λ i. e i ∷ rest i
