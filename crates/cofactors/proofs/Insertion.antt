-- One item more at a place of a list.
use Rattle.std.proofs.Common.{◌≡◌, ◌⊎◌, ℕ, List, [], ◌∷◌, ◌++◌, take, drop, sym, inl, inr, subst, All, AllPairs}
use Rattle.std.specs.List.{Contains, insert}
use Rattle.std.proofs.lemmas.List.{take-append-drop}
use Rattle.std.proofs.lemmas.List.Elements.{All-contains, Contains-append_cases, Contains-append_left, Contains-append_right}
use Rattle.std.proofs.lemmas.List.Kept.{AllPairs-cons}
use Rattle.words.proofs.Members.{AllPairs-first, AllPairs-rest, All-from_members, Contains-cases, Contains-first, Contains-more}

module _ {X : Type 0} where
  from_parts : (xs : List X) (i : ℕ) (y : X) → Contains (take i xs ++ drop i xs) y → Contains xs y
  from_parts xs i y m = subst (λ (zs : List X). Contains zs y) (take-append-drop i xs) m

  -- the items are the new one and those that were there
  Contains-insert_cases : (xs : List X) (i : ℕ) (x y : X) → Contains (insert xs i x) y → (x ≡ y) ⊎ Contains xs y
  Contains-insert_cases xs i x y m = elim (Contains-append_cases (take i xs) (x ∷ drop i xs) y m) [
    | inl n ↦ inr (from_parts xs i y (Contains-append_left (take i xs) (drop i xs) y n))
    | inr n ↦ elim (Contains-cases x (drop i xs) y n) [
      | inl is ↦ inl is
      | inr k ↦ inr (from_parts xs i y (Contains-append_right (take i xs) (drop i xs) y k))
    ]
  ]

  -- what was in the list is in it still
  pub Contains-insert_kept : (xs : List X) (i : ℕ) (x y : X) → Contains xs y → Contains (insert xs i x) y
  Contains-insert_kept xs i x y m = elim (Contains-append_cases (take i xs) (drop i xs) y
      (subst (λ (zs : List X). Contains zs y) (sym (take-append-drop i xs)) m)) [
        | inl n ↦ Contains-append_left (take i xs) (x ∷ drop i xs) y n
        | inr n ↦ Contains-append_right (take i xs) (x ∷ drop i xs) y (Contains-more x (drop i xs) y n)
      ]

  -- the item that is inserted is in the list
  pub Contains-insert_here : (xs : List X) (i : ℕ) (x : X) → Contains (insert xs i x) x
  Contains-insert_here xs i x = Contains-append_right (take i xs) (x ∷ drop i xs) x (Contains-first x (drop i xs))

  -- what holds of all items and of the new one holds of all of the new list
  pub All-insert : (P : X → Type 0) (xs : List X) (i : ℕ) (x : X) → All P xs → P x → All P (insert xs i x)
  All-insert P xs i x h p = All-from_members P (insert xs i x) (λ y m. elim (Contains-insert_cases xs i x y m) [
    | inl is ↦ subst P is p
    | inr n ↦ All-contains P xs y h n
  ])

  -- an item between those that stand before it and those that stand behind it
  placed : (R : X → X → Type 0) (pre post : List X) (x : X) → AllPairs R (pre ++ post) → ((y : X) → Contains pre y → R y x) →
      ((y : X) → Contains post y → R x y) → AllPairs R (pre ++ x ∷ post)
  placed R [] post x f before behind = AllPairs-cons R x post (All-from_members (R x) post behind) f
  placed R (z ∷ pre) post x f before behind =
      AllPairs-cons R z (pre ++ x ∷ post)
      (All-from_members (R z) (pre ++ x ∷ post) (λ y m. elim (Contains-append_cases pre (x ∷ post) y m) [
        | inl n ↦ after_first y (Contains-append_left pre post y n)
        | inr n ↦ elim (Contains-cases x post y n) [
          | inl is ↦ subst (R z) is (before z (Contains-first z pre))
          | inr k ↦ after_first y (Contains-append_right pre post y k)
        ]
      ]))
      (placed R pre post x (AllPairs-rest R z (pre ++ post) f) (λ y m. before y (Contains-more z pre y m)) behind)
    where
      after_first : (y : X) → Contains (pre ++ post) y → R z y
      after_first y m = All-contains (R z) (pre ++ post) y (AllPairs-first R z (pre ++ post) f) m

  -- pairs stay in order where the new item fits behind those before its place and before the others
  pub AllPairs-insert : (R : X → X → Type 0) (xs : List X) (i : ℕ) (x : X) → AllPairs R xs → All (λ y. R y x) (take i xs) →
      All (R x) (drop i xs) → AllPairs R (insert xs i x)
  AllPairs-insert R xs i x f before behind =
      placed R (take i xs) (drop i xs) x (subst (AllPairs R) (sym (take-append-drop i xs)) f)
      (λ y m. All-contains (λ z. R z x) (take i xs) y before m) (λ y m. All-contains (R x) (drop i xs) y behind m)
