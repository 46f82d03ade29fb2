-- How many elements of a list have a key up to a number, and where those with that key stand in a list that rises.
use Rattle.std.proofs.Common.{ap₂, ◌≡◌, ◌+◌, ◌-◌, ◌<◌, ◌≤◌, ◌==◌, ℕ, suc, Bool, true, false, cond, List, [], ◌∷◌, ◌++◌, length, take, drop, refl, sym}
use Rattle.std.proofs.Common.{ap, ◌∙◌, inl, inr, arith, eq-eqb, All, AllPairs}
use Rattle.std.specs.List.{count_by, filter, slice_range}
use Rattle.std.specs.Prelude.{leb, ltb}
use Rattle.std.proofs.lemmas.Bool.{cases_Bool, cases_lt, le-leb, le-ltb, lt-leb, lt-ltb, ne_eqb}
use Rattle.std.proofs.lemmas.List.Elements.{All-head, All-tail}
use Rattle.std.proofs.lemmas.List.Recursion.{is_count_by}
use Rattle.words.proofs.Members.{AllPairs-first, AllPairs-rest}

module _ {X : Type 0} (p : X → Bool) where
  counted : List X → ℕ
  counted [] = 0
  counted (x ∷ xs) = cond (p x) (1 + counted xs) (counted xs)

  counted-is : (xs : List X) → counted xs ≡ count_by p xs
  unfolding counted
  counted-is = is_count_by counted p refl (λ x xs. refl)

  count_by-first : (x : X) (xs : List X) → p x ≡ true → count_by p (x ∷ xs) ≡ suc (count_by p xs)
  unfolding counted
  count_by-first x xs e = sym (counted-is (x ∷ xs)) ∙ ap (λ (b : Bool). cond b (1 + counted xs) (counted xs)) e ∙ omega (arith, counted-is xs)

  count_by-later : (x : X) (xs : List X) → p x ≡ false → count_by p (x ∷ xs) ≡ count_by p xs
  unfolding counted
  count_by-later x xs e = sym (counted-is (x ∷ xs)) ∙ ap (λ (b : Bool). cond b (1 + counted xs) (counted xs)) e ∙ counted-is xs

  -- where each member of a list passes the test, as many pass as the list is long
  pub count_by-all : (xs : List X) → All (λ x. p x ≡ true) xs → count_by p xs ≡ length xs
  count_by-all [] h = refl
  count_by-all (x ∷ xs) h = count_by-first x xs (All-head (λ x. p x ≡ true) x xs h) ∙ ap suc (count_by-all xs (All-tail (λ x. p x ≡ true) x xs h))

  -- where each member of a list fails the test, none passes
  pub count_by-none : (xs : List X) → All (λ x. p x ≡ false) xs → count_by p xs ≡ 0
  count_by-none [] h = refl
  count_by-none (x ∷ xs) h = count_by-later x xs (All-head (λ x. p x ≡ false) x xs h) ∙ count_by-none xs (All-tail (λ x. p x ≡ false) x xs h)

  -- of two lists joined as many members pass the test as of the one and of the other together
  pub count_by-append : (xs ys : List X) → count_by p (xs ++ ys) ≡ count_by p xs + count_by p ys
  count_by-append [] ys = omega arith
  count_by-append (x ∷ xs) ys = elim (cases_Bool (p x)) [
    | inl holds ↦ omega (arith, count_by-first x (xs ++ ys) holds, count_by-first x xs holds, count_by-append xs ys)
    | inr fails ↦ omega (arith, count_by-later x (xs ++ ys) fails, count_by-later x xs fails, count_by-append xs ys)
  ]

module _ {X : Type 0} (key : X → ℕ) where
  abbrev below : ℕ → List X → ℕ
  below d xs = count_by (λ x. ltb (key x) d) xs

  abbrev upto : ℕ → List X → ℕ
  upto d xs = count_by (λ x. leb (key x) d) xs

  -- where each key is at most d, as many members have a key up to d as the list is long
  pub upto-all : (d : ℕ) (xs : List X) → All (λ x. key x ≤ d) xs → upto d xs ≡ length xs
  upto-all d xs h = count_by-all (λ x. leb (key x) d) xs (λ k e within. le-leb _ d (h k e within))

  -- where each key is above d, no member has a key up to d
  pub upto-none : (d : ℕ) (xs : List X) → All (λ x. d < key x) xs → upto d xs ≡ 0
  upto-none d xs h = count_by-none (λ x. leb (key x) d) xs (λ k e within. lt-leb _ d (h k e within))

  -- where each key is d or more, no member has a key below d
  pub below-none : (d : ℕ) (xs : List X) → All (λ x. d ≤ key x) xs → below d xs ≡ 0
  below-none d xs h = count_by-none (λ x. ltb (key x) d) xs (λ k e within. le-ltb _ d (h k e within))

  -- two lists joined have as many members with a key up to d as the one and the other together
  pub upto-append : (d : ℕ) (xs ys : List X) → upto d (xs ++ ys) ≡ upto d xs + upto d ys
  upto-append d xs ys = count_by-append (λ x. leb (key x) d) xs ys

  -- as many members have a key below d + 1 as have one up to d
  pub below-suc : (d : ℕ) (xs : List X) → below (suc d) xs ≡ upto d xs
  below-suc d [] = refl
  below-suc d (x ∷ xs) = elim (cases_lt d (key x)) [
    | inl lt ↦ count_by-later (λ x. ltb (key x) (suc d)) x xs (le-ltb (key x) (suc d) (omega (arith, lt))) ∙ below-suc d xs
        ∙ sym (count_by-later (λ x. leb (key x) d) x xs (lt-leb (key x) d lt))
    | inr le ↦ count_by-first (λ x. ltb (key x) (suc d)) x xs (lt-ltb (key x) (suc d) (omega (arith, le))) ∙ ap suc (below-suc d xs)
        ∙ sym (count_by-first (λ x. leb (key x) d) x xs (le-leb (key x) d le))
  ]

  -- no more members have a key below d than have one up to d
  pub below-le-upto : (d : ℕ) (xs : List X) → below d xs ≤ upto d xs
  below-le-upto d [] = omega arith
  below-le-upto d (x ∷ xs) = elim (cases_lt d (key x)) [
    | inl lt ↦ omega (
      arith,
      count_by-later (λ x. ltb (key x) d) x xs (le-ltb (key x) d (omega (arith, lt))),
      count_by-later (λ x. leb (key x) d) x xs (lt-leb (key x) d lt),
      below-le-upto d xs,
    )
    | inr le ↦ elim (cases_lt (key x) d) [
      | inl under ↦ omega (
        arith,
        count_by-first (λ x. ltb (key x) d) x xs (lt-ltb (key x) d under),
        count_by-first (λ x. leb (key x) d) x xs (le-leb (key x) d le),
        below-le-upto d xs,
      )
      | inr not ↦ omega (
        arith,
        count_by-later (λ x. ltb (key x) d) x xs (le-ltb (key x) d not),
        count_by-first (λ x. leb (key x) d) x xs (le-leb (key x) d le),
        below-le-upto d xs,
      )
    ]
  ]

  -- in a list that rises by its keys the members with key d stand together, behind those with a key below d
  pub with_key : (d : ℕ) (xs : List X) → AllPairs (λ x y. key x ≤ key y) xs → slice_range xs (below d xs) (upto d xs) ≡ filter (λ x. key x == d) xs
  with_key d [] h = refl
  with_key d (x ∷ xs) h =
      let rest = with_key d xs (AllPairs-rest (λ x y. key x ≤ key y) x xs h) in
      let later = AllPairs-first (λ x y. key x ≤ key y) x xs h in
      elim (cases_lt (key x) d) [
        | inl under ↦
            let other : (key x == d) ≡ false = ne_eqb (key x) d (λ e. omega (arith, e, under)) in
            ap₂ (slice_range (x ∷ xs)) (count_by-first (λ x. ltb (key x) d) x xs (lt-ltb (key x) d under))
            (count_by-first (λ x. leb (key x) d) x xs (le-leb (key x) d (omega (arith, under))))
            ∙ ap (λ (n : ℕ). take n (drop (below d xs) xs)) (omega arith) ∙ rest
            ∙ sym (ap (λ (b : Bool). cond b (x ∷ filter (λ x. key x == d) xs) (filter (λ x. key x == d) xs)) other)
        | inr from ↦ elim (cases_lt d (key x)) [
          | inl over ↦
              let other : (key x == d) ≡ false = ne_eqb (key x) d (λ e. omega (arith, e, over)) in
              let above : All (λ y. d < key y) xs = λ k e within. omega (arith, over, later k e within) in
              let none : below d xs ≡ 0 = below-none d xs (λ k e within. omega (arith, above k e within)) in
              let nothing : upto d xs ≡ 0 = upto-none d xs above in
              ap₂ (slice_range (x ∷ xs)) (count_by-later (λ x. ltb (key x) d) x xs (le-ltb (key x) d from) ∙ none)
              (count_by-later (λ x. leb (key x) d) x xs (lt-leb (key x) d over) ∙ nothing)
              ∙ sym (ap₂ (slice_range xs) none nothing) ∙ rest ∙ sym (ap
              (λ (b : Bool). cond b (x ∷ filter (λ x. key x == d) xs) (filter (λ x. key x == d) xs)) other)
          | inr le ↦
              let equal : (key x == d) ≡ true = eq-eqb (key x) d (omega (arith, from, le)) in
              let none : below d xs ≡ 0 = below-none d xs (λ k e within. omega (arith, from, later k e within)) in
              ap₂ (slice_range (x ∷ xs)) (count_by-later (λ x. ltb (key x) d) x xs (le-ltb (key x) d from) ∙ none)
              (count_by-first (λ x. leb (key x) d) x xs (le-leb (key x) d le))
              ∙ ap (λ (n : ℕ). take n (x ∷ xs)) (let whole : suc (upto d xs) - 0 ≡ suc (upto d xs) = omega arith in whole)
              ∙ ap (λ (ys : List X). x ∷ ys) (ap (λ (n : ℕ). take n xs) (let whole : upto d xs ≡ upto d xs - 0 = omega arith in whole)
              ∙ sym (ap (λ (n : ℕ). slice_range xs n (upto d xs)) none) ∙ rest)
              ∙ sym (ap (λ (b : Bool). cond b (x ∷ filter (λ x. key x == d) xs) (filter (λ x. key x == d) xs)) equal)
        ]
      ]

  -- no member has a key below 0
  pub below-zero : (xs : List X) → below 0 xs ≡ 0
  below-zero xs = below-none 0 xs (λ k e within. omega arith)
