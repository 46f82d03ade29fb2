-- Lists gathered from the members of another one, member after member.
use Rattle.std.proofs.Common.{◌≡◌, ◌+◌, ◌++◌, ◌<◌, ◌∙◌, ℕ, List, [], ◌∷◌, ap, append_assoc, arith, get_or, length, length-append, sym, take}
use Rattle.std.specs.List.{flat_map, range_with_len}
use Rattle.std.proofs.lemmas.Grind.{flat_map-append}
use Rattle.std.proofs.lemmas.List.{append-nil, take_more}
use Rattle.std.proofs.lemmas.List.Folds.{length-flat_map-take}
use Rattle.std.proofs.lemmas.List.FromFn.{get_or-range_with_len, length-range_with_len}

module _ {X Y : Type 0} (f : X → List Y) where
  -- what one more member gives stands behind what there was
  pub gathered-more : (old now new : List Y) (xs : List X) (i : ℕ) (x : X) → i < length xs → x ≡ get_or xs i x
      → now ≡ old ++ flat_map f (take i xs) → new ≡ now ++ f x → new ≡ old ++ flat_map f (take (i + 1) xs)
  gathered-more old now new xs i x lt is so_far grown =
      let more : flat_map f (take (i + 1) xs) ≡ flat_map f (take i xs) ++ f x =
      ap (flat_map f) (take_more xs i x lt ∙ ap (λ (y : X). take i xs ++ y ∷ []) (sym is)) ∙ flat_map-append f (take i xs) (x ∷ [])
      ∙ ap (λ (ys : List Y). flat_map f (take i xs) ++ ys) (append-nil (f x)) in
      grown ∙ ap (λ (ys : List Y). ys ++ f x) so_far ∙ append_assoc old (flat_map f (take i xs)) (f x)
      ∙ ap (λ (ys : List Y). old ++ ys) (sym more)

  -- all members give no less than the first ones and one more
  pub gathered-longer : (old now : List Y) (xs : List X) (i most : ℕ) (x : X) → i < length xs → x ≡ get_or xs i x
      → now ≡ old ++ flat_map f (take i xs) → most < length (now ++ f x) → most < length (old ++ flat_map f xs)
  gathered-longer old now xs i most x lt is so_far more =
      omega (
        arith,
        more,
        ap length so_far,
        length-append now (f x),
        length-append old (flat_map f (take i xs)),
        length-append old (flat_map f xs),
        length-flat_map-take f xs i x lt,
        ap (λ (y : X). length (f y)) is,
      )

letter_at : (m n : ℕ) → n < m → n ≡ get_or (range_with_len 0 m) n n
letter_at m n lt = let none : n ≡ 0 + n = omega arith in none ∙ sym (get_or-range_with_len 0 m n n lt)

module _ {Y : Type 0} (f : ℕ → List Y) (m n : ℕ) (lt : n < m) where
  -- the same of the first m letters
  pub letters-more : (now new : List Y) → now ≡ flat_map f (take n (range_with_len 0 m)) → new ≡ now ++ f n
      → new ≡ flat_map f (take (n + 1) (range_with_len 0 m))
  letters-more now new so_far grown =
      gathered-more f [] now new (range_with_len 0 m) n n (omega (arith, lt, length-range_with_len 0 m)) (letter_at m n lt) so_far grown

  -- what is gathered from all m letters is longer than most where one more letter makes it so
  pub letters-longer : (most : ℕ) (now : List Y) → now ≡ flat_map f (take n (range_with_len 0 m)) → most < length (now ++ f n)
      → most < length (flat_map f (range_with_len 0 m))
  letters-longer most now so_far more =
      gathered-longer f [] now (range_with_len 0 m) n most n (omega (arith, lt, length-range_with_len 0 m)) (letter_at m n lt) so_far more
