-- Lists joined of the lists of members, and words by a member of them.
use Rattle.std.proofs.Common.{◌≡◌, ◌+◌, ◌-◌, ◌<◌, ◌≤◌, ℕ, zero, suc, List, [], ◌∷◌, ◌++◌, length, take, drop, get_or, sym, ap, ◌∙◌, arith}
use Rattle.std.proofs.Common.{AllPairs, length-append}
use Rattle.std.specs.List.{Contains, flat_map, range_with_len}
use Rattle.std.proofs.lemmas.List.{append-nil, take-append-drop, take_more}
use Rattle.std.proofs.lemmas.Grind.{flat_map-append}
use Rattle.std.proofs.lemmas.List.Elements.{All-contains}
use Rattle.words.proofs.Members.{AllPairs-append, AllPairs-first, AllPairs-nil, AllPairs-rest, All-from_members, Contains-first}
use Rattle.words.proofs.Members.{Contains-flat_map_cases, Contains-more}
use Rattle.overlaps.proofs.Sums.{joined-more}

module _ {X Y : Type 0} (f : X → List Y) (R : X → X → Type 0) (S : Y → Y → Type 0) where
  -- blocks of the members of a list, each block after another
  pub AllPairs-joined : (xs : List X) → AllPairs R xs → ((x : X) → Contains xs x → AllPairs S (f x))
      → ((a b : X) (u v : Y) → Contains xs a → Contains xs b → R a b → Contains (f a) u → Contains (f b) v → S u v)
      → AllPairs S (flat_map f xs)
  AllPairs-joined [] p inside across = AllPairs-nil S
  AllPairs-joined (x ∷ xs) p inside across =
      AllPairs-append S (f x) (flat_map f xs) (inside x (Contains-first x xs))
      (AllPairs-joined xs (AllPairs-rest R x xs p) (λ z m. inside z (Contains-more x xs z m))
      (λ a b u v m n. across a b u v (Contains-more x xs a m) (Contains-more x xs b n)))
      (λ u m. All-from_members (S u) (flat_map f xs) (λ v n.
      let r = Contains-flat_map_cases f xs v n in
      across x r.0 u v (Contains-first x xs) (Contains-more x xs r.0 r.1) (All-contains (R x) xs r.0 (AllPairs-first R x xs p) r.1) m r.2))

module _ {X : Type 0} (f : ℕ → List X) where
  -- what the first places give
  abbrev pub joined : ℕ → List X
  joined n = flat_map f (range_with_len 0 n)

  -- one place more
  pub joined-one : (n : ℕ) → joined (n + 1) ≡ joined n ++ f n
  joined-one n = joined-more f 0 n ∙ ap (λ (k : ℕ). joined n ++ f k) (let same : 0 + n ≡ n = omega arith in same)

  joined-skip : (n k : ℕ) → ((i : ℕ) → k ≤ i → i < k + n → f i ≡ []) → joined (k + n) ≡ joined k
  joined-skip zero k empty = ap joined (omega arith)
  joined-skip (suc n) k empty =
      ap joined (let next : k + suc n ≡ (k + n) + 1 = omega arith in next) ∙ joined-one (k + n)
      ∙ ap (λ (r : List X). joined (k + n) ++ r) (empty (k + n) (omega arith) (omega arith))
      ∙ append-nil (joined (k + n)) ∙ joined-skip n k (λ i from under. empty i from (omega (arith, under)))

  -- places with nothing add nothing
  pub joined-same : (k end : ℕ) → k ≤ end → ((i : ℕ) → k ≤ i → i < end → f i ≡ []) → joined end ≡ joined k
  joined-same k end le empty =
      let whole : k + (end - k) ≡ end = omega (arith, le) in
      ap joined (sym whole) ∙ joined-skip (end - k) k (λ i from under. empty i from (omega (arith, under, whole)))

module _ {X Y : Type 0} (f : X → List Y) where
  -- what the next member gives goes behind what those before it give
  pub flat_map-take : (xs : List X) (i : ℕ) (x : X) → i < length xs → x ≡ get_or xs i x
      → flat_map f (take (i + 1) xs) ≡ flat_map f (take i xs) ++ f x
  flat_map-take xs i x within is =
      ap (flat_map f) (take_more xs i x within ∙ ap (λ (y : X). take i xs ++ y ∷ []) (sym is)) ∙ flat_map-append f (take i xs) (x ∷ [])
      ∙ ap (λ (r : List Y). flat_map f (take i xs) ++ r) (append-nil (f x))

  -- the first members give no more than all
  pub flat_map-most : (xs : List X) (i : ℕ) → length (flat_map f (take i xs)) ≤ length (flat_map f xs)
  flat_map-most xs i =
      omega (
        arith,
        ap (λ (ys : List X). length (flat_map f ys)) (take-append-drop i xs),
        ap length (flat_map-append f (take i xs) (drop i xs)),
        length-append (flat_map f (take i xs)) (flat_map f (drop i xs)),
      )
