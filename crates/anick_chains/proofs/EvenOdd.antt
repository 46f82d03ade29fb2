-- A list whose members have mates of the other parity has as many even members as odd ones.
use Rattle.std.proofs.Common.{◌≡◌, ◌≢◌, ◌⊎◌, ◌≤◌, ◌%◌, ◌==◌, ℕ, suc, List, [], ◌∷◌, ◌++◌, length, sym, ap}
use Rattle.std.proofs.Common.{inl, inr, arith, subst, length-append, AllPairs, count_by, eq-eqb, filter}
use Rattle.std.specs.List.{Contains}
use Rattle.std.proofs.lemmas.Bool.{eqb-true}
use Rattle.std.proofs.lemmas.List.Elements.{All-contains}
use Rattle.std.proofs.lemmas.List.Elements.{Contains-append_cases, Contains-append_left, Contains-append_right}
use Rattle.words.proofs.Members.{AllPairs-first, AllPairs-rest, Contains-cases, Contains-first, Contains-more, Contains-none, Contains-filter}
use Rattle.std.proofs.lemmas.List.Kept.{AllPairs-filter}
use Rattle.std.proofs.lemmas.List.Sums.{length-filter}
use Rattle.words.proofs.Members.{Contains-filter_cases}

-- a member with what stands before and after it
pub record IsPlaced {Y : Type 0} (ys : List Y) (y : Y) : Type 0 where
  pub before : List Y
  pub after : List Y
  pub is : ys ≡ before ++ y ∷ after

-- a member stands at some place
pub placed : {Y : Type 0} (ys : List Y) (y : Y) → Contains ys y → IsPlaced ys y
placed [] y m = absurd (Contains-none y m)
placed (z ∷ ys) y m = elim (Contains-cases z ys y m) [
  | inl e ↦ record { before = []; after = ys; is = ap (λ x. x ∷ ys) e }
  | inr n ↦ let r = placed ys y n in record { before = z ∷ r.before; after = r.after; is = ap (λ x. z ∷ x) r.is }
]

module _ {X Y : Type 0} (R : X → Y → Type 0) where
  -- where different members of one list are tied to different members of another, the other is no shorter
  pub no_longer : (xs : List X) (ys : List Y) → AllPairs (λ a b. a ≢ b) xs → ((x : X) → Contains xs x → (y : Y) × Contains ys y × R x y)
      → ((a b : X) (y : Y) → Contains xs a → Contains xs b → R a y → R b y → a ≡ b) → length xs ≤ length ys
  no_longer [] ys apart some one = omega arith
  no_longer (x ∷ xs) ys apart some one =
      let m = some x (Contains-first x xs) in
      let at = placed ys m.0 m.1 in
      let rest = no_longer xs (at.before ++ at.after) (AllPairs-rest (λ a b. a ≢ b) x xs apart)
      (λ a n. others a n m.0 m.2 at.before at.after at.is)
      (λ a b y n k. one a b y (Contains-more x xs a n) (Contains-more x xs b k)) in
      omega (arith, rest, ap length at.is, length-append at.before (m.0 ∷ at.after), length-append at.before at.after)
    where
      others : (a : X) → Contains xs a → (y : Y) → R x y → (pre post : List Y) → ys ≡ pre ++ y ∷ post → (z : Y) × Contains (pre ++ post) z × R a z
      others a n y r pre post is =
          let m = some a (Contains-more x xs a n) in
          elim (Contains-append_cases pre (y ∷ post) m.0 (subst (λ (zs : List Y). Contains zs m.0) is m.1)) [
            | inl k ↦ (m.0, Contains-append_left pre post m.0 k, m.2)
            | inr k ↦ elim (Contains-cases y post m.0 k) [
              | inr j ↦ (m.0, Contains-append_right pre post m.0 j, m.2)
              | inl e ↦ absurd (All-contains (λ b. x ≢ b) xs a (AllPairs-first (λ a b. a ≢ b) x xs apart) n
                  (one x a y (Contains-first x xs) (Contains-more x xs a n) r (subst (λ (z : Y). R a z) (sym e) m.2)))
            ]
          ]

-- of two numbers that differ by 1 one is even and one is odd
pub parity : (m n : ℕ) → (m ≡ suc n) ⊎ (n ≡ suc m) → n % 2 ≡ 0 → m % 2 ≡ 1
parity m n (inl e) h = omega (arith, e, h)
parity m n (inr e) h = omega (arith, e, h)

-- the same of an odd number
pub parity_odd : (m n : ℕ) → (m ≡ suc n) ⊎ (n ≡ suc m) → n % 2 ≡ 1 → m % 2 ≡ 0
parity_odd m n (inl e) h = omega (arith, e, h)
parity_odd m n (inr e) h = omega (arith, e, h)

-- a relation that goes both ways, gives each member one mate in the list, and changes the parity of a key
module _ {X : Type 0} (M : X → X → Type 0) (key : X → ℕ) where
  -- has as many members with an even key as with an odd one
  pub as_many : (xs : List X) → AllPairs (λ a b. a ≢ b) xs → ((a : X) → Contains xs a →
      (b : X) × Contains xs b × M a b × M b a × ((key b ≡ suc (key a)) ⊎ (key a ≡ suc (key b))))
      → ((a b c : X) → Contains xs a → M a b → M a c → b ≡ c) → count_by (λ a. key a % 2 == 0) xs ≡ count_by (λ a. key a % 2 == 1) xs
  as_many xs apart mate one =
      let evens = filter (λ a. key a % 2 == 0) xs in
      let odds = filter (λ a. key a % 2 == 1) xs in
      let up : length evens ≤ length odds = no_longer T evens odds (AllPairs-filter (λ a b. a ≢ b) (λ a. key a % 2 == 0) xs apart)
      (λ a m.
      let s = Contains-filter_cases (λ a. key a % 2 == 0) xs a m in
      let r = mate a s.0 in
      (r.0, Contains-filter (λ a. key a % 2 == 1) xs r.0 r.1 (eq-eqb _ _ (parity (key r.0) (key a) r.4 (eqb-true _ _ s.1))), (r.1, r.3)))
      (λ a b y m n. same a b y) in
      let down : length odds ≤ length evens = no_longer T odds evens (AllPairs-filter (λ a b. a ≢ b) (λ a. key a % 2 == 1) xs apart)
      (λ a m.
      let s = Contains-filter_cases (λ a. key a % 2 == 1) xs a m in
      let r = mate a s.0 in
      (r.0, Contains-filter (λ a. key a % 2 == 0) xs r.0 r.1 (eq-eqb _ _ (parity_odd (key r.0) (key a) r.4 (eqb-true _ _ s.1))), (r.1, r.3)))
      (λ a b y m n. same a b y) in
      omega (arith, up, down, length-filter (λ a. key a % 2 == 0) xs, length-filter (λ a. key a % 2 == 1) xs)
    where
      -- y is a member of which x is the mate
      T : X → X → Type 0
      T x y = Contains xs y × M y x

      same : (a b y : X) → T a y → T b y → a ≡ b
      same a b y h k = one y a b h.0 h.1 k.1
