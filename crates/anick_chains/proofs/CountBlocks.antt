-- Numbers that rise by degree and length, none of them 0, are those of the blocks of the list of chains.
use Rattle.std.proofs.Common.{ap₂, ◌≡◌, ◌⊎◌, ◌+◌, ◌*◌, ◌<◌, ◌≤◌, ◌==◌, ℕ, Bool, true, false, cond, List, [], ◌∷◌, ◌++◌, All, length, map, refl, sym}
use Rattle.std.proofs.Common.{ap, ◌∙◌, inl, inr, arith}
use Rattle.std.proofs.Common.{AllPairs, append-nil, eq-eqb, if◌then◌else◌}
use Rattle.std.specs.List.{flat_map, sum_by}
use Rattle.std.proofs.lemmas.Bool.{cases_lt, ne_eqb}
use Rattle.std.proofs.lemmas.List.Elements.{All-cons, All-contains, All-head, All-nil, All-tail, All-weaker}
use Rattle.std.proofs.lemmas.List.Kept.{AllPairs-cons}
use Rattle.std.proofs.lemmas.List.Sums.{sum_by-cons}
use Rattle.words.proofs.Members.{AllPairs-first, AllPairs-nil, AllPairs-rest, All-from_members, Contains-map}
use Rattle.anick_chains.specs.declared.chain.Chain.{Chain}
use Rattle.anick_chains.specs.declared.tally.ChainCount.{ChainCount}
use Rattle.anick_chains.specs.Chains.{chain_degree}
use Rattle.anick_chains.specs.Listed.{AreListed, pieces_of}
use Rattle.anick_chains.specs.Listing.{StandsBefore}
use Rattle.anick_chains.specs.Tallies.{IsCounted, IsLower, count_text, count_total, count_weight, counts_of}
use Rattle.anick_chains.specs.Texts.{Block, block_text, blocks_of, chain_text, count_line, fits, one_chain, with_chain}
use Rattle.anick_chains.proofs.Blocks.{fits-says}
use Rattle.anick_chains.proofs.Sums.{sum_by-length, sum_by-none, sum_by-same}

abbrev numbers : List Block → List ChainCount
numbers bs = map (λ (b : Block). record { degree = b.degree; size = b.size; count = length b.chains }) bs

abbrev number : Block → ChainCount
number b = record { degree = b.degree; size = b.size; count = length b.chains }

abbrev more : Chain → Block → Block
more c b = record { degree = b.degree; size = b.size; chains = c.pieces ∷ b.chains }

-- the chain does not stand behind chains of this degree and length
abbrev IsNotBehind : Chain → ChainCount → Type 0
IsNotBehind c k = (c.degree < k.degree) ⊎ ((c.degree ≡ k.degree) × (length c.pieces ≤ k.size))

with_chain-above : (a c : Chain) (bs : List Block) → IsNotBehind a (number (one_chain c)) → All (IsNotBehind a) (numbers bs) →
    All (IsNotBehind a) (numbers (with_chain c bs))
with_chain-above a c [] own all = All-cons (IsNotBehind a) (number (one_chain c)) [] own all
with_chain-above a c (b ∷ bs) own all = by_test (fits c b)
  where
    by_test : (t : Bool) → All (IsNotBehind a) (numbers (if t then more c b ∷ bs else one_chain c ∷ b ∷ bs))
    by_test true = All-cons (IsNotBehind a) (number (more c b)) (numbers bs) (All-head (IsNotBehind a) (number b) (numbers bs) all)
        (All-tail (IsNotBehind a) (number b) (numbers bs) all)
    by_test false = All-cons (IsNotBehind a) (number (one_chain c)) (number b ∷ numbers bs) own all

blocks_above : (a : Chain) (cs : List Chain) → All (λ c. IsNotBehind a (number (one_chain c))) cs → All (IsNotBehind a) (counts_of cs)
blocks_above a [] all = All-nil (IsNotBehind a)
blocks_above a (c ∷ cs) all =
    with_chain-above a c (blocks_of cs) (All-head (λ (x : Chain). IsNotBehind a (number (one_chain x))) c cs all)
    (blocks_above a cs (All-tail (λ (x : Chain). IsNotBehind a (number (one_chain x))) c cs all))

lower_than : (c : Chain) (b : Block) → fits c b ≡ false → IsNotBehind c (number b) → IsLower (number (one_chain c)) (number b)
lower_than c b e (inl lt) = inl lt
lower_than c b e (inr both) = elim (cases_lt (length c.pieces) b.size) [
  | inl lt ↦ inr (both.0, lt)
  | inr le ↦
      let same : length c.pieces ≡ b.size = omega (arith, le, both.1) in
      let yes : fits c b ≡ true = rw (eq-eqb c.degree b.degree both.0) (eq-eqb (length c.pieces) b.size same) in
      absurd (let n : true ≡ false = sym yes ∙ e in cc n)
]

lower_lower : (a b k : ChainCount) → IsLower a b → IsLower b k → IsLower a k
lower_lower a b k (inl x) (inl y) = inl (omega (arith, x, y))
lower_lower a b k (inl x) (inr y) = inl (omega (arith, x, y.0))
lower_lower a b k (inr x) (inl y) = inl (omega (arith, x.0, y))
lower_lower a b k (inr x) (inr y) = inr (x.0 ∙ y.0, omega (arith, x.1, y.1))

with_chain-rising : (c : Chain) (bs : List Block) → All (IsNotBehind c) (numbers bs) → AllPairs IsLower (numbers bs) →
    AllPairs IsLower (numbers (with_chain c bs))
with_chain-rising c [] all up =
    AllPairs-cons IsLower (number (one_chain c)) [] (All-nil (IsLower (number (one_chain c)))) (AllPairs-nil IsLower)
with_chain-rising c (b ∷ bs) all up = by_test (fits c b) refl
  where
    by_test : (t : Bool) → fits c b ≡ t → AllPairs IsLower (numbers (if t then more c b ∷ bs else one_chain c ∷ b ∷ bs))
    by_test true e = AllPairs-cons IsLower (number (more c b)) (numbers bs) (AllPairs-first IsLower (number b) (numbers bs) up)
        (AllPairs-rest IsLower (number b) (numbers bs) up)
    by_test false e =
        let first = lower_than c b e (All-head (IsNotBehind c) (number b) (numbers bs) all) in
        AllPairs-cons IsLower (number (one_chain c)) (number b ∷ numbers bs)
        (All-cons (IsLower (number (one_chain c))) (number b) (numbers bs) first
        (All-weaker (IsLower (number b)) (IsLower (number (one_chain c))) (λ k l. lower_lower (number (one_chain c)) (number b) k first l) (numbers bs)
        (AllPairs-first IsLower (number b) (numbers bs) up))) up

blocks_rising : (cs : List Chain) → AllPairs (λ x y. IsNotBehind x (number (one_chain y))) cs → AllPairs IsLower (counts_of cs)
blocks_rising [] pairs = AllPairs-nil IsLower
blocks_rising (c ∷ cs) pairs =
    with_chain-rising c (blocks_of cs) (blocks_above c cs (AllPairs-first (λ (x y : Chain). IsNotBehind x (number (one_chain y))) c cs pairs))
    (blocks_rising cs (AllPairs-rest (λ (x y : Chain). IsNotBehind x (number (one_chain y))) c cs pairs))

with_chain-some : (c : Chain) (bs : List Block) → All (λ k. 0 < k.count) (numbers bs) → All (λ k. 0 < k.count) (numbers (with_chain c bs))
with_chain-some c [] all = All-cons (λ (k : ChainCount). 0 < k.count) (number (one_chain c)) [] (omega arith) all
with_chain-some c (b ∷ bs) all = by_test (fits c b)
  where
    by_test : (t : Bool) → All (λ k. 0 < k.count) (numbers (if t then more c b ∷ bs else one_chain c ∷ b ∷ bs))
    by_test true = All-cons (λ (k : ChainCount). 0 < k.count) (number (more c b)) (numbers bs) (omega arith)
        (All-tail (λ (k : ChainCount). 0 < k.count) (number b) (numbers bs) all)
    by_test false = All-cons (λ (k : ChainCount). 0 < k.count) (number (one_chain c)) (number b ∷ numbers bs) (omega arith) all

blocks_some : (cs : List Chain) → All (λ k. 0 < k.count) (counts_of cs)
blocks_some [] = All-nil (λ (k : ChainCount). 0 < k.count)
blocks_some (c ∷ cs) = with_chain-some c (blocks_of cs) (blocks_some cs)

module _ (f : ℕ → ℕ → ℕ) where
  with_chain-weight : (c : Chain) (bs : List Block) → sum_by (count_weight f) (numbers (with_chain c bs)) ≡ f c.degree (length c.pieces)
      + sum_by (count_weight f) (numbers bs)
  with_chain-weight c [] = sum_by-cons (count_weight f) (number (one_chain c)) [] ∙ omega arith
  with_chain-weight c (b ∷ bs) = by_test (fits c b) refl
    where
      by_test : (t : Bool) → fits c b ≡ t → sum_by (count_weight f) (numbers (if t then more c b ∷ bs else one_chain c ∷ b ∷ bs))
          ≡ f c.degree (length c.pieces) + sum_by (count_weight f) (number b ∷ numbers bs)
      by_test true e =
          let s = fits-says c b e in
          let same : f b.degree b.size ≡ f c.degree (length c.pieces) = ap₂ f (sym s.0) (sym s.1) in
          omega (
            arith,
            sum_by-cons (count_weight f) (number (more c b)) (numbers bs),
            sum_by-cons (count_weight f) (number b) (numbers bs),
            same,
          )
      by_test false e = sum_by-cons (count_weight f) (number (one_chain c)) (number b ∷ numbers bs) ∙ omega arith

  blocks_weight : (cs : List Chain) → sum_by (count_weight f) (counts_of cs) ≡ sum_by (λ c. f c.degree (length c.pieces)) cs
  blocks_weight [] = refl
  blocks_weight (c ∷ cs) =
      with_chain-weight c (blocks_of cs) ∙ ap (λ (n : ℕ). f c.degree (length c.pieces) + n) (blocks_weight cs)
      ∙ sym (sum_by-cons (λ (x : Chain). f x.degree (length x.pieces)) c cs)

abbrev one_if : Bool → Bool → ℕ
one_if s t = cond s (cond t 1 0) 0

-- 1 for this degree and length, and else 0
abbrev at_one : ChainCount → ℕ → ℕ → ℕ
at_one a d n = one_if (a.degree == d) (a.size == n)

at_one-lower : (a k : ChainCount) → IsLower a k → at_one a k.degree k.size ≡ 0
at_one-lower a k (inl lt) = ap (λ (t : Bool). one_if t (a.size == k.size)) (ne_eqb a.degree k.degree (λ e. omega (arith, e, lt)))
at_one-lower a k (inr both) =
    ap (one_if (a.degree == k.degree)) (ne_eqb a.size k.size (λ e. omega (arith, e, both.1))) ∙ by_degree (a.degree == k.degree)
  where
    by_degree : (t : Bool) → one_if t false ≡ 0
    by_degree true = refl
    by_degree false = refl

at_one-same : (a k : ChainCount) → a.degree ≡ k.degree → a.size ≡ k.size → at_one a k.degree k.size ≡ 1
at_one-same a k e f = rw (eq-eqb a.degree k.degree e, eq-eqb a.size k.size f) refl

none_later : (a : ChainCount) (ks : List ChainCount) → All (IsLower a) ks → sum_by (count_weight (at_one a)) ks ≡ 0
none_later a ks all = sum_by-none (count_weight (at_one a)) ks (λ k m.
    ap (λ (n : ℕ). k.count * n) (at_one-lower a k (All-contains (IsLower a) ks k all m)) ∙ omega arith)

own_weight : (a k : ChainCount) → a.degree ≡ k.degree → a.size ≡ k.size → count_weight (at_one a) k ≡ k.count
own_weight a k e f = ap (λ (n : ℕ). k.count * n) (at_one-same a k e f) ∙ omega arith

abbrev SameSums : List ChainCount → List ChainCount → Type 0
SameSums xs ys = (f : ℕ → ℕ → ℕ) → sum_by (count_weight f) xs ≡ sum_by (count_weight f) ys

-- the first number of a list stands in no list of greater degrees and lengths
not_lower : (a : ChainCount) (more_x ys : List ChainCount) → 0 < a.count → SameSums (a ∷ more_x) ys → All (IsLower a) ys → ⊥
not_lower a more_x ys some same all =
    omega (arith, some, same (at_one a), sum_by-cons (count_weight (at_one a)) a more_x, own_weight a a refl refl, none_later a ys all)

data Order (a b : ChainCount) : Type 0 where
  lower : IsLower a b → Order a b
  equal : a.degree ≡ b.degree → a.size ≡ b.size → Order a b
  higher : IsLower b a → Order a b

order : (a b : ChainCount) → Order a b
order a b = elim (cases_lt a.degree b.degree) [
  | inl lt ↦ lower (inl lt)
  | inr le ↦ elim (cases_lt b.degree a.degree) [
    | inl lt ↦ higher (inl lt)
    | inr ge ↦ elim (cases_lt a.size b.size) [
      | inl lt ↦ lower (inr (omega (arith, le, ge), lt))
      | inr more ↦ elim (cases_lt b.size a.size) [
        | inl lt ↦ higher (inr (omega (arith, le, ge), lt))
        | inr less ↦ equal (omega (arith, le, ge)) (omega (arith, more, less))
      ]
    ]
  ]
]

-- two such lists with the same sums are one
rising_unique : (xs ys : List ChainCount) → AllPairs IsLower xs → AllPairs IsLower ys → All (λ k. 0 < k.count) xs → All (λ k. 0 < k.count) ys →
    SameSums xs ys → xs ≡ ys
rising_unique [] [] up_x up_y some_x some_y same = refl
rising_unique [] (b ∷ bs) up_x up_y some_x some_y same =
    absurd (not_lower b bs [] (All-head (λ (k : ChainCount). 0 < k.count) b bs some_y) (λ f. sym (same f)) (All-nil (IsLower b)))
rising_unique (a ∷ more_x) [] up_x up_y some_x some_y same =
    absurd (not_lower a more_x [] (All-head (λ (k : ChainCount). 0 < k.count) a more_x some_x) same (All-nil (IsLower a)))
rising_unique (a ∷ more_x) (b ∷ bs) up_x up_y some_x some_y same =
    by_order (rising_unique more_x bs (AllPairs-rest IsLower a more_x up_x) (AllPairs-rest IsLower b bs up_y)
    (All-tail (λ (k : ChainCount). 0 < k.count) a more_x some_x) (All-tail (λ (k : ChainCount). 0 < k.count) b bs some_y)) (order a b)
  where
    first_x : All (IsLower a) more_x
    first_x = AllPairs-first IsLower a more_x up_x

    first_y : All (IsLower b) bs
    first_y = AllPairs-first IsLower b bs up_y

    by_order : (SameSums more_x bs → more_x ≡ bs) → Order a b → a ∷ more_x ≡ b ∷ bs
    by_order on (lower l) = absurd (not_lower a more_x (b ∷ bs) (All-head (λ (k : ChainCount). 0 < k.count) a more_x some_x) same
        (All-cons (IsLower a) b bs l (All-weaker (IsLower b) (IsLower a) (λ k m. lower_lower a b k l m) bs first_y)))
    by_order on (higher l) = absurd (not_lower b bs (a ∷ more_x) (All-head (λ (k : ChainCount). 0 < k.count) b bs some_y) (λ f. sym (same f))
        (All-cons (IsLower b) a more_x l (All-weaker (IsLower a) (IsLower b) (λ k m. lower_lower b a k l m) more_x first_x)))
    by_order on (equal e f) =
        let later : All (IsLower a) bs = All-weaker (IsLower b) (IsLower a) (λ k m. move k m) bs first_y in
        let count : a.count ≡ b.count =
        omega (
          arith,
          same (at_one a),
          sum_by-cons (count_weight (at_one a)) a more_x,
          sum_by-cons (count_weight (at_one a)) b bs,
          own_weight a a refl refl,
          own_weight a b e f,
          none_later a more_x first_x,
          none_later a bs later,
        ) in
        let one : a ≡ b = λ i. record { degree = e i; size = f i; count = count i } in
        let rest = on (λ g. omega (
          arith,
          same g,
          sum_by-cons (count_weight g) a more_x,
          sum_by-cons (count_weight g) b bs,
          ap (count_weight g) one,
        )) in
        ap₂ (λ (k : ChainCount) (ks : List ChainCount). k ∷ ks) one rest
      where
        move : (k : ChainCount) → IsLower b k → IsLower a k
        move k (inl lt) = inl (omega (arith, lt, e))
        move k (inr both) = inr (e ∙ both.0, omega (arith, both.1, f))

-- the listed chains stand by degree and length
not_behind : (weights : List ℕ) (found : List Chain) → All (λ c. c.degree ≡ chain_degree weights c.pieces) found →
    AllPairs (StandsBefore weights) (pieces_of found)
    → AllPairs (λ x y. IsNotBehind x (number (one_chain y))) found
not_behind weights [] degrees pairs = AllPairs-nil (λ (x y : Chain). IsNotBehind x (number (one_chain y)))
not_behind weights (x ∷ xs) degrees pairs =
    AllPairs-cons (λ (u v : Chain). IsNotBehind u (number (one_chain v))) x xs
    (All-from_members (λ (y : Chain). IsNotBehind x (number (one_chain y))) xs (λ y m.
    from y (All-contains (λ (c : Chain). c.degree ≡ chain_degree weights c.pieces) xs y
    (All-tail (λ (c : Chain). c.degree ≡ chain_degree weights c.pieces) x xs degrees) m)
    (All-contains (StandsBefore weights x.pieces) (pieces_of xs) y.pieces (AllPairs-first (StandsBefore weights) x.pieces (pieces_of xs) pairs)
    (Contains-map (λ (c : Chain). c.pieces) xs y m))))
    (not_behind weights xs (All-tail (λ (c : Chain). c.degree ≡ chain_degree weights c.pieces) x xs degrees)
    (AllPairs-rest (StandsBefore weights) x.pieces (pieces_of xs) pairs))
  where
    own : x.degree ≡ chain_degree weights x.pieces
    own = All-head (λ (c : Chain). c.degree ≡ chain_degree weights c.pieces) x xs degrees

    from : (y : Chain) → y.degree ≡ chain_degree weights y.pieces → StandsBefore weights x.pieces y.pieces → IsNotBehind x (number (one_chain y))
    from y e (inl lt) = inl (omega (arith, lt, e, own))
    from y e (inr (same, inl short)) = inr (omega (arith, same, e, own), omega (arith, short))
    from y e (inr (same, inr long)) = inr (omega (arith, same, e, own), omega (arith, long.0))

-- so numbers of listed chains are those of the blocks
pub counted_blocks : (T : List ℕ → Type 0) (names : ℕ) (weights : List ℕ) (e : ℕ) (found : List Chain) → AreListed T names weights e found →
    (counts : List ChainCount) → IsCounted e counts found → counts ≡ counts_of found
counted_blocks T names weights e found listed counts h =
    rising_unique counts (counts_of found) h.rising (blocks_rising found (not_behind weights found listed.degrees listed.chains.ordered)) h.some
    (blocks_some found) (λ f. h.same f ∙ sym (blocks_weight f found))

-- and have all chains
pub counted_total : (e : ℕ) (found : List Chain) (counts : List ChainCount) → IsCounted e counts found → count_total counts ≡ length found
counted_total e found counts h =
    sum_by-same (λ (k : ChainCount). k.count) (count_weight (λ _ _. 1)) counts (λ k m. omega arith) ∙ h.same (λ _ _. 1) ∙ sum_by-length found

-- the numbers of a list have all of its chains
pub counts_of-total : (found : List Chain) → count_total (counts_of found) ≡ length found
counts_of-total found =
    sum_by-same (λ (k : ChainCount). k.count) (count_weight (λ _ _. 1)) (counts_of found) (λ k m. omega arith) ∙ blocks_weight (λ _ _. 1) found
    ∙ sum_by-length found

-- and give its text without the list
pub count_text-is : (names : List (List ℕ)) (found : List Chain) → count_text (counts_of found) ≡ chain_text names false found
count_text-is names found = by_blocks (blocks_of found)
  where
    by_blocks : (bs : List Block) → count_text (numbers bs) ≡ flat_map (block_text names false) bs
    by_blocks [] = refl
    by_blocks (b ∷ bs) = ap₂ (λ (x y : List ℕ). x ++ y) (sym (append-nil (count_line b.degree b.size (length b.chains)))) (by_blocks bs)
