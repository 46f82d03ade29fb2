-- A word of bits that is gone through, one marked column after another, whatever walks there.
use Rattle.std.proofs.Common.{◌≡◌, ◌≢◌, ◌+◌, ◌-◌, ◌*◌, ◌/◌, ◌%◌, ◌^◌, ◌<◌, ◌≤◌, ℕ, List, get_or, ap, ◌∙◌, inl, inr, arith, subst, w64}
use Rattle.std.specs.Int.{bit_at, trailing_zeros}
use Rattle.std.proofs.lemmas.Bool.{cases_lt}
use Rattle.std.proofs.lemmas.Nat.Bits.{bit_at-trailing_zeros, bit_at-zero}
use Rattle.row_store.specs.Marks.{mark_at}

-- the bits of a word are the marks of its columns
word_mark : (bits : List ℕ) (k j : ℕ) → k * 64 ≤ j → j < k * 64 + 64 → mark_at bits j ≡ bit_at (get_or bits k 0) (j - k * 64)
word_mark bits k j low high =
    let word : j / 64 ≡ k = omega (arith, low, high) in
    let place : j % 64 ≡ j - k * 64 = omega (arith, low, high) in
    ap (λ (n : ℕ). bit_at (get_or bits n 0) (j % 64)) word ∙ ap (bit_at (get_or bits k 0)) place

-- the first marked column of a word
pub word_first : (bits : List ℕ) (k : ℕ) → get_or bits k 0 ≢ 0 → get_or bits k 0 < 2 ^ 64
    → (trailing_zeros w64 (get_or bits k 0) < 64) × (mark_at bits (k * 64 + trailing_zeros w64 (get_or bits k 0)) ≡ 1)
    × ((j : ℕ) → k * 64 ≤ j → j < k * 64 + trailing_zeros w64 (get_or bits k 0) → mark_at bits j ≡ 0)
word_first bits k some fits =
    let rest = get_or bits k 0 in
    let t = trailing_zeros w64 rest in
    let lowest = bit_at-trailing_zeros w64 rest (omega (arith, some)) fits in
    let inside : t < 64 = lowest.0 in
    let back : k * 64 + t - k * 64 ≡ t = omega arith in (
      inside,
      word_mark bits k (k * 64 + t) (omega arith) (omega (arith, inside)) ∙ ap (bit_at rest) back ∙ lowest.1,
      λ j low less. word_mark bits k j low (omega (arith, less, inside)) ∙ lowest.2 (j - k * 64) (omega (arith, low, less)),
    )

-- the words reach past all columns
pub words_past : (n words k : ℕ) → words ≡ n / 64 + 1 → words ≤ k → n ≤ k * 64
words_past n words k e le = omega (arith, e, le)

-- columns with no mark may be passed, and none before the walk is marked
pub record IsWalk {S : Type 0} (bits : List ℕ) (At : S → ℕ → Type 0) : Type 0 where
  pub skips : (s : S) (at later : ℕ) → At s at → at ≤ later → ((j : ℕ) → at ≤ j → j < later → mark_at bits j ≡ 0) → At s later
  pub unmarked : (s : S) (at j : ℕ) → At s at → j < at → mark_at bits j ≡ 0

-- from the beginning of a word the walk has gone some columns on, one at least a step
abbrev pub GoesOn : {S : Type 0} → ℕ → ℕ → (S → Type 0) → (S → ℕ → Type 0) → Type 0
GoesOn {S} k step Before At = (at : ℕ) × (k * 64 + step ≤ at) × (at ≤ k * 64 + 64) × ((s : S) → Before s → At s at)

module _ {S : Type 0} {Before : S → Type 0} {At : S → ℕ → Type 0} (k step : ℕ) (bits : List ℕ) (walk : IsWalk bits At) (on : GoesOn k step Before At) where
  -- no column is left
  pub word_ends : get_or bits k 0 ≡ 0 → (s : S) → Before s → At s ((k + 1) * 64)
  word_ends none s before = walk.skips s on.0 ((k + 1) * 64) (on.3 s before) (omega (arith, on.2)) (λ j past less. (
      let low : k * 64 ≤ j = omega (arith, past, on.1) in
      word_mark bits k j low (omega (arith, less)) ∙ ap (λ (n : ℕ). bit_at n (j - k * 64)) none ∙ bit_at-zero (j - k * 64)))

  -- all steps are done
  pub word_over : 64 ≤ step → (s : S) → Before s → At s ((k + 1) * 64)
  word_over steps s before =
      let end : on.0 ≡ (k + 1) * 64 = omega (arith, on.1, on.2, steps) in
      subst (At s) end (on.3 s before)

  module _ (some : get_or bits k 0 ≢ 0) (fits : get_or bits k 0 < 2 ^ 64) where
    -- the first marked column of the word
    abbrev pub next : ℕ
    next = k * 64 + trailing_zeros w64 (get_or bits k 0)

    ahead : (s : S) → Before s → on.0 ≤ next
    ahead s before = elim (cases_lt next on.0) [
      | inl past ↦ (
          let unset = walk.unmarked s on.0 next (on.3 s before) past in
          let first = (word_first bits k some fits).1 in
          absurd (omega (arith, unset, first)))
      | inr here ↦ here
    ]

    -- the walk goes to the first column that is left
    pub word_next : (s : S) → Before s → At s next
    word_next s before = walk.skips s on.0 next (on.3 s before) (ahead s before)
        (λ j past less. (word_first bits k some fits).2 j (omega (arith, past, on.1)) less)

    -- and on from there
    pub word_stepped : {Then : S → ℕ → Type 0} (s : S) → Before s → ((r : S) → At r next → Then r (next + 1)) → GoesOn k (step + 1) Before Then
    word_stepped s before cleared = (
      next + 1,
      omega (arith, on.1, ahead s before),
      omega (arith, (word_first bits k some fits).0),
      λ r before. cleared r (word_next r before),
    )
