-- What a claim word says.
use Rattle.std.proofs.Common.{◌≡◌, ◌≢◌, ◌+◌, ◌*◌, ◌/◌, ◌%◌, ◌<◌, ◌≤◌, ◌^◌, ◌-◌, ℕ, inl, inr, ap, ◌∙◌, arith, Some, None, Option}
use Rattle.std.proofs.Common.{refl, sym, ◌==◌, Bool, true, false, ltb}
use Rattle.std.specs.Prelude.{if◌then◌else◌}
use Rattle.std.proofs.lemmas.Bool.{cond-true, cond-false, cond_both, lt-ltb, le-ltb, ne_eqb, eqb-false}
use Rattle.std.proofs.lemmas.Option.{none-some, same_Some}
use Rattle.std.proofs.lemmas.Nat.{div-mul-add, mod-mul-add, mul-le}
use Rattle.back_reduce.specs.declared.problem.Problem.{Problem}
use Rattle.pivot_core.specs.Words.{IsClaimWord, claim_word, row_in, stamp_in, holder_in, value_in}

-- the stamp in the claim word of a stamp and a row is this stamp, where the row and 1 are below 2^32
pub stamp_in-claim_word : (stamp row : ℕ) → row + 1 < 2 ^ 32 → stamp_in (claim_word stamp row) ≡ stamp
stamp_in-claim_word stamp row small =
    let e : claim_word stamp row ≡ stamp * 2 ^ 32 + (row + 1) = omega arith in
    ap (λ (k : ℕ). k / 2 ^ 32) e ∙ div-mul-add stamp (2 ^ 32) (row + 1) small

-- the row in the claim word of a stamp and a row is this row, where the row and 1 are below 2^32
pub row_in-claim_word : (stamp row : ℕ) → row + 1 < 2 ^ 32 → row_in (claim_word stamp row) ≡ row
row_in-claim_word stamp row small =
    let e : claim_word stamp row ≡ stamp * 2 ^ 32 + (row + 1) = omega arith in
    ap (λ (k : ℕ). k % 2 ^ 32 - 1) e ∙ ap (λ (k : ℕ). k - 1) (mod-mul-add stamp (2 ^ 32) (row + 1) small) ∙ omega arith

-- the claim word of a claim is not 0
pub claim_word-other : (stamp row : ℕ) → claim_word stamp row ≢ 0
claim_word-other stamp row e = omega (arith, e)

-- where there is a column, rows are few
pub few_rows : (problem : Problem) (column : ℕ) → column < problem.m → problem.n ≤ 67108864
few_rows problem column lt =
    let least : problem.n * 1 ≤ problem.n * problem.m = mul-le problem.n 1 problem.n problem.m (omega arith) (omega (arith, lt)) in
    omega (arith, least, problem.few)

-- a claim word other than 0 tells a row below n and a stamp from 1 to 2^32 - 1
pub record IsTold (n word : ℕ) : Type 0 where
  pub row : row_in word < n
  pub some : 0 < stamp_in word
  pub small : stamp_in word < 2 ^ 32

-- where rows are at most 2^26, each claim word other than 0 tells a row below n and a stamp from 1 to 2^32 - 1
pub told : (n word : ℕ) → n ≤ 67108864 → IsClaimWord n word → word ≢ 0 → IsTold n word
told n word few (inl none) other = absurd (other none)
told n word few (inr c) other =
    let row : row_in word ≡ c.row = ap row_in c.form ∙ row_in-claim_word c.stamp c.row (omega (arith, c.below, few)) in
    let stamp : stamp_in word ≡ c.stamp = ap stamp_in c.form ∙ stamp_in-claim_word c.stamp c.row (omega (arith, c.below, few)) in
    record { row = omega (arith, row, c.below); some = omega (arith, stamp, c.some); small = omega (arith, stamp, c.small) }

-- a word other than 0 tells a holder
pub holder_in-some : (word : ℕ) → word ≢ 0 → holder_in word ≡ Some (row_in word)
holder_in-some word some = cond-false _ _ _ (ne_eqb word 0 some)

-- where a word tells a holder, it is not 0, and the holder is the row in it
pub holder_in-row : (word row : ℕ) → holder_in word ≡ Some row → (word ≢ 0) × (row_in word ≡ row)
holder_in-row word row = cond_both (word == 0) _ _ (λ (o : Option ℕ). o ≡ Some row → (word ≢ 0) × (row_in word ≡ row))
    (λ on e. absurd (none-some row e)) (λ off e. (eqb-false word 0 off, same_Some (row_in word) row e))

-- a held row is 0 before its column, and a column without a holder has none
pub value_in-before : (word : ℕ) (published : ℕ → ℕ → ℕ) (c j : ℕ) → j < c → value_in word published c j ≡ 0
value_in-before word published c j lt = cond_both (word == 0) _ _ (λ (k : ℕ). k ≡ 0) (λ on. refl) (λ off. cond-true _ _ _ (lt-ltb j c lt))

-- where no row holds a column, its held row is 0 everywhere
pub value_in-free : (word : ℕ) (published : ℕ → ℕ → ℕ) (c j : ℕ) → holder_in word ≡ None → value_in word published c j ≡ 0
value_in-free word published c j = cond_both (word == 0) _ _ (λ (o : Option ℕ). o ≡ None → value_in word published c j ≡ 0)
    (λ on none. cond-true _ _ _ on) (λ off none. absurd (none-some (row_in word) (sym none)))

if_same : {A : Type 0} (b : Bool) (x y z : A) → (b ≡ false → y ≡ z) → (if b then x else y) ≡ (if b then x else z)
if_same true x y z h = refl
if_same false x y z h = h refl

-- of what is published it takes what the holder has
pub value_in-same : (word : ℕ) (f g : ℕ → ℕ → ℕ) (c j : ℕ) → (word ≢ 0 → f (row_in word) j ≡ g (row_in word) j) → value_in word f c j ≡ value_in word g c j
value_in-same word f g c j same = if_same (word == 0) 0 _ _ (λ some. if_same (ltb j c) 0 _ _ (λ from. same (eqb-false word 0 some)))

-- from its column on it has what the holder has published
pub value_in-from : (word : ℕ) (published : ℕ → ℕ → ℕ) (c j : ℕ) → word ≢ 0 → c ≤ j → value_in word published c j ≡ published (row_in word) j
value_in-from word published c j some le = cond-false _ _ _ (ne_eqb word 0 some) ∙ cond-false _ _ _ (le-ltb j c le)
