-- The number that digits say.
use Rattle.std.proofs.Common.{◌⊎◌, inl, inr, ◌≡◌, ◌+◌, ◌-◌, ◌*◌, ◌<◌, ◌≤◌, ℕ, true, List, [], ◌∷◌, ◌++◌, length, get_or, take, sym, ap, ◌∙◌, arith, refl, ◌==◌}
use Rattle.std.specs.Prelude.{All, Contains, nat_le}
use Rattle.std.specs.List.{list_any}
use Rattle.std.specs.Char.{IsAsciiDigit}
use Rattle.std.proofs.lemmas.Bool.{cases_lt, eqb-true}
use Rattle.std.proofs.lemmas.Bool.Decides.{nat_tests}
use Rattle.std.proofs.lemmas.List.{get_or_default, take_more}
use Rattle.std.proofs.lemmas.List.Elements.{All-cons, All-contains, All-head, All-nil, All-tail}
use Rattle.std.proofs.lemmas.List.Folds.{Any-from_list_any, list_any-from_Any}
use Rattle.std.proofs.lemmas.List.Sums.{AllPass-from_list_all}
use Rattle.field_table.specs.Residues.{listed_moduli}
use Rattle.command_words.proofs.Parts.{Decided}
use Rattle.command_words.specs.Numbers.{IsNumber, with_digits}

with_digits-append : (n : ℕ) (bs : List ℕ) (b : ℕ) → with_digits n (bs ++ b ∷ []) ≡ with_digits n bs * 10 + (b - 48)
with_digits-append n [] b = refl
with_digits-append n (c ∷ bs) b = with_digits-append (n * 10 + (c - 48)) bs b

-- with one digit more the number is ten times what it was, and the digit
pub with_digits-more : (n : ℕ) (bs : List ℕ) (i : ℕ) → i < length bs → with_digits n (take (i + 1) bs) ≡ with_digits n (take i bs) * 10 + (get_or bs i 0 - 48)
with_digits-more n bs i within = ap (with_digits n) (take_more bs i 0 within) ∙ with_digits-append n (take i bs) (get_or bs i 0)

-- a text says at most one number
pub one_number : (text : List ℕ) (m n : ℕ) → IsNumber text m → IsNumber text n → m ≡ n
one_number text m n p q = sym p.value ∙ q.value

-- what a test of membership says of a list of numbers
pub listed_says : (m : ℕ) (xs : List ℕ) → list_any (λ y. y == m) xs ≡ true → Contains xs m
listed_says m xs t =
    let a = Any-from_list_any (λ y. y == m) xs t in
    (a.0, a.2, get_or_default xs a.0 m a.1 a.2 ∙ a.3 ∙ eqb-true a.1 m a.4)

same_test : (m n : ℕ) → m ≡ n → (m == n) ≡ true
same_test m n e = grind (arith, nat_tests)

-- a number that is in the list passes the test of membership
pub says_listed : (m : ℕ) (xs : List ℕ) → Contains xs m → list_any (λ y. y == m) xs ≡ true
says_listed m xs h = list_any-from_Any (λ y. y == m) xs (h.0, m, h.1, h.2, same_test m m refl)

le_says : (m n : ℕ) → nat_le m n ≡ true → m ≤ n
le_says m n e = grind (arith, nat_tests)

-- no listed modulus is above 1000003
listed_small : All (λ p. p ≤ 1000003) listed_moduli
listed_small k d within = le_says (get_or listed_moduli k d) 1000003 (AllPass-from_list_all (λ p. nat_le p 1000003) listed_moduli refl k d within)

-- no listed modulus is 0
pub modulus_some : (p : ℕ) → Contains listed_moduli p → 0 < p
modulus_some p m =
    let two = All-contains (λ n. 2 ≤ n) listed_moduli p (λ k d within. le_says 2 (get_or listed_moduli k d)
    (AllPass-from_list_all (λ n. nat_le 2 n) listed_moduli refl k d within)) m in
    omega (arith, two)

-- none is greater than 1000003
pub modulus_below : (p : ℕ) → Contains listed_moduli p → p ≤ 1000003
modulus_below p m = All-contains (λ n. n ≤ 1000003) listed_moduli p listed_small m

digit_or_not : (b : ℕ) → IsAsciiDigit b ⊎ (IsAsciiDigit b → ⊥)
digit_or_not b = elim (cases_lt b 48) [
  | inl low ↦ inr (λ h. omega (arith, low, h))
  | inr ge ↦ elim (cases_lt 57 b) [
    | inl high ↦ inr (λ h. omega (arith, high, h))
    | inr le ↦ inl (ge, le)
  ]
]

digits_or_not : (text : List ℕ) → All IsAsciiDigit text ⊎ (All IsAsciiDigit text → ⊥)
digits_or_not [] = inl (All-nil IsAsciiDigit)
digits_or_not (b ∷ bs) = elim (digit_or_not b) [
  | inl d ↦ elim (digits_or_not bs) [
    | inl ds ↦ inl (All-cons IsAsciiDigit b bs d ds)
    | inr none ↦ inr (λ h. none (All-tail IsAsciiDigit b bs h))
  ]
  | inr none ↦ inr (λ h. none (All-head IsAsciiDigit b bs h))
]

-- a text says a number, or none
pub number_or_not : (text : List ℕ) → Decided (IsNumber text)
number_or_not [] = inr (λ n h. h.some refl)
number_or_not (b ∷ bs) = elim (digits_or_not (b ∷ bs)) [
  | inl ds ↦ inl (with_digits 0 (b ∷ bs), record { some = λ e. cc e; each = ds; value = refl })
  | inr none ↦ inr (λ n h. none h.each)
]
