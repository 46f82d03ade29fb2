-- The element with given residues at the columns of a falling list of words.
use Rattle.std.proofs.Common.{◌≡◌, ◌≢◌, ◌<◌, ◌==◌, ℕ, zero, suc, List, [], ◌∷◌, All, ◌++◌, AllPairs, length, get_or, refl, arith}
use Rattle.std.proofs.Common.{inl, inr, subst, sym, Some}
use Rattle.std.proofs.lemmas.Bool.{cases_Bool, eqb-false}
use Rattle.std.proofs.lemmas.List.Elements.{All-cons, All-nil}
use Rattle.std.proofs.lemmas.List.Kept.{AllPairs-cons}
use Rattle.words.specs.Order.{IsLetterwiseGreater}
use Rattle.words.proofs.Members.{AllPairs-first, AllPairs-nil, AllPairs-rest}
use Rattle.free_poly.specs.declared.term.Term.{Term}
use Rattle.free_poly.specs.Terms.{term_at}
use Rattle.free_poly.specs.Poly.{IsMonic, IsPolynomial, lead_of, element_on}

-- what holds of each word of a column with its residue, where this is not 0, holds of each term
pub element_on-all : (P : Term → Type 0) (xs : List (List ℕ)) (row : List ℕ)
    → ((k : ℕ) → k < length xs → k < length row → get_or row k 0 ≢ 0 → P (record { word = get_or xs k []; coefficient = get_or row k 0 })) →
    All P (element_on xs row)
element_on-all P [] row h = All-nil P
element_on-all P (x ∷ xs) [] h = All-nil P
element_on-all P (x ∷ xs) (a ∷ row) h =
    let rest = element_on-all P xs row (λ k lt within ne. h (suc k) (omega (arith, lt)) (omega (arith, within)) ne) in
    elim (cases_Bool (a == 0)) [
      | inl none ↦ rw none rest
      | inr some ↦ rw some (All-cons P _ _ (h zero (omega arith) (omega arith) (eqb-false a 0 some)) rest)
    ]

element_on-falling : (xs : List (List ℕ)) (row : List ℕ) → AllPairs IsLetterwiseGreater xs →
    AllPairs (λ s t. IsLetterwiseGreater s.word t.word) (element_on xs row)
element_on-falling [] row h = AllPairs-nil (λ s t. IsLetterwiseGreater s.word t.word)
element_on-falling (x ∷ xs) [] h = AllPairs-nil (λ s t. IsLetterwiseGreater s.word t.word)
element_on-falling (x ∷ xs) (a ∷ row) h =
    let rest = element_on-falling xs row (AllPairs-rest IsLetterwiseGreater x xs h) in
    elim (cases_Bool (a == 0)) [
      | inl none ↦ rw none rest
      | inr some ↦ rw some (AllPairs-cons (λ s t. IsLetterwiseGreater s.word t.word) _ _
          (element_on-all (λ t. IsLetterwiseGreater x t.word) xs row (λ k lt within ne. AllPairs-first IsLetterwiseGreater x xs h k [] lt)) rest)
    ]

-- the element is a polynomial where the words fall
pub element_on-polynomial : (xs : List (List ℕ)) (row : List ℕ) → AllPairs IsLetterwiseGreater xs → IsPolynomial (element_on xs row)
element_on-polynomial xs row h = record {
  falling = element_on-falling xs row h;
  nonzero = element_on-all (λ t. t.coefficient ≢ 0) xs row (λ k lt within ne. ne);
}

-- its coefficients are below p where the residues of the row are
pub element_on-residues : (p : ℕ) (xs : List (List ℕ)) (row : List ℕ) → All (λ a. a < p) row → All (λ t. t.coefficient < p) (element_on xs row)
element_on-residues p xs row h = element_on-all (λ t. t.coefficient < p) xs row (λ k lt within ne. h k 0 within)

-- residues that are 0 before a column and 1 there give a monic element that leads there
pub element_on-first : (xs : List (List ℕ)) (row : List ℕ) (c : ℕ) → c < length xs → ((k : ℕ) → k < c → get_or row k 0 ≡ 0) → get_or row c 0 ≡ 1
    → (lead_of (element_on xs row) ≡ Some (get_or xs c [])) × IsMonic (element_on xs row)
element_on-first [] row c lt none one = absurd (omega (arith, lt))
element_on-first (x ∷ xs) [] c lt none one = absurd (empty c one)
  where
    empty : (c : ℕ) → get_or {A = ℕ} [] c 0 ≡ 1 → ⊥
    empty zero e = omega (arith, e)
    empty (suc c) e = omega (arith, e)
element_on-first (x ∷ xs) (a ∷ row) zero lt none one =
    subst (λ (n : ℕ). (lead_of (term_at x n ++ element_on xs row) ≡ Some x) × IsMonic (term_at x n ++ element_on xs row)) (sym one) (refl, refl)
element_on-first (x ∷ xs) (a ∷ row) (suc c) lt none one =
    subst (λ (n : ℕ). (lead_of (term_at x n ++ element_on xs row) ≡ Some (get_or xs c [])) × IsMonic (term_at x n ++ element_on xs row))
    (sym (none zero (omega arith)))
    (element_on-first xs row c (omega (arith, lt)) (λ k before. none (suc k) (omega (arith, before))) one)
