-- The polynomial with given coefficients at the words of a list.
use Rattle.std.proofs.Common.{ap₂, ◌≡◌, ◌≢◌, ◌⊎◌, ◌+◌, ◌==◌, ℕ, Bool, cond, List, [], ◌∷◌, sym, ap, ◌∙◌, inl, inr, bytes_eq, zero-add}
use Rattle.std.proofs.Common.{add-zero, All, AllPairs, subst}
use Rattle.std.specs.List.{Contains}
use Rattle.std.proofs.lemmas.Bool.{cases_Bool, eqb-false, eqb-true}
use Rattle.std.proofs.lemmas.List.Elements.{All-cons, All-contains, All-nil}
use Rattle.std.proofs.lemmas.List.Kept.{AllPairs-cons}
use Rattle.std.proofs.lemmas.Slice.Eq.{bytes_eq-Decides}
use Rattle.words.specs.Order.{IsLetterwiseGreater}
use Rattle.words.proofs.Members.{AllPairs-first, AllPairs-nil, AllPairs-rest, Contains-cases, Contains-first, Contains-more, Contains-none}
use Rattle.free_poly.specs.declared.term.Term.{Term}
use Rattle.free_poly.specs.Terms.{total_at}
use Rattle.free_poly.specs.Poly.{IsPolynomial}
use Rattle.free_poly.proofs.Totals.{here, letterwise-apart, not_equal, not_here, total_at-absent}

-- the terms with these coefficients, without those that are 0
abbrev pub from_words : List (List ℕ) → (List ℕ → ℕ) → List Term
from_words [] c = []
from_words (x ∷ xs) c = cond (c x == 0) (from_words xs c) (record { word = x; coefficient = c x } ∷ from_words xs c)

-- what holds of each word of the list with its coefficient, where this is not 0, holds of each term
pub from_words-all : (P : Term → Type 0) (xs : List (List ℕ)) (c : List ℕ → ℕ) →
    ((x : List ℕ) → Contains xs x → c x ≢ 0 → P (record { word = x; coefficient = c x })) → All P (from_words xs c)
from_words-all P [] c h = All-nil P
from_words-all P (x ∷ xs) c h =
    let rest = from_words-all P xs c (λ y m ne. h y (Contains-more x xs y m) ne) in
    elim (cases_Bool (c x == 0)) [
      | inl none ↦ rw none rest
      | inr some ↦ rw some (All-cons P _ _ (h x (Contains-first x xs) (eqb-false (c x) 0 some)) rest)
    ]

-- the terms' words fall where the words of the list do
pub from_words-falling : (xs : List (List ℕ)) (c : List ℕ → ℕ) → AllPairs IsLetterwiseGreater xs →
    AllPairs (λ s t. IsLetterwiseGreater s.word t.word) (from_words xs c)
from_words-falling [] c h = AllPairs-nil (λ s t. IsLetterwiseGreater s.word t.word)
from_words-falling (x ∷ xs) c h =
    let rest = from_words-falling xs c (AllPairs-rest IsLetterwiseGreater x xs h) in
    elim (cases_Bool (c x == 0)) [
      | inl none ↦ rw none rest
      | inr some ↦ rw some (AllPairs-cons (λ s t. IsLetterwiseGreater s.word t.word) _ _
          (from_words-all (λ t. IsLetterwiseGreater x t.word) xs c (λ y m ne. All-contains (IsLetterwiseGreater x) xs y
          (AllPairs-first IsLetterwiseGreater x xs h) m)) rest)
    ]

-- the terms are a polynomial where the words of the list fall
pub from_words-polynomial : (xs : List (List ℕ)) (c : List ℕ → ℕ) → AllPairs IsLetterwiseGreater xs → IsPolynomial (from_words xs c)
from_words-polynomial xs c h = record { falling = from_words-falling xs c h; nonzero = from_words-all (λ t. t.coefficient ≢ 0) xs c (λ x m ne. ne) }

-- at a word outside the list the coefficient is 0
pub from_words-absent : (xs : List (List ℕ)) (c : List ℕ → ℕ) (w : List ℕ) → (Contains xs w → ⊥) → total_at (from_words xs c) w ≡ 0
from_words-absent xs c w h = total_at-absent (from_words xs c) w (from_words-all (λ t. t.word ≢ w) xs c (λ x m ne e. h (subst (Contains xs) e m)))

-- where the words of the list fall, the coefficient at each of them is the given one
pub from_words-total : (xs : List (List ℕ)) (c : List ℕ → ℕ) (w : List ℕ) → AllPairs IsLetterwiseGreater xs → Contains xs w → total_at (from_words xs c) w ≡ c w
from_words-total [] c w h m = absurd (Contains-none w m)
from_words-total (x ∷ xs) c w h m =
    let later : Contains xs w → x ≢ w = λ n. letterwise-apart x w (All-contains (IsLetterwiseGreater x) xs w (AllPairs-first IsLetterwiseGreater x xs h) n) in
    elim (Contains-cases x xs w m) [
      | inl is ↦
          let gone = from_words-absent xs c w (λ n. later n is) in
          elim (cases_Bool (c x == 0)) [
            | inl none ↦ rw none (gone ∙ sym (ap c (sym is) ∙ eqb-true (c x) 0 none))
            | inr some ↦ rw some (ap₂ (λ (b : Bool) (n : ℕ). cond b (c x) 0 + n) (here x w is) gone ∙ add-zero (c x) ∙ ap c is)
          ]
      | inr n ↦
          let found = from_words-total xs c w (AllPairs-rest IsLetterwiseGreater x xs h) n in
          elim (cases_Bool (c x == 0)) [
            | inl none ↦ rw none found
            | inr some ↦ rw some (ap (λ (b : Bool). cond b (c x) 0 + total_at (from_words xs c) w) (not_here x w (later n)) ∙ zero-add _ ∙ found)
          ]
    ]

-- a word is in the list or not
pub listed : (xs : List (List ℕ)) (w : List ℕ) → Contains xs w ⊎ (Contains xs w → ⊥)
listed [] w = inr (Contains-none w)
listed (x ∷ xs) w = elim (cases_Bool (bytes_eq x w)) [
  | inl is ↦ inl (subst (Contains (x ∷ xs)) ((bytes_eq-Decides x w).0 is) (Contains-first x xs))
  | inr other ↦ elim (listed xs w) [
    | inl m ↦ inl (Contains-more x xs w m)
    | inr none ↦ inr (λ h. elim (Contains-cases x xs w h) [
      | inl e ↦ not_equal x w other e
      | inr m ↦ none m
    ])
  ]
]
