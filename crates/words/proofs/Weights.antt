-- Degrees by weights.
use Rattle.std.proofs.Common.{◌≡◌, ◌≢◌, ◌+◌, ◌*◌, ◌<◌, ◌≤◌, ℕ, suc, zero, List, [], ◌∷◌, ◌++◌, length, take, get_or, refl, sym, ap, ◌∙◌, inl, inr}
use Rattle.std.proofs.Common.{arith, zero-add, add_assoc}
use Rattle.std.proofs.lemmas.Bool.{cases_lt}
use Rattle.std.proofs.lemmas.List.{take_more}
use Rattle.std.proofs.lemmas.List.Elements.{All-get_or}
use Rattle.words.specs.Words.{AreWeights, degree_of, weight_of}

-- the degree of a product of two words is the sum of their degrees
pub degree_of-append : (weights a b : List ℕ) → degree_of weights (a ++ b) ≡ degree_of weights a + degree_of weights b
degree_of-append weights [] b = sym (zero-add (degree_of weights b))
degree_of-append weights (x ∷ a) b = ap (λ (n : ℕ). weight_of weights x + n) (degree_of-append weights a b)
    ∙ sym (add_assoc (weight_of weights x) (degree_of weights a) (degree_of weights b))

-- past the last letter
beyond : (weights : List ℕ) (x : ℕ) → length weights ≤ x → get_or weights x 1 ≡ 1
beyond [] x le = refl
beyond (e ∷ weights) zero le = absurd (omega (arith, le))
beyond (e ∷ weights) (suc x) le = beyond weights x (omega (arith, le))

-- each letter has a weight from 1 to 8
pub weight_of-bounds : (weights : List ℕ) → AreWeights weights → (x : ℕ) → (0 < weight_of weights x) × (weight_of weights x ≤ 8)
weight_of-bounds weights aw x = elim (cases_lt x (length weights)) [
  | inl within ↦ All-get_or (λ e. (0 < e) × (e ≤ 8)) weights x 1 within aw
  | inr past ↦ let e = beyond weights x past in (omega (arith, e), omega (arith, e))
]

-- a word has at most as many letters as its degree
pub length-le-degree_of : (weights : List ℕ) → AreWeights weights → (w : List ℕ) → length w ≤ degree_of weights w
length-le-degree_of weights aw [] = omega arith
length-le-degree_of weights aw (x ∷ w) = omega (arith, (weight_of-bounds weights aw x).0, length-le-degree_of weights aw w)

-- a word that is not empty has a degree of 1 or more
pub degree_of-positive : (weights : List ℕ) → AreWeights weights → (w : List ℕ) → w ≢ [] → 0 < degree_of weights w
degree_of-positive weights aw [] ne = absurd (ne refl)
degree_of-positive weights aw (x ∷ w) ne = omega (arith, (weight_of-bounds weights aw x).0)

-- the degree of a word is at most eight times the number of its letters
pub degree_of-bound : (weights : List ℕ) → AreWeights weights → (w : List ℕ) → degree_of weights w ≤ 8 * length w
degree_of-bound weights aw [] = omega arith
degree_of-bound weights aw (x ∷ w) = omega (arith, (weight_of-bounds weights aw x).1, degree_of-bound weights aw w)

-- the degree of the first i + 1 letters of a word is that of the first i and the weight of the letter at place i
pub degree_of-more : (weights w : List ℕ) (i : ℕ) → i < length w →
    degree_of weights (take (i + 1) w) ≡ degree_of weights (take i w) + weight_of weights (get_or w i 0)
degree_of-more weights w i within =
    ap (degree_of weights) (take_more w i 0 within) ∙ degree_of-append weights (take i w) (get_or w i 0 ∷ []) ∙ omega arith

-- the first letters of a word have no greater degree than the word
pub degree_of-take : (weights w : List ℕ) (i : ℕ) → degree_of weights (take i w) ≤ degree_of weights w
degree_of-take weights w zero = omega arith
degree_of-take weights [] (suc i) = omega arith
degree_of-take weights (x ∷ w) (suc i) = omega (arith, degree_of-take weights w i)
