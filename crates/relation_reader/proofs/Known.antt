-- The letter of a name, by its place among names that are apart.
use Rattle.std.proofs.Common.{ℕ, suc, zero, ◌≡◌, ◌≢◌, ◌<◌, ◌||◌, Bool, true, false, cond, List, [], ◌∷◌, length, get_or, bytes_eq, sym, ap, ◌∙◌, arith}
use Rattle.std.specs.List.{Contains}
use Rattle.std.proofs.lemmas.Bool.{false_from_ne_true}
use Rattle.std.proofs.lemmas.Slice.Eq.{bytes_eq-Decides}
use Rattle.words.specs.Names.{AreApart}
use Rattle.words.proofs.Members.{AllPairs-rest}
use Rattle.relation_reader.specs.Meaning.{is_among, letter_of}
use Rattle.relation_reader.specs.Gathering.{known_letter}
use Rattle.relation_reader.proofs.Declarations.{among}

-- the test of equal texts holds of the same text
pub same_bytes : (x y : List ℕ) → x ≡ y → bytes_eq x y ≡ true
same_bytes x y e = (bytes_eq-Decides x y).1 e

-- it fails of different ones
pub other_bytes : (x y : List ℕ) → x ≢ y → bytes_eq x y ≡ false
other_bytes x y ne = false_from_ne_true (bytes_eq x y) (λ e. ne ((bytes_eq-Decides x y).0 e))

record IsFound (names : List (List ℕ)) (x : List ℕ) (k : ℕ) : Type 0 where
  among_them : is_among x names ≡ true
  place : letter_of names x ≡ k

found : (names : List (List ℕ)) (x : List ℕ) (k : ℕ) → AreApart names → k < length names → get_or names k [] ≡ x → IsFound names x k
found [] x k apart within is = absurd (omega arith)
found (y ∷ ys) x zero apart within is =
    let e = same_bytes x y (sym is) in
    record { among_them = ap (λ (b : Bool). b || is_among x ys) e; place = ap (λ (b : Bool). cond b 0 (suc (letter_of ys x))) e }
found (y ∷ ys) x (suc k) apart within is =
    let later = found ys x k (AllPairs-rest (λ a b. a ≢ b) y ys apart) (omega arith) is in
    let other : x ≢ y = λ e. apart 0 (suc k) [] (omega arith) within (sym (is ∙ e)) in
    let e = other_bytes x y other in
    record {
      among_them = ap (λ (b : Bool). b || is_among x ys) e ∙ later.among_them;
      place = ap (λ (b : Bool). cond b 0 (suc (letter_of ys x))) e ∙ ap (λ (n : ℕ). suc n) later.place;
    }

-- the letter of a declared name is its place
pub known_letter-found : (names : List (List ℕ)) (x : List ℕ) (k : ℕ) → AreApart names → k < length names → get_or names k [] ≡ x → k ≡ known_letter names x
known_letter-found names x k apart within is =
    let f = found names x k apart within is in
    sym (ap (λ (b : Bool). cond b (letter_of names x) 0) f.among_them ∙ f.place)

-- a name that is not declared is taken for the first letter
pub known_letter-absent : (names : List (List ℕ)) (x : List ℕ) → (Contains names x → ⊥) → 0 ≡ known_letter names x
known_letter-absent names x none = sym (ap (λ (b : Bool). cond b (letter_of names x) 0) (false_from_ne_true (is_among x names) (λ e. none (among x names e))))
