-- What a sum of terms has at a word.
use Rattle.std.proofs.Common.{ap₂, ◌*◌, Bool, mul-zero, ◌≡◌, ◌≢◌, ◌+◌, ◌<◌, ℕ, suc, zero, true, false, cond, List, [], ◌∷◌, ◌++◌, length, get_or}
use Rattle.std.proofs.Common.{refl, sym, ap, ◌∙◌, arith, bytes_eq, add_assoc, zero-add, add-zero, All, AllPairs, inl, inr, subst}
use Rattle.std.proofs.Math.Nat.{mul-add}
use Rattle.std.proofs.lemmas.Bool.{cases_Bool, false_from_ne_true}
use Rattle.std.proofs.lemmas.List.Elements.{All-head, All-tail}
use Rattle.std.proofs.lemmas.Slice.Eq.{bytes_eq-Decides}
use Rattle.std.specs.Ordering.{nat_cmp, ordering_then}
use Rattle.std.specs.declared.cmp.Ordering.{Ordering}
use Rattle.words.specs.Order.{IsLetterwiseGreater, letterwise_cmp}
use Rattle.words.proofs.OrderFacts.{self_cmp}
use Rattle.free_poly.specs.declared.term.Term.{Term}
use Rattle.free_poly.specs.Terms.{HasResidues, scaled, total_at}
use Rattle.free_poly.specs.Poly.{IsPolynomial}

-- different words fail the test of equality
pub not_here : (a b : List ℕ) → a ≢ b → bytes_eq a b ≡ false
not_here a b ne = false_from_ne_true (bytes_eq a b) (λ e. ne ((bytes_eq-Decides a b).0 e))

-- equal words pass the test of equality
pub here : (a b : List ℕ) → a ≡ b → bytes_eq a b ≡ true
here a b e = (bytes_eq-Decides a b).1 e

-- words that fail the test of equality are different
pub not_equal : (a b : List ℕ) → bytes_eq a b ≡ false → a ≢ b
not_equal a b other e = let same : bytes_eq a b ≡ true = here a b e in cc

-- the coefficient of a sum is the sum of the coefficients
pub total_at-append : (f g : List Term) (w : List ℕ) → total_at (f ++ g) w ≡ total_at f w + total_at g w
total_at-append [] g w = sym (zero-add (total_at g w))
total_at-append (t ∷ f) g w = ap (λ (n : ℕ). cond (bytes_eq t.word w) t.coefficient 0 + n) (total_at-append f g w) ∙ sym (add_assoc _ _ _)

-- at a word that none of the terms has, the coefficient is 0
pub total_at-absent : (f : List Term) (w : List ℕ) → All (λ t. t.word ≢ w) f → total_at f w ≡ 0
total_at-absent [] w h = refl
total_at-absent (t ∷ f) w h =
    let first : t.word ≢ w = All-head (λ (s : Term). s.word ≢ w) t f h in
    rw (not_here t.word w first, zero-add) (total_at-absent f w (All-tail (λ (s : Term). s.word ≢ w) t f h))

-- words in falling order are apart
pub letterwise-apart : (a b : List ℕ) → IsLetterwiseGreater a b → a ≢ b
letterwise-apart [] [] g e = cc g
letterwise-apart [] (y ∷ b) g e = cc e
letterwise-apart (x ∷ a) [] g e = cc e
letterwise-apart (x ∷ a) (y ∷ b) g e =
    let first : x ≡ y = cc e in
    let rest : a ≡ b = cc e in
    letterwise-apart a b (sym (ap (λ (o : Ordering). ordering_then o (letterwise_cmp a b)) (ap (λ (n : ℕ). nat_cmp y n) first ∙ self_cmp y)) ∙ g) rest

abbrev pub AreApart : List Term → Type 0
AreApart f = AllPairs (λ s t. s.word ≢ t.word) f

-- the words of a polynomial are all different
pub AreApart-from_polynomial : (f : List Term) → IsPolynomial f → AreApart f
AreApart-from_polynomial f h i j d below within = letterwise-apart _ _ (h.falling i j d below within)

-- the first word is none of the others
rest_apart : (t : Term) (f : List Term) → AreApart (t ∷ f) → All (λ s. s.word ≢ t.word) f
rest_apart t f h k d within e = h zero (suc k) d (omega arith) (omega arith) (sym e)

-- words that are all different remain so without the first
pub AreApart-tail : (t : Term) (f : List Term) → AreApart (t ∷ f) → AreApart f
AreApart-tail t f h i j d below within = h (suc i) (suc j) d (omega arith) (omega arith)

-- a polynomial has residues at all words
pub total_residue : (p : ℕ) → 0 < p → (f : List Term) → AreApart f → HasResidues p f → (w : List ℕ) → total_at f w < p
total_residue p pos [] h r w = pos
total_residue p pos (t ∷ f) h r w = elim (cases_Bool (bytes_eq t.word w)) [
  | inl is ↦
      let own = (bytes_eq-Decides t.word w).0 is in
      let none : total_at f w ≡ 0 = total_at-absent f w (λ k d within e. h zero (suc k) d (omega arith) (omega (arith, within)) (own ∙ sym e)) in
      subst (λ (n : ℕ). n < p) (sym (ap₂ (λ (b : Bool) (n : ℕ). cond b t.coefficient 0 + n) is none ∙ add-zero t.coefficient))
      (All-head (λ s. s.coefficient < p) t f r)
  | inr other ↦
      subst (λ (n : ℕ). n < p) (sym (ap (λ (b : Bool). cond b t.coefficient 0 + total_at f w) other ∙ zero-add (total_at f w)))
      (total_residue p pos f (AreApart-tail t f h) (All-tail (λ s. s.coefficient < p) t f r) w)
]

-- at a word of its own a sum has the coefficient of its term
pub total_at-found : (f : List Term) (i : ℕ) (d : Term) (w : List ℕ) → AreApart f → i < length f → (get_or f i d).word ≡ w →
    total_at f w ≡ (get_or f i d).coefficient
total_at-found [] i d w h within e = absurd (omega arith)
total_at-found (t ∷ f) zero d w h within e =
    rw (here t.word w e) (ap (λ (n : ℕ). t.coefficient + n) (total_at-absent f w
    (λ k s inside is. rest_apart t f h k s inside (is ∙ sym e))) ∙ add-zero t.coefficient)
total_at-found (t ∷ f) (suc i) d w h within e =
    let other : t.word ≢ w = λ is. h zero (suc i) d (omega arith) within (is ∙ sym e) in
    rw (not_here t.word w other, zero-add) (total_at-found f i d w (AreApart-tail t f h) (omega arith) e)

-- the coefficient of a times a sum is a times its coefficient
pub total_at-scaled : (a : ℕ) (f : List Term) (w : List ℕ) → total_at (scaled a f) w ≡ a * total_at f w
total_at-scaled a [] w = sym (mul-zero a)
total_at-scaled a (t ∷ f) w =
    ap₂ ◌+◌ (scaled_if (bytes_eq t.word w)) (total_at-scaled a f w) ∙ sym (mul-add a (cond (bytes_eq t.word w) t.coefficient 0) (total_at f w))
  where
    scaled_if : (b : Bool) → cond b (a * t.coefficient) 0 ≡ a * cond b t.coefficient 0
    scaled_if true = refl
    scaled_if false = sym (mul-zero a)
