-- Sums of terms that are one element modulo p.
use Rattle.std.proofs.Common.{◌≡◌, ◌≢◌, ◌+◌, ◌<◌, ◌%◌, ℕ, Bool, cond, List, [], ◌∷◌, refl, sym, ap, ◌∙◌, inl, inr, bytes_eq, zero-add, arith, get_or}
use Rattle.std.proofs.Common.{All, subst}
use Rattle.std.proofs.Math.Nat.{mod-eq_of_lt, mod-lt, mod-mod, zero-mod}
use Rattle.std.proofs.lemmas.Bool.{cases_Bool}
use Rattle.std.proofs.lemmas.List.Elements.{All-head, All-tail}
use Rattle.std.proofs.lemmas.Slice.Eq.{bytes_eq-Decides}
use Rattle.words.specs.Words.{IsOver, degree_of}
use Rattle.free_poly.specs.declared.term.Term.{Term}
use Rattle.free_poly.specs.Terms.{HasDegree, HasResidues, IsSame, UsesLetters, total_at}
use Rattle.free_poly.specs.Poly.{IsPolynomial}
use Rattle.free_poly.specs.Degrees.{Stands}
use Rattle.free_poly.proofs.Totals.{AreApart-from_polynomial, total_at-found}

-- a word at which a sum has something is one of its words
pub word_from_total : (P : List ℕ → Type 0) (f : List Term) (w : List ℕ) → total_at f w ≢ 0 → All (λ t. P t.word) f → P w
word_from_total P [] w some h = absurd (some refl)
word_from_total P (t ∷ f) w some h = elim (cases_Bool (bytes_eq t.word w)) [
  | inl is ↦ subst P ((bytes_eq-Decides t.word w).0 is) (All-head (λ (s : Term). P s.word) t f h)
  | inr other ↦
      let rest : total_at (t ∷ f) w ≡ total_at f w = ap (λ (b : Bool). cond b t.coefficient 0 + total_at f w) other ∙ zero-add (total_at f w) in
      word_from_total P f w (λ e. some (rest ∙ e)) (All-tail (λ (s : Term). P s.word) t f h)
]

-- each word of a polynomial stands in it
pub Stands-own : (p : ℕ) (f : List Term) → IsPolynomial f → HasResidues p f → All (λ t. Stands p f t.word) f
Stands-own p f form residues k d within e =
    form.nonzero k d within
    (sym (mod-eq_of_lt (residues k d within)) ∙ ap (λ (n : ℕ). n % p) (sym (total_at-found f k d _ (AreApart-from_polynomial f form) within refl)) ∙ e)

-- what holds of each word of a sum holds of each word that stands in the same element
pub word_from_same : (p : ℕ) (P : List ℕ → Type 0) (f g : List Term) (w : List ℕ) → IsSame p f g → Stands p f w → All (λ t. P t.word) g → P w
word_from_same p P f g w same stands h = word_from_total P g w (λ e. stands (same w ∙ ap (λ (n : ℕ). n % p) e ∙ zero-mod p)) h

-- what holds of each word of a sum holds of each word of the polynomial that is the same element
pub words_of_same : (p : ℕ) (P : List ℕ → Type 0) (f g : List Term) → IsPolynomial f → HasResidues p f → IsSame p f g →
    All (λ t. P t.word) g → All (λ t. P t.word) f
words_of_same p P f g form residues same h k d within = word_from_same p P f g _ same (Stands-own p f form residues k d within) h

-- to be one element modulo p is symmetric
pub IsSame-back : (p : ℕ) (f g : List Term) → IsSame p f g → IsSame p g f
IsSame-back p f g same w = sym (same w)

-- a sum whose coefficients are those of another modulo p is the same element
pub IsSame-from_totals : (p : ℕ) (f g : List Term) → ((w : List ℕ) → total_at f w ≡ total_at g w % p) → IsSame p f g
IsSame-from_totals p f g totals w = ap (λ (n : ℕ). n % p) (totals w) ∙ mod-mod (total_at g w) p

-- a polynomial whose coefficients are those of a sum with residues, modulo p, has residues
pub HasResidues-from_totals : (p : ℕ) (f g : List Term) → IsPolynomial f → ((w : List ℕ) → total_at f w ≡ total_at g w % p) → HasResidues p g → HasResidues p f
HasResidues-from_totals p f g form totals residues k d within =
    let own : total_at f (get_or f k d).word ≡ (get_or f k d).coefficient = total_at-found f k d _ (AreApart-from_polynomial f form) within refl in
    let is : (get_or f k d).coefficient ≡ total_at g (get_or f k d).word % p = sym own ∙ totals _ in
    let some : 0 < p = word_from_total (λ w. 0 < p) g (get_or f k d).word
    (λ e. form.nonzero k d within (is ∙ ap (λ (n : ℕ). n % p) e ∙ zero-mod p)) (λ i e inside. omega (arith, residues i e inside)) in
    subst (λ (n : ℕ). n < p) (sym is) (mod-lt _ some)

-- a polynomial with residues is over so many letters where a sum of terms is that is the same element modulo p
pub UsesLetters-from_same : (p names : ℕ) (f g : List Term) → IsPolynomial f → HasResidues p f → IsSame p f g → UsesLetters names g → UsesLetters names f
UsesLetters-from_same p names f g form residues same letters = words_of_same p (IsOver names) f g form residues same letters

-- a polynomial with residues has degree d where a sum of terms has it that is the same element modulo p
pub HasDegree-from_same : (p : ℕ) (weights : List ℕ) (d : ℕ) (f g : List Term) → IsPolynomial f → HasResidues p f → IsSame p f g →
    HasDegree weights d g → HasDegree weights d f
HasDegree-from_same p weights d f g form residues same degrees = words_of_same p (λ w. degree_of weights w ≡ d) f g form residues same degrees

-- where a sum's words have degrees below a bound, so have those of a polynomial with residues that is the same element modulo p
pub degrees_from_same : (p : ℕ) (weights : List ℕ) (most : ℕ) (f g : List Term) → IsPolynomial f → HasResidues p f → IsSame p f g
    → All (λ t. degree_of weights t.word < most) g → All (λ t. degree_of weights t.word < most) f
degrees_from_same p weights most f g form residues same degrees = words_of_same p (λ w. degree_of weights w < most) f g form residues same degrees
