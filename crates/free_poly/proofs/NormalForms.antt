-- Two polynomials with the same coefficients are one.
use Rattle.std.proofs.Common.{ap₂, ◌≡◌, ◌≢◌, ◌+◌, ◌<◌, ◌%◌, ℕ, Bool, cond, List, [], ◌∷◌, refl, sym, ap, ◌∙◌, zero-add, add-zero}
use Rattle.std.proofs.Common.{Some, subst}
use Rattle.std.proofs.Math.Nat.{mod-eq_of_lt, zero-mod}
use Rattle.std.proofs.lemmas.List.Elements.{All-cons, All-head, All-tail}
use Rattle.std.specs.Ordering.{ordering_reverse}
use Rattle.std.specs.declared.cmp.Ordering.{Ordering}
use Rattle.std.specs.declared.cmp.Ordering.TheVariants.{Less, Equal, Greater}
use Rattle.words.specs.Order.{IsLetterwiseGreater, letterwise_cmp}
use Rattle.words.proofs.Members.{AllPairs-first, AllPairs-rest}
use Rattle.words.specs.OrderLaws.{letterwise-IsAntisymmetric, letterwise_total}
use Rattle.free_poly.specs.declared.term.Term.{Term}
use Rattle.free_poly.specs.Terms.{HasResidues, IsSame, total_at}
use Rattle.free_poly.specs.Poly.{IsPolynomial, lead_of}
use Rattle.free_poly.proofs.Totals.{here, not_here, total_at-absent, letterwise-apart}

-- of two words one is greater, or they are one
pub data IsCompared (a b : List ℕ) : Type 0 where
  greater : IsLetterwiseGreater a b → IsCompared a b
  same : a ≡ b → IsCompared a b
  smaller : IsLetterwiseGreater b a → IsCompared a b

-- of any two words one is greater letter by letter, or they are equal
pub compared : (a b : List ℕ) → IsCompared a b
compared a b = by_answer (letterwise_cmp a b) refl
  where
    by_answer : (o : Ordering) → letterwise_cmp a b ≡ o → IsCompared a b
    by_answer Greater e = greater e
    by_answer Equal e = same (letterwise-IsAntisymmetric a b e)
    by_answer Less e = smaller (letterwise_total.antisymm b a ∙ ap ordering_reverse e)

-- without its first term a polynomial is one
pub IsPolynomial-rest : (t : Term) (f : List Term) → IsPolynomial (t ∷ f) → IsPolynomial f
IsPolynomial-rest t f h = record {
  falling = AllPairs-rest (λ s t. IsLetterwiseGreater s.word t.word) t f h.falling;
  nonzero = All-tail (λ (t : Term). t.coefficient ≢ 0) t f h.nonzero;
}

-- the order letter by letter is transitive
pub letterwise-trans : (a b c : List ℕ) → IsLetterwiseGreater a b → IsLetterwiseGreater b c → IsLetterwiseGreater a c
letterwise-trans a b c g h =
    let flip : (x y : List ℕ) → IsLetterwiseGreater x y → letterwise_cmp y x ≡ Less = λ x y i. letterwise_total.antisymm y x ∙ ap ordering_reverse i in
    letterwise_total.antisymm a c ∙ ap ordering_reverse (letterwise_total.trans c b a (flip b c h) (flip a b g))

-- at a word that is greater than the first, the sum has nothing
pub above_all : (w : List ℕ) (t : Term) (f : List Term) → IsPolynomial (t ∷ f) → IsLetterwiseGreater w t.word → total_at (t ∷ f) w ≡ 0
above_all w t f h g = total_at-absent (t ∷ f) w (All-cons (λ (s : Term). s.word ≢ w) t f (λ e. letterwise-apart w t.word g (sym e))
    (λ k d within e. letterwise-apart w _ (letterwise-trans w t.word _ g
    (AllPairs-first (λ s t. IsLetterwiseGreater s.word t.word) t f h.falling k d within)) (sym e)))

-- at a word that is greater than the leading word a polynomial has nothing
pub above_lead : (f : List Term) (w y : List ℕ) → IsPolynomial f → lead_of f ≡ Some w → IsLetterwiseGreater y w → total_at f y ≡ 0
above_lead [] w y h e g = refl
above_lead (t ∷ f) w y h e g = let is : t.word ≡ w = cc e in above_all y t f h (subst (IsLetterwiseGreater y) (sym is) g)

-- a residue other than 0 stays so
kept : (p c : ℕ) → c < p → c ≢ 0 → c % p ≡ 0 % p → ⊥
kept p c lt ne e = ne (sym (mod-eq_of_lt lt) ∙ e ∙ zero-mod p)

-- a polynomial has its first coefficient at its leading word
pub first_total : (t : Term) (f : List Term) → IsPolynomial (t ∷ f) → total_at (t ∷ f) t.word ≡ t.coefficient
first_total t f h =
    ap₂ ◌+◌ (ap (λ (b : Bool). cond b t.coefficient 0) (here t.word t.word refl))
    (total_at-absent f t.word (λ k d within e. letterwise-apart _ _
    (AllPairs-first (λ s t. IsLetterwiseGreater s.word t.word) t f h.falling k d within) (sym e))) ∙ add-zero t.coefficient

below_first : (t : Term) (f : List Term) → IsPolynomial (t ∷ f) → total_at f t.word ≡ 0
below_first t f h = total_at-absent f t.word (λ k d within e. letterwise-apart _ _
    (AllPairs-first (λ s t. IsLetterwiseGreater s.word t.word) t f h.falling k d within) (sym e))

rest_same : (p : ℕ) (t u : Term) (f g : List Term) → IsPolynomial (t ∷ f) → IsPolynomial (u ∷ g) → t.word ≡ u.word → t.coefficient ≡ u.coefficient
    → (w : List ℕ) → total_at (t ∷ f) w % p ≡ total_at (u ∷ g) w % p → total_at f w % p ≡ total_at g w % p
rest_same p t u f g hf hg e c w s = elim (compared t.word w) [
  | same is ↦ ap (λ (n : ℕ). n % p) (ap (total_at f) (sym is) ∙ below_first t f hf ∙ sym (ap (total_at g) (sym is ∙ e) ∙ below_first u g hg))
  | greater i ↦ apart (letterwise-apart t.word w i)
  | smaller i ↦ apart (λ is. letterwise-apart w t.word i (sym is))
]
  where
    skipped : (v : Term) (h : List Term) → v.word ≢ w → total_at (v ∷ h) w ≡ total_at h w
    skipped v h ne = ap (λ (b : Bool). cond b v.coefficient 0 + total_at h w) (not_here v.word w ne) ∙ zero-add (total_at h w)

    apart : t.word ≢ w → total_at f w % p ≡ total_at g w % p
    apart ne = ap (λ (n : ℕ). n % p) (sym (skipped t f ne)) ∙ s ∙ ap (λ (n : ℕ). n % p) (skipped u g (λ is. ne (e ∙ is)))

-- two polynomials with residues that have the same coefficients modulo p at all words are equal
pub same_polynomials : (p : ℕ) (f g : List Term) → IsPolynomial f → IsPolynomial g → HasResidues p f → HasResidues p g → IsSame p f g → f ≡ g
same_polynomials p [] [] hf hg rf rg s = refl
same_polynomials p [] (t ∷ g) hf hg rf rg s =
    absurd (kept p t.coefficient (All-head (λ (t : Term). t.coefficient < p) t g rg) (All-head (λ (t : Term). t.coefficient ≢ 0) t g hg.nonzero)
    (ap (λ (n : ℕ). n % p) (sym (first_total t g hg)) ∙ sym (s t.word)))
same_polynomials p (t ∷ f) [] hf hg rf rg s =
    absurd (kept p t.coefficient (All-head (λ (t : Term). t.coefficient < p) t f rf) (All-head (λ (t : Term). t.coefficient ≢ 0) t f hf.nonzero)
    (ap (λ (n : ℕ). n % p) (sym (first_total t f hf)) ∙ s t.word))
same_polynomials p (t ∷ f) (u ∷ g) hf hg rf rg s = elim (compared t.word u.word) [
  | greater i ↦ absurd (kept p t.coefficient (All-head (λ (t : Term). t.coefficient < p) t f rf) (All-head (λ (t : Term). t.coefficient ≢ 0) t f hf.nonzero)
      (ap (λ (n : ℕ). n % p) (sym (first_total t f hf)) ∙ s t.word ∙ ap (λ (n : ℕ). n % p) (above_all t.word u g hg i)))
  | smaller i ↦ absurd (kept p u.coefficient (All-head (λ (t : Term). t.coefficient < p) u g rg) (All-head (λ (t : Term). t.coefficient ≢ 0) u g hg.nonzero)
      (ap (λ (n : ℕ). n % p) (sym (first_total u g hg)) ∙ sym (s u.word) ∙ ap (λ (n : ℕ). n % p) (above_all u.word t f hf i)))
  | same e ↦
      let equal : t.coefficient ≡ u.coefficient =
      sym (mod-eq_of_lt (All-head (λ (t : Term). t.coefficient < p) t f rf)) ∙ ap (λ (n : ℕ). n % p) (sym (first_total t f hf)) ∙ s t.word
      ∙ ap (λ (n : ℕ). n % p) (ap (total_at (u ∷ g)) e ∙ first_total u g hg) ∙ mod-eq_of_lt (All-head (λ (t : Term). t.coefficient < p) u g rg) in
      let heads : t ≡ u = λ i. record { word = e i; coefficient = equal i } in
      let rest : IsSame p f g = λ w. rest_same p t u f g hf hg e equal w (s w) in
      ap₂ (λ (h : Term) (r : List Term). h ∷ r) heads (same_polynomials p f g (IsPolynomial-rest t f hf) (IsPolynomial-rest u g hg)
      (All-tail (λ (t : Term). t.coefficient < p) t f rf) (All-tail (λ (t : Term). t.coefficient < p) u g rg) rest)
]
