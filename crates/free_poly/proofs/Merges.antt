-- Two polynomials merged: the terms that were made, and what is left of the two.
use Rattle.std.proofs.Common.{ap₂, ◌≡◌, ◌≢◌, ◌+◌, ◌*◌, ◌-◌, ◌<◌, ◌%◌, ℕ, Bool, true, false, cond, ◌==◌, List, [], ◌∷◌, ◌++◌, length, get_or, take}
use Rattle.std.proofs.Common.{drop, refl, sym, ap, ◌∙◌, inl, inr, arith, bytes_eq, zero-add, add-zero, mul-zero, append-nil, All, subst}
use Rattle.std.proofs.Math.Nat.{add-mod-mod, mod-eq_of_lt, mod-lt, mul-add, zero-mod}
use Rattle.std.proofs.lemmas.Bool.{cases_Bool, eqb-false, eqb-true}
use Rattle.std.proofs.lemmas.List.Elements.{All-cons, All-head, All-nil, All-push, All-tail}
use Rattle.std.proofs.lemmas.List.Quantifiers.{all_pairs_push}
use Rattle.std.proofs.lemmas.List.{take_all}
use Rattle.std.specs.declared.cmp.Ordering.TheVariants.{Less, Equal, Greater}
use Rattle.words.specs.Order.{IsLetterwiseGreater}
use Rattle.words.specs.OrderLaws.{letterwise-IsAntisymmetric}
use Rattle.words.proofs.Members.{AllPairs-first, AllPairs-nil}
use Rattle.free_poly.specs.declared.term.Term.{Term}
use Rattle.free_poly.specs.Terms.{HasResidues, IsSame, scaled, term_at, total_at}
use Rattle.free_poly.specs.Poly.{IsPolynomial, firsts_cmp}
use Rattle.free_poly.proofs.Entries.{less_says}
use Rattle.free_poly.proofs.Totals.{total_at-append, total_at-scaled}
use Rattle.free_poly.proofs.NormalForms.{IsPolynomial-rest, letterwise-trans}

-- the word is greater than each word of the sum
abbrev pub IsAbove : List ℕ → List Term → Type 0
IsAbove w f = All (λ t. IsLetterwiseGreater w t.word) f

-- what is left of a polynomial, below each term that was made
pub record IsLeft (p : ℕ) (made left : List Term) : Type 0 where
  pub form : IsPolynomial left
  pub residues : HasResidues p left
  pub below : All (λ t. IsAbove t.word left) made

-- f and a times g, merged into the terms that were made and what is left of the two
pub record Merges (p a : ℕ) (f g made first second : List Term) : Type 0 where
  pub sum : (w : List ℕ) → (total_at made w + total_at first w + a * total_at second w) % p ≡ (total_at f w + a * total_at g w) % p
  pub form : IsPolynomial made
  pub residues : HasResidues p made
  pub first_left : IsLeft p made first
  pub second_left : IsLeft p made second

-- the term with coefficient c at w has c at w, and 0 at each other word
pub total_at-term_at : (w : List ℕ) (c : ℕ) (v : List ℕ) → total_at (term_at w c) v ≡ cond (bytes_eq w v) c 0
total_at-term_at w c v = elim (cases_Bool (c == 0)) [
  | inl none ↦ rw none (sym (zero_if (bytes_eq w v) c (eqb-true c 0 none)))
  | inr some ↦ rw some (add-zero (cond (bytes_eq w v) c 0))
]
  where
    zero_if : (b : Bool) (c : ℕ) → c ≡ 0 → cond b c 0 ≡ 0
    zero_if true c e = e
    zero_if false c e = refl

-- what holds of each term made and of the term at this word
All-made : (P : Term → Type 0) (made : List Term) (w : List ℕ) (c : ℕ) → All P made → P (record { word = w; coefficient = c }) → All P (made ++ term_at w c)
All-made P made w c h here = elim (cases_Bool (c == 0)) [
  | inl none ↦ rw (none, append-nil) h
  | inr some ↦ rw some (All-push P made (record { word = w; coefficient = c }) h here)
]

IsPolynomial-made : (made : List Term) (w : List ℕ) (c : ℕ) → IsPolynomial made → All (λ t. IsLetterwiseGreater t.word w) made →
    IsPolynomial (made ++ term_at w c)
IsPolynomial-made made w c form above = elim (cases_Bool (c == 0)) [
  | inl none ↦ rw (none, append-nil) form
  | inr some ↦ rw some (record {
    falling = all_pairs_push (λ s t. IsLetterwiseGreater s.word t.word) made (record { word = w; coefficient = c }) form.falling above;
    nonzero = All-push (λ t. t.coefficient ≢ 0) made (record { word = w; coefficient = c }) form.nonzero (eqb-false c 0 some);
  })
]

-- the first term that is left is below each term that was made
pub first_above : (p : ℕ) (made : List Term) (x : Term) (left : List Term) → IsLeft p made (x ∷ left) → All (λ t. IsLetterwiseGreater t.word x.word) made
first_above p made x left h k d within = All-head (λ t. IsLetterwiseGreater (get_or made k d).word t.word) x left (h.below k d within)

-- the rest of it, after a term at a word above it was made
IsLeft-rest : (p : ℕ) (made : List Term) (x : Term) (left : List Term) (w : List ℕ) (c : ℕ) → IsLeft p made (x ∷ left) → w ≡ x.word →
    IsLeft p (made ++ term_at w c) left
IsLeft-rest p made x left w c h is = record {
  form = IsPolynomial-rest x left h.form;
  residues = All-tail (λ t. t.coefficient < p) x left h.residues;
  below = All-made (λ t. IsAbove t.word left) made w c
      (λ k d within. All-tail (λ t. IsLetterwiseGreater (get_or made k d).word t.word) x left (h.below k d within))
      (rw is (AllPairs-first (λ s t. IsLetterwiseGreater s.word t.word) x left h.form.falling));
}

IsLeft-kept : (p : ℕ) (made left : List Term) (w : List ℕ) (c : ℕ) → IsLeft p made left → IsAbove w left → IsLeft p (made ++ term_at w c) left
IsLeft-kept p made left w c h above = record {
  form = h.form;
  residues = h.residues;
  below = All-made (λ t. IsAbove t.word left) made w c h.below above;
}

-- a list is below each word that is greater than its first
pub above_from_first : (w : List ℕ) (y : Term) (left : List Term) → IsPolynomial (y ∷ left) → IsLetterwiseGreater w y.word → IsAbove w (y ∷ left)
above_from_first w y left form above =
    All-cons (λ t. IsLetterwiseGreater w t.word) y left above
    (λ k d within. letterwise-trans w y.word _ above (AllPairs-first (λ s t. IsLetterwiseGreater s.word t.word) y left form.falling k d within))

-- one term taken from the sums: m was made, v is the new coefficient at a word
taken : (p a m v x y r s : ℕ) → v ≡ (x + a * y) % p → (m + v + r + a * s) % p ≡ (m + (x + r) + a * (y + s)) % p
taken p a m v x y r s e =
    let apart : m + v + r + a * s ≡ (m + r + a * s) + v = omega arith in
    let joined : (m + r + a * s) + (x + a * y) ≡ m + (x + r) + a * (y + s) = omega (arith, mul-add a y s) in
    ap (λ (n : ℕ). n % p) (apart ∙ ap (λ (n : ℕ). m + r + a * s + n) e) ∙ add-mod-mod (m + r + a * s) (x + a * y) p ∙ ap (λ (n : ℕ). n % p) joined

made_total : (made : List Term) (w : List ℕ) (c : ℕ) (v : List ℕ) → total_at (made ++ term_at w c) v ≡ total_at made v + cond (bytes_eq w v) c 0
made_total made w c v = total_at-append made (term_at w c) v ∙ ap (λ (n : ℕ). total_at made v + n) (total_at-term_at w c v)

if_residue : (p : ℕ) (b : Bool) (c : ℕ) → c < p → cond b c 0 ≡ (cond b c 0 + 0) % p
if_residue p true c below = sym (ap (λ (n : ℕ). n % p) (add-zero c) ∙ mod-eq_of_lt below)
if_residue p false c below = sym (zero-mod p)

if_product : (p a : ℕ) (b : Bool) (c y : ℕ) → c ≡ (a * y) % p → cond b c 0 ≡ (0 + a * cond b y 0) % p
if_product p a true c y e = e ∙ ap (λ (n : ℕ). n % p) (sym (zero-add (a * y)))
if_product p a false c y e = sym (ap (λ (n : ℕ). n % p) (zero-add (a * 0) ∙ mul-zero a) ∙ zero-mod p)

if_sum : (p a : ℕ) (b : Bool) (c x y : ℕ) → c ≡ (x + (a * y) % p) % p → cond b c 0 ≡ (cond b x 0 + a * cond b y 0) % p
if_sum p a true c x y e = e ∙ add-mod-mod x (a * y) p
if_sum p a false c x y e = sym (ap (λ (n : ℕ). n % p) (zero-add (a * 0) ∙ mul-zero a) ∙ zero-mod p)

module _ (p a : ℕ) (f g made : List Term) where
  -- the first term of the first list is the next that is made, where its word is above all words left of the second
  pub Merges-first : (x : Term) (first second : List Term) → Merges p a f g made (x ∷ first) second → IsAbove x.word second
      → Merges p a f g (made ++ term_at x.word x.coefficient) first second
  Merges-first x first second m above =
      let below : x.coefficient < p = All-head (λ t. t.coefficient < p) x first m.first_left.residues in record {
        sum = λ w.
            let b = bytes_eq x.word w in
            let step = taken p a (total_at made w) (cond b x.coefficient 0) (cond b x.coefficient 0) 0 (total_at first w)
            (total_at second w) (by_test b x.coefficient below) in
            ap (λ (n : ℕ). (n + total_at first w + a * total_at second w) % p) (made_total made x.word x.coefficient w) ∙ step
            ∙ ap (λ (n : ℕ). (total_at made w + (cond b x.coefficient 0 + total_at first w) + a * n) % p) (zero-add (total_at second w)) ∙ m.sum w;
        form = IsPolynomial-made made x.word x.coefficient m.form (first_above p made x first m.first_left);
        residues = All-made (λ t. t.coefficient < p) made x.word x.coefficient m.residues below;
        first_left = IsLeft-rest p made x first x.word x.coefficient m.first_left refl;
        second_left = IsLeft-kept p made second x.word x.coefficient m.second_left above;
      }
    where
      by_test : (b : Bool) (c : ℕ) → c < p → cond b c 0 ≡ (cond b c 0 + a * 0) % p
      by_test b c below = if_residue p b c below ∙ ap (λ (n : ℕ). (cond b c 0 + n) % p) (sym (mul-zero a))

  -- a times the first term of the second list is the next that is made, where its word is above all words left of the first
  pub Merges-second : (y : Term) (c : ℕ) (first second : List Term) → c ≡ (a * y.coefficient) % p → 0 < p →
      Merges p a f g made first (y ∷ second) → IsAbove y.word first
      → Merges p a f g (made ++ term_at y.word c) first second
  Merges-second y c first second is some m above = record {
    sum = λ w.
        let b = bytes_eq y.word w in
        let step = taken p a (total_at made w) (cond b c 0) 0 (cond b y.coefficient 0) (total_at first w) (total_at second w)
        (if_product p a b c y.coefficient is) in
        ap (λ (n : ℕ). (n + total_at first w + a * total_at second w) % p) (made_total made y.word c w) ∙ step
        ∙ ap (λ (n : ℕ). (total_at made w + n + a * (cond b y.coefficient 0 + total_at second w)) % p) (zero-add (total_at first w)) ∙ m.sum w;
    form = IsPolynomial-made made y.word c m.form (first_above p made y second m.second_left);
    residues = All-made (λ t. t.coefficient < p) made y.word c m.residues (subst (λ (n : ℕ). n < p) (sym is) (mod-lt (a * y.coefficient) some));
    first_left = IsLeft-kept p made first y.word c m.first_left above;
    second_left = IsLeft-rest p made y second y.word c m.second_left refl;
  }

  -- where both lists begin with one word, the sum of their first terms, the second taken a times, is the next that is made
  pub Merges-both : (x y : Term) (c : ℕ) (first second : List Term) → x.word ≡ y.word → c ≡ (x.coefficient + (a * y.coefficient) % p) % p → 0 < p
      → Merges p a f g made (x ∷ first) (y ∷ second) → Merges p a f g (made ++ term_at x.word c) first second
  Merges-both x y c first second same is some m = record {
    sum = λ w.
        let b = bytes_eq x.word w in
        let step = taken p a (total_at made w) (cond b c 0) (cond b x.coefficient 0) (cond b y.coefficient 0) (total_at first w)
        (total_at second w) (if_sum p a b c x.coefficient y.coefficient is) in
        ap (λ (n : ℕ). (n + total_at first w + a * total_at second w) % p) (made_total made x.word c w) ∙ step
        ∙ ap (λ (r : List ℕ). (total_at made w + (cond b x.coefficient 0 + total_at first w) + a *
        (cond (bytes_eq r w) y.coefficient 0 + total_at second w)) % p) same ∙ m.sum w;
    form = IsPolynomial-made made x.word c m.form (first_above p made x first m.first_left);
    residues = All-made (λ t. t.coefficient < p) made x.word c m.residues
        (subst (λ (n : ℕ). n < p) (sym is) (mod-lt (x.coefficient + (a * y.coefficient) % p) some));
    first_left = IsLeft-rest p made x first x.word c m.first_left refl;
    second_left = IsLeft-rest p made y second x.word c m.second_left same;
  }

-- before any term is made, all of a polynomial with residues is left
pub IsLeft-none : (p : ℕ) (f : List Term) → IsPolynomial f → HasResidues p f → IsLeft p [] f
IsLeft-none p f form residues = record { form = form; residues = residues; below = All-nil (λ t. IsAbove t.word f) }

-- before any term is made, all of the two polynomials with residues is left
pub Merges-none : (p a : ℕ) (f g : List Term) → IsPolynomial f → IsPolynomial g → HasResidues p f → HasResidues p g → Merges p a f g [] f g
Merges-none p a f g hf hg rf rg = record {
  sum = λ w. ap (λ (n : ℕ). (n + a * total_at g w) % p) (zero-add (total_at f w));
  form = record { falling = AllPairs-nil (λ s t. IsLetterwiseGreater s.word t.word); nonzero = All-nil (λ t. t.coefficient ≢ 0) };
  residues = All-nil (λ t. t.coefficient < p);
  first_left = IsLeft-none p f hf rf;
  second_left = IsLeft-none p g hg rg;
}

-- where nothing is left of either, the terms that were made are f + a * g modulo p
pub Merges-all : (p a : ℕ) (f g made : List Term) → Merges p a f g made [] [] → IsSame p made (f ++ scaled a g)
Merges-all p a f g made m w =
    let whole : total_at made w + 0 + a * 0 ≡ total_at made w = omega (arith, mul-zero a) in
    let sum : total_at (f ++ scaled a g) w ≡ total_at f w + a * total_at g w = total_at-append f (scaled a g) w
    ∙ ap (λ (n : ℕ). total_at f w + n) (total_at-scaled a g w) in
    ap (λ (n : ℕ). n % p) (sym whole) ∙ m.sum w ∙ ap (λ (n : ℕ). n % p) (sym sum)

-- what is left after the first term, as a slice from place 1 on
abbrev pub after_first : List Term → List Term
after_first f = take (length f - 1) (drop 1 f)

after_first-cons : (t : Term) (f : List Term) → after_first (t ∷ f) ≡ f
after_first-cons t f = take_all (length (t ∷ f) - 1) f (omega arith)

module _ (p a : ℕ) (f g made : List Term) where
  -- where the first list begins with the greater word, or is the only one with a word, its first term is made and is left no more
  pub step_first : (first second : List Term) (x : Term) → 0 < length first + length second → firsts_cmp first second ≡ Greater → x ≡ get_or first 0 x
      → Merges p a f g made first second → Merges p a f g (made ++ term_at x.word x.coefficient) (after_first first) second
  step_first [] [] x some e is m = absurd (omega (arith, some))
  step_first [] (u ∷ second) x some e is m = cc e
  step_first (t ∷ first) [] x some e is m =
      rw (after_first-cons, is) (Merges-first p a f g made t first [] m (All-nil (λ s. IsLetterwiseGreater t.word s.word)))
  step_first (t ∷ first) (u ∷ second) x some e is m =
      rw (after_first-cons, is) (Merges-first p a f g made t first (u ∷ second) m (above_from_first t.word u second m.second_left.form e))

  -- where the second list begins with the greater word, or is the only one with a word, a times its first term is made and is left no more
  pub step_second : (first second : List Term) (y : Term) (c : ℕ) → 0 < p → firsts_cmp first second ≡ Less → y ≡ get_or second 0 y → c ≡ (a * y.coefficient) % p
      → Merges p a f g made first second → Merges p a f g (made ++ term_at y.word c) first (after_first second)
  step_second first [] y c some e is value m = cc e
  step_second [] (u ∷ second) y c some e is value m =
      let same : c ≡ (a * u.coefficient) % p = value ∙ ap (λ (t : Term). (a * t.coefficient) % p) is in
      rw (after_first-cons, is) (Merges-second p a f g made u c [] second same some m (All-nil (λ s. IsLetterwiseGreater u.word s.word)))
  step_second (t ∷ first) (u ∷ second) y c some e is value m =
      let same : c ≡ (a * u.coefficient) % p = value ∙ ap (λ (t : Term). (a * t.coefficient) % p) is in
      let above : IsLetterwiseGreater u.word t.word = less_says t.word u.word e in
      rw (after_first-cons, is) (Merges-second p a f g made u c (t ∷ first) second same some m (above_from_first u.word t first m.first_left.form above))

  -- where the two lists begin with one word, the sum of their first terms is made and neither is left any more
  pub step_both : (first second : List Term) (x y : Term) (c : ℕ) → 0 < p → firsts_cmp first second ≡ Equal → x ≡ get_or first 0 x →
      y ≡ get_or second 0 y → c ≡ (x.coefficient + (a * y.coefficient) % p) % p
      → Merges p a f g made first second → Merges p a f g (made ++ term_at x.word c) (after_first first) (after_first second)
  step_both first [] x y c some e is also value m = cc e
  step_both [] (u ∷ second) x y c some e is also value m = cc e
  step_both (t ∷ first) (u ∷ second) x y c some e is also value m =
      let sum : c ≡ (t.coefficient + (a * u.coefficient) % p) % p = value ∙ ap₂ (λ (v w : Term). (v.coefficient + (a * w.coefficient) % p) % p) is also in
      rw (after_first-cons, is, after_first-cons) (Merges-both p a f g made t u c first second (letterwise-IsAntisymmetric t.word u.word e) sum some m)
