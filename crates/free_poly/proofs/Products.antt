-- Products of sums of terms by words on both sides.
use Rattle.std.proofs.Common.{ap₂, ◌≡◌, ◌≢◌, ◌⊎◌, ◌+◌, ◌-◌, ◌%◌, ◌<◌, ℕ, Bool, true, false, cond, List, [], ◌∷◌, ◌++◌, length, take, drop, refl, sym}
use Rattle.std.proofs.Common.{ap, ◌∙◌, inl, inr, arith, bytes_eq, zero-add, length-append, append-nil}
use Rattle.std.proofs.Math.Seq.{drop-append_seam, take-append_seam}
use Rattle.std.proofs.lemmas.Bool.{cases_Bool}
use Rattle.std.proofs.lemmas.List.{append_assoc, append_cancel_left, append_cancel_right}
use Rattle.std.proofs.lemmas.List.Elements.{All-append, All-map}
use Rattle.std.proofs.lemmas.Slice.Eq.{bytes_eq-Decides}
use Rattle.words.specs.Words.{AreWeights, IsOver, IsProperPrefix, degree_of}
use Rattle.words.specs.Order.{HasSmallerFirst, IsLetterwiseGreater}
use Rattle.words.proofs.Members.{AllPairs-map}
use Rattle.words.proofs.OrderFacts.{difference_in_product, first_difference, has_no_prefixes, letterwise_from_difference}
use Rattle.words.proofs.Weights.{degree_of-append}
use Rattle.free_poly.specs.declared.term.Term.{Term}
use Rattle.free_poly.specs.Terms.{HasDegree, HasNoPrefix, HasOneDegree, HasResidues, IsSame, UsesLetters, product, scaled, total_at}
use Rattle.free_poly.specs.Poly.{IsPolynomial}
use Rattle.free_poly.proofs.Totals.{here, not_equal, not_here}

-- two lists of terms are equal where their first words, their first coefficients and their rests are
pub same_terms : (s t : Term) (f g : List Term) → s.word ≡ t.word → s.coefficient ≡ t.coefficient → f ≡ g → s ∷ f ≡ t ∷ g
same_terms s t f g e c r = λ i. record { word = e i; coefficient = c i } ∷ r i

-- the product with the empty word on both sides is the polynomial itself
pub product-alone : (f : List Term) → product [] f [] ≡ f
product-alone [] = refl
product-alone (t ∷ f) = same_terms _ _ _ _ (append-nil t.word) refl (product-alone f)

-- the product of a sum is the sum of the products
pub product-append : (u : List ℕ) (f g : List Term) (v : List ℕ) → product u (f ++ g) v ≡ product u f v ++ product u g v
product-append u [] g v = refl
product-append u (t ∷ f) g v = same_terms _ _ _ _ refl refl (product-append u f g v)

-- u * (a * f * b) * v is (u * a) * f * (b * v)
pub product-product : (u a : List ℕ) (f : List Term) (b v : List ℕ) → product u (product a f b) v ≡ product (u ++ a) f (b ++ v)
product-product u a [] b v = refl
product-product u a (t ∷ f) b v = same_terms _ _ _ _ words refl (product-product u a f b v)
  where
    words : u ++ (a ++ t.word ++ b) ++ v ≡ (u ++ a) ++ t.word ++ (b ++ v)
    words = simp append_assoc refl

-- a multiple may be taken before or after the product
pub product-scaled : (u : List ℕ) (a : ℕ) (f : List Term) (v : List ℕ) → product u (scaled a f) v ≡ scaled a (product u f v)
product-scaled u a [] v = refl
product-scaled u a (t ∷ f) v = same_terms _ _ _ _ refl refl (product-scaled u a f v)

joined_cancels : (u x y v : List ℕ) → u ++ x ++ v ≡ u ++ y ++ v → x ≡ y
joined_cancels u x y v e = append_cancel_left u x y (append_cancel_right (u ++ x) (u ++ y) v e)

same_test : (u x y v : List ℕ) → bytes_eq (u ++ x ++ v) (u ++ y ++ v) ≡ bytes_eq x y
same_test u x y v = elim (cases_Bool (bytes_eq x y)) [
  | inl is ↦ here (u ++ x ++ v) (u ++ y ++ v) (ap (λ (r : List ℕ). u ++ r ++ v) ((bytes_eq-Decides x y).0 is)) ∙ sym is
  | inr other ↦ not_here (u ++ x ++ v) (u ++ y ++ v) (λ e. not_equal x y other (joined_cancels u x y v e)) ∙ sym other
]

-- the coefficient at u * x * v is that at x
pub total_at-inside : (u : List ℕ) (f : List Term) (v x : List ℕ) → total_at (product u f v) (u ++ x ++ v) ≡ total_at f x
total_at-inside u [] v x = refl
total_at-inside u (t ∷ f) v x = ap₂ ◌+◌ (ap (λ (b : Bool). cond b t.coefficient 0) (same_test u t.word x v)) (total_at-inside u f v x)

-- at a word that is no u * x * v the product has the coefficient 0
pub total_at-outside : (u : List ℕ) (f : List Term) (v w : List ℕ) → ((x : List ℕ) → u ++ x ++ v ≢ w) → total_at (product u f v) w ≡ 0
total_at-outside u [] v w h = refl
total_at-outside u (t ∷ f) v w h = rw (not_here (u ++ t.word ++ v) w (h t.word), zero-add) (total_at-outside u f v w h)

-- a word is u * x * v for some x, or for none
pub data IsRound (u v w : List ℕ) : Type 0 where
  inside : (x : List ℕ) → u ++ x ++ v ≡ w → IsRound u v w
  outside : ((x : List ℕ) → u ++ x ++ v ≢ w) → IsRound u v w

-- whether a word is u * x * v for some x can be decided
pub round : (u v w : List ℕ) → IsRound u v w
round u v w =
    let x = take (length w - (length u + length v)) (drop (length u) w) in
    elim (cases_Bool (bytes_eq (u ++ x ++ v) w)) [
      | inl is ↦ inside x ((bytes_eq-Decides (u ++ x ++ v) w).0 is)
      | inr other ↦ outside (λ y e. refused y e other)
    ]
  where
    refused : (y : List ℕ) → u ++ y ++ v ≡ w → bytes_eq (u ++ take (length w - (length u + length v)) (drop (length u) w) ++ v) w ≡ false → ⊥
    refused y e f =
        let size : length w - (length u + length v) ≡ length y = omega (arith, ap length e, length-append (u ++ y) v, length-append u y) in
        let tail : drop (length u) w ≡ y ++ v = ap (drop (length u)) (sym e ∙ append_assoc u y v) ∙ drop-append_seam u (y ++ v) in
        let middle : take (length w - (length u + length v)) (drop (length u) w) ≡ y =
        ap₂ (λ (n : ℕ) (r : List ℕ). take n r) size tail ∙ take-append_seam y v in
        let t : bytes_eq (u ++ take (length w - (length u + length v)) (drop (length u) w) ++ v) w ≡ true =
        here _ w (ap (λ (r : List ℕ). u ++ r ++ v) middle ∙ e) in
        cc

-- products of sums that are one element are one element
pub IsSame-product : (p : ℕ) (u : List ℕ) (f g : List Term) (v : List ℕ) → IsSame p f g → IsSame p (product u f v) (product u g v)
IsSame-product p u f g v s w = elim (round u v w) [
  | inside x e ↦
      ap (λ (r : List ℕ). total_at (product u f v) r % p) (sym e) ∙ ap (λ (n : ℕ). n % p) (total_at-inside u f v x) ∙ s x
      ∙ ap (λ (n : ℕ). n % p) (sym (total_at-inside u g v x)) ∙ ap (λ (r : List ℕ). total_at (product u g v) r % p) e
  | outside h ↦ ap (λ (n : ℕ). n % p) (total_at-outside u f v w h ∙ sym (total_at-outside u g v w h))
]

-- the degree of u * x * v is the sum of the three degrees
pub degree_of-round : (weights u x v : List ℕ) → degree_of weights (u ++ x ++ v) ≡ degree_of weights u + degree_of weights x + degree_of weights v
degree_of-round weights u x v = degree_of-append weights (u ++ x) v ∙ ap (λ (n : ℕ). n + degree_of weights v) (degree_of-append weights u x)

-- u * a * v is greater than u * b * v letter by letter where a is greater than b and has its degree
pub letterwise-product : (weights : List ℕ) → AreWeights weights → (u a b v : List ℕ) → degree_of weights a ≡ degree_of weights b →
    IsLetterwiseGreater a b → IsLetterwiseGreater (u ++ a ++ v) (u ++ b ++ v)
letterwise-product weights aw u a b v same g = elim (first_difference a b g) [
  | inl d ↦ letterwise_from_difference _ _ (difference_in_product u a b v d)
  | inr q ↦ absurd (has_no_prefixes weights aw b a (sym same) q)
]

-- the product of a polynomial of degree d has the degrees of u and v added to d
pub HasDegree-product : (weights : List ℕ) (d : ℕ) (u : List ℕ) (f : List Term) (v : List ℕ) → HasDegree weights d f →
    HasDegree weights (degree_of weights u + d + degree_of weights v) (product u f v)
HasDegree-product weights d u f v h =
    All-map (λ t. degree_of weights t.word ≡ degree_of weights u + d + degree_of weights v)
    (λ t. record { word = u ++ t.word ++ v; coefficient = t.coefficient }) f
    (λ k t within. degree_of-round weights u _ v ∙ ap (λ (n : ℕ). degree_of weights u + n + degree_of weights v) (h k t within))

-- a product is over so many letters where its two words and the polynomial are
pub UsesLetters-product : (names : ℕ) (u : List ℕ) (f : List Term) (v : List ℕ) → IsOver names u → IsOver names v → UsesLetters names f →
    UsesLetters names (product u f v)
UsesLetters-product names u f v hu hv h =
    All-map (λ t. IsOver names t.word) (λ t. record { word = u ++ t.word ++ v; coefficient = t.coefficient }) f
    (λ k t within. All-append (λ x. x < names) (u ++ _) v (All-append (λ x. x < names) u _ hu (h k t within)) hv)

-- where all words have degree d, they have one degree
pub HasOneDegree-from : (weights : List ℕ) (d : ℕ) (f : List Term) → HasDegree weights d f → HasOneDegree weights f
HasOneDegree-from weights d f h i j t below within = h i t (omega (arith, below, within)) ∙ sym (h j t within)

-- the product of a polynomial whose words have one degree is a polynomial
pub IsPolynomial-product : (weights : List ℕ) → AreWeights weights → (u : List ℕ) (f : List Term) (v : List ℕ) → HasOneDegree weights f →
    IsPolynomial f → IsPolynomial (product u f v)
IsPolynomial-product weights aw u f v one h = record {
  falling = AllPairs-map (λ t. record { word = u ++ t.word ++ v; coefficient = t.coefficient })
      (λ s t. (degree_of weights s.word ≡ degree_of weights t.word) × IsLetterwiseGreater s.word t.word) (λ s t. IsLetterwiseGreater s.word t.word)
      (λ s t g. letterwise-product weights aw u s.word t.word v g.0 g.1) f (λ i j t below within. (one i j t below within, h.falling i j t below within));
  nonzero = All-map (λ t. t.coefficient ≢ 0) (λ t. record { word = u ++ t.word ++ v; coefficient = t.coefficient }) f h.nonzero;
}

-- the product of a polynomial none of whose words is a proper prefix of another is a polynomial
pub IsPolynomial-product_apart : (u : List ℕ) (f : List Term) (v : List ℕ) → HasNoPrefix f → IsPolynomial f → IsPolynomial (product u f v)
IsPolynomial-product_apart u f v apart h = record {
  falling = AllPairs-map (λ t. record { word = u ++ t.word ++ v; coefficient = t.coefficient })
      (λ s t. (IsProperPrefix t.word s.word → ⊥) × IsLetterwiseGreater s.word t.word) (λ s t. IsLetterwiseGreater s.word t.word)
      (λ s t g. in_product s.word t.word g.0 (first_difference s.word t.word g.1)) f
      (λ i j t below within. (apart i j t below within, h.falling i j t below within));
  nonzero = All-map (λ t. t.coefficient ≢ 0) (λ t. record { word = u ++ t.word ++ v; coefficient = t.coefficient }) f h.nonzero;
}
  where
    in_product : (a b : List ℕ) → (IsProperPrefix b a → ⊥) → HasSmallerFirst a b ⊎ IsProperPrefix b a → IsLetterwiseGreater (u ++ a ++ v) (u ++ b ++ v)
    in_product a b none (inl d) = letterwise_from_difference _ _ (difference_in_product u a b v d)
    in_product a b none (inr q) = absurd (none q)

-- the coefficients of a product are residues where those of the polynomial are
pub HasResidues-product : (p : ℕ) (u : List ℕ) (f : List Term) (v : List ℕ) → HasResidues p f → HasResidues p (product u f v)
HasResidues-product p u f v h = All-map (λ t. t.coefficient < p) (λ t. record { word = u ++ t.word ++ v; coefficient = t.coefficient }) f h
