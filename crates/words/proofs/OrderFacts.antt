-- The order by comparison is the order by degree and first difference, and products keep it.
use Rattle.std.proofs.Common.{◌≡◌, ◌≢◌, ◌⊎◌, ◌+◌, ◌<◌, ◌≤◌, ℕ, suc, zero, List, [], ◌∷◌, ◌++◌, length, take, get_or, refl, sym, ap, ◌∙◌, inl, inr}
use Rattle.std.proofs.Common.{arith, length-append}
use Rattle.std.proofs.Math.Seq.{take-append-add}
use Rattle.std.proofs.lemmas.Cmp.{by_ranked, ranked}
use Rattle.std.proofs.lemmas.List.{append_assoc, get_or-append-add, get_or_append_left, take-append-le}
use Rattle.std.specs.Ordering.{nat_cmp, ordering_then}
use Rattle.std.specs.Cmp.Lexicographic.{slice_cmp}
use Rattle.std.specs.declared.cmp.Ordering.TheVariants.{Less, Equal, Greater}
use Rattle.words.specs.Words.{AreWeights, IsProperPrefix, degree_of}
use Rattle.words.specs.Order.{AgreesInDegree, ComparesLetters, HasNoPrefixes, HasSmallerFirst, IsGreater, IsKeptByProducts, IsLetterwiseGreater}
use Rattle.words.specs.Order.{letterwise_cmp, word_cmp}
use Rattle.words.proofs.Weights.{degree_of-append, degree_of-positive}

-- where a has the smaller letter number at its first difference from b, so has x * a at its first difference from x * b
pub one_later : (x : ℕ) (a b : List ℕ) → HasSmallerFirst a b → HasSmallerFirst (x ∷ a) (x ∷ b)
one_later x a b d = record {
  at = suc d.at;
  in_first = omega (arith, d.in_first);
  in_second = omega (arith, d.in_second);
  same_before = ap (λ (r : List ℕ). x ∷ r) d.same_before;
  smaller = d.smaller;
}

-- a number compares as equal to itself
pub self_cmp : (n : ℕ) → nat_cmp n n ≡ Equal
self_cmp n = by_ranked (n < n) (n ≡ n) (n < n) (nat_cmp n n) (ranked n n (nat_cmp n n) refl)
    (λ is below. absurd (omega (arith, below))) (λ is same. is) (λ is above. absurd (omega (arith, above)))

longer : (x : ℕ) (a b : List ℕ) → (HasSmallerFirst a b) ⊎ (IsProperPrefix b a) → (HasSmallerFirst (x ∷ a) (x ∷ b)) ⊎ (IsProperPrefix (x ∷ b) (x ∷ a))
longer x a b (inl d) = inl (one_later x a b d)
longer x a b (inr q) = inr (record { rest = q.rest; more = q.more; joined = ap (λ (r : List ℕ). x ∷ r) q.joined })

-- a word that is greater letter by letter has the smaller letter number at the first difference, or the other is a proper prefix of it
pub first_difference : (a b : List ℕ) → IsLetterwiseGreater a b → (HasSmallerFirst a b) ⊎ (IsProperPrefix b a)
first_difference [] [] e = cc e
first_difference [] (y ∷ b) e = cc e
first_difference (x ∷ a) [] e = inr (record { rest = x ∷ a; more = λ is. cc is; joined = refl })
first_difference (x ∷ a) (y ∷ b) e =
    by_ranked (y < x) (y ≡ x) (x < y) (nat_cmp y x) (ranked y x (nat_cmp y x) refl)
    (λ is below. let f : Less ≡ Greater = rw is at e in cc f)
    (λ is same. let f : letterwise_cmp a b ≡ Greater = rw is at e in rw same (longer x a b (first_difference a b f)))
    (λ is above. inl (record { at = 0; in_first = omega arith; in_second = omega arith; same_before = refl; smaller = above }))

-- the other way back
letters_greater : (a b : List ℕ) (at : ℕ) → at < length a → at < length b → take at a ≡ take at b → get_or a at 0 < get_or b at 0 → IsLetterwiseGreater a b
letters_greater [] b at w l s d = absurd (omega (arith, w))
letters_greater (x ∷ a) [] at w l s d = absurd (omega (arith, l))
letters_greater (x ∷ a) (y ∷ b) zero w l s d =
    by_ranked (y < x) (y ≡ x) (x < y) (nat_cmp y x) (ranked y x (nat_cmp y x) refl)
    (λ is below. absurd (omega (arith, d, below)))
    (λ is same. absurd (omega (arith, d, same)))
    (λ is above. rw is refl)
letters_greater (x ∷ a) (y ∷ b) (suc at) w l s d =
    let first : x ≡ y = cc (s) in
    let rest : take at a ≡ take at b = cc (s) in
    let same : nat_cmp y x ≡ Equal = rw first (self_cmp y) in
    rw same (letters_greater a b at (omega (arith, w)) (omega (arith, l)) rest d)

-- a word with the smaller letter number at the first difference is greater letter by letter
pub letterwise_from_difference : (a b : List ℕ) → HasSmallerFirst a b → IsLetterwiseGreater a b
letterwise_from_difference a b d = letters_greater a b d.at d.in_first d.in_second d.same_before d.smaller

-- a word is greater letter by letter than its proper prefixes
pub letterwise_extended : (b rest : List ℕ) → rest ≢ [] → IsLetterwiseGreater (b ++ rest) b
letterwise_extended [] [] more = absurd (more refl)
letterwise_extended [] (x ∷ rest) more = refl
letterwise_extended (y ∷ b) rest more = rw (self_cmp y) (letterwise_extended b rest more)

-- a word is greater letter by letter exactly where its letter number at the first difference is smaller, or the other is a proper prefix
pub compares_letters : ComparesLetters
compares_letters a b = (first_difference a b, back)
  where
    back : (HasSmallerFirst a b) ⊎ (IsProperPrefix b a) → IsLetterwiseGreater a b
    back (inl d) = letterwise_from_difference a b d
    back (inr q) = rw q.joined (letterwise_extended b q.rest q.more)

-- of two words of one degree none is a proper prefix of the other
pub has_no_prefixes : HasNoPrefixes
has_no_prefixes weights aw a b same q =
    omega (arith, same, ap (degree_of weights) q.joined, degree_of-append weights a q.rest, degree_of-positive weights aw q.rest q.more)

-- two words of one degree compare as words as they compare letter by letter
pub agrees_in_degree : AgreesInDegree
agrees_in_degree weights a b same = rw (same, self_cmp (degree_of weights b)) refl

-- a word that compares as greater is greater in the order of words
pub greater_says : (weights : List ℕ) → AreWeights weights → (a b : List ℕ) → word_cmp weights a b ≡ Greater → IsGreater weights a b
greater_says weights aw a b e =
    let m = degree_of weights a in let n = degree_of weights b in
    by_ranked (m < n) (m ≡ n) (n < m) (nat_cmp m n) (ranked m n (nat_cmp m n) refl)
    (λ is below. let f : Less ≡ Greater = rw is at e in cc f)
    (λ is same. let f : letterwise_cmp a b ≡ Greater = rw is at e in elim (first_difference a b f) [
      | inl d ↦ inr (same, d)
      | inr q ↦ absurd (has_no_prefixes weights aw b a (sym same) q)
    ])
    (λ is above. inl above)

-- a word that is greater in the order of words compares as greater
pub says_greater : (weights a b : List ℕ) → IsGreater weights a b → word_cmp weights a b ≡ Greater
says_greater weights a b (inl more) =
    let m = degree_of weights a in let n = degree_of weights b in
    by_ranked (m < n) (m ≡ n) (n < m) (nat_cmp m n) (ranked m n (nat_cmp m n) refl)
    (λ is below. absurd (omega (arith, more, below)))
    (λ is same. absurd (omega (arith, more, same)))
    (λ is above. rw is refl)
says_greater weights a b (inr (same, d)) = agrees_in_degree weights a b same ∙ letterwise_from_difference a b d

-- where a has the smaller letter number at its first difference from b, so has u * a * v at its first difference from u * b * v
pub difference_in_product : (u a b v : List ℕ) → HasSmallerFirst a b → HasSmallerFirst (u ++ a ++ v) (u ++ b ++ v)
difference_in_product u a b v d =
    let left : take (length u + d.at) (u ++ a ++ v) ≡ u ++ take d.at a =
    rw (append_assoc, take-append-add) (ap (λ (r : List ℕ). u ++ r) (take-append-le d.at a v (omega (arith, d.in_first)))) in
    let right : take (length u + d.at) (u ++ b ++ v) ≡ u ++ take d.at b =
    rw (append_assoc, take-append-add) (ap (λ (r : List ℕ). u ++ r) (take-append-le d.at b v (omega (arith, d.in_second)))) in
    record {
      at = length u + d.at;
      in_first = simp length-append (omega (arith, d.in_first));
      in_second = simp length-append (omega (arith, d.in_second));
      same_before = left ∙ ap (λ (r : List ℕ). u ++ r) d.same_before ∙ sym right;
      smaller = rw (
        append_assoc,
        get_or-append-add,
        get_or_append_left a v 0 d.at d.in_first,
        append_assoc,
        get_or-append-add,
        get_or_append_left b v 0 d.at d.in_second,
      ) d.smaller;
    }

-- two words of one degree keep their order in products by the same words
pub kept_by_products : IsKeptByProducts
kept_by_products weights u a b v same (inl more) = absurd (omega (arith, more, same))
kept_by_products weights u a b v same (inr (_, d)) = inr (
  degree_of-append weights (u ++ a) v ∙ ap (λ (n : ℕ). n + degree_of weights v)
      (degree_of-append weights u a ∙ ap (λ (n : ℕ). degree_of weights u + n) same ∙ sym (degree_of-append weights u b))
      ∙ sym (degree_of-append weights (u ++ b) v),
  difference_in_product u a b v d,
)

none_below : (n : ℕ) → nat_cmp 0 (suc n) ≡ Less
none_below n = by_ranked (0 < suc n) (0 ≡ suc n) (suc n < 0) (nat_cmp 0 (suc n)) (ranked 0 (suc n) (nat_cmp 0 (suc n)) refl)
    (λ is below. is) (λ is same. absurd (omega (arith, same))) (λ is above. absurd (omega (arith, above)))

some_above : (n : ℕ) → nat_cmp (suc n) 0 ≡ Greater
some_above n = by_ranked (suc n < 0) (suc n ≡ 0) (0 < suc n) (nat_cmp (suc n) 0) (ranked (suc n) 0 (nat_cmp (suc n) 0) refl)
    (λ is below. absurd (omega (arith, below))) (λ is same. absurd (omega (arith, same))) (λ is above. is)

-- two words compare letter by letter as their first n letters do, and else by length, where one has n letters and the other no fewer
pub letterwise_by_front : (n : ℕ) (a b : List ℕ) → n ≤ length a → n ≤ length b → (length a ≡ n) ⊎ (length b ≡ n)
    → letterwise_cmp a b ≡ ordering_then (slice_cmp nat_cmp (take n b) (take n a)) (nat_cmp (length a) (length b))
letterwise_by_front zero [] [] m k h = refl
letterwise_by_front zero [] (y ∷ b) m k h = sym (none_below (length b))
letterwise_by_front zero (x ∷ a) [] m k h = sym (some_above (length a))
letterwise_by_front zero (x ∷ a) (y ∷ b) m k (inl e) = absurd (omega (arith, e))
letterwise_by_front zero (x ∷ a) (y ∷ b) m k (inr e) = absurd (omega (arith, e))
letterwise_by_front (suc n) [] b m k h = absurd (omega (arith, m))
letterwise_by_front (suc n) (x ∷ a) [] m k h = absurd (omega (arith, k))
letterwise_by_front (suc n) (x ∷ a) (y ∷ b) m k h =
    by_ranked (y < x) (y ≡ x) (x < y) (nat_cmp y x) (ranked y x (nat_cmp y x) refl)
    (λ is below. rw is refl)
    (λ is same. rw is (letterwise_by_front n a b (omega (arith, m)) (omega (arith, k)) (shorter h)
    ∙ ap (ordering_then (slice_cmp nat_cmp (take n b) (take n a))) (lengths (length a) (length b))))
    (λ is above. rw is refl)
  where
    shorter : (length (x ∷ a) ≡ suc n) ⊎ (length (y ∷ b) ≡ suc n) → (length a ≡ n) ⊎ (length b ≡ n)
    shorter (inl e) = inl (omega (arith, e))
    shorter (inr e) = inr (omega (arith, e))

    lengths : (i j : ℕ) → nat_cmp i j ≡ nat_cmp (suc i) (suc j)
    lengths i j =
        by_ranked (i < j) (i ≡ j) (j < i) (nat_cmp i j) (ranked i j (nat_cmp i j) refl)
        (λ is below. is ∙ by_ranked (suc i < suc j) (suc i ≡ suc j) (suc j < suc i) (nat_cmp (suc i) (suc j))
        (ranked (suc i) (suc j) (nat_cmp (suc i) (suc j)) refl)
        (λ r q. sym r) (λ r q. absurd (omega (arith, q, below))) (λ r q. absurd (omega (arith, q, below))))
        (λ is same. is ∙ sym (ap (nat_cmp (suc i)) (ap suc (sym same)) ∙ self_cmp (suc i)))
        (λ is above. is ∙ by_ranked (suc i < suc j) (suc i ≡ suc j) (suc j < suc i) (nat_cmp (suc i) (suc j))
        (ranked (suc i) (suc j) (nat_cmp (suc i) (suc j)) refl)
        (λ r q. absurd (omega (arith, q, above))) (λ r q. absurd (omega (arith, q, above))) (λ r q. sym r))
