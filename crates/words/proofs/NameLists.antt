-- Names that are apart, the first one that stands twice, and the faults of names.
use Rattle.std.proofs.Common.{◌≡◌, ◌≢◌, ◌<◌, ◌≤◌, ◌+◌, ◌==◌, ◌↔◌, ℕ, false, List, [], ◌∷◌, length, map, take, get_or, refl, sym, ap, ◌∙◌, inl, inr}
use Rattle.std.proofs.Common.{arith, subst, Err}
use Rattle.std.specs.List.{All}
use Rattle.std.specs.Result.{IsErrOf}
use Rattle.std.proofs.lemmas.Bool.{cases_lt, eqb-false}
use Rattle.std.proofs.lemmas.List.{get_or-map, get_or-take, length-map, length-take-le, map_more, take-map, take_all}
use Rattle.std.proofs.lemmas.List.Elements.{All-append, All-cons, All-nil}
use Rattle.std.proofs.lemmas.List.Quantifiers.{all_pairs_push}
use Rattle.words.specs.declared.alphabet.AlphabetFault.{AlphabetFault}
use Rattle.words.specs.declared.alphabet.AlphabetFault.TheVariants.{Empty, TooMany, Repeated, NoMemory}
use Rattle.words.specs.Names.{AreApart, AreNames, IsFaultOf, IsFirstRepeat}

module _ {X : Type 0} (f : X → List ℕ) where
  -- the name of the member at place i stands at place i of the names
  pub name_here : (xs : List X) (i : ℕ) (x : X) (name : List ℕ) → i < length xs → x ≡ get_or xs i x → f x ≡ name → get_or (map f xs) i [] ≡ name
  name_here xs i x name lt is e = get_or-map f xs i x [] lt ∙ ap f (sym is) ∙ e

  -- where the names before place i are other than a name, and the one at place i is too, so are all names up to it
  pub others_more : (xs : List X) (i : ℕ) (x : X) (name : List ℕ) → i < length xs → x ≡ get_or xs i x → f x ≢ name →
      All (λ n. n ≢ name) (map f (take i xs)) → All (λ n. n ≢ name) (map f (take (i + 1) xs))
  others_more xs i x name lt is other h =
      subst (All (λ n. n ≢ name)) (sym (map_more f xs i x lt))
      (All-append (λ n. n ≢ name) (map f (take i xs)) (f (get_or xs i x) ∷ []) h
      (All-cons (λ n. n ≢ name) (f (get_or xs i x)) [] (λ e. other (ap f is ∙ e)) (All-nil (λ n. n ≢ name))))

  -- where the names before place i are apart, and the one at place i is none of them, the names up to it are apart
  pub apart_more : (xs : List X) (i : ℕ) (x : X) → i < length xs → x ≡ get_or xs i x → All (λ n. n ≢ f x) (map f (take i xs)) →
      AreApart (map f (take i xs)) → AreApart (map f (take (i + 1) xs))
  apart_more xs i x lt is others apart =
      subst AreApart (sym (map_more f xs i x lt)) (all_pairs_push (λ a b. a ≢ b) (map f (take i xs)) (f (get_or xs i x)) apart
      (λ k d within e. others k d within (e ∙ ap f (sym is))))

  -- where the names before place i are apart, and the one at place i stands at a place before it, these two places are the first repeat
  pub repeat_here : (xs : List X) (first i : ℕ) (x : X) → i < length xs → x ≡ get_or xs i x → first < i →
      get_or (map f (take i xs)) first [] ≡ f x → AreApart (map f (take i xs)) → IsFirstRepeat (map f xs) first i
  repeat_here xs first i x lt is before e apart = record {
    before = before;
    within = omega (arith, length-map xs f);
    same = sym (get_or-take i (map f xs) first [] before) ∙ ap (λ (l : List (List ℕ)). get_or l first []) (take-map f i xs) ∙ e
        ∙ sym (name_here xs i x (f x) lt is refl);
    apart = subst AreApart (sym (take-map f i xs)) apart;
  }

  -- one to 64 names of which those before a place at the end or past it are apart are all different
  pub names_from : (xs : List X) (i : ℕ) → false ≡ (length xs == 0) → length xs ≤ 64 → length xs ≤ i → AreApart (map f (take i xs)) → AreNames (map f xs)
  names_from xs i some few past apart = record {
    some = omega (arith, length-map xs f, eqb-false (length xs) 0 (sym some));
    few = omega (arith, length-map xs f);
    apart = subst (λ (l : List X). AreApart (map f l)) (take_all i xs past) apart;
  }

not_later : (names : List (List ℕ)) (f s g t : ℕ) → IsFirstRepeat names f s → IsFirstRepeat names g t → s < t → ⊥
not_later names f s g t r q later =
    q.apart f s [] r.before (omega (arith, length-take-le t names (omega (arith, q.within))))
    (get_or-take t names f [] (omega (arith, r.before)) ∙ r.same ∙ sym (get_or-take t names s [] later))

not_earlier : (names : List (List ℕ)) (f g s : ℕ) → IsFirstRepeat names f s → IsFirstRepeat names g s → f < g → ⊥
not_earlier names f g s r q later =
    q.apart f g [] later (omega (arith, q.before, length-take-le s names (omega (arith, q.within))))
    (get_or-take s names f [] r.before ∙ r.same ∙ sym q.same ∙ sym (get_or-take s names g [] q.before))

-- there is one first repeat
one_second : (names : List (List ℕ)) (f s g t : ℕ) → IsFirstRepeat names f s → IsFirstRepeat names g t → s ≡ t
one_second names f s g t r q = elim (cases_lt s t) [
  | inl lt ↦ absurd (not_later names f s g t r q lt)
  | inr le ↦ elim (cases_lt t s) [
    | inl lt ↦ absurd (not_later names g t f s q r lt)
    | inr ge ↦ omega (arith, le, ge)
  ]
]

one_first : (names : List (List ℕ)) (f g s : ℕ) → IsFirstRepeat names f s → IsFirstRepeat names g s → f ≡ g
one_first names f g s r q = elim (cases_lt f g) [
  | inl lt ↦ absurd (not_earlier names f g s r q lt)
  | inr le ↦ elim (cases_lt g f) [
    | inl lt ↦ absurd (not_earlier names g f s q r lt)
    | inr ge ↦ omega (arith, le, ge)
  ]
]

-- the fault of at most 64 names with a first repeat is this repeat
pub fault_of_repeat : (fault : AlphabetFault) (names : List (List ℕ)) (first second : ℕ) → IsFaultOf fault names → length names ≤ 64 →
    IsFirstRepeat names first second → fault ≡ Repeated first second
fault_of_repeat Empty names first second h few r = absurd (omega (arith, r.within, ap length h))
fault_of_repeat TooMany names first second h few r = absurd (omega (arith, h, few))
fault_of_repeat (Repeated f s) names first second h few r =
    let same = one_second names f s first second h.1 r in
    let first_same : f ≡ first = one_first names f first s h.1 (subst (λ (n : ℕ). IsFirstRepeat names first n) (sym same) r) in
    (λ i. Repeated (first_same i) (same i))
fault_of_repeat NoMemory names first second h few r = absurd h

-- the two sides of the clause on repeats
module _ {T X : Type 0} (f : X → List ℕ) where
  -- the fault of some names is a repeat of two places exactly where these are the first repeat, and there are at most 64 names
  pub repeated_says : (xs : List X) (fault : AlphabetFault) → IsFaultOf fault (map f xs) → (first second : ℕ)
      → IsErrOf {T = T} {E = AlphabetFault} (Err fault) (Repeated first second) ↔ ((length xs ≤ 64) × IsFirstRepeat (map f xs) first second)
  repeated_says xs fault h first second = (
    λ e. let same : fault ≡ Repeated first second = cc e in
        let r = subst (λ (g : AlphabetFault). IsFaultOf g (map f xs)) same h in (omega (arith, r.0, length-map xs f), r.1),
    λ r. (λ i. Err (fault_of_repeat fault (map f xs) first second h (omega (arith, r.0, length-map xs f)) r.1 i)),
  )
