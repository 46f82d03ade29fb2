-- What gathering keeps small: letters are below the number of names, and each lexeme brings at most 256 of them.
use Rattle.std.proofs.Common.{ℕ, suc, ◌≡◌, ◌+◌, ◌*◌, ◌<◌, ◌≤◌, ◌||◌, Bool, true, false, cond, List, [], ◌∷◌, ◌++◌, length, Option, Some, None}
use Rattle.std.proofs.Common.{bytes_eq, sym, ap, ◌∙◌, arith, inl, inr, subst, All, min}
use Rattle.std.specs.Prelude.{replicate}
use Rattle.std.specs.Option.{option_to_list}
use Rattle.std.proofs.Math.Nat.{min-le_right}
use Rattle.std.proofs.lemmas.Bool.{cases_Bool}
use Rattle.std.proofs.lemmas.List.{length-append, length-replicate}
use Rattle.std.proofs.lemmas.List.Elements.{All-append, All-cons, All-nil, All-push, All-replicate, All-weaker}
use Rattle.words.specs.Words.{IsOver}
use Rattle.free_poly.specs.declared.term.Term.{Term}
use Rattle.relation_reader.specs.Grammar.{Lexeme, name, number, plus, minus, star, comma, semicolon}
use Rattle.relation_reader.specs.Meaning.{is_among, letter_of}
use Rattle.relation_reader.specs.Gathering.{Gathering, fresh, gather, gathered, known_letter, present, whole_word, with_end, with_number, with_sign}

letter_of-below : (names : List (List ℕ)) (x : List ℕ) → is_among x names ≡ true → letter_of names x < length names
letter_of-below [] x e = absurd (let f : false ≡ true = e in cc)
letter_of-below (y ∷ ys) x e = elim (cases_Bool (bytes_eq x y)) [
  | inl is ↦ (let z : letter_of (y ∷ ys) x ≡ 0 = ap (λ (b : Bool). cond b 0 (suc (letter_of ys x))) is in omega arith)
  | inr other ↦
      let z : letter_of (y ∷ ys) x ≡ suc (letter_of ys x) = ap (λ (b : Bool). cond b 0 (suc (letter_of ys x))) other in
      let more = letter_of-below ys x (sym (ap (λ (b : Bool). b || is_among x ys) other) ∙ e) in
      omega (arith, z, more)
]

known_letter-below : (names : List (List ℕ)) (x : List ℕ) → 0 < length names → known_letter names x < length names
known_letter-below names x some = elim (cases_Bool (is_among x names)) [
  | inl is ↦ (let e : known_letter names x ≡ letter_of names x = ap (λ (b : Bool). cond b (letter_of names x) 0) is in
      omega (arith, e, letter_of-below names x is))
  | inr none ↦ (let e : known_letter names x ≡ 0 = ap (λ (b : Bool). cond b (letter_of names x) 0) none in omega arith)
]

-- a term with letters below m, and at most 256 k of them
pub record IsSmall (m k : ℕ) (t : Term) : Type 0 where
  pub letters : IsOver m t.word
  -- it has at most 256 k of them
  pub few : length t.word ≤ 256 * k

IsSmall-more : (m k l : ℕ) → k ≤ l → (t : Term) → IsSmall m k t → IsSmall m l t
IsSmall-more m k l le t h = record { letters = h.letters; few = omega (arith, h.few) }

record IsBounded (m k : ℕ) (s : Gathering) : Type 0 where
  word : IsOver m s.word
  letter : IsOver m (option_to_list s.letter)
  few : length s.word + length (option_to_list s.letter) ≤ 256 * k
  terms : All (IsSmall m k) s.terms
  relations : All (All (IsSmall m k)) s.relations
  count : length s.relations ≤ k

more_terms : (m k : ℕ) (ts : List Term) → All (IsSmall m k) ts → All (IsSmall m (k + 1)) ts
more_terms m k ts h = All-weaker (IsSmall m k) (IsSmall m (k + 1)) (λ t h. IsSmall-more m k (k + 1) (omega arith) t h) ts h

more_relations : (m k : ℕ) (rs : List (List Term)) → All (All (IsSmall m k)) rs → All (All (IsSmall m (k + 1))) rs
more_relations m k rs h = All-weaker (All (IsSmall m k)) (All (IsSmall m (k + 1))) (λ ts h. more_terms m k ts h) rs h

one_of : {A : Type 0} (P : A → Type 0) (b : Bool) (x y : A) → P x → P y → P (cond b x y)
one_of P true x y h k = h
one_of P false x y h k = k

IsBounded-more : (m k : ℕ) (s : Gathering) → IsBounded m k s → IsBounded m (k + 1) s
IsBounded-more m k s h = record {
  word = h.word;
  letter = h.letter;
  few = omega (arith, h.few);
  terms = more_terms m k s.terms h.terms;
  relations = more_relations m k s.relations h.relations;
  count = omega (arith, h.count);
}

whole_word-over : (m k : ℕ) (s : Gathering) → IsBounded m k s → IsOver m (whole_word s)
whole_word-over m k s h = All-append (λ x. x < m) s.word (option_to_list s.letter) h.word h.letter

present-small : (p m k : ℕ) (s : Gathering) → IsBounded m k s → IsSmall m k (present p s)
present-small p m k s h = record { letters = whole_word-over m k s h; few = omega (arith, h.few, length-append s.word (option_to_list s.letter)) }

ended-terms : (p m k : ℕ) (s : Gathering) → IsBounded m k s → All (IsSmall m k) (s.terms ++ present p s ∷ [])
ended-terms p m k s h = All-push (IsSmall m k) s.terms (present p s) h.terms (present-small p m k s h)

fresh-bounded : (p m k : ℕ) (relations : List (List Term)) (terms : List Term) (negative : Bool) → All (All (IsSmall m k)) relations →
    length relations ≤ k → All (IsSmall m k) terms → IsBounded m k (fresh p relations terms negative)
fresh-bounded p m k relations terms negative h few t = record {
  word = All-nil (λ x. x < m);
  letter = All-nil (λ x. x < m);
  few = omega arith;
  terms = t;
  relations = h;
  count = few;
}

number-bounded : (p m k : ℕ) (s : Gathering) (v : ℕ) (o : Option ℕ) → IsOver m (option_to_list o) → IsBounded m k s → IsBounded m (k + 1) (with_number p s v o)
number-bounded p m k s v None l h = record {
  word = h.word;
  letter = All-nil (λ x. x < m);
  few = omega (arith, h.few);
  terms = more_terms m k s.terms h.terms;
  relations = more_relations m k s.relations h.relations;
  count = omega (arith, h.count);
}
number-bounded p m k s v (Some x) l h = record {
  word = All-append (λ x. x < m) s.word (replicate (min v 256) x) h.word (All-replicate (λ x. x < m) (min v 256) x (l 0 0 (omega arith)));
  letter = All-nil (λ x. x < m);
  few = omega (arith, h.few, length-append s.word (replicate (min v 256) x), length-replicate (min v 256) x, min-le_right v 256);
  terms = more_terms m k s.terms h.terms;
  relations = more_relations m k s.relations h.relations;
  count = omega (arith, h.count);
}

sign-bounded : (p m k : ℕ) (s : Gathering) (negative : Bool) → IsBounded m k s → IsBounded m k (with_sign p s negative)
sign-bounded p m k s negative h =
    fresh-bounded p m k s.relations (cond s.begun (s.terms ++ present p s ∷ []) s.terms) negative h.relations h.count
    (one_of (All (IsSmall m k)) s.begun (s.terms ++ present p s ∷ []) s.terms (ended-terms p m k s h) h.terms)

end-bounded : (p m k : ℕ) (s : Gathering) → IsBounded m k s → IsBounded m (k + 1) (with_end p s)
end-bounded p m k s h =
    let ended = s.terms ++ present p s ∷ [] in
    one_of (IsBounded m (k + 1)) s.begun (fresh p (s.relations ++ ended ∷ []) [] false) s
    (fresh-bounded p m (k + 1) (s.relations ++ ended ∷ []) [] false
    (All-push (All (IsSmall m (k + 1))) s.relations ended (more_relations m k s.relations h.relations) (more_terms m k ended (ended-terms p m k s h)))
    (omega (arith, h.count, length-append s.relations (ended ∷ []))) (All-nil (IsSmall m (k + 1))))
    (IsBounded-more m k s h)

gather-bounded : (p k : ℕ) (names : List (List ℕ)) (s : Gathering) (l : Lexeme) → 0 < length names → IsBounded (length names) k s →
    IsBounded (length names) (k + 1) (gather p names s l)
gather-bounded p k names s (name bytes) some h = record {
  word = h.word;
  letter = All-cons (λ x. x < length names) (known_letter names bytes) [] (known_letter-below names bytes some) (All-nil (λ x. x < length names));
  few = omega (arith, h.few);
  terms = more_terms (length names) k s.terms h.terms;
  relations = more_relations (length names) k s.relations h.relations;
  count = omega (arith, h.count);
}
gather-bounded p k names s (number v) some h = number-bounded p (length names) k s v s.letter h.letter h
gather-bounded p k names s star some h = record {
  word = whole_word-over (length names) k s h;
  letter = All-nil (λ x. x < length names);
  few = omega (arith, h.few, length-append s.word (option_to_list s.letter));
  terms = more_terms (length names) k s.terms h.terms;
  relations = more_relations (length names) k s.relations h.relations;
  count = omega (arith, h.count);
}
gather-bounded p k names s plus some h = IsBounded-more (length names) k (with_sign p s false) (sign-bounded p (length names) k s false h)
gather-bounded p k names s minus some h = IsBounded-more (length names) k (with_sign p s true) (sign-bounded p (length names) k s true h)
gather-bounded p k names s comma some h = end-bounded p (length names) k s h
gather-bounded p k names s semicolon some h = end-bounded p (length names) k s h
gather-bounded p k names s l some h = IsBounded-more (length names) k s h

-- relations in letters below m, with at most k lexemes
pub record AreSmall (m k : ℕ) (relations : List (List Term)) : Type 0 where
  pub terms : All (All (IsSmall m k)) relations
  pub count : length relations ≤ k

gathered-from : (p k : ℕ) (names : List (List ℕ)) (s : Gathering) (ls : List Lexeme) → 0 < length names → IsBounded (length names) k s →
    AreSmall (length names) (k + length ls) (gathered p names s ls)
gathered-from p k names s [] some h =
    let e : k ≡ k + 0 = omega arith in
    subst (λ (n : ℕ). AreSmall (length names) n s.relations) e (record { terms = h.relations; count = h.count })
gathered-from p k names s (l ∷ ls) some h =
    let e : k + 1 + length ls ≡ k + length (l ∷ ls) = omega arith in
    subst (λ (n : ℕ). AreSmall (length names) n (gathered p names (gather p names s l) ls)) e
    (gathered-from p (k + 1) names (gather p names s l) ls some (gather-bounded p k names s l some h))

-- what some lexemes say has letters below the number of names, and no more relations than lexemes
pub gathered-small : (p : ℕ) (names : List (List ℕ)) (ls : List Lexeme) → 0 < length names →
    AreSmall (length names) (length ls) (gathered p names (fresh p [] [] false) ls)
gathered-small p names ls some =
    let e : 0 + length ls ≡ length ls = omega arith in
    subst (λ (n : ℕ). AreSmall (length names) n (gathered p names (fresh p [] [] false) ls)) e
    (gathered-from p 0 names (fresh p [] [] false) ls some (fresh-bounded p (length names) 0 [] [] false
    (All-nil (All (IsSmall (length names) 0))) (omega arith) (All-nil (IsSmall (length names) 0))))
