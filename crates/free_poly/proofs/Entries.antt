-- The terms of a map's entries, taken from the last one back.
use Rattle.std.proofs.Common.{◌≡◌, ◌≢◌, ◌+◌, ◌<◌, ℕ, Bool, true, false, cond, List, [], ◌∷◌, ◌++◌, map, length, get_or, refl, sym, ap, ◌∙◌, inl, inr}
use Rattle.std.proofs.Common.{arith, bytes_eq, zero-add, add-zero, All, AllPairs, subst, length-append}
use Rattle.std.specs.Prelude.{unwrap_or}
use Rattle.std.specs.BTreeMap.{is_at}
use Rattle.std.specs.Map.{lookup}
use Rattle.std.specs.List.Sorted.{IsStrictlySortedBy}
use Rattle.std.specs.Ordering.{ordering_reverse}
use Rattle.std.specs.declared.cmp.Ordering.TheVariants.{Less}
use Rattle.std.proofs.lemmas.Bool.{cases_Bool}
use Rattle.std.proofs.lemmas.List.{get_or-map, get_or_append_left, get_or_push, length-map}
use Rattle.std.proofs.lemmas.List.Elements.{All-cons, All-from_recursion, All-head, All-map, All-nil, All-push, All-tail}
use Rattle.std.proofs.lemmas.List.Quantifiers.{all_pairs_push}
use Rattle.std.proofs.lemmas.Map.Keys.{Less-from_sorted, sorted_head, sorted_tail}
use Rattle.std.proofs.lemmas.Slice.Eq.{bytes_eq-Decides}
use Rattle.words.specs.Order.{IsLetterwiseGreater, letterwise_cmp}
use Rattle.words.specs.OrderLaws.{letterwise_ties, letterwise_total}
use Rattle.words.proofs.Members.{AllPairs-nil}
use Rattle.free_poly.specs.declared.term.Term.{Term}
use Rattle.free_poly.specs.Terms.{total_at}
use Rattle.free_poly.specs.Poly.{IsPolynomial}
use Rattle.free_poly.proofs.Totals.{here, letterwise-apart, not_equal, not_here, total_at-absent, total_at-append}

abbrev pub Entry : Type 0
Entry = List ℕ × ℕ

abbrev pub term_of : Entry → Term
term_of e = record { word = e.0; coefficient = e.1 }

abbrev pub terms_of : List Entry → List Term
terms_of es = map term_of es

abbrev pub Rises : List Entry → Type 0
Rises es = AllPairs (λ a b. letterwise_cmp a.0 b.0 ≡ Less) es

-- the entries that are left, and the terms that were made of the others
pub record Unloads (all left : List Entry) (made : List Term) : Type 0 where
  pub sum : (w : List ℕ) → total_at made w + total_at (terms_of left) w ≡ total_at (terms_of all) w
  pub rises : Rises left
  pub above : All (λ t. All (λ e. letterwise_cmp e.0 t.word ≡ Less) left) made
  pub form : IsPolynomial made

-- where a compares as less than b letter by letter, b is the greater word
pub less_says : (a b : List ℕ) → letterwise_cmp a b ≡ Less → IsLetterwiseGreater b a
less_says a b e = letterwise_total.antisymm b a ∙ ap ordering_reverse e

module _ {X : Type 0} where
  -- what holds of each entry of a list holds of each in the list without its last entry
  pub All-front : (P : X → Type 0) (xs : List X) (x : X) → All P (xs ++ x ∷ []) → All P xs
  All-front P xs x h k d within = subst P (get_or_append_left xs (x ∷ []) d k within) (h k d (omega (arith, within, length-append xs (x ∷ []))))

  -- what holds of each entry of a list holds of its last
  pub All-last : (P : X → Type 0) (xs : List X) (x : X) → All P (xs ++ x ∷ []) → P x
  All-last P xs x h = subst P (get_or_push xs x x (length xs) refl) (h (length xs) x (omega (arith, length-append xs (x ∷ []))))

  -- a relation between each entry and the later ones holds so in the list without its last entry
  pub AllPairs-front : (R : X → X → Type 0) (xs : List X) (x : X) → AllPairs R (xs ++ x ∷ []) → AllPairs R xs
  AllPairs-front R xs x h i j d below within =
      let inside : j < length (xs ++ x ∷ []) = omega (arith, within, length-append xs (x ∷ [])) in
      let first : i < length xs = omega (arith, below, within) in
      subst (λ (y : X). R y (get_or xs j d)) (get_or_append_left xs (x ∷ []) d i first)
      (subst (R (get_or (xs ++ x ∷ []) i d)) (get_or_append_left xs (x ∷ []) d j within) (h i j d below inside))

  -- where a relation holds between each entry and the later ones, each entry but the last stands in it to the last
  pub AllPairs-last : (R : X → X → Type 0) (xs : List X) (x : X) → AllPairs R (xs ++ x ∷ []) → All (λ y. R y x) xs
  AllPairs-last R xs x h k d within =
      subst (λ (y : X). R y x) (get_or_append_left xs (x ∷ []) d k within)
      (subst (R (get_or (xs ++ x ∷ []) k d)) (get_or_push xs x d (length xs) refl) (h k (length xs) d within (omega (arith, length-append xs (x ∷ [])))))

-- where the entries' words are strictly sorted, the terms have at a word what the map has there, and else 0
pub total_at-entries : (es : List Entry) (w : List ℕ) → IsStrictlySortedBy letterwise_cmp (map (λ e. e.0) es) →
    total_at (terms_of es) w ≡ unwrap_or (lookup (is_at (letterwise_cmp w)) es) 0
total_at-entries [] w h = refl
total_at-entries (e ∷ es) w h = elim (cases_Bool (bytes_eq e.0 w)) [
  | inl is ↦
      let found : is_at (letterwise_cmp w) e.0 ≡ true = sym (letterwise_ties w e.0) ∙ here w e.0 (sym ((bytes_eq-Decides e.0 w).0 is)) in
      let later : All (λ y. letterwise_cmp e.0 y ≡ Less) (map (λ (f : Entry). f.0) es) =
      All-from_recursion _ _ (sorted_head letterwise_cmp e.0 (map (λ f. f.0) es) h) in
      let none : total_at (terms_of es) w ≡ 0 = total_at-absent (terms_of es) w (gone e.0 w es ((bytes_eq-Decides e.0 w).0 is) later) in
      rw (is, found, none) (add-zero e.1)
  | inr other ↦
      let missed : is_at (letterwise_cmp w) e.0 ≡ false = sym (letterwise_ties w e.0) ∙ not_here w e.0 (λ s. not_equal e.0 w other (sym s)) in
      rw (other, missed, zero-add) (total_at-entries es w (sorted_tail letterwise_cmp e.0 (map (λ f. f.0) es) h))
]
  where
    less_at : (k : List ℕ) (es : List Entry) → All (λ y. letterwise_cmp k y ≡ Less) (map (λ (f : Entry). f.0) es) → All (λ e. letterwise_cmp k e.0 ≡ Less) es
    less_at k [] h = All-nil (λ (e : Entry). letterwise_cmp k e.0 ≡ Less)
    less_at k (e ∷ es) h = All-cons (λ (e : Entry). letterwise_cmp k e.0 ≡ Less) e es
        (All-head (λ y. letterwise_cmp k y ≡ Less) e.0 (map (λ (f : Entry). f.0) es) h)
        (less_at k es (All-tail (λ y. letterwise_cmp k y ≡ Less) e.0 (map (λ (f : Entry). f.0) es) h))

    gone : (k w : List ℕ) (es : List Entry) → k ≡ w → All (λ y. letterwise_cmp k y ≡ Less) (map (λ (f : Entry). f.0) es) → All (λ t. t.word ≢ w) (terms_of es)
    gone k w es is h = All-map (λ t. t.word ≢ w) term_of es
        (λ i d within same. letterwise-apart _ k (less_says k _ (less_at k es h i d within)) (same ∙ sym is))

-- where the words of the entries are strictly sorted letter by letter, each is less than all later ones
pub Rises-sorted : (es : List Entry) → IsStrictlySortedBy letterwise_cmp (map (λ e. e.0) es) → Rises es
Rises-sorted es h i j d below within =
    let at : (k : ℕ) → k < length es → get_or (map (λ (e : Entry). e.0) es) k d.0 ≡ (get_or es k d).0 =
    λ k inside. get_or-map (λ (e : Entry). e.0) es k d d.0 inside in
    subst (λ (y : List ℕ). letterwise_cmp (get_or es i d).0 y ≡ Less) (at j within)
    (subst (λ (y : List ℕ). letterwise_cmp y (get_or (map (λ (e : Entry). e.0) es) j d.0) ≡ Less) (at i (omega (arith, below, within)))
    (Less-from_sorted letterwise_cmp (map (λ e. e.0) es) i j d.0 h below (omega (arith, within, length-map {A = Entry} {B = List ℕ} es))))

-- at first no term is made and all entries are left, whose words are strictly sorted
pub Unloads-none : (es : List Entry) → IsStrictlySortedBy letterwise_cmp (map (λ e. e.0) es) → Unloads es es []
Unloads-none es h = record {
  sum = λ w. zero-add (total_at (terms_of es) w);
  rises = Rises-sorted es h;
  above = All-nil (λ t. All (λ e. letterwise_cmp e.0 t.word ≡ Less) es);
  form = record { falling = AllPairs-nil (λ s t. IsLetterwiseGreater s.word t.word); nonzero = All-nil (λ t. t.coefficient ≢ 0) };
}

terms_of-append : (es fs : List Entry) → terms_of (es ++ fs) ≡ terms_of es ++ terms_of fs
terms_of-append [] fs = refl
terms_of-append (e ∷ es) fs = ap (λ (f : List Term). term_of e ∷ f) (terms_of-append es fs)

-- the last entry's part
last_total : (left : List Entry) (x : Entry) (w : List ℕ) → total_at (terms_of (left ++ x ∷ [])) w ≡ total_at (terms_of left) w + total_at (term_of x ∷ []) w
last_total left x w = ap (λ (f : List Term). total_at f w) (terms_of-append left (x ∷ [])) ∙ total_at-append (terms_of left) (terms_of (x ∷ [])) w

none_of : (b : Bool) (c : ℕ) → c ≡ 0 → cond b c 0 + 0 ≡ 0
none_of true c e = rw e refl
none_of false c e = refl

-- a last entry of 0 is taken without making a term
pub Unloads-zero : (all left : List Entry) (x : Entry) (made : List Term) → x.1 ≡ 0 → Unloads all (left ++ x ∷ []) made → Unloads all left made
Unloads-zero all left x made zero u = record {
  sum = λ w. omega (arith, u.sum w, last_total left x w, none_of (bytes_eq x.0 w) x.1 zero);
  rises = AllPairs-front (λ a b. letterwise_cmp a.0 b.0 ≡ Less) left x u.rises;
  above = λ k d within. All-front (λ e. letterwise_cmp e.0 (get_or made k d).word ≡ Less) left x (u.above k d within);
  form = u.form;
}

-- a last entry other than 0 is taken as the next term
pub Unloads-more : (all left : List Entry) (x : Entry) (made : List Term) → x.1 ≢ 0 → Unloads all (left ++ x ∷ []) made →
    Unloads all left (made ++ term_of x ∷ [])
Unloads-more all left x made other u = record {
  sum = λ w. omega (arith, u.sum w, last_total left x w, total_at-append made (term_of x ∷ []) w);
  rises = AllPairs-front (λ a b. letterwise_cmp a.0 b.0 ≡ Less) left x u.rises;
  above = All-push (λ t. All (λ e. letterwise_cmp e.0 t.word ≡ Less) left) made (term_of x)
      (λ k d within. All-front (λ e. letterwise_cmp e.0 (get_or made k d).word ≡ Less) left x (u.above k d within))
      (AllPairs-last (λ a b. letterwise_cmp a.0 b.0 ≡ Less) left x u.rises);
  form = record {
    falling = all_pairs_push (λ s t. IsLetterwiseGreater s.word t.word) made (term_of x) u.form.falling
        (λ k d within. less_says x.0 _ (All-last (λ e. letterwise_cmp e.0 (get_or made k d).word ≡ Less) left x (u.above k d within)));
    nonzero = All-push (λ t. t.coefficient ≢ 0) made (term_of x) u.form.nonzero other;
  };
}

-- once no entry is left, the terms have the coefficient of the entries at each word
pub Unloads-all : (all : List Entry) (made : List Term) → Unloads all [] made → (w : List ℕ) → total_at made w ≡ total_at (terms_of all) w
Unloads-all all made u w = sym (add-zero (total_at made w)) ∙ u.sum w
