-- Any sum of terms is a polynomial modulo p: the words of its terms, falling, each with its total.
use Rattle.std.proofs.Common.{◌≡◌, ◌≢◌, ◌⊎◌, ◌<◌, ◌%◌, ℕ, List, [], ◌∷◌, sym, ap, ◌∙◌, inl, inr, All, AllPairs, subst}
use Rattle.std.specs.List.{Contains}
use Rattle.std.proofs.Math.Nat.{mod-lt, zero-mod}
use Rattle.std.proofs.lemmas.List.Elements.{All-cons, All-nil, All-weaker, All-contains}
use Rattle.std.proofs.lemmas.List.Kept.{AllPairs-cons}
use Rattle.words.specs.Order.{IsLetterwiseGreater}
use Rattle.words.proofs.Members.{All-from_members, AllPairs-first, AllPairs-nil, AllPairs-rest, Contains-cases, Contains-first, Contains-more, Contains-none}
use Rattle.free_poly.specs.declared.term.Term.{Term}
use Rattle.free_poly.specs.Terms.{HasResidues, IsSame, total_at}
use Rattle.free_poly.specs.Poly.{IsPolynomial}
use Rattle.free_poly.proofs.FromWords.{from_words, from_words-absent, from_words-all, from_words-polynomial, from_words-total, listed}
use Rattle.free_poly.proofs.NormalForms.{compared, greater, letterwise-trans, same, smaller}
use Rattle.free_poly.proofs.Sums.{IsSame-from_totals}
use Rattle.free_poly.proofs.Totals.{total_at-absent}

-- falling words with one more
record WithWord (w : List ℕ) (xs : List (List ℕ)) : Type 0 where
  words : List (List ℕ)
  falling : AllPairs IsLetterwiseGreater words
  new : Contains words w
  old : (x : List ℕ) → Contains xs x → Contains words x
  only : (x : List ℕ) → Contains words x → (x ≡ w) ⊎ Contains xs x

with_word : (w : List ℕ) (xs : List (List ℕ)) → AllPairs IsLetterwiseGreater xs → WithWord w xs
with_word w [] h = record {
  words = w ∷ [];
  falling = AllPairs-cons IsLetterwiseGreater w [] (All-nil (IsLetterwiseGreater w)) h;
  new = Contains-first w [];
  old = λ x m. absurd (Contains-none x m);
  only = λ x m. elim (Contains-cases w [] x m) [
    | inl e ↦ inl (sym e)
    | inr n ↦ inr n
  ];
}
with_word w (x ∷ xs) h = elim (compared w x) [
  | greater i ↦ record {
    words = w ∷ x ∷ xs;
    falling = AllPairs-cons IsLetterwiseGreater w (x ∷ xs)
        (All-cons (IsLetterwiseGreater w) x xs i (All-weaker (IsLetterwiseGreater x) (IsLetterwiseGreater w)
        (λ y j. letterwise-trans w x y i j) xs (AllPairs-first IsLetterwiseGreater x xs h))) h;
    new = Contains-first w (x ∷ xs);
    old = λ y m. Contains-more w (x ∷ xs) y m;
    only = λ y m. elim (Contains-cases w (x ∷ xs) y m) [
      | inl e ↦ inl (sym e)
      | inr n ↦ inr n
    ];
  }
  | same e ↦ record {
    words = x ∷ xs;
    falling = h;
    new = subst (Contains (x ∷ xs)) (sym e) (Contains-first x xs);
    old = λ y m. m;
    only = λ y m. inr m;
  }
  | smaller i ↦
      let rest = with_word w xs (AllPairs-rest IsLetterwiseGreater x xs h) in
      let below : All (IsLetterwiseGreater x) rest.words = All-from_members (IsLetterwiseGreater x) rest.words (λ y m. elim (rest.only y m) [
        | inl e ↦ subst (IsLetterwiseGreater x) (sym e) i
        | inr n ↦ All-contains (IsLetterwiseGreater x) xs y (AllPairs-first IsLetterwiseGreater x xs h) n
      ]) in
      record {
        words = x ∷ rest.words;
        falling = AllPairs-cons IsLetterwiseGreater x rest.words below rest.falling;
        new = Contains-more x rest.words w rest.new;
        old = λ y m. elim (Contains-cases x xs y m) [
          | inl e ↦ subst (Contains (x ∷ rest.words)) e (Contains-first x rest.words)
          | inr n ↦ Contains-more x rest.words y (rest.old y n)
        ];
        only = λ y m. elim (Contains-cases x rest.words y m) [
          | inl e ↦ inr (subst (Contains (x ∷ xs)) e (Contains-first x xs))
          | inr n ↦ elim (rest.only y n) [
            | inl e ↦ inl e
            | inr o ↦ inr (Contains-more x xs y o)
          ]
        ];
      }
]

-- the words of a sum, falling
record Words (f : List Term) : Type 0 where
  words : List (List ℕ)
  falling : AllPairs IsLetterwiseGreater words
  each : All (λ t. Contains words t.word) f

words_of : (f : List Term) → Words f
words_of [] = record { words = []; falling = AllPairs-nil IsLetterwiseGreater; each = All-nil (λ t. Contains [] t.word) }
words_of (t ∷ f) =
    let rest = words_of f in
    let all = with_word t.word rest.words rest.falling in
    record {
      words = all.words;
      falling = all.falling;
      each = All-cons (λ s. Contains all.words s.word) t f all.new (All-weaker (λ s. Contains rest.words s.word)
          (λ s. Contains all.words s.word) (λ s m. all.old s.word m) f rest.each);
    }

-- the polynomial that is the sum modulo p
pub record HasNormalForm (p : ℕ) (f : List Term) : Type 0 where
  pub polynomial : List Term
  pub form : IsPolynomial polynomial
  pub residues : HasResidues p polynomial
  pub sum : IsSame p polynomial f

-- each sum of terms is a polynomial modulo p
pub normal_form : (p : ℕ) → 0 < p → (f : List Term) → HasNormalForm p f
normal_form p some f =
    let l = words_of f in
    let c : List ℕ → ℕ = λ w. total_at f w % p in
    record {
      polynomial = from_words l.words c;
      form = from_words-polynomial l.words c l.falling;
      residues = from_words-all (λ t. t.coefficient < p) l.words c (λ x m ne. mod-lt (total_at f x) some);
      sum = IsSame-from_totals p (from_words l.words c) f (λ w. elim (listed l.words w) [
        | inl m ↦ from_words-total l.words c w l.falling m
        | inr none ↦
            from_words-absent l.words c w none
            ∙ sym (zero-mod p)
            ∙ ap (λ (n : ℕ). n % p) (sym (total_at-absent f w (All-weaker (λ (t : Term). Contains l.words t.word) (λ (t : Term). t.word ≢ w)
            (λ t m e. none (subst (Contains l.words) e m)) f l.each)))
      ]);
    }
