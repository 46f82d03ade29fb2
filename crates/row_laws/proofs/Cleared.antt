-- Reducers clear a vector from the greatest column on: what is left stands at the contested columns.
use Rattle.std.proofs.Common.{ap₂, ◌≡◌, ℕ, zero, suc, Bool, true, false, cond, List, [], ◌∷◌, length, refl, sym, ap, ◌∙◌, inl, inr, AllPairs, Option}
use Rattle.std.proofs.Common.{None, Some, subst, bytes_eq}
use Rattle.std.specs.List.{AllZip, Contains}
use Rattle.std.proofs.lemmas.Bool.{cases_Bool}
use Rattle.std.proofs.lemmas.List.Elements.{All-contains, All-weaker}
use Rattle.std.proofs.lemmas.Slice.Eq.{bytes_eq-Decides}
use Rattle.words.specs.Words.{IsOver, degree_of}
use Rattle.words.specs.Order.{IsLetterwiseGreater}
use Rattle.words.proofs.Members.{AllPairs-first, AllPairs-rest, Contains-cases, Contains-first, Contains-more, Contains-none}
use Rattle.free_poly.specs.declared.term.Term.{Term}
use Rattle.free_poly.proofs.FromWords.{listed}
use Rattle.free_poly.proofs.Totals.{not_equal}
use Rattle.linear_algebra.specs.Fields.{Field}
use Rattle.linear_algebra.specs.Spans.{IsInSpan}
use Rattle.linear_algebra.specs.Mod.{Residue}
use Rattle.linear_algebra.proofs.Algebra.{add_left_comm, mul_neg, mul_zero, zero_add, IsInSpan-add, IsInSpan-one, IsInSpan-scaled, IsInSpan-zero}
use Rattle.linear_algebra.proofs.Elimination.{cleared, cleared_here}
use Rattle.ideal_laws.specs.Closure.{HasReducer, IsReducer}
use Rattle.ideal_laws.specs.Ideal.{Ideal}
use Rattle.ideal_laws.specs.Laws.{IsSetting}
use Rattle.ideal_laws.specs.Overlaps.{AreLower}
use Rattle.ideal_laws.specs.Quantities.{reducers_in, contested_words}
use Rattle.ideal_laws.proofs.Vectors as vectors
use Rattle.row_laws.proofs.Parts as parts
use Rattle.row_laws.proofs.Reducers.{reducer_above, reducer_there}
use Rattle.row_laws.proofs.Spread.{spread}

module _ (ideal : Ideal) (st : IsSetting ideal) (d : ℕ) (G : List (List Term)) (lower : AreLower ideal d G) where
  abbrev K : Field
  K = vectors.K ideal.modulus st.modulus

  abbrev V : Type 0
  V = List ℕ → Residue ideal.modulus

  abbrev N : Type 0
  N = ℕ → Residue ideal.modulus

  abbrev vec : List Term → V
  vec f = vectors.vector_of ideal.modulus st.modulus f

  -- 0 at all other words
  abbrev pub IsOn : List (List ℕ) → V → Type 0
  IsOn xs v = (y : List ℕ) → (Contains xs y → ⊥) → v y ≡ K.zero

  -- words of the degree, whose reducers are on them
  pub record AreClosedWords (xs : List (List ℕ)) : Type 0 where
    -- greater words stand first
    pub falling : AllPairs IsLetterwiseGreater xs
    -- each is in the letters of the ideal
    pub over : (x : List ℕ) → Contains xs x → IsOver (length ideal.weights) x
    -- each has degree d
    pub degree : (x : List ℕ) → Contains xs x → degree_of ideal.weights x ≡ d
    -- the reducer of each is 0 at all words that are not among them
    pub reducers_on : (x : List ℕ) (g : List Term) → Contains xs x → IsReducer G x g → IsOn xs (vec g)

  rest_closed : (x : List ℕ) (xs : List (List ℕ)) → AreClosedWords (x ∷ xs) → AreClosedWords xs
  rest_closed x xs h = record {
    falling = AllPairs-rest IsLetterwiseGreater x xs h.falling;
    over = λ y m. h.over y (Contains-more x xs y m);
    degree = λ y m. h.degree y (Contains-more x xs y m);
    reducers_on = λ y g m r z off. elim (listed (x ∷ xs) z) [
      | inr none ↦ h.reducers_on y g (Contains-more x xs y m) r z none
      | inl there ↦ elim (Contains-cases x xs z there) [
        | inr later ↦ absurd (off later)
        | inl is ↦ reducer_above ideal st d G lower y g (h.over y (Contains-more x xs y m)) (h.degree y (Contains-more x xs y m)) r z
            (subst (λ (u : List ℕ). IsLetterwiseGreater u y) is (All-contains (IsLetterwiseGreater x) xs y
            (AllPairs-first IsLetterwiseGreater x xs h.falling) m))
      ]
    ];
  }

  abbrev pub IsListedReducer : List (Option (List Term)) → V → Type 0
  IsListedReducer = parts.IsListedReducer ideal.modulus st.modulus

  -- entries at the contested columns, and a sum of multiples of reducers
  pub record IsLeft (xs : List (List ℕ)) (rs : List (Option (List Term))) (v : V) : Type 0 where
    -- an entry for each contested column
    pub entries : N
    -- what is beside them
    pub rest : V
    -- it is a sum of multiples of reducers
    pub spanned : IsInSpan K (List ℕ) (IsListedReducer rs) rest
    -- v is the entries at the words of their columns, and the rest
    pub sum : (y : List ℕ) → v y ≡ K.add (spread ideal.modulus st.modulus (contested_words xs rs) entries y) (rest y)

  with_first : Residue ideal.modulus → N → N
  with_first a u zero = a
  with_first a u (suc k) = u k

  spread-first : (x : List ℕ) (ws : List (List ℕ)) (a : Residue ideal.modulus) (u : N) (y : List ℕ) →
      spread ideal.modulus st.modulus (x ∷ ws) (with_first a u) y ≡ K.add (cond (bytes_eq x y) a K.zero) (spread ideal.modulus st.modulus ws u y)
  unfolding with_first
  spread-first x ws a u y = refl

  more_listed : (g : List Term) (rs : List (Option (List Term))) (v : V) → IsInSpan K (List ℕ) (IsListedReducer rs) v →
      IsInSpan K (List ℕ) (IsListedReducer (Some g ∷ rs)) v
  more_listed g rs v s = record {
    parts = s.parts;
    each = All-weaker (λ c. IsListedReducer rs c.1) (λ c. IsListedReducer (Some g ∷ rs) c.1)
        (λ c h. (h.0, Contains-more g (reducers_in rs) h.0 h.1, h.2)) s.parts s.each;
    sum = s.sum;
  }

  -- v is its entry at x times q and what is left
  regained : (x : List ℕ) (q v : V) (y : List ℕ) → K.add (K.mul (v x) (q y)) (cleared K (List ℕ) x q v y) ≡ v y
  regained x q v y =
      let negative : K.mul (K.neg (v x)) (q y) ≡ K.neg (K.mul (v x) (q y)) = K.mul_comm (K.neg (v x)) (q y) ∙ mul_neg K (q y) (v x)
      ∙ ap K.neg (K.mul_comm (q y) (v x)) in
      add_left_comm K (K.mul (v x) (q y)) (v y) (K.mul (K.neg (v x)) (q y))
      ∙ ap (K.add (v y)) (ap (K.add (K.mul (v x) (q y))) negative ∙ K.add_neg (K.mul (v x) (q y))) ∙ K.add_zero (v y)

  -- v at other words than x
  abbrev elsewhere : List ℕ → V → V
  elsewhere x v y = cond (bytes_eq x y) K.zero (v y)

  elsewhere-on : (x : List ℕ) (xs : List (List ℕ)) (v : V) → IsOn (x ∷ xs) v → IsOn xs (elsewhere x v)
  elsewhere-on x xs v on y off = elim (cases_Bool (bytes_eq x y)) [
    | inl is ↦ ap (λ (b : Bool). cond b K.zero (v y)) is
    | inr other ↦ ap (λ (b : Bool). cond b K.zero (v y)) other ∙ on y (λ m. elim (Contains-cases x xs y m) [
      | inl e ↦ not_equal x y other e
      | inr n ↦ off n
    ])
  ]

  here_and_elsewhere : (x : List ℕ) (v : V) (y : List ℕ) → K.add (cond (bytes_eq x y) (v x) K.zero) (elsewhere x v y) ≡ v y
  here_and_elsewhere x v y = both (bytes_eq x y) (λ e. (bytes_eq-Decides x y).0 e)
    where
      both : (b : Bool) → (b ≡ true → x ≡ y) → K.add (cond b (v x) K.zero) (cond b K.zero (v y)) ≡ v y
      both true e = K.add_zero (v x) ∙ ap v (e refl)
      both false e = zero_add K (v y)

  -- a contested column keeps its entry
  kept_entry : (x : List ℕ) (xs : List (List ℕ)) (rs : List (Option (List Term))) (v : V) → IsLeft xs rs (elsewhere x v) → IsLeft (x ∷ xs) (None ∷ rs) v
  kept_entry x xs rs v r = record {
    entries = with_first (v x) r.entries;
    rest = r.rest;
    spanned = r.spanned;
    sum = λ y. sym (ap (λ (n : Residue ideal.modulus). K.add n (r.rest y)) (spread-first x (contested_words xs rs) (v x) r.entries y)
        ∙ K.add_assoc (cond (bytes_eq x y) (v x) K.zero) (spread ideal.modulus st.modulus (contested_words xs rs) r.entries y) (r.rest y)
        ∙ ap (K.add (cond (bytes_eq x y) (v x) K.zero)) (sym (r.sum y)) ∙ here_and_elsewhere x v y);
  }

  -- the reducer of a column clears its entry
  cleared-on : (x : List ℕ) (xs : List (List ℕ)) (g : List Term) → IsReducer G x g → AreClosedWords (x ∷ xs) → (v : V) → IsOn (x ∷ xs) v →
      IsOn xs (cleared K (List ℕ) x (vec g) v)
  cleared-on x xs g r h v on y off = elim (listed (x ∷ xs) y) [
    | inr none ↦ ap₂ (λ (m n : Residue ideal.modulus). K.add m (K.mul (K.neg (v x)) n)) (on y none) (h.reducers_on x g first r y none)
        ∙ zero_add K (K.mul (K.neg (v x)) K.zero) ∙ mul_zero K (K.neg (v x))
    | inl there ↦ elim (Contains-cases x xs y there) [
      | inr later ↦ absurd (off later)
      | inl is ↦ ap (cleared K (List ℕ) x (vec g) v) (sym is) ∙ cleared_here K (List ℕ) (v x) (vec g x)
          (reducer_there ideal st d G lower x g (h.over x first) (h.degree x first) r)
    ]
  ]
    where
      first : Contains (x ∷ xs) x
      first = Contains-first x xs

  cleared_entry : (x : List ℕ) (xs : List (List ℕ)) (rs : List (Option (List Term))) (g : List Term) (v : V) →
      IsLeft xs rs (cleared K (List ℕ) x (vec g) v) → IsLeft (x ∷ xs) (Some g ∷ rs) v
  cleared_entry x xs rs g v r = record {
    entries = r.entries;
    rest = λ y. K.add (K.mul (v x) (vec g y)) (r.rest y);
    spanned = IsInSpan-add K (List ℕ) (IsListedReducer (Some g ∷ rs)) (λ y. K.mul (v x) (vec g y)) r.rest
        (IsInSpan-scaled K (List ℕ) (IsListedReducer (Some g ∷ rs)) (v x) (vec g)
        (IsInSpan-one K (List ℕ) (IsListedReducer (Some g ∷ rs)) (vec g) (g, Contains-first g (reducers_in rs), refl)))
        (more_listed g rs r.rest r.spanned);
    sum = λ y. sym (regained x (vec g) v y) ∙ ap (K.add (K.mul (v x) (vec g y))) (r.sum y)
        ∙ add_left_comm K (K.mul (v x) (vec g y)) (spread ideal.modulus st.modulus (contested_words xs rs) r.entries y) (r.rest y);
  }

  -- a vector that is 0 outside such columns is made of entries at the contested ones and a sum of multiples of the reducers of the others
  pub left_of : (xs : List (List ℕ)) (rs : List (Option (List Term))) → AllZip (HasReducer G) xs rs → AreClosedWords xs → (v : V) → IsOn xs v → IsLeft xs rs v
  left_of [] [] z h v on = record {
    entries = λ k. K.zero;
    rest = λ y. K.zero;
    spanned = IsInSpan-zero K (List ℕ) (IsListedReducer []);
    sum = λ y. on y (Contains-none y) ∙ sym (K.add_zero K.zero);
  }
  left_of [] (r ∷ rs) z h v on = absurd z
  left_of (x ∷ xs) [] z h v on = absurd z
  left_of (x ∷ xs) (None ∷ rs) z h v on = kept_entry x xs rs v (left_of xs rs z.1 (rest_closed x xs h) (elsewhere x v) (elsewhere-on x xs v on))
  left_of (x ∷ xs) (Some g ∷ rs) z h v on = cleared_entry x xs rs g v
      (left_of xs rs z.1 (rest_closed x xs h) (cleared K (List ℕ) x (vec g) v) (cleared-on x xs g z.0 h v on))
