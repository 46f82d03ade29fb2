-- A word has its reducers at the least place where a leading word stands, or it is normal.
use Rattle.std.proofs.Common.{◌≡◌, ◌⊎◌, ◌+◌, ◌<◌, ℕ, zero, suc, true, List, [], ◌∷◌, length, map, take, drop, refl, sym, ap, ◌∙◌, inl, inr, arith, subst}
use Rattle.std.proofs.Common.{Option, Some, None, bytes_eq}
use Rattle.std.specs.List.{Contains}
use Rattle.std.proofs.lemmas.Bool.{cases_Bool, cases_lt}
use Rattle.std.proofs.lemmas.Slice.Eq.{bytes_eq-Decides}
use Rattle.words.specs.Words.{OccursAt}
use Rattle.words.proofs.Members.{Contains-map, Contains-map_cases, Contains-none}
use Rattle.free_poly.specs.declared.term.Term.{Term}
use Rattle.free_poly.specs.Poly.{lead_of, lead_or_none}
use Rattle.free_poly.specs.Terms.{product}
use Rattle.free_poly.proofs.Totals.{here}
use Rattle.ideal_laws.specs.Closure.{HasReducer, IsNormal, IsReducer}
use Rattle.ideal_laws.proofs.Search.{found, in_kept, kept, kept-says, none, search_list}

-- two words are equal or not
pub same_words : (a b : List ℕ) → (a ≡ b) ⊎ (a ≡ b → ⊥)
same_words a b = elim (cases_Bool (bytes_eq a b)) [
  | inl is ↦ inl ((bytes_eq-Decides a b).0 is)
  | inr other ↦ inr (λ e. let t : bytes_eq a b ≡ true = here a b e in cc)
]

-- an option holds one word at most
pub some_word : (v w : List ℕ) → Some v ≡ Some w → v ≡ w
some_word v w e = cc e

module _ (G : List (List Term)) (w : List ℕ) where
  -- the leading word of g stands in w from this place
  record StandsAt (k : ℕ) (g : List Term) : Type 0 where
    pub lead : List ℕ
    pub is_lead : lead_of g ≡ Some lead
    pub here_it : OccursAt lead w k

  stands_at : (k : ℕ) (g : List Term) → StandsAt k g ⊎ (StandsAt k g → ⊥)
  stands_at k [] = inr (λ s. let e : None ≡ Some s.lead = s.is_lead in cc e)
  stands_at k (t ∷ g) = elim (cases_lt (length w) (k + length t.word)) [
    | inl long ↦ inr (λ s. omega (arith, long, s.here_it.within, ap length (some_word t.word s.lead s.is_lead)))
    | inr within ↦ elim (same_words (take (length t.word) (drop k w)) t.word) [
      | inl is ↦ inl (record { lead = t.word; is_lead = refl; here_it = record { within = within; same = is } })
      | inr other ↦ inr (λ s. other
          (subst (λ (v : List ℕ). take (length v) (drop k w) ≡ v) (sym (some_word t.word s.lead s.is_lead)) s.here_it.same))
    ]
  ]

  abbrev NoneBefore : ℕ → Type 0
  NoneBefore n = (k : ℕ) (g : List Term) → k < n → Contains G g → StandsAt k g → ⊥

  -- the least place at which a leading word stands
  record IsLeast : Type 0 where
    -- the place
    pub at : ℕ
    pub before : NoneBefore at
    -- an element whose leading word stands there
    pub element : List Term
    -- it is one of the basis
    pub among : Contains G element
    pub stands : StandsAt at element

  least : (n : ℕ) → NoneBefore n ⊎ IsLeast
  least zero = inl (λ k g below m s. omega (arith, below))
  least (suc n) = elim (least n) [
    | inr f ↦ inr f
    | inl before ↦ elim (search_list (StandsAt n) (stands_at n) G) [
      | found g m s ↦ inr (record { at = n; before = before; element = g; among = m; stands = s })
      | none all ↦ inl (λ k g below m s. elim (cases_lt k n) [
        | inl lower ↦ before k g lower m s
        | inr last ↦ all g m (subst (λ (j : ℕ). StandsAt j g) (let e : k ≡ n = omega (arith, below, last) in e) s)
      ])
    ]
  ]

  abbrev reducer_by : ℕ → List Term → List Term
  reducer_by k g = product (take k w) g (drop (k + length (lead_or_none g)) w)

  reducer_by-is : (k : ℕ) (g : List Term) (v : List ℕ) → lead_of g ≡ Some v → reducer_by k g ≡ product (take k w) g (drop (k + length v) w)
  reducer_by-is k [] v e = refl
  reducer_by-is k (t ∷ g) v e = ap (λ (u : List ℕ). product (take k w) (t ∷ g) (drop (k + length u) w)) (some_word t.word v e)

  -- all reducers, and one of them where there are some
  pub record HasReducers : Type 0 where
    pub first : Option (List Term)
    pub is_first : HasReducer G w first
    pub all : List (List Term)
    pub each : (r : List Term) → Contains all r → IsReducer G w r
    pub listed : (r : List Term) → IsReducer G w r → Contains all r

  is_reducer : (l : IsLeast) (g : List Term) → Contains G g → StandsAt l.at g → IsReducer G w (reducer_by l.at g)
  is_reducer l g m s = record {
    element = g;
    lead = s.lead;
    at = l.at;
    among = m;
    is_lead = s.is_lead;
    here = s.here_it;
    least = λ h v k n is o. elim (cases_lt k l.at) [
      | inl lower ↦ absurd (l.before k h lower n (record { lead = v; is_lead = is; here_it = o }))
      | inr le ↦ le
    ];
    is = reducer_by-is l.at g s.lead s.is_lead;
  }

  listed_at : (l : IsLeast) (r : List Term) → IsReducer G w r → Contains (map (reducer_by l.at) (kept (StandsAt l.at) (stands_at l.at) G)) r
  listed_at l r h =
      let early = h.least l.element l.stands.lead l.at l.among l.stands.is_lead l.stands.here_it in
      let place : h.at ≡ l.at = elim (cases_lt h.at l.at) [
        | inl lower ↦ absurd (l.before h.at h.element lower h.among (record { lead = h.lead; is_lead = h.is_lead; here_it = h.here }))
        | inr late ↦ let e : h.at ≡ l.at = omega (arith, early, late) in e
      ] in
      let stands : StandsAt l.at h.element =
      subst (λ (k : ℕ). StandsAt k h.element) place (record { lead = h.lead; is_lead = h.is_lead; here_it = h.here }) in
      let is : reducer_by l.at h.element ≡ r = ap (λ (k : ℕ). reducer_by k h.element) (sym place)
      ∙ reducer_by-is h.at h.element h.lead h.is_lead ∙ sym h.is in
      subst (Contains (map (reducer_by l.at) (kept (StandsAt l.at) (stands_at l.at) G))) is
      (Contains-map (reducer_by l.at) (kept (StandsAt l.at) (stands_at l.at) G) h.element
      (in_kept (StandsAt l.at) (stands_at l.at) G h.element h.among stands))

  -- each word has a list of all its reducers
  pub has_reducers : HasReducers
  has_reducers = elim (least (suc (length w))) [
    | inl before ↦
        let normal : IsNormal G w = λ g v k m is o.
        before k g (omega (arith, o.within)) m (record { lead = v; is_lead = is; here_it = o }) in
        record {
          first = None;
          is_first = normal;
          all = [];
          each = λ r m. absurd (Contains-none r m);
          listed = λ r h. absurd (normal h.element h.lead h.at h.among h.is_lead h.here);
        }
    | inr l ↦ record {
      first = Some (reducer_by l.at l.element);
      is_first = is_reducer l l.element l.among l.stands;
      all = map (reducer_by l.at) (kept (StandsAt l.at) (stands_at l.at) G);
      each = λ r m.
          let c = Contains-map_cases (reducer_by l.at) (kept (StandsAt l.at) (stands_at l.at) G) r m in
          let k = kept-says (StandsAt l.at) (stands_at l.at) G c.0 c.1 in
          subst (IsReducer G w) c.2 (is_reducer l c.0 k.0 k.1);
      listed = listed_at l;
    }
  ]

  -- a word is normal or not
  pub is_normal : IsNormal G w ⊎ (IsNormal G w → ⊥)
  is_normal = by_first has_reducers.first has_reducers.is_first
    where
      by_first : (o : Option (List Term)) → HasReducer G w o → IsNormal G w ⊎ (IsNormal G w → ⊥)
      by_first None h = inl h
      by_first (Some r) h = inr (λ normal. normal h.element h.lead h.at h.among h.is_lead h.here)
