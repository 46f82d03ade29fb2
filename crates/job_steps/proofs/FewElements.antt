-- A limit on the words of a degree or on the terms bounds the elements of its reduced basis.
use Rattle.std.proofs.Common.{◌≡◌, ◌≤◌, ℕ, List, [], ◌∷◌, length, map, sym, ap, ◌∙◌, inl, inr, arith, subst, AllPairs, length-append}
use Rattle.std.specs.List.{Contains, flat_map}
use Rattle.std.proofs.lemmas.List.{length-map}
use Rattle.std.proofs.lemmas.List.Elements.{All-contains, All-head}
use Rattle.words.specs.Order.{IsLetterwiseGreater}
use Rattle.words.specs.Words.{IsOver, degree_of, words_of_degree}
use Rattle.words.proofs.Degrees.{lists_words, words_of_degree-falling}
use Rattle.words.proofs.Members.{AllPairs-first, AllPairs-map, AllPairs-rest, Contains-cases, Contains-first, Contains-map_cases, Contains-more, Contains-none}
use Rattle.free_poly.specs.declared.term.Term.{Term}
use Rattle.free_poly.specs.Poly.{IsMonic, lead_or_none}
use Rattle.free_poly.proofs.NormalForms.{letterwise-trans}
use Rattle.free_poly.proofs.Totals.{letterwise-apart}
use Rattle.ideal_laws.specs.Ideal.{Ideal}
use Rattle.ideal_laws.specs.declared.limits.LimitKind.{LimitKind}
use Rattle.ideal_laws.specs.declared.limits.LimitKind.TheVariants.{PlainWords, Terms}
use Rattle.ideal_laws.specs.Basis.{HasGreaterLead, IsReduced, IsReducedBasis}
use Rattle.ideal_laws.specs.Engine.{Elements}
use Rattle.ideal_laws.specs.Laws.{IsSetting}
use Rattle.ideal_laws.specs.Quantities.{IsQuantity, NonePasses, Quantities, terms_in}
use Rattle.ideal_laws.proofs.OneBasis.{bases_are_one}
use Rattle.job_steps.specs.Reaches.{BoundsElements}
use Rattle.free_poly.proofs.Leads.{lead-is}

-- a quantity that has a limit and does not pass it
within_limit : (Q : Quantities) (limits : List (LimitKind × ℕ)) (l : LimitKind × ℕ) → Contains limits l → NonePasses Q limits → (q : ℕ) × Q l.0 q × (q ≤ l.1)
within_limit Q [] l m none = absurd (Contains-none l m)
within_limit Q (k ∷ ks) l m none = elim (Contains-cases k ks l m) [
  | inl e ↦ subst (λ (j : LimitKind × ℕ). (q : ℕ) × Q j.0 q × (q ≤ j.1)) e none.0
  | inr n ↦ within_limit Q ks l n none.1
]

-- a list that falls is no longer than one that falls and has its words
no_longer : (xs ys : List (List ℕ)) → AllPairs IsLetterwiseGreater xs → AllPairs IsLetterwiseGreater ys →
    ((w : List ℕ) → Contains xs w → Contains ys w) → length xs ≤ length ys
no_longer [] ys h k s = omega arith
no_longer (x ∷ xs) [] h k s = absurd (Contains-none x (s x (Contains-first x xs)))
no_longer (x ∷ xs) (y ∷ ys) h k s = elim (Contains-cases y ys x (s x (Contains-first x xs))) [
  | inl is ↦ omega (
    arith,
    no_longer xs ys (AllPairs-rest IsLetterwiseGreater x xs h) (AllPairs-rest IsLetterwiseGreater y ys k)
        (λ w m. elim (Contains-cases y ys w (s w (Contains-more x xs w m))) [
          | inl e ↦ absurd (letterwise-apart x w (above w m) (sym is ∙ e))
          | inr n ↦ n
        ]),
  )
  | inr later ↦ omega (
    arith,
    no_longer (x ∷ xs) ys h (AllPairs-rest IsLetterwiseGreater y ys k)
        (λ w m. elim (Contains-cases y ys w (s w m)) [
          | inl e ↦ elim (Contains-cases x xs w m) [
            | inl same ↦ subst (Contains ys) same later
            | inr n ↦ absurd (letterwise-apart y w (letterwise-trans y x w (first x later) (above w n)) e)
          ]
          | inr n ↦ n
        ]),
  )
]
  where
    above : (w : List ℕ) → Contains xs w → IsLetterwiseGreater x w
    above w m = All-contains (IsLetterwiseGreater x) xs w (AllPairs-first IsLetterwiseGreater x xs h) m

    first : (w : List ℕ) → Contains ys w → IsLetterwiseGreater y w
    first w m = All-contains (IsLetterwiseGreater y) ys w (AllPairs-first IsLetterwiseGreater y ys k) m

some_terms : (fs : List (List Term)) → ((f : List Term) → Contains fs f → IsMonic f) → length fs ≤ terms_in fs
some_terms [] monic = omega arith
some_terms ([] ∷ fs) monic = absurd (monic [] (Contains-first [] fs))
some_terms ((t ∷ f) ∷ fs) monic =
    omega (arith, some_terms fs (λ g m. monic g (Contains-more (t ∷ f) fs g m)), length-append (t ∷ f) (flat_map (λ (g : List Term). g) fs))

module _ (ideal : Ideal) (st : IsSetting ideal) (d : ℕ) (below : Elements) (basis : List (List Term)) (is_basis : IsReducedBasis ideal d basis) where
  lead_listed : (f : List Term) → Contains basis f → Contains (words_of_degree ideal.weights d) (lead_or_none f)
  lead_listed f m = at f ((is_basis.exactly f).0 m)
    where
      at : (f : List Term) → IsReduced ideal d f → Contains (words_of_degree ideal.weights d) (lead_or_none f)
      at [] h = absurd h.monic
      at (t ∷ f) h = (lists_words ideal.weights st.are_weights d t.word).1 (
        All-head (λ (s : Term). IsOver (length ideal.weights) s.word) t f h.inside.element.letters,
        All-head (λ (s : Term). degree_of ideal.weights s.word ≡ d) t f h.inside.element.degree,
      )

  few_leads : length basis ≤ length (words_of_degree ideal.weights d)
  few_leads = omega (
    arith,
    length-map basis lead_or_none,
    no_longer (map lead_or_none basis) (words_of_degree ideal.weights d)
        (AllPairs-map lead_or_none HasGreaterLead IsLetterwiseGreater
        (λ f g h. subst (λ (w : List ℕ). IsLetterwiseGreater w (lead_or_none g)) (sym (lead-is f h.of_f h.leads_f))
        (subst (IsLetterwiseGreater h.of_f) (sym (lead-is g h.of_g h.leads_g)) h.greater)) basis is_basis.falling)
        (words_of_degree-falling ideal.weights st.are_weights d)
        (λ w m. let c = Contains-map_cases lead_or_none basis w m in subst (Contains (words_of_degree ideal.weights d)) c.2 (lead_listed c.0 c.1)),
  )

  few_by : (kind : LimitKind) (number : ℕ) → BoundsElements kind number → (q : ℕ) → IsQuantity ideal below d kind q → q ≤ number →
      length basis ≤ 16777216
  few_by PlainWords number bounds q h le = omega (arith, few_leads, h, le, bounds)
  few_by Terms number bounds q h le =
      let same = bases_are_one ideal d basis h.0 is_basis h.1 in
      omega (arith, some_terms basis (λ f m. ((is_basis.exactly f).0 m).monic), ap terms_in same, h.2, le, bounds)
  few_by kind number bounds q h le = absurd bounds

  -- where no quantity passes and a limit bounds the elements, the reduced basis has at most 16,777,216
  pub few_elements : (limits : List (LimitKind × ℕ)) (l : LimitKind × ℕ) → Contains limits l → BoundsElements l.0 l.1 →
      NonePasses (IsQuantity ideal below d) limits → length basis ≤ 16777216
  few_elements limits l among bounds none =
      let q = within_limit (IsQuantity ideal below d) limits l among none in
      few_by l.0 l.1 bounds q.0 q.1 q.2
