-- Relations, obstruction rows and reducers of a degree have words of this degree alone.
use Rattle.std.proofs.Common.{◌≡◌, ◌⊎◌, ◌+◌, ◌*◌, ◌-◌, ◌<◌, ℕ, List, [], ◌∷◌, ◌++◌, length, take, drop, sym, ap, ◌∙◌, inl}
use Rattle.std.proofs.Common.{inr, arith, subst, append_assoc, Some}
use Rattle.std.specs.List.{Contains}
use Rattle.std.proofs.lemmas.List.{drop-drop, take-append-drop}
use Rattle.std.proofs.lemmas.List.Elements.{All-append, All-cons, All-contains, All-head, All-map, All-nil}
use Rattle.std.proofs.lemmas.Option.{get_or_from_slice_get, slice_get_within}
use Rattle.words.specs.Order.{IsLetterwiseGreater}
use Rattle.words.specs.Words.{IsOver, degree_of, words_of_degree}
use Rattle.words.proofs.Degrees.{lists_words}
use Rattle.words.proofs.Weights.{degree_of-append}
use Rattle.words.proofs.Members.{AllPairs-first, All-from_members, Contains-cases, Contains-map_cases, Contains-none}
use Rattle.free_poly.specs.declared.term.Term.{Term}
use Rattle.free_poly.specs.Poly.{IsPolynomial, lead_of}
use Rattle.free_poly.specs.Terms.{HasDegree, HasOneDegree, UsesLetters, product, scaled}
use Rattle.free_poly.proofs.Products.{HasDegree-product, HasOneDegree-from, IsPolynomial-product, UsesLetters-product, degree_of-round}
use Rattle.ideal_laws.specs.Closure.{IsObstruction, IsReducer, Overlap, obstruction_row, overlap_word}
use Rattle.ideal_laws.specs.Engine.{Elements, of_degree}
use Rattle.ideal_laws.specs.Ideal.{Ideal, IsElement}
use Rattle.ideal_laws.specs.Kept.{IsBelow, lead_degree}
use Rattle.ideal_laws.specs.Laws.{IsRelation, IsSetting}
use Rattle.ideal_laws.proofs.Closed.{lead-product}
use Rattle.ideal_laws.proofs.Factors.{All-back, All-front}
use Rattle.ideal_laws.proofs.Lower.{lists_lower, of_degree-says}
use Rattle.job_steps.proofs.Closures.{words_in}
use Rattle.job_steps.proofs.Reducers.{some_word}

-- a word of a polynomial is its leading word or less
first_or_less : (f : List Term) (w v : List ℕ) → IsPolynomial f → lead_of f ≡ Some w → Contains (words_in f) v → (w ≡ v) ⊎ IsLetterwiseGreater w v
first_or_less [] w v form is m = absurd (Contains-none v m)
first_or_less (t ∷ f) w v form is m =
    let c = Contains-map_cases (λ (s : Term). s.word) (t ∷ f) v m in
    let lead : t.word ≡ w = some_word t.word w is in
    elim (Contains-cases t f c.0 c.1) [
      | inl same ↦ inl (sym lead ∙ ap (λ (s : Term). s.word) same ∙ c.2)
      | inr n ↦ inr (subst (λ (x : List ℕ). IsLetterwiseGreater x v) lead (subst (IsLetterwiseGreater t.word) c.2
          (All-contains (λ (s : Term). IsLetterwiseGreater t.word s.word) f c.0
          (AllPairs-first (λ (s u : Term). IsLetterwiseGreater s.word u.word) t f form.falling) n)))
    ]

has_degree : (weights : List ℕ) (d : ℕ) (f : List Term) → HasOneDegree weights f → lead_degree weights f ≡ d → HasDegree weights d f
has_degree weights d [] one is = All-nil (λ t. degree_of weights t.word ≡ d)
has_degree weights d (t ∷ f) one is = All-cons (λ s. degree_of weights s.word ≡ d) t f is (All-from_members (λ s. degree_of weights s.word ≡ d) f
    (λ s m. sym (All-contains (λ (u : Term). degree_of weights t.word ≡ degree_of weights u.word) f s
    (AllPairs-first (λ (a b : Term). degree_of weights a.word ≡ degree_of weights b.word) t f one) m) ∙ is))

module _ (ideal : Ideal) (st : IsSetting ideal) (d : ℕ) (below : Elements) (is_below : IsBelow ideal d below) where
  abbrev G : List (List Term)
  G = below.elements

  abbrev letters : ℕ
  letters = length ideal.weights

  -- all words of the degree
  abbrev pub all_words : List (List ℕ)
  all_words = words_of_degree ideal.weights d

  -- words of the degree alone
  abbrev pub IsInDegree : List Term → Type 0
  IsInDegree f = (v : List ℕ) → Contains (words_in f) v → Contains all_words v

  listed_in : (w : List ℕ) → IsOver letters w → degree_of ideal.weights w ≡ d → Contains all_words w
  listed_in w over e = (lists_words ideal.weights st.are_weights d w).1 (over, e)

  in_degree : (f : List Term) → UsesLetters letters f → HasDegree ideal.weights d f → IsInDegree f
  in_degree f uses degree v m =
      let c = Contains-map_cases (λ (t : Term). t.word) f v m in
      subst (Contains all_words) c.2 (listed_in c.0.word (All-contains (λ (t : Term). IsOver letters t.word) f c.0 uses c.1)
      (All-contains (λ (t : Term). degree_of ideal.weights t.word ≡ d) f c.0 degree c.1))

  element_of : (g : List Term) → Contains G g → (e : ℕ) × IsElement ideal.modulus ideal.weights e g
  element_of g m = let r = (lists_lower ideal st d below is_below g).0 m in (r.0, r.2.inside.element)

  lead_in : (g : List Term) (v : List ℕ) (e : ℕ) → IsElement ideal.modulus ideal.weights e g → lead_of g ≡ Some v → IsOver letters v
      × (degree_of ideal.weights v ≡ e)
  lead_in [] v e h is = cc is
  lead_in (t ∷ g) v e h is =
      let same : t.word ≡ v = some_word t.word v is in (
        subst (IsOver letters) same (All-head (λ (s : Term). IsOver letters s.word) t g h.letters),
        ap (degree_of ideal.weights) (sym same) ∙ All-head (λ (s : Term). degree_of ideal.weights s.word ≡ e) t g h.degree,
      )

  -- a relation of the degree has words of it alone
  pub relation_in : (f : List Term) → Contains (of_degree ideal.weights d ideal.relations) f → IsInDegree f
  relation_in f m =
      let r = of_degree-says ideal.weights d ideal.relations f m in
      let h = All-contains (IsRelation ideal.modulus ideal.weights) ideal.relations f st.are_relations r.0 in
      in_degree f h.letters (has_degree ideal.weights d f h.one_degree r.1)

  -- what stands round a leading word
  round_is : (w r : List ℕ) (at : ℕ) → take (length r) (drop at w) ≡ r → take at w ++ r ++ drop (at + length r) w ≡ w
  round_is w r at same =
      append_assoc (take at w) r (drop (at + length r) w)
      ∙ ap (λ (l : List ℕ). take at w ++ (l ++ drop (at + length r) w)) (sym same)
      ∙ ap (λ (l : List ℕ). take at w ++ (take (length r) (drop at w) ++ l)) (sym (drop-drop (length r) at w))
      ∙ ap (λ (l : List ℕ). take at w ++ l) (take-append-drop (length r) (drop at w)) ∙ take-append-drop at w

  -- a reducer of a word of the degree has words of it alone
  pub reducer_in : (w v : List ℕ) (r : List Term) → Contains all_words w → IsReducer G w r → Contains (words_in r) v → Contains all_words v
  reducer_in w v r among h m =
      let e = element_of h.element h.among in
      let says = (lists_words ideal.weights st.are_weights d w).0 among in
      let u = take h.at w in
      let x = drop (h.at + length h.lead) w in
      let whole : w ≡ u ++ h.lead ++ x = sym (round_is w h.lead h.at h.here.same) in
      let over : IsOver letters (u ++ h.lead ++ x) = subst (IsOver letters) whole says.0 in
      let degree = degree_of-round ideal.weights u h.lead x in
      let sum : degree_of ideal.weights u + e.0 + degree_of ideal.weights x ≡ d =
      omega (arith, degree, ap (degree_of ideal.weights) whole, says.1, (lead_in h.element h.lead e.0 e.1 h.is_lead).1) in
      in_degree (product u h.element x)
      (UsesLetters-product letters u h.element x (All-front (λ n. n < letters) u h.lead (All-front (λ n. n < letters) (u ++ h.lead) x over))
      (All-back (λ n. n < letters) (u ++ h.lead) x over) e.1.letters)
      (subst (λ (n : ℕ). HasDegree ideal.weights n (product u h.element x)) sum (HasDegree-product ideal.weights e.0 u h.element x e.1.degree))
      v (subst (λ (f : List Term). Contains (words_in f) v) h.is m)

  -- a word of a reducer is the word that it reduces, or less
  pub reducer_less : (w v : List ℕ) (r : List Term) → IsReducer G w r → Contains (words_in r) v → (w ≡ v) ⊎ IsLetterwiseGreater w v
  reducer_less w v r h m =
      let e = element_of h.element h.among in
      let u = take h.at w in
      let x = drop (h.at + length h.lead) w in
      first_or_less (product u h.element x) w v
      (IsPolynomial-product ideal.weights st.are_weights u h.element x (HasOneDegree-from ideal.weights e.0 h.element e.1.degree) e.1.form)
      (lead-product u h.element x h.lead h.is_lead ∙ ap Some (round_is w h.lead h.at h.here.same))
      (subst (λ (f : List Term). Contains (words_in f) v) h.is m)

  module _ (o : Overlap) (h : IsObstruction ideal.weights G d o.left o.right o.before o.shared o.behind) where
    left_element : (e : ℕ) × IsElement ideal.modulus ideal.weights e h.first
    left_element = element_of h.first (o.left, slice_get_within G o.left h.first h.at_left, get_or_from_slice_get G o.left h.first h.first h.at_left)

    right_element : (e : ℕ) × IsElement ideal.modulus ideal.weights e h.second
    right_element = element_of h.second (o.right, slice_get_within G o.right h.second h.at_right, get_or_from_slice_get G o.right h.second h.second h.at_right)

    left_lead : IsOver letters (o.before ++ o.shared) × (degree_of ideal.weights (o.before ++ o.shared) ≡ left_element.0)
    left_lead = lead_in h.first (o.before ++ o.shared) left_element.0 left_element.1 h.first_lead

    right_lead : IsOver letters (o.shared ++ o.behind) × (degree_of ideal.weights (o.shared ++ o.behind) ≡ right_element.0)
    right_lead = lead_in h.second (o.shared ++ o.behind) right_element.0 right_element.1 h.second_lead

    behind_over : IsOver letters o.behind
    behind_over = All-back (λ n. n < letters) o.shared o.behind right_lead.0

    -- the word of an overlap is one of the degree
    pub overlap_in : Contains all_words (overlap_word o)
    overlap_in = listed_in (overlap_word o) (All-append (λ n. n < letters) (o.before ++ o.shared) o.behind left_lead.0 behind_over) h.degree

    -- its row has words of the degree alone
    pub row_in : IsInDegree (obstruction_row ideal.modulus h.first o.behind o.before h.second)
    row_in =
        let before_over = All-front (λ n. n < letters) o.before o.shared left_lead.0 in
        let none = All-nil (λ n. n < letters) in
        let one = product [] h.first o.behind in
        let two = product o.before h.second [] in
        let left_sum : degree_of ideal.weights [] + left_element.0 + degree_of ideal.weights o.behind ≡ d =
        omega (arith, degree_of-append ideal.weights (o.before ++ o.shared) o.behind, h.degree, left_lead.1) in
        let right_sum : degree_of ideal.weights o.before + right_element.0 + degree_of ideal.weights [] ≡ d =
        omega (
          arith,
          degree_of-append ideal.weights o.before (o.shared ++ o.behind),
          ap (degree_of ideal.weights) (append_assoc o.before o.shared o.behind),
          h.degree,
          right_lead.1,
        ) in
        in_degree (one ++ scaled (ideal.modulus - 1) two)
        (All-append (λ t. IsOver letters t.word) one (scaled (ideal.modulus - 1) two)
        (UsesLetters-product letters [] h.first o.behind none behind_over left_element.1.letters)
        (All-map (λ t. IsOver letters t.word) (λ t. record { word = t.word; coefficient = (ideal.modulus - 1) * t.coefficient }) two
        (UsesLetters-product letters o.before h.second [] before_over none right_element.1.letters)))
        (All-append (λ t. degree_of ideal.weights t.word ≡ d) one (scaled (ideal.modulus - 1) two)
        (subst (λ (n : ℕ). HasDegree ideal.weights n one) left_sum (HasDegree-product ideal.weights left_element.0 [] h.first o.behind left_element.1.degree))
        (All-map (λ t. degree_of ideal.weights t.word ≡ d) (λ t. record { word = t.word; coefficient = (ideal.modulus - 1) * t.coefficient }) two
        (subst (λ (n : ℕ). HasDegree ideal.weights n two) right_sum (HasDegree-product ideal.weights right_element.0 o.before h.second []
        right_element.1.degree))))
