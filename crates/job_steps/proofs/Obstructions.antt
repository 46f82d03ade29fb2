-- The obstructions of a degree are a list: one is looked for at each word of the degree and each left element.
use Rattle.std.proofs.Common.{◌≡◌, ◌≢◌, ◌⊎◌, ◌↔◌, ◌<◌, ◌≤◌, ℕ, List, [], ◌∷◌, ◌++◌, length, map, refl, sym, ap, ◌∙◌, inl, inr, arith, AllPairs, subst}
use Rattle.std.proofs.Common.{Some, None, append_assoc, append-nil, length-append}
use Rattle.std.specs.List.{Contains, flat_map, range_with_len, slice_get}
use Rattle.std.proofs.lemmas.Bool.{cases_eq, cases_lt}
use Rattle.std.proofs.lemmas.List.{append_cancel_left, nil_from_length}
use Rattle.std.proofs.lemmas.List.Elements.{All-nil}
use Rattle.std.proofs.lemmas.List.Kept.{AllPairs-cons}
use Rattle.std.proofs.lemmas.Option.{slice_get_cases, slice_get_within}
use Rattle.words.specs.Order.{IsLetterwiseGreater}
use Rattle.words.specs.Words.{degree_of}
use Rattle.words.proofs.Degrees.{Contains-range, range-rising}
use Rattle.words.proofs.Members.{AllPairs-flat_map, AllPairs-nil, Contains-cases, Contains-first, Contains-flat_map, Contains-flat_map_cases, Contains-map}
use Rattle.words.proofs.Members.{Contains-more, Contains-none}
use Rattle.free_poly.specs.declared.term.Term.{Term}
use Rattle.free_poly.specs.Poly.{lead_of}
use Rattle.ideal_laws.specs.Closure.{AreObstructions, IsFactorFree, IsObstruction, Overlap, OverlapsBefore, overlap_word}
use Rattle.ideal_laws.proofs.Meeting.{split}
use Rattle.ideal_laws.proofs.Search.{found, none, search_list}
use Rattle.job_steps.proofs.Reducers.{same_words}

both : {P Q : Type 0} → P ⊎ (P → ⊥) → Q ⊎ (Q → ⊥) → (P × Q) ⊎ (P × Q → ⊥)
both (inl p) (inl q) = inl (p, q)
both (inl p) (inr other) = inr (λ h. other h.1)
both (inr other) q = inr (λ h. other h.0)

some_letters : (w : List ℕ) → (w ≢ []) ⊎ (w ≢ [] → ⊥)
some_letters [] = inr (λ h. h refl)
some_letters (x ∷ w) = inl (λ e. cc e)

-- all ways to cut a word in two
cuts : List ℕ → List (List ℕ × List ℕ)
cuts [] = ([], []) ∷ []
cuts (x ∷ w) = ([], x ∷ w) ∷ map (λ (c : List ℕ × List ℕ). (x ∷ c.0, c.1)) (cuts w)

cut_listed : (a b : List ℕ) → Contains (cuts (a ++ b)) (a, b)
unfolding cuts
cut_listed [] [] = Contains-first ([], []) []
cut_listed [] (y ∷ b) = Contains-first ([], y ∷ b) (map (λ (c : List ℕ × List ℕ). (y ∷ c.0, c.1)) (cuts b))
cut_listed (x ∷ a) b = Contains-more ([], x ∷ (a ++ b)) (map (λ (c : List ℕ × List ℕ). (x ∷ c.0, c.1)) (cuts (a ++ b))) (x ∷ a, b)
    (Contains-map (λ (c : List ℕ × List ℕ). (x ∷ c.0, c.1)) (cuts (a ++ b)) (a, b) (cut_listed a b))

module _ (weights : List ℕ) (G : List (List Term)) (d : ℕ) where
  -- the element at this place has this leading word
  abbrev LeadsAt : ℕ → List ℕ → Type 0
  LeadsAt i w = (g : List Term) × (slice_get G i ≡ Some g) × (lead_of g ≡ Some w)

  leads_at : (i : ℕ) (w : List ℕ) → LeadsAt i w ⊎ (LeadsAt i w → ⊥)
  leads_at i w = elim (slice_get_cases G i).1 [
    | inl h ↦ by_element h.0 h.2
    | inr past ↦ inr (λ k. let e : None ≡ Some k.0 = sym past.1 ∙ k.1 in cc e)
  ]
    where
      by_element : (g : List Term) → slice_get G i ≡ Some g → LeadsAt i w ⊎ (LeadsAt i w → ⊥)
      by_element [] is = inr (λ k. let e : [] ≡ k.0 = cc (is, k.1) in let f : None ≡ Some w = ap lead_of e ∙ k.2 in cc f)
      by_element (t ∷ g) is = elim (same_words t.word w) [
        | inl e ↦ inl (t ∷ g, is, ap Some e)
        | inr other ↦ inr (λ k. let e : (t ∷ g) ≡ k.0 = cc (is, k.1) in let f : Some t.word ≡ Some w = ap lead_of e ∙ k.2 in
            other (let s : t.word ≡ w = cc f in s))
      ]

  abbrev Is : Overlap → Type 0
  Is o = IsObstruction weights G d o.left o.right o.before o.shared o.behind

  -- an obstruction at a word, with this left element
  abbrev IsAt : List ℕ → ℕ → Overlap → Type 0
  IsAt w i o = Is o × ((overlap_word o ≡ w) × (o.left ≡ i))

  is_obstruction : (o : Overlap) → Is o ⊎ (Is o → ⊥)
  is_obstruction o = elim (both (leads_at o.left (o.before ++ o.shared)) (both (leads_at o.right (o.shared ++ o.behind))
      (both (some_letters o.before) (both (some_letters o.shared) (both (some_letters o.behind) (cases_eq (degree_of weights (overlap_word o)) d)))))) [
        | inl h ↦ inl (record {
          first = h.0.0;
          second = h.1.0.0;
          at_left = h.0.1;
          at_right = h.1.0.1;
          first_lead = h.0.2;
          second_lead = h.1.0.2;
          some_before = h.1.1.0;
          some_shared = h.1.1.1.0;
          some_behind = h.1.1.1.1.0;
          degree = h.1.1.1.1.1;
        })
        | inr other ↦ inr (λ k. other (
          (k.first, k.at_left, k.first_lead),
          ((k.second, k.at_right, k.second_lead), (k.some_before, (k.some_shared, (k.some_behind, k.degree)))),
        ))
      ]

  is_at : (w : List ℕ) (i : ℕ) (o : Overlap) → IsAt w i o ⊎ (IsAt w i o → ⊥)
  is_at w i o = both (is_obstruction o) (both (same_words (overlap_word o) w) (cases_eq o.left i))

  -- the word cut in three, with any right element
  abbrev with_right : ℕ → List ℕ × List ℕ → List ℕ × List ℕ → List Overlap
  with_right i a c = map (λ j. record { left = i; right = j; before = a.0; shared = c.0; behind = c.1 }) (range_with_len 0 (length G))

  abbrev candidates : List ℕ → ℕ → List Overlap
  candidates w i = flat_map (λ (a : List ℕ × List ℕ). flat_map (with_right i a) (cuts a.1)) (cuts w)

  candidate : (o : Overlap) → Is o → Contains (candidates (overlap_word o) o.left) o
  candidate o h = Contains-flat_map (λ (a : List ℕ × List ℕ). flat_map (with_right o.left a) (cuts a.1)) (cuts (overlap_word o))
      (o.before, o.shared ++ o.behind) o
      (subst (λ (w : List ℕ). Contains (cuts w) (o.before, o.shared ++ o.behind)) (sym (append_assoc o.before o.shared o.behind))
      (cut_listed o.before (o.shared ++ o.behind)))
      (Contains-flat_map (with_right o.left (o.before, o.shared ++ o.behind)) (cuts (o.shared ++ o.behind)) (o.shared, o.behind) o
      (cut_listed o.shared o.behind)
      (Contains-map (λ j. record { left = o.left; right = j; before = o.before; shared = o.shared; behind = o.behind }) (range_with_len 0 (length G)) o.right
      (Contains-range 0 (length G) o.right (omega arith) (omega (arith, slice_get_within G o.right h.second h.at_right)))))

  module _ (free : IsFactorFree G) where
    -- the right leading word begins no later in the one of two obstructions at one word than in the other
    right_first : (o q : Overlap) → Is o → Is q → overlap_word o ≡ overlap_word q → o.left ≡ q.left → length o.before ≤ length q.before → o ≡ q
    right_first o q h k word left le =
        let first : h.first ≡ k.first = (let e : Some h.first ≡ Some k.first = sym h.at_left ∙ ap (slice_get G) left ∙ k.at_left in cc e) in
        let lead : o.before ++ o.shared ≡ q.before ++ q.shared =
        (let e : Some (o.before ++ o.shared) ≡ Some (q.before ++ q.shared) = sym h.first_lead ∙ ap lead_of first ∙ k.first_lead in cc e) in
        let behind : o.behind ≡ q.behind = append_cancel_left (o.before ++ o.shared) o.behind q.behind
        (word ∙ ap (λ (l : List ℕ). l ++ q.behind) (sym lead)) in
        let s = split o.before (o.shared ++ o.behind) q.before (q.shared ++ q.behind)
        (sym (append_assoc o.before o.shared o.behind) ∙ word ∙ append_assoc q.before q.shared q.behind) le in
        let right : q.right ≡ o.right = free q.right o.right k.second h.second (q.shared ++ q.behind) (o.shared ++ o.behind) k.at_right h.at_right
        k.second_lead h.second_lead
        (record { before = s.between; after = []; joined = s.rest ∙ sym (append-nil (s.between ++ (q.shared ++ q.behind))) }) in
        let second : h.second ≡ k.second = (let e : Some h.second ≡ Some k.second = sym h.at_right ∙ ap (slice_get G) (sym right) ∙ k.at_right in cc e) in
        let second_lead : o.shared ++ o.behind ≡ q.shared ++ q.behind =
        (let e : Some (o.shared ++ o.behind) ≡ Some (q.shared ++ q.behind) = sym h.second_lead ∙ ap lead_of second ∙ k.second_lead in cc e) in
        let none : s.between ≡ [] = nil_from_length s.between
        (omega (arith, ap length s.rest, ap length second_lead, length-append s.between (q.shared ++ q.behind))) in
        let before : o.before ≡ q.before = sym (append-nil o.before) ∙ ap (λ (l : List ℕ). o.before ++ l) (sym none) ∙ sym s.longer in
        let shared : o.shared ≡ q.shared = append_cancel_left o.before o.shared q.shared (lead ∙ ap (λ (l : List ℕ). l ++ q.shared) (sym before)) in
        λ i. record { left = left i; right = sym right i; before = before i; shared = shared i; behind = behind i }

    unique : (w : List ℕ) (i : ℕ) (o q : Overlap) → IsAt w i o → IsAt w i q → o ≡ q
    unique w i o q h k = elim (cases_lt (length o.before) (length q.before)) [
      | inl less ↦ right_first o q h.0 k.0 (h.1.0 ∙ sym k.1.0) (h.1.1 ∙ sym k.1.1) (omega (arith, less))
      | inr le ↦ sym (right_first q o k.0 h.0 (k.1.0 ∙ sym h.1.0) (k.1.1 ∙ sym h.1.1) le)
    ]

    -- the obstruction at a word with this left element, if there is one
    record FoundAt (w : List ℕ) (i : ℕ) : Type 0 where
      pub overlaps : List Overlap
      pub exactly : (o : Overlap) → Contains overlaps o ↔ IsAt w i o
      pub ordered : AllPairs OverlapsBefore overlaps

    found_at : (w : List ℕ) (i : ℕ) → FoundAt w i
    found_at w i = elim (search_list (IsAt w i) (is_at w i) (candidates w i)) [
      | found o m h ↦ record {
        overlaps = o ∷ [];
        exactly = λ q. (
          λ n. elim (Contains-cases o [] q n) [
            | inl e ↦ subst (IsAt w i) e h
            | inr other ↦ absurd (Contains-none q other)
          ],
          λ k. subst (Contains (o ∷ [])) (unique w i o q h k) (Contains-first o []),
        );
        ordered = AllPairs-cons OverlapsBefore o [] (All-nil (OverlapsBefore o)) (AllPairs-nil OverlapsBefore);
      }
      | none all ↦ record {
        overlaps = [];
        exactly = λ q. (
          λ n. absurd (Contains-none q n),
          λ k. absurd (all q (subst (λ (j : ℕ). Contains (candidates w j) q) k.1.1
              (subst (λ (v : List ℕ). Contains (candidates v q.left) q) k.1.0 (candidate q k.0))) k),
        );
        ordered = AllPairs-nil OverlapsBefore;
      }
    ]

    abbrev at_word : List ℕ → List Overlap
    at_word w = flat_map (λ i. (found_at w i).overlaps) (range_with_len 0 (length G))

    at_word-says : (w : List ℕ) (o : Overlap) → Contains (at_word w) o → Is o × (overlap_word o ≡ w)
    at_word-says w o m =
        let c = Contains-flat_map_cases (λ i. (found_at w i).overlaps) (range_with_len 0 (length G)) o m in
        let h = ((found_at w c.0).exactly o).0 c.2 in
        (h.0, h.1.0)

    at_word-ordered : (w : List ℕ) → AllPairs OverlapsBefore (at_word w)
    at_word-ordered w = AllPairs-flat_map (λ i. (found_at w i).overlaps) (λ i j. i < j) OverlapsBefore (λ i. (found_at w i).ordered)
        (λ i j o q less m n.
        let h = ((found_at w i).exactly o).0 m in
        let k = ((found_at w j).exactly q).0 n in
        inr (h.1.0 ∙ sym k.1.0, omega (arith, less, h.1.1, k.1.1)))
        (range_with_len 0 (length G)) (range-rising 0 (length G))

    -- over a list that falls and has the words of all obstructions
    pub some_obstructions : (all : List (List ℕ)) → AllPairs IsLetterwiseGreater all → ((o : Overlap) → Is o → Contains all (overlap_word o)) →
        (overlaps : List Overlap) × AreObstructions weights G d overlaps
    some_obstructions all falls has = (
      flat_map at_word all,
      record {
        exactly = λ o. (
          λ m. let c = Contains-flat_map_cases at_word all o m in (at_word-says c.0 o c.2).0,
          λ h. Contains-flat_map at_word all (overlap_word o) o (has o h)
              (Contains-flat_map (λ i. (found_at (overlap_word o) i).overlaps) (range_with_len 0 (length G)) o.left o
              (Contains-range 0 (length G) o.left (omega arith) (omega (arith, slice_get_within G o.left h.first h.at_left)))
              (((found_at (overlap_word o) o.left).exactly o).1 (h, (refl, refl)))),
        );
        ordered = AllPairs-flat_map at_word IsLetterwiseGreater OverlapsBefore at_word-ordered
            (λ v w o q greater m n.
            inl (subst (λ (x : List ℕ). IsLetterwiseGreater x (overlap_word q)) (sym (at_word-says v o m).1)
            (subst (IsLetterwiseGreater v) (sym (at_word-says w q n).1) greater)))
            all falls;
      },
    )
