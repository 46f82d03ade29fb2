-- The elements row by row.
use Rattle.std.proofs.Common.{◌≡◌, ◌+◌, ◌<◌, ℕ, List, [], ◌∷◌, ◌++◌, length, take, get_or, sym, ap, ◌∙◌, inl, inr}
use Rattle.std.proofs.Common.{arith, subst, Some}
use Rattle.std.specs.List.{Contains}
use Rattle.std.proofs.lemmas.Bool.{cases_lt}
use Rattle.std.proofs.lemmas.List.{length_push, take_more}
use Rattle.std.proofs.lemmas.List.Quantifiers.{all_pairs_push}
use Rattle.std.proofs.lemmas.List.Elements.{All-contains, Contains-append_left, Contains-get_or, Contains-push, Contains-push_cases}
use Rattle.words.specs.Words.{OccursAt}
use Rattle.free_poly.specs.declared.term.Term.{Term}
use Rattle.free_poly.specs.Poly.{lead_of, element_on}
use Rattle.free_poly.proofs.Entries.{AllPairs-front, AllPairs-last}
use Rattle.ideal_laws.specs.Closure.{IsNormal}
use Rattle.back_reduce.specs.Entries.{IsLead}
use Rattle.ideal_laws.specs.Basis.{HasGreaterLead}
use Rattle.plain_engine.specs.Elements.{AreElements, HasNormalLead, StandsAbove}

-- a word that is normal to the first elements and has no leading word of the next in it is normal to these and the next
pub normal_more : (fs : List (List Term)) (i : ℕ) (e : List Term) (w : List ℕ) → i < length fs → e ≡ get_or fs i e → IsNormal (take i fs) w
    → ((v : List ℕ) (k : ℕ) → lead_of e ≡ Some v → OccursAt v w k → ⊥) → IsNormal (take (i + 1) fs) w
normal_more fs i e w within is h own g v k m lead o = elim (Contains-push_cases (take i fs) (get_or fs i e) g
    (subst (λ (xs : List (List Term)). Contains xs g) (take_more fs i e within) m)) [
      | inl n ↦ h g v k n lead o
      | inr same ↦ own v k (ap lead_of (is ∙ same) ∙ lead) o
    ]

-- a row leads at one column
pub lead_one : (row : List ℕ) (c d : ℕ) → IsLead row c → IsLead row d → c ≡ d
lead_one row c d h k = elim (cases_lt c d) [
  | inl lt ↦ absurd (h.other (k.before c lt))
  | inr ge ↦ elim (cases_lt d c) [
    | inl lt ↦ absurd (k.other (h.before d lt))
    | inr le ↦ omega (arith, ge, le)
  ]
]

module _ (columns : List (List ℕ)) (G : List (List Term)) (rows : List (List ℕ)) (elements : List (List Term)) (row : List ℕ)
    (are : AreElements columns G rows elements) where
  -- a row without a normal leading word adds no element
  pub elements_same : (HasNormalLead columns G row → ⊥) → AreElements columns G (rows ++ row ∷ []) elements
  elements_same none = record {
    exactly = λ f. (
      (λ m. let q = (are.exactly f).0 m in (q.0, Contains-append_left rows (row ∷ []) q.0 q.1, q.2, q.3)),
      (λ q. elim (Contains-push_cases rows row q.0 q.1) [
        | inl n ↦ (are.exactly f).1 (q.0, n, q.2, q.3)
        | inr same ↦ absurd (none (subst (HasNormalLead columns G) (sym same) q.2))
      ]),
    );
    falling = λ all. are.falling (AllPairs-front (StandsAbove columns) rows row all);
    few = omega (arith, are.few, length_push rows row);
  }

  -- a row with a normal leading word adds its element behind the others
  pub elements_more : HasNormalLead columns G row →
      AreElements columns G (rows ++ row ∷ []) (elements ++ element_on columns row ∷ [])
  elements_more normal =
      let own = element_on columns row in
      record {
        exactly = λ f. (
          (λ m. elim (Contains-push_cases elements own f m) [
            | inl n ↦ (let q = (are.exactly f).0 n in (q.0, Contains-append_left rows (row ∷ []) q.0 q.1, q.2, q.3))
            | inr same ↦ (row, Contains-push rows row, normal, sym same)
          ]),
          (λ q. elim (Contains-push_cases rows row q.0 q.1) [
            | inl n ↦ Contains-append_left elements (own ∷ []) f ((are.exactly f).1 (q.0, n, q.2, q.3))
            | inr same ↦ subst (Contains (elements ++ own ∷ [])) (ap (element_on columns) same ∙ sym q.3) (Contains-push elements own)
          ]),
        );
        falling = λ all. all_pairs_push HasGreaterLead elements own (are.falling (AllPairs-front (StandsAbove columns) rows row all)) (λ k d within.
            let q = (are.exactly (get_or elements k d)).0 (Contains-get_or elements k d within) in
            subst (λ (g : List Term). HasGreaterLead g own) (sym q.3) (All-contains (λ r. StandsAbove columns r row) rows q.0
            (AllPairs-last (StandsAbove columns) rows row all) q.1));
        few = omega (arith, are.few, length_push rows row, length_push elements own);
      }
