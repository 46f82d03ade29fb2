-- A grown tree agrees with the list and its new word.
use Rattle.std.proofs.Common.{◌≡◌, ◌+◌, ◌<◌, ℕ, zero, suc, List, [], ◌∷◌, ◌++◌, length, take, drop, get_or, sym, ap, ◌∙◌, inl, inr, arith, subst}
use Rattle.std.proofs.Common.{Some, None, append_assoc, length-drop}
use Rattle.std.specs.List.{Contains, slice_get}
use Rattle.std.proofs.lemmas.Bool.{cases_lt}
use Rattle.std.proofs.lemmas.List.{drop_more, nil_from_length, take_all, take-append-drop}
use Rattle.std.proofs.lemmas.List.Elements.{Contains-append_cases, Contains-append_left, Contains-append_right}
use Rattle.words.proofs.Members.{Contains-cases, Contains-first, Contains-none}
use Rattle.lead_index.specs.declared.lead.Lead.{Lead}
use Rattle.lead_index.specs.declared.tree.Node.{Node}
use Rattle.lead_index.specs.Tree.{IsExtended, IsTree, Leads}
use Rattle.lead_index.specs.Tree.Leads.{below, beside, ends}
use Rattle.lead_index.proofs.Grown.{IsGrown}
use Rattle.lead_index.proofs.Labels.{along, before, high, kinds, labelled, low, rising}

-- what a word leads to stays in a tree that has more
leads_on : (nodes after : List Node) → IsExtended nodes after → (n : ℕ) (word : List ℕ) (element : ℕ) → Leads nodes n word element → Leads after n word element
leads_on nodes after ext n word element (ends m node x e at l is) =
    let k = ext.kept m node at in ends m k.0 x e k.1 (k.2 ∙ l) (k.3 ∙ is)
leads_on nodes after ext n word element (below m child node x w e at l is h) =
    let k = ext.kept m node at in below m child k.0 x w e k.1 (k.2 ∙ l) (k.4 child is) (leads_on nodes after ext child w e h)
leads_on nodes after ext n word element (beside m sibling node x w e at l is h) =
    let k = ext.kept m node at in beside m sibling k.0 x w e k.1 (λ q. l (sym k.2 ∙ q)) (k.5 sibling is) (leads_on nodes after ext sibling (x ∷ w) e h)

module _ (old new : List Node) (leads : List Lead) (front rest letters : List ℕ) (element : ℕ) (tree : IsTree old leads)
    (grown : IsGrown old new tree.before front rest letters element) where
  abbrev added : Lead
  added = record { word = letters; element = element }

  abbrev label : ℕ → List ℕ
  label = before old new leads front rest letters element tree grown

  in_new : (l : Lead) → Contains leads l → Contains (leads ++ added ∷ []) l
  in_new l h = Contains-append_left leads (added ∷ []) l h

  last_in_new : Contains (leads ++ added ∷ []) added
  last_in_new = Contains-append_right leads (added ∷ []) added (Contains-first added [])

  ended : (n e : ℕ) (later : Node) → slice_get new n ≡ Some later → later.element ≡ Some e →
      Contains (leads ++ added ∷ []) (record { word = label n ++ later.letter ∷ []; element = e })
  ended n e later at is = elim (kinds old new leads front rest letters element tree grown n later at) [
    | inl old_one ↦
        let lt = old_one.0 in
        let p = old_one.1 in
        let mine : label n ++ later.letter ∷ [] ≡ tree.before n ++ p.node.letter ∷ [] =
        (λ i. low old new leads front rest letters element tree grown n lt i ++ p.letter i ∷ []) in
        let l : Lead = record { word = tree.before n ++ p.node.letter ∷ []; element = e } in
        let same : l ≡ record { word = label n ++ later.letter ∷ []; element = e } = ap (λ (w : List ℕ). record { word = w; element = e }) (sym mine) in
        subst (λ (m : Lead). Contains (leads ++ added ∷ []) m) same (in_new l (tree.ends n e p.node p.stood (sym p.element ∙ is)))
    | inr new_one ↦
        let i = new_one.0 in
        let on = new_one.3 in
        elim (cases_lt (i + 1) (length rest)) [
          | inl more ↦ absurd (let q : None ≡ Some e = sym (on.element_before more) ∙ is in cc)
          | inr last ↦
              let q : Some element ≡ Some e = sym (on.element_last last) ∙ is in
              let k : element ≡ e = cc in
              let here : label n ++ later.letter ∷ [] ≡ letters =
              ap (λ (m : ℕ). label m ++ later.letter ∷ []) new_one.2 ∙ along old new leads front rest letters element tree grown i
              later.letter new_one.1 on.letter ∙ ap (λ (xs : List ℕ). front ++ xs) (take_all (i + 1) rest last) ∙ sym grown.joined in
              let same : added ≡ record { word = label n ++ later.letter ∷ []; element = e } =
              ap (λ (w : List ℕ). record { word = w; element = element }) (sym here)
              ∙ ap (λ (x : ℕ). record { word = label n ++ later.letter ∷ []; element = x }) k in
              subst (λ (m : Lead). Contains (leads ++ added ∷ []) m) same last_in_new
        ]
  ]

  used : (n : ℕ) (later : Node) → slice_get new n ≡ Some later → (l : Lead) × (tail : List ℕ) × Contains (leads ++ added ∷ []) l
      × (l.word ≡ label n ++ later.letter ∷ tail)
  used n later at = elim (kinds old new leads front rest letters element tree grown n later at) [
    | inl old_one ↦
        let lt = old_one.0 in
        let p = old_one.1 in
        let u = tree.used n p.node p.stood in
        (u.0, u.1, in_new u.0 u.2, u.3 ∙ (λ i. sym (low old new leads front rest letters element tree grown n lt) i ++ sym p.letter i ∷ u.1))
    | inr new_one ↦
        let i = new_one.0 in
        let on = new_one.3 in
        let split : rest ≡ take i rest ++ later.letter ∷ drop (i + 1) rest =
        sym (take-append-drop i rest) ∙ ap (λ (xs : List ℕ). take i rest ++ xs) (drop_more rest i 0 new_one.1)
        ∙ ap (λ (x : ℕ). take i rest ++ x ∷ drop (i + 1) rest) (sym on.letter) in (
          added,
          drop (i + 1) rest,
          last_in_new,
          grown.joined ∙ ap (λ (xs : List ℕ). front ++ xs) split ∙ sym (append_assoc front (take i rest) (later.letter ∷ drop (i + 1) rest))
              ∙ ap (λ (xs : List ℕ). xs ++ later.letter ∷ drop (i + 1) rest)
              (sym (high old new leads front rest letters element tree grown i) ∙ ap label (sym new_one.2)),
        )
  ]

  -- the path leads along the rest to the element
  path_leads : (k i : ℕ) → i + k ≡ length rest → i < length rest → Leads new (length old + i) (drop i rest) element
  path_leads zero i e lt = absurd (omega arith)
  path_leads (suc k) i e lt =
      let p = grown.path i lt in
      let on = p.2 in
      let split : drop i rest ≡ get_or rest i 0 ∷ drop (i + 1) rest = drop_more rest i 0 lt in
      elim (cases_lt (i + 1) (length rest)) [
        | inl more ↦
            let h : Leads new (length old + (i + 1)) (drop (i + 1) rest) element = path_leads k (i + 1) (omega arith) more in
            let here : Leads new (length old + i + 1) (drop (i + 1) rest) element =
            subst (λ (m : ℕ). Leads new m (drop (i + 1) rest) element) (omega arith) h in
            subst (λ (xs : List ℕ). Leads new (length old + i) xs element) (sym split)
            (below (length old + i) (length old + i + 1) p.0 (get_or rest i 0) (drop (i + 1) rest) element p.1 on.letter (on.child more) here)
        | inr last ↦
            let none : drop (i + 1) rest ≡ [] = nil_from_length (drop (i + 1) rest) (omega (arith, length-drop (i + 1) rest)) in
            subst (λ (xs : List ℕ). Leads new (length old + i) xs element) (ap (λ (ys : List ℕ). get_or rest i 0 ∷ ys) (sym none) ∙ sym split)
            (ends (length old + i) p.0 (get_or rest i 0) element p.1 on.letter (on.element_last last))
      ]

  listed : (l : Lead) → Contains (leads ++ added ∷ []) l → Leads new 0 l.word l.element
  listed l h = elim (Contains-append_cases leads (added ∷ []) l h) [
    | inl was ↦ leads_on old new grown.extended 0 l.word l.element (tree.listed l was)
    | inr is ↦ elim (Contains-cases added [] l is) [
      | inl same ↦
          let here : Leads new (length old) rest element = subst (λ (m : ℕ). Leads new m rest element)
          (let e : length old + 0 ≡ length old = omega arith in e) (path_leads (length rest) 0 (omega arith) grown.some) in
          subst (λ (m : Lead). Leads new 0 m.word m.element) same (grown.leads element here)
      | inr none ↦ absurd (Contains-none l none)
    ]
  ]

  -- the grown tree agrees with the list that has the new word at its end
  pub IsTree-grown : IsTree new (leads ++ record { word = letters; element = element } ∷ [])
  IsTree-grown = record {
    rising = rising old new leads front rest letters element tree grown;
    before = label;
    labelled = labelled old new leads front rest letters element tree grown;
    ends = ended;
    used = used;
    listed = listed;
  }
