-- The letters before the nodes of a grown tree.
use Rattle.std.proofs.Common.{◌≡◌, ◌⊎◌, ◌+◌, ◌-◌, ◌<◌, ◌≤◌, ℕ, List, [], ◌∷◌, ◌++◌, length, take, get_or, refl, sym, ap, ◌∙◌, inl, inr, arith, subst}
use Rattle.std.proofs.Common.{Some, None, append_assoc}
use Rattle.std.specs.List.{slice_get}
use Rattle.std.proofs.lemmas.Bool.{cases_lt}
use Rattle.std.proofs.lemmas.List.{append-nil, take_more}
use Rattle.std.proofs.lemmas.Option.{slice_get_within}
use Rattle.lead_index.specs.declared.lead.Lead.{Lead}
use Rattle.lead_index.specs.declared.tree.Node.{Node}
use Rattle.lead_index.specs.Tree.{IsLabelled, IsOnPath, IsRising, IsTree}
use Rattle.lead_index.proofs.Grown.{IsGrown, IsLater}
use Rattle.lead_index.proofs.Walks.{same_node}

-- the letters before a node, old or new
label : (n start : ℕ) → List ℕ → List ℕ → (n < start) ⊎ (start ≤ n) → List ℕ
label n start old new (inl lt) = old
label n start old new (inr le) = new

label_low : (n start : ℕ) (old new : List ℕ) (s : (n < start) ⊎ (start ≤ n)) → n < start → label n start old new s ≡ old
unfolding label
label_low n start old new (inl lt) h = refl
label_low n start old new (inr le) h = absurd (omega arith)

label_high : (n start : ℕ) (old new : List ℕ) (s : (n < start) ⊎ (start ≤ n)) → start ≤ n → label n start old new s ≡ new
unfolding label
label_high n start old new (inl lt) h = absurd (omega arith)
label_high n start old new (inr le) h = refl

module _ (old new : List Node) (leads : List Lead) (front rest letters : List ℕ) (element : ℕ) (tree : IsTree old leads)
    (grown : IsGrown old new tree.before front rest letters element) where
  -- the letters before each node: those of the old tree, and along the path the front and the first letters of the rest
  pub before : ℕ → List ℕ
  before n = label n (length old) (tree.before n) (front ++ take (n - length old) rest) (cases_lt n (length old))

  -- before an old node they are those of the old tree
  pub low : (n : ℕ) → n < length old → before n ≡ tree.before n
  unfolding before
  low n lt = label_low n (length old) (tree.before n) (front ++ take (n - length old) rest) (cases_lt n (length old)) lt

  -- before the node at place i of the path they are the front and the first i letters of the rest
  pub high : (i : ℕ) → before (length old + i) ≡ front ++ take i rest
  unfolding before
  high i =
      label_high (length old + i) (length old) (tree.before (length old + i)) (front ++ take (length old + i - length old) rest)
      (cases_lt (length old + i) (length old)) (omega arith)
      ∙ ap (λ (k : ℕ). front ++ take k rest) (let e : length old + i - length old ≡ i = omega arith in e)

  at_start : before (length old) ≡ front
  at_start = ap before (let e : length old ≡ length old + 0 = omega arith in e) ∙ high 0 ∙ append-nil front

  -- the letters up to and with a node of the path
  pub along : (i : ℕ) (x : ℕ) → i < length rest → x ≡ get_or rest i 0 → before (length old + i) ++ x ∷ [] ≡ front ++ take (i + 1) rest
  along i x lt e =
      ap (λ (xs : List ℕ). xs ++ x ∷ []) (high i) ∙ append_assoc front (take i rest) (x ∷ [])
      ∙ ap (λ (xs : List ℕ). front ++ xs) (ap (λ (y : ℕ). take i rest ++ y ∷ []) e ∙ sym (take_more rest i 0 lt))

  abbrev pub IsNew : ℕ → Node → Type 0
  IsNew n later = (i : ℕ) × (i < length rest) × (n ≡ length old + i) × IsOnPath (length old + i + 1) rest element i later

  -- each node of the grown tree is an old one, with a link more at most, or one of the path
  pub kinds : (n : ℕ) (later : Node) → slice_get new n ≡ Some later → ((n < length old) × IsLater old tree.before front n later) ⊎ IsNew n later
  kinds n later e = elim (cases_lt n (length old)) [
    | inl lt ↦ inl (lt, grown.stays n later lt e)
    | inr le ↦
        let count = grown.count in
        let within = slice_get_within new n later e in
        let i : ℕ = n - length old in
        let lt : i < length rest = omega arith in
        let is : n ≡ length old + i = omega arith in
        let p = grown.path i lt in
        let same : p.0 ≡ later = same_node new (length old + i) p.0 later p.1 (subst (λ (m : ℕ). slice_get new m ≡ Some later) is e) in
        inr (i, lt, is, subst (λ (y : Node). IsOnPath (length old + i + 1) rest element i y) same p.2)
  ]

  -- a link along the path
  path_child : (i c : ℕ) (later : Node) → i < length rest → IsOnPath (length old + i + 1) rest element i later → later.child ≡ Some c →
      (i + 1 < length rest) × (c ≡ length old + i + 1)
  path_child i c later lt on e = elim (cases_lt (i + 1) (length rest)) [
    | inl more ↦ (more, let q : Some (length old + i + 1) ≡ Some c = sym (on.child more) ∙ e in cc)
    | inr last ↦ absurd (let q : None ≡ Some c = sym (on.last_child last) ∙ e in cc)
  ]

  -- links of the grown tree lead to nodes of greater numbers
  pub rising : IsRising new
  rising = record {
    children = λ n c later e h. elim (kinds n later e) [
      | inl old_one ↦
          let count = grown.count in
          let some = grown.some in
          let lt = old_one.0 in
          let p = old_one.1 in
          elim (p.child c h) [
            | inl was ↦ let r = tree.rising.children n c p.node p.stood was in (r.0, omega (arith, r.1))
            | inr link ↦ (omega (arith, link.0), omega (arith, link.0))
          ]
      | inr new_one ↦
          let count = grown.count in
          let q = path_child new_one.0 c later new_one.1 new_one.3 h in
          let is = new_one.2 in
          (omega (arith, is, q.1), omega (arith, q.0, q.1))
    ];
    siblings = λ n c later e h. elim (kinds n later e) [
      | inl old_one ↦
          let count = grown.count in
          let some = grown.some in
          let lt = old_one.0 in
          let p = old_one.1 in
          elim (p.sibling c h) [
            | inl was ↦ let r = tree.rising.siblings n c p.node p.stood was in (r.0, omega (arith, r.1))
            | inr link ↦ (omega (arith, link.0), omega (arith, link.0))
          ]
      | inr new_one ↦ absurd (let on = new_one.3 in let q : None ≡ Some c = sym on.sibling ∙ h in cc)
    ];
  }

  -- before the first node of the grown tree there are no letters, before a child one more, and before a sibling the same
  pub labelled : IsLabelled new before
  labelled = record {
    first = elim (cases_lt 0 (length old)) [
      | inl lt ↦ low 0 lt ∙ tree.labelled.first
      | inr le ↦ let none : length old ≡ 0 = omega arith in ap before (sym none) ∙ at_start ∙ grown.first none
    ];
    children = λ n c later e h. elim (kinds n later e) [
      | inl old_one ↦
          let lt = old_one.0 in
          let p = old_one.1 in
          let mine : before n ++ later.letter ∷ [] ≡ tree.before n ++ p.node.letter ∷ [] = (λ i. low n lt i ++ p.letter i ∷ []) in
          elim (p.child c h) [
            | inl was ↦ let r = tree.rising.children n c p.node p.stood was in low c r.1 ∙ tree.labelled.children n c p.node p.stood was ∙ sym mine
            | inr link ↦ ap before link.0 ∙ at_start ∙ link.1 ∙ sym mine
          ]
      | inr new_one ↦
          let on = new_one.3 in
          let q = path_child new_one.0 c later new_one.1 on h in
          let here : before n ++ later.letter ∷ [] ≡ front ++ take (new_one.0 + 1) rest =
          ap (λ (m : ℕ). before m ++ later.letter ∷ []) new_one.2 ∙ along new_one.0 later.letter new_one.1 on.letter in
          let next : c ≡ length old + (new_one.0 + 1) = let k = q.1 in omega arith in
          ap before next ∙ high (new_one.0 + 1) ∙ sym here
    ];
    siblings = λ n c later e h. elim (kinds n later e) [
      | inl old_one ↦
          let lt = old_one.0 in
          let p = old_one.1 in
          elim (p.sibling c h) [
            | inl was ↦ let r = tree.rising.siblings n c p.node p.stood was in low c r.1 ∙ tree.labelled.siblings n c p.node p.stood was ∙ sym (low n lt)
            | inr link ↦ ap before link.0 ∙ at_start ∙ link.1 ∙ sym (low n lt)
          ]
      | inr new_one ↦ absurd (let on = new_one.3 in let q : None ≡ Some c = sym on.sibling ∙ h in cc)
    ];
  }
