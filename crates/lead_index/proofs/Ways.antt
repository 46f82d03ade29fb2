-- The way along the links of a prefix tree to the end of a path.
use Rattle.std.proofs.Common.{◌≡◌, ◌+◌, ◌<◌, ℕ, List, ◌∷◌, length, drop, get_or, sym, ap, ◌∙◌, subst, set, Some, None}
use Rattle.std.specs.List.{slice_get}
use Rattle.std.proofs.lemmas.List.{drop_more}
use Rattle.lead_index.specs.declared.tree.Node.{Node}
use Rattle.lead_index.specs.Tree.{IsAttached, IsOnTheWay, IsRising, IsSpelled}
use Rattle.lead_index.specs.Tree.IsAttached.{as_child, as_sibling}
use Rattle.lead_index.specs.Tree.Leads.{below, beside}
use Rattle.lead_index.proofs.Walks.{same_node, spelled_child, spelled_here, spelled_sibling}

-- a walk to the end of the path has come to this node and place
pub record IsWay (nodes : List Node) (letters : List ℕ) (node place : ℕ) : Type 0 where
  pub within : node < length nodes
  pub spelled : IsSpelled nodes node (drop place letters) letters
  pub leads : IsOnTheWay nodes node (drop place letters) letters

-- the steps of a walk to the end of a path
way_over : (nodes : List Node) (n : ℕ) (here : Node) (sibling y : ℕ) (ls word : List ℕ) → slice_get nodes n ≡ Some here →
    (here.letter ≡ y → ⊥) → here.sibling ≡ Some sibling
    → IsOnTheWay nodes n (y ∷ ls) word → IsOnTheWay nodes sibling (y ∷ ls) word
way_over nodes n here sibling y ls word stands other is w after ext element h =
    let k = ext.kept n here stands in w after ext element (beside n sibling k.0 y ls element k.1 (λ q. other (sym k.2 ∙ q)) (k.5 sibling is) h)

way_down : (nodes : List Node) (n : ℕ) (here : Node) (child y : ℕ) (ls word : List ℕ) → slice_get nodes n ≡ Some here → here.letter ≡ y →
    here.child ≡ Some child
    → IsOnTheWay nodes n (y ∷ ls) word → IsOnTheWay nodes child ls word
way_down nodes n here child y ls word stands same is w after ext element h =
    let k = ext.kept n here stands in w after ext element (below n child k.0 y ls element k.1 (k.2 ∙ same) (k.4 child is) h)

way_on : (nodes : List Node) (n place : ℕ) (letters : List ℕ) → place < length letters → IsOnTheWay nodes n (drop place letters) letters →
    IsOnTheWay nodes n (get_or letters place 0 ∷ drop (place + 1) letters) letters
way_on nodes n place letters lt h = subst (λ (xs : List ℕ). IsOnTheWay nodes n xs letters) (drop_more letters place 0 lt) h

way_off : (nodes : List Node) (n place : ℕ) (letters : List ℕ) → place < length letters →
    IsOnTheWay nodes n (get_or letters place 0 ∷ drop (place + 1) letters) letters → IsOnTheWay nodes n (drop place letters) letters
way_off nodes n place letters lt h = subst (λ (xs : List ℕ). IsOnTheWay nodes n xs letters) (sym (drop_more letters place 0 lt)) h

module _ (nodes : List Node) (letters : List ℕ) (n place : ℕ) (here : Node) (rising : IsRising nodes) (way : IsWay nodes letters n place)
    (lt : place < length letters) (stands : slice_get nodes n ≡ Some here) where
  -- where the node has another letter and a sibling, the walk has come to the sibling and the same place
  pub way_sibling : (here.letter ≡ get_or letters place 0 → ⊥) → (sibling : ℕ) → here.sibling ≡ Some sibling → IsWay nodes letters sibling place
  way_sibling other sibling is = record {
    within = (rising.siblings n sibling here stands is).1;
    spelled = spelled_sibling nodes n here sibling (drop place letters) letters stands is way.spelled;
    leads = way_off nodes sibling place letters lt
        (way_over nodes n here sibling (get_or letters place 0) (drop (place + 1) letters) letters stands other is (way_on nodes n place letters lt way.leads));
  }

  -- where it has the letter of the place and a child, the walk has come to the child and the next place
  pub way_child : here.letter ≡ get_or letters place 0 → (child : ℕ) → here.child ≡ Some child → IsWay nodes letters child (place + 1)
  way_child same child is = record {
    within = (rising.children n child here stands is).1;
    spelled = spelled_child nodes n here child (drop (place + 1) letters) letters stands is (spelled_here nodes n place letters here lt same way.spelled);
    leads = way_down nodes n here child (get_or letters place 0) (drop (place + 1) letters) letters stands same is (way_on nodes n place letters lt way.leads);
  }

  -- where it has another letter and no sibling, a link to the next new node as its sibling attaches the path from this place on
  pub attached_beside : (here.letter ≡ get_or letters place 0 → ⊥) → here.sibling ≡ None → (items : List Node) (next : ℕ) (node : Node) →
      items ≡ nodes → next ≡ length nodes → slice_get nodes n ≡ Some node
      → IsAttached nodes (set items n (record node { sibling = Some next })) letters place
  attached_beside other none items next node same count e =
      let k : here ≡ node = same_node nodes n here node stands e in
      as_sibling n node e (ap (λ (x : Node). x.sibling) (sym k) ∙ none) (λ i. set (same i) n (record node { sibling = Some (count i) }))
      (λ q. other (ap (λ (x : Node). x.letter) k ∙ q)) lt way.spelled way.leads

  -- where it has the letter of the place and no child, a link to the next new node as its child attaches the path from the next place on
  pub attached_below : here.letter ≡ get_or letters place 0 → here.child ≡ None → (items : List Node) (next : ℕ) (node : Node) →
      items ≡ nodes → next ≡ length nodes → slice_get nodes n ≡ Some node
      → IsAttached nodes (set items n (record node { child = Some next })) letters (place + 1)
  attached_below is none items next node same count e =
      let k : here ≡ node = same_node nodes n here node stands e in
      let letter : node.letter ≡ get_or letters place 0 = ap (λ (x : Node). x.letter) (sym k) ∙ is in
      as_child n node e (ap (λ (x : Node). x.child) (sym k) ∙ none) (λ i. set (same i) n (record node { child = Some (count i) }))
      (spelled_here nodes n place letters node lt letter way.spelled)
      (subst (λ (xs : List ℕ). IsOnTheWay nodes n xs letters) (drop_more letters place 0 lt
      ∙ ap (λ (x : ℕ). x ∷ drop (place + 1) letters) (sym letter)) way.leads)
