-- What a step by a letter says of the words that are found, and of a walk for the first one.
use Rattle.std.proofs.Common.{◌≡◌, ◌+◌, ◌<◌, ℕ, List, [], ◌∷◌, ◌++◌, length, drop, get_or, refl, sym, ap, ◌∙◌, subst, append_assoc, Option, Some, None}
use Rattle.std.specs.List.{Contains}
use Rattle.std.proofs.lemmas.List.{drop_more}
use Rattle.lead_index.specs.declared.lead.Lead.{Lead}
use Rattle.lead_index.specs.declared.steps.Step.{Step}
use Rattle.lead_index.specs.declared.steps.Step.TheVariants.{Ends, Goes, Stops}
use Rattle.lead_index.specs.declared.tree.Node.{Node}
use Rattle.lead_index.specs.Steps.{IsStep, step_to}
use Rattle.lead_index.specs.Steps.IsStep.{beside, here, nowhere}
use Rattle.lead_index.specs.Tree.{IsLabelled, IsMissed, IsRising, IsTree, Meets}
use Rattle.lead_index.proofs.Walks.{IsWalk, missed_on, missed_other, missed_same, walk_found, walk_sibling}

stops_says : (e c : Option ℕ) → step_to e c ≡ Stops → (e ≡ None) × (c ≡ None)
stops_says (Some e) c is = cc
stops_says None (Some c) is = cc
stops_says None None is = (refl, refl)

goes_says : (e c : Option ℕ) (k : ℕ) → step_to e c ≡ Goes k → (e ≡ None) × (c ≡ Some k)
goes_says (Some e) c k is = cc
goes_says None (Some c) k is = (refl, cc)
goes_says None None k is = cc

ends_says : (e c : Option ℕ) (k : ℕ) → step_to e c ≡ Ends k → e ≡ Some k
ends_says (Some e) c k is = cc
ends_says None (Some c) k is = cc
ends_says None None k is = cc

-- what a step says of the words that are found from its node, and of the letters before the next one
module _ (nodes : List Node) where
  -- where the step by a letter stops, no word that is found from the node begins this letter and a rest
  pub missed_by_stop : (n x : ℕ) (step : Step) → IsStep nodes n x step → step ≡ Stops → (rest : List ℕ) → IsMissed nodes n (x ∷ rest)
  missed_by_stop n x step (here m node y stands same) is rest =
      let s = stops_says node.element node.child is in
      missed_same nodes n node x rest stands same s.0 (λ c e. let both : None ≡ Some c = sym s.1 ∙ e in cc both)
  missed_by_stop n x step (beside m sibling node y st stands other next h) is rest =
      missed_other nodes n node x rest stands other
      (λ s e. let both : Some sibling ≡ Some s = sym next ∙ e in let k : sibling ≡ s = cc in
      subst (λ (i : ℕ). IsMissed nodes i (x ∷ rest)) k (missed_by_stop sibling x step h is rest))
  missed_by_stop n x step (nowhere m node y stands other none) is rest =
      missed_other nodes n node x rest stands other (λ s e. let both : None ≡ Some s = sym none ∙ e in cc both)

  -- where it goes to a child, and no word that is found from the child begins a rest, none that is found from the node begins the letter and this rest
  pub missed_by_go : (n x child : ℕ) (step : Step) → IsStep nodes n x step → step ≡ Goes child → (rest : List ℕ) → IsMissed nodes child rest →
      IsMissed nodes n (x ∷ rest)
  missed_by_go n x child step (here m node y stands same) is rest h =
      let s = goes_says node.element node.child child is in
      missed_same nodes n node x rest stands same s.0 (λ c e. let both : Some child ≡ Some c = sym s.1 ∙ e in let k : child ≡ c = cc in
      subst (λ (i : ℕ). IsMissed nodes i rest) k h)
  missed_by_go n x child step (beside m sibling node y st stands other next h) is rest g =
      missed_other nodes n node x rest stands other
      (λ s e. let both : Some sibling ≡ Some s = sym next ∙ e in let k : sibling ≡ s = cc in
      subst (λ (i : ℕ). IsMissed nodes i (x ∷ rest)) k (missed_by_go sibling x child step h is rest g))
  missed_by_go n x child step (nowhere m node y stands other none) is rest h = cc

  -- if links lead to nodes of greater numbers, a step goes to a node of the tree
  pub goes_within : IsRising nodes → (n x child : ℕ) (step : Step) → IsStep nodes n x step → step ≡ Goes child → child < length nodes
  goes_within rising n x child step (here m node y stands same) is =
      (rising.children n child node stands (goes_says node.element node.child child is).1).1
  goes_within rising n x child step (beside m sibling node y st stands other next h) is = goes_within rising sibling x child step h is
  goes_within rising n x child step (nowhere m node y stands other none) is = cc

  -- the letters before the node to which a step goes are those before the node from which it goes, and the letter
  pub goes_before : (before : ℕ → List ℕ) → IsLabelled nodes before → (n x child : ℕ) (step : Step) → IsStep nodes n x step → step ≡ Goes child →
      before child ≡ before n ++ x ∷ []
  goes_before before labelled n x child step (here m node y stands same) is =
      labelled.children n child node stands (goes_says node.element node.child child is).1 ∙ ap (λ (z : ℕ). before n ++ z ∷ []) same
  goes_before before labelled n x child step (beside m sibling node y st stands other next h) is =
      goes_before before labelled sibling x child step h is ∙ ap (λ (xs : List ℕ). xs ++ x ∷ []) (labelled.siblings n sibling node stands next)
  goes_before before labelled n x child step (nowhere m node y stands other none) is = cc

  -- where a step ends with an element, the letters before the node and the letter are the word of this element in the list
  pub ends_among : (leads : List Lead) (tree : IsTree nodes leads) (n x element : ℕ) (step : Step) → IsStep nodes n x step → step ≡ Ends element →
      Contains leads (record { word = tree.before n ++ x ∷ []; element = element })
  ends_among leads tree n x element step (here m node y stands same) is =
      subst (λ (z : ℕ). Contains leads (record { word = tree.before n ++ z ∷ []; element = element })) same
      (tree.ends n element node stands (ends_says node.element node.child element is))
  ends_among leads tree n x element step (beside m sibling node y st stands other next h) is =
      subst (λ (xs : List ℕ). Contains leads (record { word = xs ++ x ∷ []; element = element })) (tree.labelled.siblings n sibling node stands next)
      (ends_among leads tree sibling x element step h is)
  ends_among leads tree n x element step (nowhere m node y stands other none) is = cc

-- what a step says of a walk that has come to its node
module _ (nodes : List Node) (letters : List ℕ) (place : ℕ) (rising : IsRising nodes) (lt : place < length letters) where
  -- where the step by the letter at the place stops, no word of the tree begins the letters
  pub step_stops : (n x : ℕ) (step : Step) → IsStep nodes n x step → x ≡ get_or letters place 0 → step ≡ Stops →
      IsWalk nodes letters n place → IsMissed nodes 0 letters
  step_stops n x step h e is walk = walk.missed (missed_on nodes n letters place lt
      (subst (λ (z : ℕ). IsMissed nodes n (z ∷ drop (place + 1) letters)) e (missed_by_stop nodes n x step h is (drop (place + 1) letters))))

  -- where it goes to a child, the walk has come to this child and the next place
  pub step_goes : (n x child : ℕ) (step : Step) → IsStep nodes n x step → x ≡ get_or letters place 0 → step ≡ Goes child →
      IsWalk nodes letters n place → IsWalk nodes letters child (place + 1)
  step_goes n x child step h e is walk = record {
    within = goes_within nodes rising n x child step h is;
    spelled = λ before labelled. walk.spelled before labelled ∙ ap (λ (xs : List ℕ). before n ++ xs) (drop_more letters place 0 lt)
        ∙ sym (append_assoc (before n) (get_or letters place 0 ∷ []) (drop (place + 1) letters))
        ∙ ap (λ (xs : List ℕ). xs ++ drop (place + 1) letters) (ap (λ (z : ℕ). before n ++ z ∷ []) (sym e)
        ∙ sym (goes_before nodes before labelled n x child step h is));
    missed = λ g. walk.missed (missed_on nodes n letters place lt
        (subst (λ (z : ℕ). IsMissed nodes n (z ∷ drop (place + 1) letters)) e (missed_by_go nodes n x child step h is (drop (place + 1) letters) g)));
  }

  -- where it ends with an element, the letters begin with the word of a node that has the element
  pub step_ends : (n x element : ℕ) (step : Step) → IsStep nodes n x step → x ≡ get_or letters place 0 → step ≡ Ends element →
      IsWalk nodes letters n place → Meets nodes letters element
  step_ends n x element step (here m node y stands same) e is walk =
      walk_found nodes letters n place node rising walk lt stands (same ∙ e) element (ends_says node.element node.child element is)
  step_ends n x element step (beside m sibling node y st stands other next h) e is walk =
      step_ends sibling x element step h e is (walk_sibling nodes letters n place node rising walk lt stands (λ q. other (q ∙ sym e)) sibling next)
  step_ends n x element step (nowhere m node y stands other none) e is walk = cc
