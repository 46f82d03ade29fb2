-- Walks along the links of a prefix tree.
use Rattle.std.proofs.Common.{◌≡◌, ◌+◌, ◌<◌, ◌≤◌, ℕ, List, [], ◌∷◌, ◌++◌, length, drop, get_or, refl, sym, ap, ◌∙◌, arith, subst, Some, None}
use Rattle.std.proofs.Common.{append_assoc, length-drop}
use Rattle.std.specs.List.{slice_get}
use Rattle.std.proofs.lemmas.List.{drop_more, nil_from_length}
use Rattle.std.proofs.lemmas.Option.{slice_get_read}
use Rattle.lead_index.specs.declared.tree.Node.{Node}
use Rattle.lead_index.specs.Tree.{IsMissed, IsRising, IsSpelled, Leads, Meets}
use Rattle.lead_index.specs.Tree.Leads.{below, beside, ends}

-- two nodes that stand at one place are the same
pub same_node : (nodes : List Node) (n : ℕ) (a b : Node) → slice_get nodes n ≡ Some a → slice_get nodes n ≡ Some b → a ≡ b
same_node nodes n a b p q = let e : Some a ≡ Some b = sym p ∙ q in cc

-- the node that is read at a place within the list stands there
pub read_node : (items nodes : List Node) (n : ℕ) (x : Node) → items ≡ nodes → n < length nodes → x ≡ get_or items n x → slice_get nodes n ≡ Some x
read_node items nodes n x same lt is = slice_get_read nodes (length nodes) n x refl lt (is ∙ ap (λ (xs : List Node). get_or xs n x) same)

-- a walk for the first word has come to this node and place
pub record IsWalk (nodes : List Node) (letters : List ℕ) (node place : ℕ) : Type 0 where
  pub within : node < length nodes
  pub spelled : IsSpelled nodes node (drop place letters) letters
  pub missed : IsMissed nodes node (drop place letters) → IsMissed nodes 0 letters

-- no word that is found is empty
missed_empty : (nodes : List Node) (n : ℕ) (word rest : List ℕ) (element : ℕ) → Leads nodes n word element → [] ≡ word ++ rest → ⊥
missed_empty nodes n word rest element (ends m node x e at l is) none = cc
missed_empty nodes n word rest element (below m child node x w e at l is h) none = cc
missed_empty nodes n word rest element (beside m sibling node x w e at l is h) none = cc

-- the letter is another one
pub missed_other : (nodes : List Node) (n : ℕ) (here : Node) (y : ℕ) (letters : List ℕ) → slice_get nodes n ≡ Some here → (here.letter ≡ y → ⊥)
    → ((sibling : ℕ) → here.sibling ≡ Some sibling → IsMissed nodes sibling (y ∷ letters))
    → (word rest : List ℕ) (element : ℕ) → Leads nodes n word element → y ∷ letters ≡ word ++ rest → ⊥
missed_other nodes n here y letters stands other next word rest element (ends m node x e at l is) joined =
    let same : here ≡ node = same_node nodes m here node stands at in
    let first : y ≡ x = cc in other (ap (λ (k : Node). k.letter) same ∙ l ∙ sym first)
missed_other nodes n here y letters stands other next word rest element (below m child node x w e at l is h) joined =
    let same : here ≡ node = same_node nodes m here node stands at in
    let first : y ≡ x = cc in other (ap (λ (k : Node). k.letter) same ∙ l ∙ sym first)
missed_other nodes n here y letters stands other next word rest element (beside m sibling node x w e at l is h) joined =
    let same : here ≡ node = same_node nodes m here node stands at in
    next sibling (ap (λ (k : Node). k.sibling) same ∙ is) (x ∷ w) rest e h joined

-- the letter is this one, and no element ends with it
pub missed_same : (nodes : List Node) (n : ℕ) (here : Node) (y : ℕ) (letters : List ℕ) → slice_get nodes n ≡ Some here → here.letter ≡ y → here.element ≡ None
    → ((child : ℕ) → here.child ≡ Some child → IsMissed nodes child letters)
    → (word rest : List ℕ) (element : ℕ) → Leads nodes n word element → y ∷ letters ≡ word ++ rest → ⊥
missed_same nodes n here y letters stands same_letter no_element next word rest element (ends m node x e at l is) joined =
    let same : here ≡ node = same_node nodes m here node stands at in
    let none : None ≡ Some e = sym no_element ∙ ap (λ (k : Node). k.element) same ∙ is in cc
missed_same nodes n here y letters stands same_letter no_element next word rest element (below m child node x w e at l is h) joined =
    let same : here ≡ node = same_node nodes m here node stands at in
    let tail : letters ≡ w ++ rest = cc in
    next child (ap (λ (k : Node). k.child) same ∙ is) w rest e h tail
missed_same nodes n here y letters stands same_letter no_element next word rest element (beside m sibling node x w e at l is h) joined =
    let same : here ≡ node = same_node nodes m here node stands at in
    let first : y ≡ x = cc in absurd (l (ap (λ (k : Node). k.letter) (sym same) ∙ same_letter ∙ first))

-- no word that is found from a node begins the letters from a place, if none begins the letter there and those after it
pub missed_on : (nodes : List Node) (n : ℕ) (letters : List ℕ) (place : ℕ) → place < length letters →
    IsMissed nodes n (get_or letters place 0 ∷ drop (place + 1) letters) → IsMissed nodes n (drop place letters)
missed_on nodes n letters place lt h = subst (IsMissed nodes n) (sym (drop_more letters place 0 lt)) h

missed_off : (nodes : List Node) (n : ℕ) (letters : List ℕ) (place : ℕ) → place < length letters → IsMissed nodes n (drop place letters) →
    IsMissed nodes n (get_or letters place 0 ∷ drop (place + 1) letters)
missed_off nodes n letters place lt h = subst (IsMissed nodes n) (drop_more letters place 0 lt) h

-- what is before a sibling and a child
pub spelled_sibling : (nodes : List Node) (n : ℕ) (here : Node) (sibling : ℕ) (rest word : List ℕ) → slice_get nodes n ≡ Some here →
    here.sibling ≡ Some sibling → IsSpelled nodes n rest word → IsSpelled nodes sibling rest word
spelled_sibling nodes n here sibling rest word stands is h before labelled =
    h before labelled ∙ ap (λ (xs : List ℕ). xs ++ rest) (sym (labelled.siblings n sibling here stands is))

-- if the letters before a node, its letter and a rest are the word, so are the letters before its child and this rest
pub spelled_child : (nodes : List Node) (n : ℕ) (here : Node) (child : ℕ) (rest word : List ℕ) → slice_get nodes n ≡ Some here →
    here.child ≡ Some child → IsSpelled nodes n (here.letter ∷ rest) word → IsSpelled nodes child rest word
spelled_child nodes n here child rest word stands is h before labelled =
    h before labelled ∙ sym (append_assoc (before n) (here.letter ∷ []) rest)
    ∙ ap (λ (xs : List ℕ). xs ++ rest) (sym (labelled.children n child here stands is))

-- if the letters before a node and those from a place on are the word, and the node has the letter there,
-- then the letters before the node, its letter and those after the place are the word
pub spelled_here : (nodes : List Node) (n place : ℕ) (letters : List ℕ) (here : Node) → place < length letters →
    here.letter ≡ get_or letters place 0 → IsSpelled nodes n (drop place letters) letters →
    IsSpelled nodes n (here.letter ∷ drop (place + 1) letters) letters
spelled_here nodes n place letters here lt same h =
    subst (λ (xs : List ℕ). IsSpelled nodes n xs letters) (drop_more letters place 0 lt ∙ ap (λ (x : ℕ). x ∷ drop (place + 1) letters) (sym same)) h

-- the steps of a walk for the first word
module _ (nodes : List Node) (letters : List ℕ) (n place : ℕ) (here : Node) (rising : IsRising nodes) (walk : IsWalk nodes letters n place)
    (lt : place < length letters) (stands : slice_get nodes n ≡ Some here) where
  -- where the node has another letter and a sibling, the walk has come to the sibling and the same place
  pub walk_sibling : (here.letter ≡ get_or letters place 0 → ⊥) → (sibling : ℕ) → here.sibling ≡ Some sibling → IsWalk nodes letters sibling place
  walk_sibling other sibling is = record {
    within = (rising.siblings n sibling here stands is).1;
    spelled = spelled_sibling nodes n here sibling (drop place letters) letters stands is walk.spelled;
    missed = λ h. walk.missed (missed_on nodes n letters place lt
        (missed_other nodes n here (get_or letters place 0) (drop (place + 1) letters) stands other
        (λ s e. missed_off nodes s letters place lt (let same : Some sibling ≡ Some s = sym is ∙ e in let k : sibling ≡ s = cc in
        subst (λ (m : ℕ). IsMissed nodes m (drop place letters)) k h))));
  }

  -- where it has another letter and no sibling, no word of the tree begins the letters
  pub walk_no_sibling : (here.letter ≡ get_or letters place 0 → ⊥) → here.sibling ≡ None → IsMissed nodes 0 letters
  walk_no_sibling other is = walk.missed (missed_on nodes n letters place lt
      (missed_other nodes n here (get_or letters place 0) (drop (place + 1) letters) stands other
      (λ s e. let same : None ≡ Some s = sym is ∙ e in cc)))

  -- where it has the letter of the place, no element and a child, the walk has come to the child and the next place
  pub walk_child : here.letter ≡ get_or letters place 0 → here.element ≡ None → (child : ℕ) → here.child ≡ Some child → IsWalk nodes letters child (place + 1)
  walk_child same none child is = record {
    within = (rising.children n child here stands is).1;
    spelled = spelled_child nodes n here child (drop (place + 1) letters) letters stands is (spelled_here nodes n place letters here lt same walk.spelled);
    missed = λ h. walk.missed (missed_on nodes n letters place lt
        (missed_same nodes n here (get_or letters place 0) (drop (place + 1) letters) stands same none
        (λ s e. let twice : Some child ≡ Some s = sym is ∙ e in let k : child ≡ s = cc in subst (λ (m : ℕ). IsMissed nodes m (drop (place + 1) letters)) k h)));
  }

  -- where it has the letter of the place, no element and no child, no word of the tree begins the letters
  pub walk_no_child : here.letter ≡ get_or letters place 0 → here.element ≡ None → here.child ≡ None → IsMissed nodes 0 letters
  walk_no_child same none is = walk.missed (missed_on nodes n letters place lt
      (missed_same nodes n here (get_or letters place 0) (drop (place + 1) letters) stands same none
      (λ s e. let twice : None ≡ Some s = sym is ∙ e in cc)))

  -- where it has the letter of the place and an element, the letters begin with the word of a node that has the element
  pub walk_found : here.letter ≡ get_or letters place 0 → (element : ℕ) → here.element ≡ Some element → Meets nodes letters element
  walk_found same element is = record {
    n = n;
    node = here;
    rest = drop (place + 1) letters;
    stands = stands;
    is = is;
    spelled = spelled_here nodes n place letters here lt same walk.spelled;
  }

-- the letters have run out
pub walk_all : (nodes : List Node) (letters : List ℕ) (n place : ℕ) → IsWalk nodes letters n place → length letters ≤ place → IsMissed nodes 0 letters
walk_all nodes letters n place walk le =
    let none : drop place letters ≡ [] = nil_from_length (drop place letters) (omega (arith, length-drop place letters)) in
    walk.missed (λ word rest element h joined. missed_empty nodes n word rest element h (sym none ∙ joined))
