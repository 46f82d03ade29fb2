-- The prefix tree of an index: its nodes, the letters before each, and the words that it finds.
use Rattle.std.specs.Prelude.{ℕ, ◌≡◌, ◌+◌, ◌<◌, ◌≤◌, List, [], ◌∷◌, ◌++◌, Contains, Some, None, get_or, length, set}
use Rattle.std.specs.Prelude.{drop}
use Rattle.std.specs.List.{slice_get}
use Rattle.lead_index.specs.declared.lead.Lead.{Lead}
use Rattle.lead_index.specs.declared.tree.Node.{Node}

-- from the node, or a sibling after it, the word leads to the element
pub data Leads (nodes : List Node) : ℕ → List ℕ → ℕ → Type 0 where
  ends : (n : ℕ) (node : Node) (x element : ℕ) → slice_get nodes n ≡ Some node → node.letter ≡ x →
      node.element ≡ Some element → Leads nodes n (x ∷ []) element
  below : (n child : ℕ) (node : Node) (x : ℕ) (word : List ℕ) (element : ℕ) → slice_get nodes n ≡ Some node →
      node.letter ≡ x →
      node.child ≡ Some child → Leads nodes child word element → Leads nodes n (x ∷ word) element
  beside : (n sibling : ℕ) (node : Node) (x : ℕ) (word : List ℕ) (element : ℕ) → slice_get nodes n ≡ Some node →
      (node.letter ≡ x → ⊥) →
      node.sibling ≡ Some sibling → Leads nodes sibling (x ∷ word) element → Leads nodes n (x ∷ word) element

-- links lead to nodes of greater numbers
pub record IsRising (nodes : List Node) : Type 0 where
  pub children : (n child : ℕ) (node : Node) → slice_get nodes n ≡ Some node → node.child ≡ Some child → (n < child)
      × (child < length nodes)
  pub siblings : (n sibling : ℕ) (node : Node) → slice_get nodes n ≡ Some node → node.sibling ≡ Some sibling →
      (n < sibling) × (sibling < length nodes)

-- the letters before each node: none before the first, one more before a child, and the same before a sibling
pub record IsLabelled (nodes : List Node) (before : ℕ → List ℕ) : Type 0 where
  pub first : before 0 ≡ []
  pub children : (n child : ℕ) (node : Node) → slice_get nodes n ≡ Some node → node.child ≡ Some child →
      before child ≡ before n ++ node.letter ∷ []
  pub siblings : (n sibling : ℕ) (node : Node) → slice_get nodes n ≡ Some node → node.sibling ≡ Some sibling →
      before sibling ≡ before n

-- the letters before this node, and these ones after them, are the word
abbrev pub IsSpelled : List Node → ℕ → List ℕ → List ℕ → Type 0
IsSpelled nodes n rest word = (before : ℕ → List ℕ) → IsLabelled nodes before → word ≡ before n ++ rest

-- the nodes agree with the list: an element ends exactly the words that have it there, and each node is on the way to
-- some word
pub record IsTree (nodes : List Node) (leads : List Lead) : Type 0 where
  pub rising : IsRising nodes
  pub before : ℕ → List ℕ
  pub labelled : IsLabelled nodes before
  pub ends : (n element : ℕ) (node : Node) → slice_get nodes n ≡ Some node → node.element ≡ Some element →
      Contains leads (record { word = before n ++ node.letter ∷ []; element = element })
  pub used : (n : ℕ) (node : Node) → slice_get nodes n ≡ Some node → (l : Lead) × (rest : List ℕ) × Contains leads l
      × (l.word ≡ before n ++ node.letter ∷ rest)
  pub listed : (l : Lead) → Contains leads l → Leads nodes 0 l.word l.element

-- no word that is found from the node begins the letters
abbrev pub IsMissed : List Node → ℕ → List ℕ → Type 0
IsMissed nodes n letters = (word rest : List ℕ) (element : ℕ) → Leads nodes n word element → letters ≡ word ++ rest → ⊥

-- the letters begin with the word of a node that has the element
pub record Meets (nodes : List Node) (letters : List ℕ) (element : ℕ) : Type 0 where
  pub n : ℕ
  pub node : Node
  pub rest : List ℕ
  pub stands : slice_get nodes n ≡ Some node
  pub is : node.element ≡ Some element
  pub spelled : IsSpelled nodes n (node.letter ∷ rest) letters

-- the nodes are there with their letters, elements and links
pub record IsExtended (nodes after : List Node) : Type 0 where
  pub kept : (n : ℕ) (node : Node) → slice_get nodes n ≡ Some node →
      (later : Node) × (slice_get after n ≡ Some later) × (later.letter ≡ node.letter) × (later.element ≡ node.element)
      × ((child : ℕ) → node.child ≡ Some child → later.child ≡ Some child)
      × ((sibling : ℕ) → node.sibling ≡ Some sibling → later.sibling ≡ Some sibling)

-- what leads from the node along the letters leads from the first node along the word, and goes on doing so
abbrev pub IsOnTheWay : List Node → ℕ → List ℕ → List ℕ → Type 0
IsOnTheWay nodes n letters word = (after : List Node) → IsExtended nodes after → (element : ℕ) →
    Leads after n letters element → Leads after 0 word element

-- the end of the path along the first letters is linked to the node that comes next
pub data IsAttached (old new : List Node) (letters : List ℕ) (place : ℕ) : Type 0 where
  first_path : length old ≡ 0 → new ≡ old → place ≡ 0 → IsAttached old new letters place
  whole_word : (n : ℕ) → n < length old → length letters ≤ place → IsSpelled old n (drop place letters) letters →
      IsAttached old new letters place
  as_child : (n : ℕ) (node : Node) → slice_get old n ≡ Some node → node.child ≡ None →
      new ≡ set old n (record node { child = Some (length old) })
      → IsSpelled old n (node.letter ∷ drop place letters) letters →
      IsOnTheWay old n (node.letter ∷ drop place letters) letters →
      IsAttached old new letters place
  as_sibling : (n : ℕ) (node : Node) → slice_get old n ≡ Some node → node.sibling ≡ None →
      new ≡ set old n (record node { sibling = Some (length old) })
      → (node.letter ≡ get_or letters place 0 → ⊥) → place < length letters →
      IsSpelled old n (drop place letters) letters →
      IsOnTheWay old n (drop place letters) letters → IsAttached old new letters place

-- the node at this place of a path, before the next node or with the element
pub record IsOnPath (next : ℕ) (letters : List ℕ) (element i : ℕ) (node : Node) : Type 0 where
  pub letter : node.letter ≡ get_or letters i 0
  pub child : i + 1 < length letters → node.child ≡ Some next
  pub last_child : length letters ≤ i + 1 → node.child ≡ None
  pub sibling : node.sibling ≡ None
  pub element_before : i + 1 < length letters → node.element ≡ None
  pub element_last : length letters ≤ i + 1 → node.element ≡ Some element

-- the nodes, and then a path along the letters to the element
pub record HasPath (old new : List Node) (letters : List ℕ) (element : ℕ) : Type 0 where
  pub count : length new ≡ length old + length letters
  pub kept : (n : ℕ) → n < length old → slice_get new n ≡ slice_get old n
  pub path : (i : ℕ) → i < length letters → (node : Node) × (slice_get new (length old + i) ≡ Some node)
      × IsOnPath (length old + i + 1) letters element i node
