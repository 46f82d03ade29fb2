-- The prefix tree as an automaton, whose states are nodes: each stands for the longest end of the letters read that
-- begins a word.
use Rattle.std.specs.Prelude.{ℕ, ◌≡◌, ◌*◌, ◌/◌, ◌%◌, ◌<◌, ◌≤◌, List, [], ◌∷◌, ◌++◌, Contains, Option, Some, None}
use Rattle.std.specs.Prelude.{drop, false, get_or, length, true}
use Rattle.std.specs.List.{slice_get}
use Rattle.lead_index.specs.declared.automaton.Automaton.{Automaton}
use Rattle.lead_index.specs.declared.automaton.Kind.TheVariants.{Finds, Moves}
use Rattle.lead_index.specs.declared.automaton.Move.{Move}
use Rattle.lead_index.specs.declared.automaton.State.{State}
use Rattle.lead_index.specs.declared.lead.Lead.{Lead}
use Rattle.lead_index.specs.declared.steps.Step.TheVariants.{Ends, Goes, Stops}
use Rattle.lead_index.specs.declared.tree.Node.{Node}
use Rattle.lead_index.specs.Steps.{IsStep}
use Rattle.lead_index.specs.Tree.{IsMissed, IsTree}

-- a word of the list begins with these letters
pub record Begins (leads : List Lead) (letters : List ℕ) : Type 0 where
  pub lead : Lead
  pub rest : List ℕ
  pub among : Contains leads lead
  pub is : lead.word ≡ letters ++ rest

-- an end of the letters, and no longer one begins a word of the list
pub record IsLongestEnd (leads : List Lead) (letters last : List ℕ) : Type 0 where
  pub front : List ℕ
  pub joined : letters ≡ front ++ last
  pub longest : (before other : List ℕ) → letters ≡ before ++ other → Begins leads other → length other ≤ length last

-- the word of this element, which has so many letters, ends here
pub record IsEnd (leads : List Lead) (letters : List ℕ) (element len : ℕ) : Type 0 where
  pub front : List ℕ
  pub word : List ℕ
  pub among : Contains leads (record { word = word; element = element })
  pub count : length word ≡ len
  pub joined : letters ≡ front ++ word

-- the move comes to the state of the letters, or finds a word that ends with them; the letters are told by those
-- before each node
pub record IsMoveBy (nodes : List Node) (letters : (ℕ → List ℕ) → List ℕ) (move : Move) : Type 0 where
  pub within : move.kind ≡ Moves → move.to < length nodes
  pub moves : move.kind ≡ Moves → (leads : List Lead) (tree : IsTree nodes leads) →
      IsLongestEnd leads (letters tree.before) (tree.before move.to)
  pub finds : move.kind ≡ Finds → (leads : List Lead) (tree : IsTree nodes leads) →
      IsEnd leads (letters tree.before) move.to move.len

-- the move of the longest proper end of a state's letters and one more
abbrev pub IsBehind : List Node → ℕ → ℕ → Move → Type 0
IsBehind nodes n x = IsMoveBy nodes (λ before. drop 1 (before n ++ x ∷ []))

-- the move of a state by a letter, and what it tells of the step of the tree
pub record IsMove (nodes : List Node) (n x : ℕ) (move : Move) : Type 0 where
  pub by : IsMoveBy nodes (λ before. before n ++ x ∷ []) move
  pub falls : move.falls ≡ true → IsStep nodes n x Stops
  pub goes : move.falls ≡ false → move.kind ≡ Moves → IsStep nodes n x (Goes move.to)
  pub ends : move.falls ≡ false → move.kind ≡ Finds → IsStep nodes n x (Ends move.to)

-- the letters before a state are as many as its depth, it falls to the state of their longest proper end, and what
-- begins with them is found from it
pub record IsState (nodes : List Node) (state : State) : Type 0 where
  pub within : state.node < length nodes
  pub fall_within : state.fall < length nodes
  pub depth : (leads : List Lead) (tree : IsTree nodes leads) → length (tree.before state.node) ≡ state.depth
  pub falls : (leads : List Lead) (tree : IsTree nodes leads) →
      IsLongestEnd leads (drop 1 (tree.before state.node)) (tree.before state.fall)
  pub missed : (leads : List Lead) (tree : IsTree nodes leads) (rest : List ℕ) → IsMissed nodes state.node rest →
      IsMissed nodes 0 (tree.before state.node ++ rest)

-- a move for each node, of which there is one, and each of so many letters, below which are those of all words
pub record IsAutomaton (nodes : List Node) (letters : ℕ) (moves : List Move) : Type 0 where
  pub some : 0 < length nodes
  pub above : (n : ℕ) (node : Node) → slice_get nodes n ≡ Some node → node.letter < letters
  pub count : length moves ≡ length nodes * letters
  pub each : (i : ℕ) (d : Move) → i < length moves → IsMove nodes (i / letters) (i % letters) (get_or moves i d)

-- the automaton, if there is one, has the moves of the tree
abbrev pub MayRun : List Node → Option Automaton → Type 0
MayRun nodes None = Unit {0}
MayRun nodes (Some automaton) = IsAutomaton nodes automaton.letters automaton.moves.items
