-- The steps of the prefix tree by a letter.
use Rattle.std.specs.Prelude.{ℕ, ◌≡◌, List, Option, Some, None}
use Rattle.std.specs.List.{slice_get}
use Rattle.lead_index.specs.declared.steps.Step.{Step}
use Rattle.lead_index.specs.declared.steps.Step.TheVariants.{Ends, Goes, Stops}
use Rattle.lead_index.specs.declared.tree.Node.{Node}

-- the step to a node with this element and this child
abbrev pub step_to : Option ℕ → Option ℕ → Step
step_to (Some element) child = Ends element
step_to None (Some child) = Goes child
step_to None None = Stops

-- the step by a letter from the node, or from the sibling after it that has the letter
pub data IsStep (nodes : List Node) : ℕ → ℕ → Step → Type 0 where
  here : (n : ℕ) (node : Node) (x : ℕ) → slice_get nodes n ≡ Some node → node.letter ≡ x →
      IsStep nodes n x (step_to node.element node.child)
  beside : (n sibling : ℕ) (node : Node) (x : ℕ) (step : Step) → slice_get nodes n ≡ Some node →
      (node.letter ≡ x → ⊥) → node.sibling ≡ Some sibling → IsStep nodes sibling x step → IsStep nodes n x step
  nowhere : (n : ℕ) (node : Node) (x : ℕ) → slice_get nodes n ≡ Some node → (node.letter ≡ x → ⊥) →
      node.sibling ≡ None → IsStep nodes n x Stops
