-- A path of nodes that is pushed letter by letter.
use Rattle.std.proofs.Common.{◌≡◌, ◌+◌, ◌<◌, ℕ, zero, suc, List, [], ◌∷◌, ◌++◌, length, refl, sym, ◌∙◌, inl, inr, arith, subst, Some, length-append}
use Rattle.std.specs.List.{slice_get}
use Rattle.std.proofs.lemmas.Bool.{cases_lt}
use Rattle.lead_index.specs.declared.tree.Node.{Node}
use Rattle.lead_index.specs.Tree.{IsOnPath}

-- the first nodes of the path are there
pub record IsBegun (old new : List Node) (letters : List ℕ) (element i : ℕ) : Type 0 where
  -- there are i nodes more than before
  pub count : length new ≡ length old + i
  -- the old nodes stand where they stood
  pub kept : (n : ℕ) → n < length old → slice_get new n ≡ slice_get old n
  -- behind them stand the nodes of the first i places of the path
  pub path : (k : ℕ) → k < i → (node : Node) × (slice_get new (length old + k) ≡ Some node) × IsOnPath (length old + k + 1) letters element k node

-- at a place within the first of two lists, their join has what the first has
pub slice_get-append : {X : Type 0} (xs ys : List X) (n : ℕ) → n < length xs → slice_get (xs ++ ys) n ≡ slice_get xs n
slice_get-append [] ys n lt = absurd (omega (arith, lt))
slice_get-append (x ∷ xs) ys zero lt = refl
slice_get-append (x ∷ xs) ys (suc n) lt = slice_get-append xs ys n (omega (arith, lt))

-- at the place behind a list, the list with one more entry has this entry
pub slice_get-push : {X : Type 0} (xs : List X) (y : X) (n : ℕ) → n ≡ length xs → slice_get (xs ++ y ∷ []) n ≡ Some y
slice_get-push [] y zero e = refl
slice_get-push [] y (suc n) e = absurd (omega (arith, e))
slice_get-push (x ∷ xs) y zero e = absurd (omega (arith, e))
slice_get-push (x ∷ xs) y (suc n) e = slice_get-push xs y n (omega (arith, e))

-- the first i nodes of a path, with the node of place i pushed behind them, are its first i + 1 nodes
pub begun_more : (old new more : List Node) (letters : List ℕ) (element i : ℕ) (node : Node) → IsBegun old new letters element i →
    IsOnPath (length old + i + 1) letters element i node → more ≡ new ++ node ∷ []
    → IsBegun old more letters element (i + 1)
begun_more old new more letters element i node h on e = subst (λ (xs : List Node). IsBegun old xs letters element (i + 1)) (sym e) (record {
  count = let c = h.count in omega (arith, length-append new (node ∷ []));
  kept = λ n lt. slice_get-append new (node ∷ []) n (let c = h.count in omega arith) ∙ h.kept n lt;
  path = λ k lt. elim (cases_lt k i) [
    | inl below ↦ let p = h.path k below in (p.0, slice_get-append new (node ∷ []) (length old + k) (let c = h.count in omega arith) ∙ p.1, p.2)
    | inr le ↦ let same : i ≡ k = omega arith in (
      node,
      slice_get-push new node (length old + k) (let c = h.count in omega arith),
      subst (λ (m : ℕ). IsOnPath (length old + m + 1) letters element m node) same on,
    )
  ];
})
