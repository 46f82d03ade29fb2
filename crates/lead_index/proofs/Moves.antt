-- The moves of an automaton in its table, and how those of a state come from the tree and from a state that is filled.
use Rattle.std.proofs.Common.{◌≡◌, ◌+◌, ◌*◌, ◌/◌, ◌%◌, ◌<◌, ℕ, List, [], ◌∷◌, ◌++◌, length, drop, get_or, refl, sym, ap, ◌∙◌, inl, inr, arith, subst}
use Rattle.std.proofs.Common.{append_assoc, false, length-append, set, true}
use Rattle.std.proofs.lemmas.Bool.{cases_eq}
use Rattle.std.proofs.lemmas.List.{append-nil, drop-append-le, get_or-set_other, get_or-set_same}
use Rattle.std.proofs.lemmas.List.{length-set, nil_from_length}
use Rattle.std.proofs.lemmas.Nat.{div-mul-add, mod-mul-add, mul-add-lt}
use Rattle.std.proofs.Math.Nat.{mul_comm}
use Rattle.lead_index.specs.declared.automaton.Kind.TheVariants.{Finds, Moves}
use Rattle.lead_index.specs.declared.automaton.Move.{Move}
use Rattle.lead_index.specs.declared.automaton.State.{State}
use Rattle.lead_index.specs.declared.lead.Lead.{Lead}
use Rattle.lead_index.specs.declared.steps.Step.{Step}
use Rattle.lead_index.specs.declared.steps.Step.TheVariants.{Ends, Goes, Stops}
use Rattle.lead_index.specs.declared.tree.Node.{Node}
use Rattle.lead_index.specs.Automaton.{Begins, IsAutomaton, IsBehind, IsEnd, IsLongestEnd, IsMove, IsState}
use Rattle.lead_index.specs.Steps.{IsStep}
use Rattle.lead_index.specs.Tree.{IsMissed, IsRising, IsTree}
use Rattle.lead_index.proofs.LongestEnds.{end_behind_first, end_more, longest_behind, longest_itself, longest_more}
use Rattle.lead_index.proofs.StepWalks.{ends_among, goes_before, goes_within, missed_by_go, missed_by_stop}

module _ (nodes : List Node) (letters : ℕ) (moves : List Move) (h : IsAutomaton nodes letters moves) (n x : ℕ) (in_nodes : n < length nodes)
    (in_letters : x < letters) where
  -- the place of a state's move in the table
  pub move_within : n * letters + x < length moves
  move_within = omega (arith, h.count, mul-add-lt n letters x (length nodes) in_nodes in_letters, mul_comm (length nodes) letters)

  -- the move that is read there
  pub move_read : (here : Move) → here ≡ get_or moves (n * letters + x) here → IsMove nodes n x here
  move_read here is =
      let i : ℕ = n * letters + x in
      subst (IsMove nodes n x) (sym is) (subst (λ (m : ℕ). IsMove nodes m x (get_or moves i here)) (div-mul-add n letters x in_letters)
      (subst (λ (y : ℕ). IsMove nodes (i / letters) y (get_or moves i here)) (mod-mul-add n letters x in_letters) (h.each i here move_within)))

  -- the table is still the automaton's after a move of this state by this letter is set in its place
  pub move_set : (move : Move) → IsMove nodes n x move → IsAutomaton nodes letters (set moves (n * letters + x) move)
  move_set move is =
      let at : ℕ = n * letters + x in
      record {
        some = h.some;
        above = h.above;
        count = length-set moves at move ∙ h.count;
        each = λ i d lt. elim (cases_eq i at) [
          | inl e ↦
              let here : IsMove nodes (at / letters) (at % letters) move =
              subst (λ (m : ℕ). IsMove nodes m (at % letters) move) (sym (div-mul-add n letters x in_letters))
              (subst (λ (y : ℕ). IsMove nodes n y move) (sym (mod-mul-add n letters x in_letters)) is) in
              subst (λ (k : ℕ). IsMove nodes (k / letters) (k % letters) (get_or (set moves at move) k d)) (sym e)
              (subst (IsMove nodes (at / letters) (at % letters)) (sym (get_or-set_same moves at move d move_within)) here)
          | inr other ↦ subst (IsMove nodes (i / letters) (i % letters)) (sym (get_or-set_other moves at i move d other))
              (h.each i d (omega (arith, lt, length-set moves at move)))
        ];
      }

module _ (nodes : List Node) (rising : IsRising nodes) where
  module _ (state : State) (s : IsState nodes state) (x : ℕ) where
    behind_first : (move : Move) → state.depth ≡ 0 → move.kind ≡ Moves → move.to ≡ 0 → IsBehind nodes state.node x move
    behind_first move depth kind to = record {
      within = λ k. omega (arith, to, s.within);
      moves = λ k leads tree.
          let none : tree.before state.node ≡ [] = nil_from_length (tree.before state.node) (s.depth leads tree ∙ depth) in
          longest_itself leads (drop 1 (tree.before state.node ++ x ∷ [])) (tree.before move.to)
          (ap (λ (xs : List ℕ). drop 1 (xs ++ x ∷ [])) none ∙ sym (ap tree.before to ∙ tree.labelled.first));
      finds = λ k. cc;
    }

    behind_fall : (move : Move) → (state.depth ≡ 0 → ⊥) → IsMove nodes state.fall x move → IsBehind nodes state.node x move
    behind_fall move deep m =
        let split : (leads : List Lead) (tree : IsTree nodes leads) →
        drop 1 (tree.before state.node) ++ x ∷ [] ≡ drop 1 (tree.before state.node ++ x ∷ []) = λ leads tree.
        sym (drop-append-le 1 (tree.before state.node) (x ∷ []) (omega (arith, deep, s.depth leads tree))) in
        record {
          within = m.by.within;
          moves = λ k leads tree. subst (λ (v : List ℕ). IsLongestEnd leads v (tree.before move.to)) (split leads tree)
              (longest_more leads (drop 1 (tree.before state.node)) (tree.before state.fall) (tree.before move.to) x (s.falls leads tree)
              (m.by.moves k leads tree));
          finds = λ k leads tree. subst (λ (v : List ℕ). IsEnd leads v move.to move.len) (split leads tree)
              (end_more leads (drop 1 (tree.before state.node)) (tree.before state.fall) x move.to move.len (s.falls leads tree) (m.by.finds k leads tree));
        }

    -- the move that is read in the row of the fall, or that to the first state
    pub behind_read : (letters : ℕ) (moves : List Move) → IsAutomaton nodes letters moves → x < letters → (there move : Move) →
        there ≡ get_or moves (state.fall * letters + x) there → (state.depth ≡ 0 → (move.kind ≡ Moves) × (move.to ≡ 0)) →
        ((state.depth ≡ 0 → ⊥) → move ≡ there) → IsBehind nodes state.node x move
    behind_read letters moves h lt there move is first below = elim (cases_eq state.depth 0) [
      | inl e ↦ let f = first e in behind_first move e f.0 f.1
      | inr deep ↦ subst (IsBehind nodes state.node x) (sym (below deep))
          (behind_fall there deep (move_read nodes letters moves h state.fall x s.fall_within lt there is))
    ]

    begins_none : (step : Step) → IsStep nodes state.node x step → step ≡ Stops → (leads : List Lead) (tree : IsTree nodes leads) →
        Begins leads (tree.before state.node ++ x ∷ []) → ⊥
    begins_none step h is leads tree b =
        s.missed leads tree (x ∷ b.rest) (missed_by_stop nodes state.node x step h is b.rest) b.lead.word [] b.lead.element (tree.listed b.lead b.among)
        (sym (append_assoc (tree.before state.node) (x ∷ []) b.rest) ∙ sym b.is ∙ sym (append-nil b.lead.word))

    -- where no word goes on with the letter
    pub move_stops : (step : Step) → IsStep nodes state.node x step → step ≡ Stops → (behind move : Move) → IsBehind nodes state.node x behind →
        move.to ≡ behind.to → move.len ≡ behind.len → move.kind ≡ behind.kind → move.falls ≡ true → IsMove nodes state.node x move
    move_stops step h is behind move b to len kind falls = record {
      by = record {
        within = λ k. omega (arith, to, b.within (sym kind ∙ k));
        moves = λ k leads tree. longest_behind leads (tree.before state.node ++ x ∷ []) (tree.before move.to) (begins_none step h is leads tree)
            (subst (λ (m : ℕ). IsLongestEnd leads (drop 1 (tree.before state.node ++ x ∷ [])) (tree.before m)) (sym to) (b.moves (sym kind ∙ k) leads tree));
        finds = λ k leads tree. end_behind_first leads (tree.before state.node ++ x ∷ []) move.to move.len
            (subst (λ (m : ℕ). IsEnd leads (drop 1 (tree.before state.node ++ x ∷ [])) m move.len) (sym to)
            (subst (λ (m : ℕ). IsEnd leads (drop 1 (tree.before state.node ++ x ∷ [])) behind.to m) (sym len) (b.finds (sym kind ∙ k) leads tree)));
      };
      falls = λ k. subst (IsStep nodes state.node x) is h;
      goes = λ f. cc;
      ends = λ f. cc;
    }

    -- where the step by the letter goes to a node, the move to this node is that of the state by the letter
    pub move_goes : (step : Step) (move : Move) → IsStep nodes state.node x step → step ≡ Goes move.to → move.kind ≡ Moves → move.falls ≡ false →
        IsMove nodes state.node x move
    move_goes step move h is kind falls = record {
      by = record {
        within = λ k. goes_within nodes rising state.node x move.to step h is;
        moves = λ k leads tree. longest_itself leads (tree.before state.node ++ x ∷ []) (tree.before move.to)
            (sym (goes_before nodes tree.before tree.labelled state.node x move.to step h is));
        finds = λ k. cc;
      };
      falls = λ k. cc;
      goes = λ f k. subst (IsStep nodes state.node x) is h;
      ends = λ f k. cc;
    }

    -- where the step by the letter ends with an element, the move that finds it, with as many letters as the state is deep and one more,
    -- is that of the state by the letter
    pub move_ends : (step : Step) (move : Move) → IsStep nodes state.node x step → step ≡ Ends move.to → move.kind ≡ Finds → move.falls ≡ false →
        move.len ≡ state.depth + 1 → IsMove nodes state.node x move
    move_ends step move h is kind falls len = record {
      by = record {
        within = λ k. cc;
        moves = λ k. cc;
        finds = λ k leads tree. record {
          front = [];
          word = tree.before state.node ++ x ∷ [];
          among = ends_among nodes leads tree state.node x move.to step h is;
          count = omega (arith, len, s.depth leads tree, length-append (tree.before state.node) (x ∷ []));
          joined = refl;
        };
      };
      falls = λ k. cc;
      goes = λ f k. cc;
      ends = λ f k. subst (IsStep nodes state.node x) is h;
    }

    -- the state below by this letter
    pub state_below : (step : Step) (behind : Move) (child : State) → IsStep nodes state.node x step → step ≡ Goes child.node →
        IsBehind nodes state.node x behind → behind.kind ≡ Moves → child.fall ≡ behind.to → child.depth ≡ state.depth + 1 → IsState nodes child
    state_below step behind child h is b kind fall depth =
        let before : (leads : List Lead) (tree : IsTree nodes leads) → tree.before child.node ≡ tree.before state.node ++ x ∷ [] = λ leads tree.
        goes_before nodes tree.before tree.labelled state.node x child.node step h is in
        record {
          within = goes_within nodes rising state.node x child.node step h is;
          fall_within = omega (arith, fall, b.within kind);
          depth = λ leads tree. omega (arith, depth, s.depth leads tree, ap length (before leads tree), length-append (tree.before state.node) (x ∷ []));
          falls = λ leads tree. subst (λ (v : List ℕ). IsLongestEnd leads (drop 1 v) (tree.before child.fall)) (sym (before leads tree))
              (subst (λ (m : ℕ). IsLongestEnd leads (drop 1 (tree.before state.node ++ x ∷ [])) (tree.before m)) (sym fall) (b.moves kind leads tree));
          missed = λ leads tree rest g. subst (IsMissed nodes 0)
              (sym (append_assoc (tree.before state.node) (x ∷ []) rest) ∙ ap (λ (v : List ℕ). v ++ rest) (sym (before leads tree)))
              (s.missed leads tree (x ∷ rest) (missed_by_go nodes state.node x child.node step h is rest g));
        }
