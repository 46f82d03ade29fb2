-- A tree to which the path of a fresh word was added.
use Rattle.std.proofs.Common.{◌≡◌, ◌⊎◌, ◌+◌, ◌<◌, ◌≤◌, ℕ, zero, suc, List, [], ◌∷◌, ◌++◌, length, drop, get_or, set, refl, sym, ap, ◌∙◌, inl, inr}
use Rattle.std.proofs.Common.{arith, subst, Some, None, append_assoc, length-drop, length-set}
use Rattle.std.specs.List.{Contains, slice_get}
use Rattle.std.proofs.lemmas.Bool.{cases_eq, cases_lt}
use Rattle.std.proofs.lemmas.List.{append-nil, drop_more, nil_from_length}
use Rattle.std.proofs.lemmas.List.Elements.{All-contains}
use Rattle.std.proofs.lemmas.Option.{slice_get_cases, slice_get_within}
use Rattle.words.specs.Words.{IsFactor}
use Rattle.lead_index.specs.declared.lead.Lead.{Lead}
use Rattle.lead_index.specs.declared.tree.Node.{Node}
use Rattle.lead_index.specs.Leads.{AreApart, IsFresh}
use Rattle.lead_index.specs.Tree.{HasPath, IsAttached, IsExtended, IsOnPath, IsTree, Leads}
use Rattle.lead_index.specs.Tree.IsAttached.{as_child, as_sibling, first_path, whole_word}
use Rattle.lead_index.specs.Tree.Leads.{below, beside}
use Rattle.lead_index.proofs.Walks.{same_node}

-- a node that stood there before, with a link more at most, to the first new node
pub record IsLater (old : List Node) (before : ℕ → List ℕ) (front : List ℕ) (n : ℕ) (later : Node) : Type 0 where
  pub node : Node
  pub stood : slice_get old n ≡ Some node
  pub letter : later.letter ≡ node.letter
  pub element : later.element ≡ node.element
  pub child : (c : ℕ) → later.child ≡ Some c → (node.child ≡ Some c) ⊎ ((c ≡ length old) × (front ≡ before n ++ node.letter ∷ []))
  pub sibling : (c : ℕ) → later.sibling ≡ Some c → (node.sibling ≡ Some c) ⊎ ((c ≡ length old) × (front ≡ before n))

-- the tree has the nodes of before, and after them the path of the rest, whose first node is after the front
pub record IsGrown (old new : List Node) (before : ℕ → List ℕ) (front rest letters : List ℕ) (element : ℕ) : Type 0 where
  pub some : 0 < length rest
  pub joined : letters ≡ front ++ rest
  pub first : length old ≡ 0 → front ≡ []
  pub extended : IsExtended old new
  pub count : length new ≡ length old + length rest
  pub stays : (n : ℕ) (later : Node) → n < length old → slice_get new n ≡ Some later → IsLater old before front n later
  pub path : (i : ℕ) → i < length rest → (node : Node) × (slice_get new (length old + i) ≡ Some node) × IsOnPath (length old + i + 1) rest element i node
  pub leads : (e : ℕ) → Leads new (length old) rest e → Leads new 0 letters e

slice_get-set_same : (xs : List Node) (n : ℕ) (y : Node) → n < length xs → slice_get (set xs n y) n ≡ Some y
slice_get-set_same [] n y lt = absurd (omega (arith, lt))
slice_get-set_same (x ∷ xs) zero y lt = refl
slice_get-set_same (x ∷ xs) (suc n) y lt = slice_get-set_same xs n y (omega (arith, lt))

slice_get-set_other : (xs : List Node) (n k : ℕ) (y : Node) → (k ≡ n → ⊥) → slice_get (set xs n y) k ≡ slice_get xs k
slice_get-set_other [] n k y other = refl
slice_get-set_other (x ∷ xs) zero zero y other = absurd (other refl)
slice_get-set_other (x ∷ xs) zero (suc k) y other = refl
slice_get-set_other (x ∷ xs) (suc n) zero y other = refl
slice_get-set_other (x ∷ xs) (suc n) (suc k) y other = slice_get-set_other xs n k y (λ e. other (ap suc e))

-- a fresh word begins no word of the list
not_begun : (leads : List Lead) (letters tail : List ℕ) → IsFresh leads letters → (l : Lead) → Contains leads l → l.word ≡ letters ++ tail → ⊥
not_begun leads letters tail fresh l among e =
    let apart : AreApart l.word letters = All-contains (λ m. AreApart m.word letters) leads l fresh.apart among in
    let inside : IsFactor letters l.word = record { before = []; after = tail; joined = e } in
    apart.1 inside

empty_rest : (letters : List ℕ) (place : ℕ) → length letters ≤ place → drop place letters ≡ []
empty_rest letters place le = nil_from_length (drop place letters) (omega (arith, length-drop place letters))

-- one node got a link more
module _ (old mid new : List Node) (before : ℕ → List ℕ) (front : List ℕ) (n : ℕ) (node linked : Node)
    (stands : slice_get old n ≡ Some node) (made : mid ≡ set old n linked) (rest : List ℕ) (element : ℕ)
    (path : HasPath mid new rest element) (letter : linked.letter ≡ node.letter) (same_element : linked.element ≡ node.element) where
  -- there are as many nodes as before
  pub size : length mid ≡ length old
  size = ap length made ∙ length-set old n linked

  -- the node with the link stands in its place after the path is added
  pub at_linked : slice_get new n ≡ Some linked
  at_linked =
      let within = slice_get_within old n node stands in
      path.kept n (omega (arith, size, within)) ∙ ap (λ (xs : List Node). slice_get xs n) made ∙ slice_get-set_same old n linked within

  at_other : (k : ℕ) → k < length old → (k ≡ n → ⊥) → slice_get new k ≡ slice_get old k
  at_other k lt other = path.kept k (omega (arith, size, lt)) ∙ ap (λ (xs : List Node). slice_get xs k) made ∙ slice_get-set_other old n k linked other

  -- if it keeps the links of the node, the old nodes are there with their letters, elements and links
  pub linked_extends : ((c : ℕ) → node.child ≡ Some c → linked.child ≡ Some c) → ((c : ℕ) → node.sibling ≡ Some c → linked.sibling ≡ Some c)
      → IsExtended old new
  linked_extends child sibling = record {
    kept = λ k x e. elim (cases_eq k n) [
      | inl q ↦ let same : x ≡ node = same_node old n x node (subst (λ (m : ℕ). slice_get old m ≡ Some x) q e) stands in (
        linked,
        ap (slice_get new) q ∙ at_linked,
        letter ∙ ap (λ (y : Node). y.letter) (sym same),
        same_element ∙ ap (λ (y : Node). y.element) (sym same),
        λ c h. child c (ap (λ (y : Node). y.child) (sym same) ∙ h),
        λ c h. sibling c (ap (λ (y : Node). y.sibling) (sym same) ∙ h),
      )
      | inr other ↦ (x, at_other k (slice_get_within old k x e) other ∙ e, refl, refl, λ c h. h, λ c h. h)
    ];
  }

  -- if each of its links is one of the node, or leads to the first new node after the right letters,
  -- then at each old place stands the node from before, with a link more at most
  pub linked_stays : ((c : ℕ) → linked.child ≡ Some c → (node.child ≡ Some c) ⊎ ((c ≡ length old) × (front ≡ before n ++ node.letter ∷ [])))
      → ((c : ℕ) → linked.sibling ≡ Some c → (node.sibling ≡ Some c) ⊎ ((c ≡ length old) × (front ≡ before n)))
      → (k : ℕ) (later : Node) → k < length old → slice_get new k ≡ Some later → IsLater old before front k later
  linked_stays child sibling k later lt e = elim (cases_eq k n) [
    | inl q ↦ let same : linked ≡ later = same_node new n linked later at_linked (subst (λ (m : ℕ). slice_get new m ≡ Some later) q e) in
        subst (λ (m : ℕ). IsLater old before front m later) (sym q)
        (subst (λ (y : Node). IsLater old before front n y) same (record
        { node = node; stood = stands; letter = letter; element = same_element; child = child; sibling = sibling }))
    | inr other ↦ record { node = later; stood = sym (at_other k lt other) ∙ e; letter = refl; element = refl; child = λ c h. inl h; sibling = λ c h. inl h }
  ]

-- what attaching and pushing gives is a grown tree
pub grown : (old mid new : List Node) (leads : List Lead) (letters : List ℕ) (element place : ℕ) (tree : IsTree old leads) →
    IsFresh leads letters → IsAttached old mid letters place → HasPath mid new (drop place letters) element
    → (front : List ℕ) × IsGrown old new tree.before front (drop place letters) letters element
grown old mid new leads letters element place tree fresh (first_path none same start) path =
    let all : drop place letters ≡ letters = ap (λ (k : ℕ). drop k letters) start in
    let count : length mid ≡ length old = ap length same in
    let some : 0 < length (drop place letters) = elim (cases_lt 0 (length (drop place letters))) [
      | inl lt ↦ lt
      | inr le ↦ absurd (fresh.some (sym all ∙ nil_from_length (drop place letters) (omega (arith, le))))
    ] in (
      [],
      record {
        some = some;
        joined = sym all;
        first = λ e. refl;
        extended = record { kept = λ k x e. absurd (let within = slice_get_within old k x e in omega arith) };
        count = let c = path.count in omega arith;
        stays = λ k later lt e. absurd (omega (arith, lt, none));
        path = subst (λ (m : ℕ). (i : ℕ) → i < length (drop place letters) →
            (node : Node) × (slice_get new (m + i) ≡ Some node) × IsOnPath (m + i + 1) (drop place letters) element i node) count path.path;
        leads = λ e h. subst (λ (xs : List ℕ). Leads new 0 xs e) all (subst (λ (m : ℕ). Leads new m (drop place letters) e) none h);
      },
    )
grown old mid new leads letters element place tree fresh (whole_word n lt le spelled) path =
    let rest : drop place letters ≡ [] = empty_rest letters place le in
    let word : letters ≡ tree.before n = spelled tree.before tree.labelled ∙ ap (λ (xs : List ℕ). tree.before n ++ xs) rest ∙ append-nil (tree.before n) in
    elim (slice_get_cases old n).1 [
      | inl h ↦ let u = tree.used n h.0 h.2 in absurd (not_begun leads letters (h.0.letter ∷ u.1) fresh u.0 u.2
          (u.3 ∙ ap (λ (xs : List ℕ). xs ++ h.0.letter ∷ u.1) (sym word)))
      | inr h ↦ absurd (omega (arith, lt, h.0))
    ]
grown old mid new leads letters element place tree fresh (as_child n node stands none made spelled way) path =
    let linked : Node = record node { child = Some (length old) } in
    let front : List ℕ = tree.before n ++ node.letter ∷ [] in
    let rest : List ℕ = drop place letters in
    let joined : letters ≡ front ++ rest = spelled tree.before tree.labelled ∙ sym (append_assoc (tree.before n) (node.letter ∷ []) rest) in
    let count : length mid ≡ length old = size old mid new tree.before front n node linked stands made rest element path refl refl in
    let extended : IsExtended old new = linked_extends old mid new tree.before front n node linked stands made rest element path refl refl
    (λ c h. let q : None ≡ Some c = sym none ∙ h in cc) (λ c h. h) in
    let some : 0 < length rest = elim (cases_lt 0 (length rest)) [
      | inl lt ↦ lt
      | inr le ↦ let u = tree.used n node stands in
          let word : letters ≡ front = joined ∙ ap (λ (xs : List ℕ). front ++ xs) (nil_from_length rest (omega (arith, le))) ∙ append-nil front in
          absurd (not_begun leads letters u.1 fresh u.0 u.2 (u.3 ∙ sym (append_assoc (tree.before n) (node.letter ∷ []) u.1)
          ∙ ap (λ (xs : List ℕ). xs ++ u.1) (sym word)))
    ] in (
      front,
      record {
        some = some;
        joined = joined;
        first = λ e. absurd (let within = slice_get_within old n node stands in omega arith);
        extended = extended;
        count = let c = path.count in omega arith;
        stays = linked_stays old mid new tree.before front n node linked stands made rest element path refl refl
            (λ c h. inr (let q : Some (length old) ≡ Some c = h in cc, refl)) (λ c h. inl h);
        path = subst (λ (m : ℕ). (i : ℕ) → i < length rest → (node : Node) × (slice_get new (m + i) ≡ Some node)
            × IsOnPath (m + i + 1) rest element i node) count path.path;
        leads = λ e h. way new extended e (below n (length old) linked node.letter rest e
            (at_linked old mid new tree.before front n node linked stands made rest element path refl refl) refl refl h);
      },
    )
grown old mid new leads letters element place tree fresh (as_sibling n node stands none made other lt spelled way) path =
    let linked : Node = record node { sibling = Some (length old) } in
    let front : List ℕ = tree.before n in
    let rest : List ℕ = drop place letters in
    let count : length mid ≡ length old = size old mid new tree.before front n node linked stands made rest element path refl refl in
    let extended : IsExtended old new = linked_extends old mid new tree.before front n node linked stands made rest element path refl refl
    (λ c h. h) (λ c h. let q : None ≡ Some c = sym none ∙ h in cc) in
    let split : rest ≡ get_or letters place 0 ∷ drop (place + 1) letters = drop_more letters place 0 lt in (
      front,
      record {
        some = omega (arith, lt, length-drop place letters);
        joined = spelled tree.before tree.labelled;
        first = λ e. absurd (let within = slice_get_within old n node stands in omega arith);
        extended = extended;
        count = let c = path.count in omega arith;
        stays = linked_stays old mid new tree.before front n node linked stands made rest element path refl refl (λ c h. inl h)
            (λ c h. inr (let q : Some (length old) ≡ Some c = h in cc, refl));
        path = subst (λ (m : ℕ). (i : ℕ) → i < length rest → (node : Node) × (slice_get new (m + i) ≡ Some node)
            × IsOnPath (m + i + 1) rest element i node) count path.path;
        leads = λ e h. way new extended e (subst (λ (xs : List ℕ). Leads new n xs e) (sym split)
            (beside n (length old) linked (get_or letters place 0) (drop (place + 1) letters) e
            (at_linked old mid new tree.before front n node linked stands made rest element path refl refl) other refl
            (subst (λ (xs : List ℕ). Leads new (length old) xs e) split h)));
      },
    )
