-- A scan of a word by the states of an automaton.
use Rattle.std.proofs.Common.{◌≡◌, ◌+◌, ◌-◌, ◌<◌, ◌≤◌, ℕ, List, [], ◌∷◌, ◌++◌, All, length, take, drop, get_or, refl, sym, ap, ◌∙◌, inl, inr, arith}
use Rattle.std.proofs.Common.{Some, append_assoc, length-append, subst}
use Rattle.std.specs.List.{Contains, slice_get}
use Rattle.std.proofs.lemmas.Bool.{cases_lt}
use Rattle.std.proofs.lemmas.List.{append-nil, drop-append-le, drop-take, drop_at, length-take-le, nil_from_length, take-append-drop, take-take, take_more}
use Rattle.std.proofs.lemmas.List.Elements.{All-cons, All-contains, All-head, All-nil}
use Rattle.std.proofs.lemmas.Option.{slice_get_cases}
use Rattle.std.proofs.Math.Seq.{take-add}
use Rattle.words.specs.Words.{IsFactor, OccursAt}
use Rattle.words.proofs.Members.{All-from_members}
use Rattle.ideal_laws.proofs.Factors.{All-back}
use Rattle.lead_index.specs.declared.lead.Lead.{Lead}
use Rattle.lead_index.specs.declared.tree.Node.{Node}
use Rattle.lead_index.specs.Automaton.{Begins, IsEnd, IsLongestEnd}
use Rattle.lead_index.specs.Leads.{IsFirstReducer, IsFree, IsIndex}
use Rattle.lead_index.specs.Tree.{IsTree, Leads}
use Rattle.lead_index.specs.Tree.Leads.{below, beside, ends}
use Rattle.lead_index.proofs.LeadLemmas.{same_lead, starts_here}
use Rattle.lead_index.proofs.LongestEnds.{end_more, end_of_end, longest_itself, longest_more, longest_none}

-- the state has the longest end of so many letters, and no word of the list stands in them
pub record IsScan (leads : List Lead) (word : List ℕ) (i : ℕ) (last : List ℕ) : Type 0 where
  pub longest : IsLongestEnd leads (take i word) last
  pub free : (l : Lead) (k : ℕ) → Contains leads l → OccursAt l.word word k → i < k + length l.word

-- each letter of a word that is found is one of a node
found_letters : (nodes : List Node) (letters : ℕ) → ((n : ℕ) (node : Node) → slice_get nodes n ≡ Some node → node.letter < letters) →
    (n : ℕ) (word : List ℕ) (element : ℕ) → Leads nodes n word element → All (λ (z : ℕ). z < letters) word
found_letters nodes letters above n word element (ends m node x e at l is) =
    All-cons (λ (z : ℕ). z < letters) x [] (omega (arith, above m node at, l)) (All-nil (λ (z : ℕ). z < letters))
found_letters nodes letters above n word element (below m child node x w e at l is h) =
    All-cons (λ (z : ℕ). z < letters) x w (omega (arith, above m node at, l)) (found_letters nodes letters above child w e h)
found_letters nodes letters above n word element (beside m sibling node x w e at l is h) =
    found_letters nodes letters above sibling (x ∷ w) e h

module _ (nodes : List Node) (leads : List Lead) (index : IsIndex leads) (tree : IsTree nodes leads) where
  -- before the first letter a scan is in the first state
  pub scan_starts : (word : List ℕ) → IsScan leads word 0 (tree.before 0)
  scan_starts word = record {
    longest = longest_itself leads [] (tree.before 0) (sym tree.labelled.first);
    free = λ l k among o. elim (cases_lt 0 (length l.word)) [
      | inl lt ↦ omega (arith, lt)
      | inr le ↦ absurd (All-contains (λ m. m.word ≡ [] → ⊥) leads l index.some among (nil_from_length l.word (omega (arith, le))))
    ];
  }

  -- no word of the list ends the letters before a node, which begin one of them
  no_word_ends : (n : ℕ) → n < length nodes → (l : Lead) → Contains leads l → (front : List ℕ) → tree.before n ≡ front ++ l.word → ⊥
  no_word_ends n lt l among front e = elim (slice_get_cases nodes n).1 [
    | inl some ↦
        let node = some.0 in
        let u = tree.used n node some.2 in
        let factor : IsFactor l.word u.0.word = record {
          before = front;
          after = node.letter ∷ u.1;
          joined = u.3 ∙ ap (λ (xs : List ℕ). xs ++ node.letter ∷ u.1) e;
        } in
        let same : l ≡ u.0 = same_lead leads index.apart l u.0 among u.2 factor in
        omega (
          arith,
          ap (λ (m : Lead). length m.word) same,
          ap length u.3,
          length-append (tree.before n) (node.letter ∷ u.1),
          ap length e,
          length-append front l.word,
        )
    | inr none ↦ omega (arith, lt, none.0)
  ]

  module _ (word : List ℕ) (i x : ℕ) (within : i < length word) (is : x ≡ get_or word i 0) where
    one_more : take (i + 1) word ≡ take i word ++ x ∷ []
    one_more = take_more word i 0 within ∙ ap (λ (z : ℕ). take i word ++ z ∷ []) (sym is)

    scan_to : (n m : ℕ) → IsScan leads word i (tree.before n) → m < length nodes → IsLongestEnd leads (take i word ++ x ∷ []) (tree.before m) →
        IsScan leads word (i + 1) (tree.before m)
    scan_to n m h lt to = record {
      longest = subst (λ (v : List ℕ). IsLongestEnd leads v (tree.before m)) (sym one_more) to;
      free = λ l k among o. elim (cases_lt (i + 1) (k + length l.word)) [
        | inl more ↦ more
        | inr le ↦
            let end : i + 1 ≡ k + length l.word = omega (arith, le, h.free l k among o) in
            let whole : take i word ++ x ∷ [] ≡ take k word ++ l.word =
            sym one_more ∙ ap (λ (j : ℕ). take j word) end ∙ take-add k (length l.word) word ∙ ap (λ (v : List ℕ). take k word ++ v) o.same in
            let own : Begins leads l.word = record { lead = l; rest = []; among = among; is = sym (append-nil l.word) } in
            let z = end_of_end to.front (tree.before m) (take k word) l.word (sym to.joined ∙ whole) (to.longest (take k word) l.word whole own) in
            absurd (no_word_ends m lt l among z.0 z.1)
      ];
    }

    -- by one more letter a scan comes to the state of the longest end of the last state's letters and this letter
    pub scan_on : (n m : ℕ) → IsScan leads word i (tree.before n) → m < length nodes → IsLongestEnd leads (tree.before n ++ x ∷ []) (tree.before m) →
        IsScan leads word (i + 1) (tree.before m)
    scan_on n m h lt to = scan_to n m h lt (longest_more leads (take i word) (tree.before n) (tree.before m) x h.longest to)

    -- past a letter that no word has
    pub scan_anew : (n letters : ℕ) → IsScan leads word i (tree.before n) → 0 < length nodes →
        ((k : ℕ) (node : Node) → slice_get nodes k ≡ Some node → node.letter < letters) → letters ≤ x → IsScan leads word (i + 1) (tree.before 0)
    scan_anew n letters h some above le =
        scan_to n 0 h some (subst (IsLongestEnd leads (take i word ++ x ∷ [])) (sym tree.labelled.first)
        (longest_none leads (take i word) x (λ xs b.
        let found = found_letters nodes letters above 0 b.lead.word b.lead.element (tree.listed b.lead b.among) in
        let split : b.lead.word ≡ xs ++ x ∷ b.rest = b.is ∙ append_assoc xs (x ∷ []) b.rest in
        omega (
          arith,
          le,
          All-head (λ (z : ℕ). z < letters) x b.rest
              (All-back (λ (z : ℕ). z < letters) xs (x ∷ b.rest) (subst (All (λ (z : ℕ). z < letters)) split found)),
        ))))

    -- the word that ends here stands leftmost
    pub scan_found : (n element len : ℕ) → IsScan leads word i (tree.before n) → IsEnd leads (tree.before n ++ x ∷ []) element len →
        IsFirstReducer leads word (i + 1 - len) element
    scan_found n element len h e =
        let f = end_more leads (take i word) (tree.before n) x element len h.longest e in
        let own : List ℕ = f.word in
        let at : ℕ = length f.front in
        let whole : take (i + 1) word ≡ f.front ++ own = one_more ∙ f.joined in
        let size : i + 1 ≡ at + length own = omega (arith, ap length whole, length-append f.front own, length-take-le (i + 1) word (omega (arith, within))) in
        let here : OccursAt own word at = record {
          within = omega (arith, size, within);
          same = sym (drop-take at (length own) word) ∙ ap (drop at) (ap (λ (j : ℕ). take j word) (sym size) ∙ whole) ∙ drop_at f.front own at refl;
        } in
        let least : (l : Lead) (k : ℕ) → Contains leads l → OccursAt l.word word k → at ≤ k = λ l k among o. elim (cases_lt k at) [
          | inl lt ↦
              let j : ℕ = i + 1 - k in
              let sum : k + j ≡ i + 1 = omega (arith, lt, size) in
              let reach = h.free l k among o in
              let seen : take j l.word ≡ drop k f.front ++ own =
              ap (take j) (sym o.same) ∙ take-take j (length l.word) (drop k word) (omega (arith, sum, reach)) ∙ sym (drop-take k j word)
              ∙ ap (drop k) (ap (λ (m : ℕ). take m word) sum ∙ whole) ∙ drop-append-le k f.front own (omega (arith, lt)) in
              let factor : IsFactor own l.word = record {
                before = drop k f.front;
                after = drop j l.word;
                joined = sym (take-append-drop j l.word) ∙ ap (λ (v : List ℕ). v ++ drop j l.word) seen;
              } in
              let same : record { word = own; element = element } ≡ l =
              same_lead leads index.apart (record { word = own; element = element }) l f.among among factor in
              absurd (omega (arith, lt, size, reach, ap (λ (m : Lead). length m.word) same))
          | inr le ↦ le
        ] in
        subst (λ (k : ℕ). IsFirstReducer leads word k element) (omega (arith, size, f.count))
        (record { starts = starts_here leads index word at (record { word = own; element = element }) f.among here; least = least })

  -- if a scan has read all letters, no word of the list stands in the word
  pub scan_free : (word : List ℕ) (i : ℕ) (last : List ℕ) → length word ≤ i → IsScan leads word i last → IsFree leads word
  scan_free word i last le h at = All-from_members (λ l. OccursAt l.word word at → ⊥) leads
      (λ l among o. omega (arith, le, h.free l at among o, o.within))
