-- What a tree that agrees with a list answers, and the tree with no word.
use Rattle.std.proofs.Common.{◌≡◌, ◌≤◌, ℕ, List, [], ◌∷◌, ◌++◌, length, take, drop, refl, sym, ap, ◌∙◌, arith, subst, Option, Some, None, MatchOption}
use Rattle.std.proofs.Common.{append_assoc, length-append, length-drop}
use Rattle.std.specs.List.{slice_get}
use Rattle.std.proofs.lemmas.List.{take-append-drop}
use Rattle.std.proofs.lemmas.List.Elements.{All-nil}
use Rattle.std.proofs.Math.Seq.{take-append_seam}
use Rattle.words.specs.Words.{OccursAt}
use Rattle.words.proofs.Members.{AllPairs-nil, All-from_members, Contains-none}
use Rattle.lead_index.specs.declared.lead.Lead.{Lead}
use Rattle.lead_index.specs.declared.tree.Node.{Node}
use Rattle.lead_index.specs.Leads.{AreApart, IsFreeAt, IsIndex, Starts}
use Rattle.lead_index.specs.Tree.{IsMissed, IsTree, Meets}
use Rattle.lead_index.proofs.LeadLemmas.{starts_here}

-- a word with which the letters from a place begin stands there
stands_at : (word u rest : List ℕ) (at : ℕ) → at ≤ length word → drop at word ≡ u ++ rest → OccursAt u word at
stands_at word u rest at within joined = record {
  within = omega (arith, within, length-drop at word, length-append u rest, ap length joined);
  same = ap (take (length u)) joined ∙ take-append_seam u rest;
}

-- what the tree of an index answers on the letters from a place is true of its list: where it has no answer no word of the list stands
-- at this place, and where it answers an element, the word of this element stands there, and no other one
pub answered : (nodes : List Node) (leads : List Lead) (word letters : List ℕ) (at : ℕ) → IsIndex leads → IsTree nodes leads →
    at ≤ length word → letters ≡ drop at word → (answer : Option ℕ)
    → MatchOption answer (IsMissed nodes 0 letters) (λ element. Meets nodes letters element) →
    MatchOption answer (IsFreeAt leads word at) (λ element. Starts leads word at element)
answered nodes leads word letters at index tree within is None missed =
    All-from_members (λ l. OccursAt l.word word at → ⊥) leads
    (λ l among o. missed l.word (drop (length l.word) letters) l.element (tree.listed l among)
    (sym (take-append-drop (length l.word) letters) ∙ ap (λ (xs : List ℕ). xs ++ drop (length l.word) letters) (ap (take (length l.word)) is ∙ o.same)))
answered nodes leads word letters at index tree within is (Some element) met =
    let u : List ℕ = tree.before met.n ++ met.node.letter ∷ [] in
    let l : Lead = record { word = u; element = element } in
    let joined : drop at word ≡ u ++ met.rest = sym is ∙ met.spelled tree.before tree.labelled
    ∙ sym (append_assoc (tree.before met.n) (met.node.letter ∷ []) met.rest) in
    starts_here leads index word at l (tree.ends met.n element met.node met.stands met.is) (stands_at word u met.rest at within joined)

-- no words
pub IsIndex-nil : (leads : List Lead) → leads ≡ [] → IsIndex leads
IsIndex-nil leads e = subst IsIndex (sym e) (record {
  some = All-nil (λ l. l.word ≡ [] → ⊥);
  small = All-nil (λ l. length l.word ≤ 64);
  apart = AllPairs-nil (λ (l m : Lead). AreApart l.word m.word);
})

no_node : (n : ℕ) (node : Node) → slice_get {X = Node} [] n ≡ Some node → ⊥
no_node n node e = cc

-- no nodes are the tree of no words
pub IsTree-nil : (nodes : List Node) (leads : List Lead) → nodes ≡ [] → leads ≡ [] → IsTree nodes leads
IsTree-nil nodes leads e f = subst (λ (xs : List Node). IsTree xs leads) (sym e) (subst (λ (ls : List Lead). IsTree [] ls) (sym f) (record {
  rising = record { children = λ n c node h is. absurd (no_node n node h); siblings = λ n c node h is. absurd (no_node n node h) };
  before = λ n. [];
  labelled = record { first = refl; children = λ n c node h is. absurd (no_node n node h); siblings = λ n c node h is. refl };
  ends = λ n element node h is. absurd (no_node n node h);
  used = λ n node h. absurd (no_node n node h);
  listed = λ l among. absurd (Contains-none l among);
}))
