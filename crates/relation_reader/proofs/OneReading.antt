-- A text has exactly one reading or exactly one first fault.
use Rattle.std.proofs.Common.{ℕ, ◌≡◌, ◌+◌, ◌-◌, ◌<◌, ◌≤◌, ◌⊎◌, List, [], ◌∷◌, ◌++◌, length, map, Option, Some, None, inl, inr, refl, sym, ap, subst, ◌∙◌, arith}
use Rattle.words.specs.Names.{Letters}
use Rattle.free_poly.specs.declared.term.Term.{Term}
use Rattle.free_poly.proofs.NormalForms.{same_polynomials}
use Rattle.relation_reader.specs.declared.fault.InputFault.{InputFault}
use Rattle.relation_reader.specs.declared.place.Place.TheVariants as places
use Rattle.relation_reader.specs.declared.token.Token.{Token}
use Rattle.relation_reader.specs.Tokens.{SplitsFrom}
use Rattle.relation_reader.specs.Grammar.{Lexeme, Relation, Tree}
use Rattle.relation_reader.specs.Meaning.{AreMeanings, HasOneReading, IsFirstPlaced, IsFirstRelation, IsMeaning, IsOutcome, Means, Outcome, Reads}
use Rattle.relation_reader.specs.Meaning.{faults_from, first_of, letters_of, others_than_zero, pieces_of, place_fault, placed_from, reading, refused}
use Rattle.relation_reader.specs.Meaning.{relation_faults, terms_of_relation}
use Rattle.relation_reader.proofs.TextSplits.{split-from}
use Rattle.relation_reader.proofs.OneSplit.{splits-once}
use Rattle.relation_reader.proofs.Trees.{tree-of}
use Rattle.relation_reader.proofs.Accepted.{accepted, first_of-later}
use Rattle.relation_reader.proofs.SpelledOnce.{spells_once}
use Rattle.relation_reader.proofs.NormalForm.{normal_form}

-- Any two outcomes are one.

meanings-once : (p : ℕ) (names : List (List ℕ)) (rs : List Relation) (fs gs : List (List Term)) → AreMeanings p names rs fs →
    AreMeanings p names rs gs → fs ≡ gs
meanings-once p names [] [] [] h k = refl
meanings-once p names [] [] (g ∷ gs) h k = absurd k
meanings-once p names [] (f ∷ fs) gs h k = absurd h
meanings-once p names (r ∷ rs) [] gs h k = absurd h
meanings-once p names (r ∷ rs) (f ∷ fs) [] h k = absurd k
meanings-once p names (r ∷ rs) (f ∷ fs) (g ∷ gs) h k =
    let m : IsMeaning p names r f = h.0 in
    let n : IsMeaning p names r g = k.0 in
    let e : f ≡ g = same_polynomials p f g m.form n.form m.residues n.residues (λ w. m.sum w ∙ sym (n.sum w)) in
    let rest : fs ≡ gs = meanings-once p names rs fs gs h.1 k.1 in
    λ i. e i ∷ rest i

-- the lexemes of a text without a fault of tokens
abbrev lexemes_of : List ℕ → List Token → List Lexeme
lexemes_of text tokens = map (λ piece. piece.lexeme) (pieces_of text tokens None)

tree-once : (text : List ℕ) (p : ℕ) (l k : Letters) (fs gs : List (List Term)) (m : Means text p l fs) (n : Means text p k gs) → m.tree ≡ n.tree
tree-once text p l k fs gs m n =
    let e = (splits-once text 0 m.tokens None n.tokens None m.splits n.splits).0 in
    spells_once m.tree n.tree (sym m.spelled_so ∙ ap (lexemes_of text) e ∙ n.spelled_so)

letters-once : (text : List ℕ) (p : ℕ) (l k : Letters) (fs gs : List (List Term)) → Means text p l fs → Means text p k gs → l ≡ k
letters-once text p l k fs gs m n = m.letters_are ∙ ap letters_of (tree-once text p l k fs gs m n) ∙ sym n.letters_are

means-once : (text : List ℕ) (p : ℕ) (l k : Letters) (fs gs : List (List Term)) → Means text p l fs → Means text p k gs → fs ≡ gs
means-once text p l k fs gs m n =
    let mine = subst (λ (j : Letters). AreMeanings p j.names m.tree.relations fs) m.letters_are m.meanings_are in
    let same = subst (λ (t : Tree). AreMeanings p (letters_of t).names t.relations fs) (tree-once text p l k fs gs m n) mine in
    let yours = subst (λ (j : Letters). AreMeanings p j.names n.tree.relations gs) n.letters_are n.meanings_are in
    meanings-once p (letters_of n.tree).names n.tree.relations fs gs same yours

-- the first fault by relation
abbrev relation_fault : Letters → List (List Term) → Option InputFault
relation_fault l fs = first_of (relation_faults l.weights 1 fs)

relation_fault-once : (text : List ℕ) (p : ℕ) (l k : Letters) (fs gs : List (List Term)) → Means text p l fs → Means text p k gs →
    relation_fault l fs ≡ relation_fault k gs
relation_fault-once text p l k fs gs m n = ap (λ j. relation_fault j fs) (letters-once text p l k fs gs m n)
    ∙ ap (relation_fault k) (means-once text p l k fs gs m n)

-- the first fault with a place
abbrev fault_with : List ℕ → List Token → Option InputFault → Option InputFault
fault_with text tokens stop = place_fault (pieces_of text tokens stop) stop

fault_with-once : (text : List ℕ) (ts us : List Token) (s r : Option InputFault) → SplitsFrom text 0 ts s → SplitsFrom text 0 us r →
    fault_with text ts s ≡ fault_with text us r
fault_with-once text ts us s r h k =
    let same = splits-once text 0 ts s us r h k in
    ap (λ vs. fault_with text vs s) same.0 ∙ ap (fault_with text us) same.1

-- a text with a fault that has a place means nothing
no-meaning : (text : List ℕ) (p : ℕ) (l : Letters) (fs : List (List Term)) (fault : InputFault) → Means text p l fs → IsFirstPlaced text fault → ⊥
no-meaning text p l fs fault m h =
    let e : Some fault ≡ None = sym h.first ∙ fault_with-once text h.tokens m.tokens h.stop None h.splits m.splits ∙ m.no_fault in
    cc

placed-once : (text : List ℕ) (f g : InputFault) → IsFirstPlaced text f → IsFirstPlaced text g → f ≡ g
placed-once text f g h k =
    let e : Some f ≡ Some g = sym h.first ∙ fault_with-once text h.tokens k.tokens h.stop k.stop h.splits k.splits ∙ k.first in
    cc

relation-once : (text : List ℕ) (p : ℕ) (f g : InputFault) → IsFirstRelation text p f → IsFirstRelation text p g → f ≡ g
relation-once text p f g h k =
    let e : Some f ≡ Some g = sym h.first ∙ relation_fault-once text p h.letters k.letters h.meanings k.meanings h.means k.means ∙ k.first in
    cc

no-fault : (text : List ℕ) (p : ℕ) (l : Letters) (fs : List (List Term)) (fault : InputFault) → Reads text p l fs → IsFirstRelation text p fault → ⊥
no-fault text p l fs fault h k =
    let e : None ≡ Some fault = sym h.no_fault ∙ relation_fault-once text p l k.letters h.meanings k.meanings h.means k.means ∙ k.first in
    cc

outcome-once : (text : List ℕ) (p : ℕ) (x y : Outcome) → IsOutcome text p x → IsOutcome text p y → x ≡ y
outcome-once text p (reading l fs) (reading k gs) h j =
    let e = letters-once text p l k h.meanings j.meanings h.means j.means in
    let f = h.others ∙ ap others_than_zero (means-once text p l k h.meanings j.meanings h.means j.means) ∙ sym j.others in
    λ i. reading (e i) (f i)
outcome-once text p (reading l fs) (refused g) h (inl j) = absurd (no-meaning text p l h.meanings g h.means j)
outcome-once text p (reading l fs) (refused g) h (inr j) = absurd (no-fault text p l fs g h j)
outcome-once text p (refused f) (reading k gs) (inl h) j = absurd (no-meaning text p k j.meanings f j.means h)
outcome-once text p (refused f) (reading k gs) (inr h) j = absurd (no-fault text p k gs f j h)
outcome-once text p (refused f) (refused g) (inl h) (inl j) = ap refused (placed-once text f g h j)
outcome-once text p (refused f) (refused g) (inl h) (inr j) = absurd (no-meaning text p j.letters j.meanings f j.means h)
outcome-once text p (refused f) (refused g) (inr h) (inl j) = absurd (no-meaning text p h.letters h.meanings g h.means j)
outcome-once text p (refused f) (refused g) (inr h) (inr j) = ap refused (relation-once text p f g h j)

-- There is one.

-- relations with the elements that they mean
pub record HasMeanings (p : ℕ) (names : List (List ℕ)) (rs : List Relation) : Type 0 where
  pub meanings : List (List Term)
  pub are : AreMeanings p names rs meanings

-- any relations mean some elements
pub meanings-of : (p : ℕ) → 0 < p → (names : List (List ℕ)) (rs : List Relation) → HasMeanings p names rs
meanings-of p some names [] = record { meanings = []; are = tt }
meanings-of p some names (r ∷ rs) =
    let f = normal_form p some (terms_of_relation p names r) in
    let rest = meanings-of p some names rs in
    record { meanings = f.polynomial ∷ rest.meanings; are = (record { form = f.form; residues = f.residues; sum = f.sum }, rest.are) }

-- where no fault has a place, no fault of tokens ends the text
pub no-stop : (xs : List (Option InputFault)) (stop : Option InputFault) → first_of (xs ++ stop ∷ []) ≡ None → stop ≡ None
no-stop xs None none = refl
no-stop xs (Some fault) none = absurd (let e : Some fault ≡ None = first_of-later xs (Some fault ∷ []) none in cc)

is_fault : (found : Option InputFault) → (found ≡ None) ⊎ ((fault : InputFault) × (found ≡ Some fault))
is_fault None = inl refl
is_fault (Some fault) = inr (fault, refl)

of-meaning : (text : List ℕ) (p : ℕ) (l : Letters) (fs : List (List Term)) → Means text p l fs → (x : Outcome) × IsOutcome text p x
of-meaning text p l fs m = elim (is_fault (relation_fault l fs)) [
  | inl none ↦ (reading l (others_than_zero fs), record { meanings = fs; means = m; no_fault = none; others = refl })
  | inr some ↦ (refused some.0, inr (record { letters = l; meanings = fs; means = m; first = some.1 }))
]

means : (text : List ℕ) (p : ℕ) → 0 < p → (tokens : List Token) → SplitsFrom text 0 tokens None → fault_with text tokens None ≡ None →
    (x : Outcome) × IsOutcome text p x
means text p some tokens splits none =
    let t = tree-of (lexemes_of text tokens) (accepted text tokens none) in
    let l = letters_of t.0 in
    let ms = meanings-of p some l.names t.0.relations in
    of-meaning text p l ms.meanings (record {
      tokens = tokens;
      splits = splits;
      tree = t.0;
      spelled_so = t.1;
      no_fault = none;
      letters_are = refl;
      meanings_are = ms.are;
    })

outcome : (text : List ℕ) (p : ℕ) → 0 < p → (tokens : List Token) (stop : Option InputFault) → SplitsFrom text 0 tokens stop →
    (x : Outcome) × IsOutcome text p x
outcome text p some tokens stop splits = elim (is_fault (fault_with text tokens stop)) [
  | inl none ↦
      let e : stop ≡ None = no-stop (faults_from [] (placed_from (Some places.Beginning) (pieces_of text tokens stop))) stop none in
      means text p some tokens (subst (SplitsFrom text 0 tokens) e splits) (subst (λ s. fault_with text tokens s ≡ None) e none)
  | inr found ↦ (refused found.0, inl (record { tokens = tokens; stop = stop; splits = splits; first = found.1 }))
]

-- each text has exactly one reading or exactly one first fault
pub has_one_reading : HasOneReading
has_one_reading text p some =
    let few : length text - 0 < length text + 1 = omega arith in
    let inside : 0 ≤ length text = omega arith in
    let s = split-from text (length text + 1) 0 few inside in
    let x = outcome text p some s.tokens s.stop s.splits in
    record { value = x.0; holds = x.1; only = λ y h. outcome-once text p y x.0 h x.1 }
