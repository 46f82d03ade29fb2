-- Which elements have a fault, and the faults of elements one after another.
use Rattle.std.proofs.Common.{ℕ, ◌≡◌, ◌≢◌, ◌+◌, ◌<◌, ◌==◌, ◌||◌, Bool, true, false, List, [], ◌∷◌, ◌++◌, length, Option, Some, None, refl, sym, ap}
use Rattle.std.proofs.Common.{◌∙◌, arith, inl, inr, All}
use Rattle.std.specs.Prelude.{not}
use Rattle.std.proofs.lemmas.Bool.{cases_Bool, eqb-true, eq-eqb}
use Rattle.std.proofs.lemmas.List.Elements.{All-cons, All-head, All-nil, All-weaker}
use Rattle.words.specs.Words.{AreWeights, degree_of}
use Rattle.words.specs.Order.{IsLetterwiseGreater}
use Rattle.words.proofs.Members.{AllPairs-first, AllPairs-rest}
use Rattle.words.proofs.Weights.{degree_of-positive}
use Rattle.free_poly.specs.declared.term.Term.{Term}
use Rattle.free_poly.specs.Terms.{HasDegree, HasOneDegree}
use Rattle.free_poly.specs.Poly.{IsPolynomial}
use Rattle.free_poly.specs.Degrees.{HasTwoDegrees}
use Rattle.free_poly.proofs.NormalForms.{same_polynomials}
use Rattle.free_poly.proofs.Sums.{IsSame-back, word_from_same}
use Rattle.relation_reader.specs.declared.fault.InputFault.{InputFault}
use Rattle.relation_reader.specs.declared.fault.InputFault.TheVariants as faults
use Rattle.relation_reader.specs.Meaning.{differs, first_of, is_constant, others_than_zero, relation_faults, when}
use Rattle.relation_reader.specs.Elements.{AreElementsOf, AreRefused, AreSound, IsElementOf}
use Rattle.relation_reader.proofs.Bools.{both_false, not_false}
use Rattle.relation_reader.proofs.NormalForm.{normal_form}

-- words that do not differ have one degree
pub one-degree : (weights : List ℕ) (t : Term) (f : List Term) → differs weights (t ∷ f) ≡ false → HasDegree weights (degree_of weights t.word) (t ∷ f)
one-degree weights t [] e = All-cons (λ (s : Term). degree_of weights s.word ≡ degree_of weights t.word) t [] refl
    (All-nil (λ (s : Term). degree_of weights s.word ≡ degree_of weights t.word))
one-degree weights t (u ∷ f) e =
    let parts = both_false (not (degree_of weights t.word == degree_of weights u.word)) (differs weights (u ∷ f)) e in
    let same : degree_of weights t.word ≡ degree_of weights u.word =
    eqb-true (degree_of weights t.word) (degree_of weights u.word)
    (not_false (degree_of weights t.word == degree_of weights u.word) parts.0) in
    All-cons (λ (s : Term). degree_of weights s.word ≡ degree_of weights t.word) t (u ∷ f) refl
    (All-weaker (λ (s : Term). degree_of weights s.word ≡ degree_of weights u.word)
    (λ (s : Term). degree_of weights s.word ≡ degree_of weights t.word) (λ s h. h ∙ sym same) (u ∷ f) (one-degree weights u f parts.1))

-- words of one degree do not differ
pub no-difference : (weights : List ℕ) (f : List Term) → HasOneDegree weights f → differs weights f ≡ false
no-difference weights [] h = refl
no-difference weights (t ∷ []) h = refl
no-difference weights (t ∷ u ∷ f) h =
    let same : degree_of weights t.word ≡ degree_of weights u.word =
    All-head (λ (s : Term). degree_of weights t.word ≡ degree_of weights s.word) u f
    (AllPairs-first (λ (a b : Term). degree_of weights a.word ≡ degree_of weights b.word) t (u ∷ f) h) in
    ap (λ (b : Bool). not b || differs weights (u ∷ f)) (eq-eqb (degree_of weights t.word) (degree_of weights u.word) same)
    ∙ no-difference weights (u ∷ f) (AllPairs-rest (λ (a b : Term). degree_of weights a.word ≡ degree_of weights b.word) t (u ∷ f) h)

-- a sum with two degrees is no element of one
two-degrees : (p : ℕ) (weights : List ℕ) (terms f : List Term) (first other : ℕ) → HasTwoDegrees p weights terms first other →
    IsElementOf p terms f → differs weights f ≡ false → ⊥
two-degrees p weights terms [] first other two element e =
    word_from_same p (λ w. ⊥) terms [] two.greatest (IsSame-back p [] terms element.sum) two.greatest_stands (All-nil (λ t. ⊥))
two-degrees p weights terms (t ∷ f) first other two element e =
    let all = one-degree weights t f e in
    let back = IsSame-back p (t ∷ f) terms element.sum in
    let d : ℕ = degree_of weights t.word in
    let a : degree_of weights two.greatest ≡ d = word_from_same p (λ w. degree_of weights w ≡ d) terms (t ∷ f) two.greatest back two.greatest_stands all in
    let b : degree_of weights two.next ≡ d = word_from_same p (λ w. degree_of weights w ≡ d) terms (t ∷ f) two.next back two.next_stands all in
    let e : first ≡ other = sym two.first_is ∙ a ∙ sym b ∙ two.other_is in
    omega (arith, two.below)

-- the element of a sum with words of two degrees is refused as not homogeneous
pub mixed : (p : ℕ) (weights : List ℕ) (terms : List Term) (k first other : ℕ) → HasTwoDegrees p weights terms first other → (f : List Term)
    → IsElementOf p terms f → first_of (relation_faults weights k (f ∷ [])) ≡ Some (faults.NotHomogeneous k)
mixed p weights terms k first other two f element = elim (cases_Bool (differs weights f)) [
  | inl is ↦ ap (λ (b : Bool). first_of (when b (faults.NotHomogeneous k) ∷ when (is_constant f) (faults.Constant k) ∷ [])) is
  | inr none ↦ absurd (two-degrees p weights terms f first other two element none)
]

no_faults : (weights : List ℕ) (k : ℕ) (f : List Term) (constant : Bool) → HasOneDegree weights f → is_constant f ≡ constant →
    first_of (relation_faults weights k (f ∷ [])) ≡ first_of (when constant (faults.Constant k) ∷ [])
no_faults weights k f constant one e =
    ap (λ (b : Bool). first_of (when b (faults.NotHomogeneous k) ∷ when (is_constant f) (faults.Constant k) ∷ [])) (no-difference weights f one)
    ∙ ap (λ (b : Bool). first_of (when b (faults.Constant k) ∷ [])) e

-- an element of one degree that is no constant has no fault
pub sound : (weights : List ℕ) (k : ℕ) (f : List Term) → HasOneDegree weights f → is_constant f ≡ false → first_of (relation_faults weights k (f ∷ [])) ≡ None
sound weights k f one e = no_faults weights k f false one e

-- a sum whose element is a constant is refused for it
pub constant-fault : (p : ℕ) (weights : List ℕ) (terms : List Term) (k : ℕ) (g : List Term) → IsElementOf p terms g → HasOneDegree weights g
    → is_constant g ≡ true
    → (f : List Term) → IsElementOf p terms f → first_of (relation_faults weights k (f ∷ [])) ≡ Some (faults.Constant k)
constant-fault p weights terms k g element one e f other =
    let same : f ≡ g = same_polynomials p f g other.form element.form other.residues element.residues (λ w. other.sum w ∙ sym (element.sum w)) in
    ap (λ (h : List Term). first_of (relation_faults weights k (h ∷ []))) same ∙ no_faults weights k g true one e

-- an element of one degree that is no constant has no empty word
pub no-empty-word : (weights : List ℕ) → AreWeights weights → (f : List Term) → IsPolynomial f → HasOneDegree weights f →
    is_constant f ≡ false → All (λ t. t.word ≢ []) f
no-empty-word weights aw [] form one e = All-nil (λ t. t.word ≢ [])
no-empty-word weights aw (t ∷ []) form one e = All-cons (λ (s : Term). s.word ≢ []) t []
    (λ empty. (let f : true ≡ false = sym (ap (λ (w : List ℕ). length w == 0) empty) ∙ e in cc)) (All-nil (λ (s : Term). s.word ≢ []))
no-empty-word weights aw (t ∷ u ∷ f) form one e =
    let above : IsLetterwiseGreater t.word u.word = All-head (λ (s : Term). IsLetterwiseGreater t.word s.word) u f
    (AllPairs-first (λ (a b : Term). IsLetterwiseGreater a.word b.word) t (u ∷ f) form.falling) in
    let positive : 0 < degree_of weights t.word = degree_of-positive weights aw t.word (no_least t.word u.word above) in
    All-weaker (λ (s : Term). degree_of weights s.word ≡ degree_of weights t.word) (λ (s : Term). s.word ≢ [])
    (λ s same empty. (let z : degree_of weights s.word ≡ 0 = ap (degree_of weights) empty in omega arith)) (t ∷ u ∷ f)
    (one-degree weights t (u ∷ f) (no-difference weights (t ∷ u ∷ f) one))
  where
    no_least : (a b : List ℕ) → IsLetterwiseGreater a b → a ≢ []
    no_least [] [] g empty = cc g
    no_least [] (y ∷ b) g empty = cc g
    no_least (x ∷ a) b g empty = cc empty

-- faults of more elements

-- where some faults are none, the first is the first of those behind them
pub first_of-past : (xs ys : List (Option InputFault)) → first_of xs ≡ None → first_of (xs ++ ys) ≡ first_of ys
first_of-past [] ys e = refl
first_of-past (None ∷ xs) ys e = first_of-past xs ys e
first_of-past (Some fault ∷ xs) ys e = absurd (let f : Some fault ≡ None = e in cc)

first_of-stays : (xs ys : List (Option InputFault)) (fault : InputFault) → first_of xs ≡ Some fault → first_of (xs ++ ys) ≡ Some fault
first_of-stays [] ys fault e = absurd (let f : None ≡ Some fault = e in cc)
first_of-stays (None ∷ xs) ys fault e = first_of-stays xs ys fault e
first_of-stays (Some other ∷ xs) ys fault e = e

relation_faults-append : (weights : List ℕ) (k : ℕ) (fs gs : List (List Term)) →
    relation_faults weights k (fs ++ gs) ≡ relation_faults weights k fs ++ relation_faults weights (k + length fs) gs
relation_faults-append weights k [] gs = let e : k ≡ k + 0 = omega arith in ap (λ (n : ℕ). relation_faults weights n gs) e
relation_faults-append weights k (f ∷ fs) gs =
    let e : k + 1 + length fs ≡ k + length (f ∷ fs) = omega arith in
    ap (λ (xs : List (Option InputFault)). when (differs weights f) (faults.NotHomogeneous k) ∷ when (is_constant f) (faults.Constant k) ∷ xs)
    (relation_faults-append weights (k + 1) fs gs ∙ ap (λ (n : ℕ). relation_faults weights (k + 1) fs ++ relation_faults weights n gs) e)

AreElementsOf-append : (p : ℕ) (ls fs ks gs : List (List Term)) → AreElementsOf p ls fs → AreElementsOf p ks gs → AreElementsOf p (ls ++ ks) (fs ++ gs)
AreElementsOf-append p [] [] ks gs h k = k
AreElementsOf-append p [] (f ∷ fs) ks gs h k = absurd h
AreElementsOf-append p (l ∷ ls) [] ks gs h k = absurd h
AreElementsOf-append p (l ∷ ls) (f ∷ fs) ks gs h k = (h.0, AreElementsOf-append p ls fs ks gs h.1 k)

AreElementsOf-length : (p : ℕ) (ls fs : List (List Term)) → AreElementsOf p ls fs → length ls ≡ length fs
AreElementsOf-length p [] [] h = refl
AreElementsOf-length p [] (f ∷ fs) h = absurd h
AreElementsOf-length p (l ∷ ls) [] h = absurd h
AreElementsOf-length p (l ∷ ls) (f ∷ fs) h = let e = AreElementsOf-length p ls fs h.1 in omega arith

others-append : (fs gs : List (List Term)) → others_than_zero (fs ++ gs) ≡ others_than_zero fs ++ others_than_zero gs
others-append [] gs = refl
others-append ([] ∷ fs) gs = others-append fs gs
others-append ((t ∷ ts) ∷ fs) gs = ap (λ (hs : List (List Term)). (t ∷ ts) ∷ hs) (others-append fs gs)

-- any sums have elements
record Some_elements (p : ℕ) (ls : List (List Term)) : Type 0 where
  elements : List (List Term)
  are : AreElementsOf p ls elements

some_elements : (p : ℕ) → 0 < p → (ls : List (List Term)) → Some_elements p ls
some_elements p some [] = record { elements = []; are = tt }
some_elements p some (l ∷ ls) =
    let n = normal_form p some l in
    let rest = some_elements p some ls in
    record { elements = n.polynomial ∷ rest.elements; are = (record { form = n.form; residues = n.residues; sum = n.sum }, rest.are) }

-- one more sound relation
pub AreSound-push : (p : ℕ) (weights : List ℕ) (ls found : List (List Term)) (l f : List Term) → AreSound p weights ls found → IsElementOf p l f
    → ((k : ℕ) → first_of (relation_faults weights k (f ∷ [])) ≡ None) → AreSound p weights (ls ++ l ∷ []) (found ++ others_than_zero (f ∷ []))
AreSound-push p weights ls found l f h element none = record {
  elements = h.elements ++ f ∷ [];
  elements_are = AreElementsOf-append p ls h.elements (l ∷ []) (f ∷ []) h.elements_are (element, tt);
  no_fault = ap first_of (relation_faults-append weights 1 h.elements (f ∷ []))
      ∙ first_of-past (relation_faults weights 1 h.elements) (relation_faults weights (1 + length h.elements) (f ∷ [])) h.no_fault
      ∙ none (1 + length h.elements);
  others = ap (λ (xs : List (List Term)). xs ++ others_than_zero (f ∷ [])) h.others ∙ sym (others-append h.elements (f ∷ []));
}

-- the first relation with a fault, whatever stands behind it
pub AreRefused-from : (p : ℕ) → 0 < p → (weights : List ℕ) (ls found : List (List Term)) (l : List Term) (rest : List (List Term)) (k : ℕ)
    (fault : InputFault) → AreSound p weights ls found → k ≡ length ls + 1
    → ((f : List Term) → IsElementOf p l f → first_of (relation_faults weights k (f ∷ [])) ≡ Some fault) → AreRefused p weights (ls ++ l ∷ rest) fault
AreRefused-from p some weights ls found l rest k fault h is refused =
    let n = normal_form p some l in
    let f = n.polynomial in
    let element : IsElementOf p l f = record { form = n.form; residues = n.residues; sum = n.sum } in
    let later = some_elements p some rest in
    let place : 1 + length h.elements ≡ k = omega (arith, AreElementsOf-length p ls h.elements h.elements_are) in
    record {
      elements = h.elements ++ f ∷ later.elements;
      elements_are = AreElementsOf-append p ls h.elements (l ∷ rest) (f ∷ later.elements) h.elements_are (element, later.are);
      first =
          ap first_of (relation_faults-append weights 1 h.elements (f ∷ later.elements))
          ∙ first_of-past (relation_faults weights 1 h.elements) (relation_faults weights (1 + length h.elements) (f ∷ later.elements)) h.no_fault
          ∙ ap (λ (m : ℕ). first_of (relation_faults weights m (f ∷ later.elements))) place
          ∙ first_of-stays (relation_faults weights k (f ∷ [])) (relation_faults weights (k + 1) later.elements) fault (refused f element);
    }
