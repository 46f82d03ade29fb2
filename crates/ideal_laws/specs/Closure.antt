-- Obstructions, reducers and closures over a list of elements.
use Rattle.std.specs.Prelude.{ℕ, ◌≡◌, ◌≢◌, ◌⊎◌, ◌+◌, ◌-◌, ◌<◌, ◌≤◌, ◌↔◌, List, [], ◌++◌, AllPairs, Contains, Option}
use Rattle.std.specs.Prelude.{Some, None, map, length, take}
use Rattle.std.specs.Prelude.{drop, slice_get}
use Rattle.words.specs.Order.{IsLetterwiseGreater}
use Rattle.words.specs.Words.{IsFactor, OccursAt, degree_of}
use Rattle.free_poly.specs.declared.term.Term.{Term}
use Rattle.free_poly.specs.Terms.{product, scaled}
use Rattle.free_poly.specs.Poly.{lead_of}

-- no leading word is a factor of the leading word of an element at another place
abbrev pub IsFactorFree : List (List Term) → Type 0
IsFactorFree G = (i j : ℕ) (g h : List Term) (v w : List ℕ) → slice_get G i ≡ Some g → slice_get G j ≡ Some h →
    lead_of g ≡ Some v →
    lead_of h ≡ Some w → IsFactor v w → i ≡ j

-- The leading words of two elements are a * c and c * b, and a * c * b has degree d.
pub record IsObstruction (weights : List ℕ) (G : List (List Term)) (d left right : ℕ) (a c b : List ℕ) : Type 0 where
  pub first : List Term
  pub second : List Term
  pub at_left : slice_get G left ≡ Some first
  pub at_right : slice_get G right ≡ Some second
  pub first_lead : lead_of first ≡ Some (a ++ c)
  pub second_lead : lead_of second ≡ Some (c ++ b)
  pub some_before : a ≢ []
  pub some_shared : c ≢ []
  pub some_behind : b ≢ []
  pub degree : degree_of weights (a ++ c ++ b) ≡ d

-- g * b - a * h
abbrev pub obstruction_row : ℕ → List Term → List ℕ → List ℕ → List Term → List Term
obstruction_row p g b a h = product [] g b ++ scaled (p - 1) (product a h [])

-- two places with leading words that overlap, and the word that both stand in, in its three parts
pub record Overlap : Type 0 where
  pub left : ℕ
  pub right : ℕ
  pub before : List ℕ
  pub shared : List ℕ
  pub behind : List ℕ

abbrev pub overlap_word : Overlap → List ℕ
overlap_word o = o.before ++ o.shared ++ o.behind

-- a greater word stands first, and of two overlaps with one word the one with the lesser left element
abbrev pub OverlapsBefore : Overlap → Overlap → Type 0
OverlapsBefore o q = IsLetterwiseGreater (overlap_word o) (overlap_word q)
    ⊎ ((overlap_word o ≡ overlap_word q) × (o.left < q.left))

-- exactly the obstructions of degree d, in their order
pub record AreObstructions (weights : List ℕ) (G : List (List Term)) (d : ℕ) (overlaps : List Overlap) : Type 0 where
  pub exactly : (o : Overlap) → Contains overlaps o ↔ IsObstruction weights G d o.left o.right o.before o.shared
      o.behind
  pub ordered : AllPairs OverlapsBefore overlaps

-- u * g * v, where the leading word of g stands in w at the least possible place
pub record IsReducer (G : List (List Term)) (w : List ℕ) (reducer : List Term) : Type 0 where
  pub element : List Term
  pub lead : List ℕ
  pub at : ℕ
  pub among : Contains G element
  pub is_lead : lead_of element ≡ Some lead
  pub here : OccursAt lead w at
  pub least : (g : List Term) (v : List ℕ) (k : ℕ) → Contains G g → lead_of g ≡ Some v → OccursAt v w k → at ≤ k
  pub is : reducer ≡ product (take at w) element (drop (at + length lead) w)

-- no leading word stands in w
abbrev pub IsNormal : List (List Term) → List ℕ → Type 0
IsNormal G w = (g : List Term) (v : List ℕ) (k : ℕ) → Contains G g → lead_of g ≡ Some v → OccursAt v w k → ⊥

-- the reducer of a word, or none where the word is normal
abbrev pub HasReducer : List (List Term) → List ℕ → Option (List Term) → Type 0
HasReducer G w None = IsNormal G w
HasReducer G w (Some reducer) = IsReducer G w reducer

-- the least set with these words that has, with each word, the words of its reducer
pub data IsInClosure (G : List (List Term)) (words : List (List ℕ)) : List ℕ → Type 0 where
  given : (w : List ℕ) → Contains words w → IsInClosure G words w
  brought : (w v : List ℕ) (reducer : List Term) → IsInClosure G words w → IsReducer G w reducer →
      Contains (map (λ t. t.word) reducer) v →
      IsInClosure G words v

-- exactly the words of the closure, falling letter by letter, which on one degree is the order of words
pub record AreColumns (G : List (List Term)) (words columns : List (List ℕ)) : Type 0 where
  pub exactly : (w : List ℕ) → Contains columns w ↔ IsInClosure G words w
  pub falling : AllPairs IsLetterwiseGreater columns
