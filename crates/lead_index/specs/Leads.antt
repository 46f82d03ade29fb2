-- Leading words with their elements, and where they stand in a word.
use Rattle.std.specs.Prelude.{ℕ, ◌≡◌, ◌≢◌, ◌≤◌, ◌↔◌, List, [], ◌∷◌, ◌++◌, All, AllPairs, Contains, Some, length}
use Rattle.std.specs.Prelude.{slice_get}
use Rattle.words.specs.Words.{IsFactor, OccursAt}
use Rattle.free_poly.specs.declared.term.Term.{Term}
use Rattle.free_poly.specs.Poly.{lead_of}
use Rattle.lead_index.specs.declared.lead.Lead.{Lead}

-- neither word is a factor of the other
abbrev pub AreApart : List ℕ → List ℕ → Type 0
AreApart v w = (IsFactor v w → ⊥) × (IsFactor w v → ⊥)

-- a word that an index can take: not empty, at most 64 letters, and apart from its words
pub record IsFresh (leads : List Lead) (word : List ℕ) : Type 0 where
  pub some : word ≢ []
  pub small : length word ≤ 64
  pub apart : All (λ l. AreApart l.word word) leads

-- what an index keeps: words of 1 to 64 letters, each two of them apart
pub record IsIndex (leads : List Lead) : Type 0 where
  pub some : All (λ l. l.word ≢ []) leads
  pub small : All (λ l. length l.word ≤ 64) leads
  pub apart : AllPairs (λ l m. AreApart l.word m.word) leads

-- the index has exactly the leading words of the elements, each with the place of its element
abbrev pub IsIndexOf : List (List Term) → List Lead → Type 0
IsIndexOf G leads = (l : Lead) → Contains leads l ↔ ((g : List Term) × (slice_get G l.element ≡ Some g)
    × (lead_of g ≡ Some l.word))

-- the index with the leading word of one more element, which 0 has not
abbrev pub with_lead : List Lead → List Term → ℕ → List Lead
with_lead leads [] place = leads
with_lead leads (t ∷ f) place = leads ++ record { word = t.word; element = place } ∷ []

-- the leading word of this element, and of no other one, stands in the word from this place
pub record Starts (leads : List Lead) (word : List ℕ) (at element : ℕ) : Type 0 where
  pub lead : Lead
  pub among : Contains leads lead
  pub is : lead.element ≡ element
  pub here : OccursAt lead.word word at
  pub only : (l : Lead) → Contains leads l → OccursAt l.word word at → l ≡ lead

-- no word of the index stands in the word from this place
abbrev pub IsFreeAt : List Lead → List ℕ → ℕ → Type 0
IsFreeAt leads word at = All (λ l. OccursAt l.word word at → ⊥) leads

-- no word of the index stands in the word
abbrev pub IsFree : List Lead → List ℕ → Type 0
IsFree leads word = (at : ℕ) → IsFreeAt leads word at

-- the leading word of this element stands in the word at the least place where one does
pub record IsFirstReducer (leads : List Lead) (word : List ℕ) (at element : ℕ) : Type 0 where
  pub starts : Starts leads word at element
  pub least : (l : Lead) (k : ℕ) → Contains leads l → OccursAt l.word word k → at ≤ k
