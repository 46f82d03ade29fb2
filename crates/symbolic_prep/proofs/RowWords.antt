-- The words of the rows in a table.
use Rattle.std.proofs.Common.{◌≡◌, ◌⊎◌, ◌↔◌, ◌<◌, ◌≤◌, ◌^◌, ℕ, List, length, map, get_or, sym, ap, ◌∙◌, inl, inr, arith, All, subst}
use Rattle.std.specs.List.{Contains}
use Rattle.std.proofs.lemmas.List.Elements.{Contains-append_cases, Contains-append_left}
use Rattle.words.specs.Words.{AreWeights, IsOver, degree_of}
use Rattle.words.proofs.Members.{All-from_members}
use Rattle.words.proofs.Weights.{length-le-degree_of}
use Rattle.free_poly.specs.declared.term.Term.{Term}
use Rattle.free_poly.specs.Poly.{IsPolynomial}
use Rattle.ideal_laws.specs.Engine.{Elements}
use Rattle.ideal_laws.specs.Kept.{IsKept}
use Rattle.ideal_laws.specs.Quantities.{words_of}
use Rattle.lead_index.specs.declared.lead.Lead.{Lead}
use Rattle.lead_index.specs.Leads.{IsIndex, IsIndexOf}
use Rattle.symbolic_prep.specs.Walk.{HasMore, HasMoreColumns}
use Rattle.symbolic_prep.proofs.Ending.{words_in_degree}
use Rattle.symbolic_prep.proofs.Walks.{given_many, same_columns}
use Rattle.free_poly.specs.Terms.{HasDegree, UsesLetters}
use Rattle.symbolic_prep.specs.Numbers.{IsGrown}
use Rattle.symbolic_prep.specs.declared.packing.PackedWord.{PackedWord}
use Rattle.symbolic_prep.specs.Packing.{HasDigits}
use Rattle.symbolic_prep.specs.PackedWords.{ArePackedWithin, letters_in}
use Rattle.symbolic_prep.proofs.Reduced.{digits_of}

-- which words there are
pub grown_says : (old new wanted : List (List ℕ)) → IsGrown old new wanted → (v : List ℕ) → Contains new v ↔ (Contains old v ⊎ Contains wanted v)
grown_says old new wanted g v = (
  λ m. elim (Contains-append_cases old g.more v (subst (λ (ws : List (List ℕ)). Contains ws v) g.joined m)) [
    | inl n ↦ inl n
    | inr n ↦ inr (g.from v n)
  ],
  λ h. elim h [
    | inl n ↦ subst (λ (ws : List (List ℕ)). Contains ws v) (sym g.joined) (Contains-append_left old g.more v n)
    | inr n ↦ g.all v n
  ],
)

-- the words of a row, packed as a table has them
pub row_words : (rows : List (List Term)) (i : ℕ) (row f : List Term) (bits room b r : ℕ) (ps qs : List PackedWord) → i < length rows →
    row ≡ get_or rows i row → f ≡ row → All (All (λ t. length t.word ≤ room)) rows → ArePackedWithin bits room f ps → qs ≡ ps → b ≡ bits → r ≡ room →
    map (letters_in b r) qs ≡ map (λ t. t.word) row
row_words rows i row f bits room b r ps qs lt is same fits packed same_words e g =
    (λ j. map (letters_in (e j) (g j)) (same_words j))
    ∙ (packed (subst (All (λ (t : Term). length t.word ≤ room)) (sym (same ∙ is)) (fits i row lt))).words ∙ ap (map (λ (t : Term). t.word)) same

-- the words of rows of a degree have digits and room, where the letters and the degree have
module _ (weights : List ℕ) (are : AreWeights weights) (d bits room : ℕ) (rows : List (List Term)) where
  -- their letters have digits
  pub rows_digits : length weights < 2 ^ bits → All (UsesLetters (length weights)) rows → All (All (λ t. HasDigits bits t.word)) rows
  rows_digits lt letters i e within k s inside = digits_of (length weights) bits (get_or (get_or rows i e) k s).word lt (letters i e within k s inside)

  -- their words have room
  pub rows_room : d ≤ room → All (HasDegree weights d) rows → All (All (λ t. length t.word ≤ room)) rows
  rows_room le degree i e within k s inside = omega (
    arith,
    le,
    degree i e within k s inside,
    length-le-degree_of weights are (get_or (get_or rows i e) k s).word,
  )

module _ (b : Elements) (kept : IsKept b) (forms : All IsPolynomial b.elements) (d : ℕ) (rows : List (List Term))
    (letters : All (UsesLetters (length b.weights)) rows) (degree : All (HasDegree b.weights d) rows) where
  row_word : (w : List ℕ) → Contains (words_of rows) w → IsOver (length b.weights) w × (degree_of b.weights w ≡ d)
  row_word = words_in_degree (length b.weights) b.weights d rows letters degree

  -- words that are those of the rows
  module _ (words : List (List ℕ)) (same : (w : List ℕ) → Contains words w ↔ Contains (words_of rows) w) where
    -- each is over the letters and has the degree
    pub given_word : (w : List ℕ) → Contains words w → IsOver (length b.weights) w × (degree_of b.weights w ≡ d)
    given_word w m = row_word w ((same w).0 m)

    -- the same of all of them
    pub given_words : All (λ w. IsOver (length b.weights) w × (degree_of b.weights w ≡ d)) words
    given_words = All-from_members (λ w. IsOver (length b.weights) w × (degree_of b.weights w ≡ d)) words given_word

    -- where their closure has more columns, that of the rows has
    pub more_than : (most : ℕ) → HasMoreColumns b.elements words most → HasMoreColumns b.elements (words_of rows) most
    more_than most all = (all.0, same_columns b.elements words (words_of rows) all.0 same all.1, all.2)

  -- where they alone are too many
  pub rows_more_than : (leads : List Lead) → IsIndex leads → IsIndexOf b.elements leads → (most : ℕ) → HasMore most (Contains (words_of rows)) →
      HasMoreColumns b.elements (words_of rows) most
  rows_more_than leads index indexed most more = given_many b kept forms d leads index indexed (words_of rows) row_word most more
