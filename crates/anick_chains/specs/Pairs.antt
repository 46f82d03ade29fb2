-- Pairs of a chain and a normal word, and their mates.
use Rattle.std.specs.Prelude.{ℕ, ◌≡◌, ◌≢◌, ◌+◌, ◌⊎◌, List, [], ◌∷◌, ◌++◌}
use Rattle.words.specs.Words.{IsOver, degree_of}
use Rattle.anick_chains.specs.Chains.{HasTip, IsChain, chain_degree}

-- the pieces of a chain, or none, and a word
pub record Pair : Type 0 where
  pub pieces : List (List ℕ)
  pub word : List ℕ

-- a chain, or no piece, and a word that contains no tip, of this degree together
pub record IsPair (T : List ℕ → Type 0) (names : ℕ) (weights : List ℕ) (d : ℕ) (a : Pair) : Type 0 where
  pub chain : (a.pieces ≡ []) ⊎ IsChain T names a.pieces
  pub over : IsOver names a.word
  pub normal : HasTip T a.word → ⊥
  pub degree : chain_degree weights a.pieces + degree_of weights a.word ≡ d

-- r is the shortest word with its letters in this order such that q followed by it contains a tip
pub record IsShortest (T : List ℕ → Type 0) (q r : List ℕ) : Type 0 where
  pub tip : HasTip T (q ++ r)
  pub least : (s rest : List ℕ) → r ≡ s ++ rest → rest ≢ [] → HasTip T (q ++ s) → ⊥

-- The first letter of the word becomes the first piece; or the last piece is put back before the word; or the
-- shortest prefix of the word that gives a tip after the last piece becomes the new last piece.
pub data IsMate (T : List ℕ → Type 0) (a b : Pair) : Type 0 where
  begun : (x : ℕ) → a.pieces ≡ [] → a.word ≡ x ∷ b.word → b.pieces ≡ (x ∷ []) ∷ [] → IsMate T a b
  back : (q : List ℕ) → a.pieces ≡ b.pieces ++ q ∷ [] → (HasTip T (q ++ a.word) → ⊥) → b.word ≡ q ++ a.word →
      IsMate T a b
  ahead : (qs : List (List ℕ)) (q r : List ℕ) → a.pieces ≡ qs ++ q ∷ [] → IsShortest T q r → a.word ≡ r ++ b.word
      → b.pieces ≡ a.pieces ++ r ∷ [] → IsMate T a b
