-- The pairing law, and how a chain goes on.
use Rattle.std.specs.Prelude.{ℕ, ◌≡◌, ◌≢◌, ◌<◌, ◌⊎◌, ◌↔◌, ◌%◌, ◌==◌, Bool, suc, List, [], ◌∷◌, ◌++◌, AllPairs}
use Rattle.std.specs.Prelude.{Contains, length, count_by}
use Rattle.words.specs.Words.{IsFactor, IsOver}
use Rattle.ideal_laws.specs.Ideal.{Ideal, IsMinimal}
use Rattle.ideal_laws.specs.Laws.{IsOne, IsSetting}
use Rattle.anick_chains.specs.Chains.{HasTip, IsNext}
use Rattle.anick_chains.specs.Pairs.{IsMate, IsPair, Pair}

-- what the law needs of tips: each word is one or not, none is a factor of another, and the empty word is none
pub record AreTips (T : List ℕ → Type 0) : Type 0 where
  pub decide : (w : List ℕ) → T w ⊎ (T w → ⊥)
  pub apart : (v w : List ℕ) → T v → T w → IsFactor v w → v ≡ w
  pub some : T [] → ⊥

-- the length is greater or less by 1
abbrev pub IsOneLonger : Pair → Pair → Type 0
IsOneLonger a b = (length a.pieces ≡ suc (length b.pieces)) ⊎ (length b.pieces ≡ suc (length a.pieces))

-- a pair of degree 1 or more has exactly one mate, a pair of the same degree whose length is greater or less by 1,
-- and is the mate of its mate
pub record HasMate (T : List ℕ → Type 0) (names : ℕ) (weights : List ℕ) (d : ℕ) (a : Pair) : Type 0 where
  pub one : IsOne (IsMate T a)
  pub pair : IsPair T names weights d one.value
  pub one_longer : IsOneLonger one.value a
  pub back : IsMate T one.value a

-- the chain of the pair has an even length
abbrev pub is_even : Pair → Bool
is_even a = length a.pieces % 2 == 0

-- the chain of the pair has an odd length
abbrev pub is_odd : Pair → Bool
is_odd a = length a.pieces % 2 == 1

-- a list of all pairs of a degree, each once, has as many of even length as of odd length
abbrev pub HasEvenOdd : (List ℕ → Type 0) → ℕ → List ℕ → ℕ → Type 0
HasEvenOdd T names weights d = (pairs : List Pair) → ((a : Pair) → Contains pairs a ↔ IsPair T names weights d a)
    → AllPairs (λ a b. a ≢ b) pairs → count_by is_even pairs ≡ count_by is_odd pairs

-- over the minimal words of an ideal each pair has a mate
abbrev pub HasMates : Type 0
HasMates = (ideal : Ideal) → IsSetting ideal → (d : ℕ) → 0 < d
    → (a : Pair) → IsPair (IsMinimal ideal) (length ideal.weights) ideal.weights d a
    → HasMate (IsMinimal ideal) (length ideal.weights) ideal.weights d a

-- over the minimal words of an ideal the pairs of even and of odd length are as many
abbrev pub IsPairing : Type 0
IsPairing = (ideal : Ideal) → IsSetting ideal → (d : ℕ) → 0 < d
    → HasEvenOdd (IsMinimal ideal) (length ideal.weights) ideal.weights d

-- the same over a list of words of which none is a factor of another, as the tips up to a degree are
abbrev pub HasListedMates : Type 0
HasListedMates = (tips : List (List ℕ)) → ((w : List ℕ) → Contains tips w → w ≢ [])
    → ((v w : List ℕ) → Contains tips v → Contains tips w → IsFactor v w → v ≡ w)
    → (weights : List ℕ) (d : ℕ) → 0 < d
    → ((a : Pair) → IsPair (Contains tips) (length weights) weights d a →
    HasMate (Contains tips) (length weights) weights d a)
    × HasEvenOdd (Contains tips) (length weights) weights d

-- the piece ends with a word that begins a tip, whose rest is the next piece, and up to the last letter of that no tip
-- stands in the two together
pub record IsExtension (T : List ℕ → Type 0) (piece next : List ℕ) : Type 0 where
  pub before : List ℕ
  pub shared : List ℕ
  pub front : List ℕ
  pub last : ℕ
  pub piece_is : piece ≡ before ++ shared
  pub some_shared : shared ≢ []
  pub next_is : next ≡ front ++ last ∷ []
  pub is_tip : T (shared ++ next)
  pub free : HasTip T (piece ++ front) → ⊥

-- tips of a list: not empty, over the letters, none a factor of another
pub record AreListedTips (names : ℕ) (tips : List (List ℕ)) : Type 0 where
  pub some : (w : List ℕ) → Contains tips w → w ≢ []
  pub over : (w : List ℕ) → Contains tips w → IsOver names w
  pub apart : (v w : List ℕ) → Contains tips v → Contains tips w → IsFactor v w → v ≡ w

-- a piece goes on with the end of a tip that it begins
abbrev pub HasExtensions : Type 0
HasExtensions = (names : ℕ) (tips : List (List ℕ)) → AreListedTips names tips → (piece next : List ℕ)
    → (HasTip (Contains tips) piece → ⊥) → IsNext (Contains tips) names piece next
    ↔ IsExtension (Contains tips) piece next
