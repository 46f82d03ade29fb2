-- The normal words of an index.
use Rattle.std.specs.Prelude.{ℕ, ◌≡◌, ◌+◌, ◌<◌, ◌↔◌, List, [], ◌∷◌, All, AllPairs, Contains, length, slice_index_or}
use Rattle.words.specs.Order.{IsLetterwiseGreater}
use Rattle.words.specs.Words.{words_of_degree}
use Rattle.lead_index.specs.declared.lead.Lead.{Lead}
use Rattle.lead_index.specs.Leads.{IsFree}

-- a degree with words of it
pub record WordsOfDegree : Type 0 where
  pub degree : ℕ
  pub words : List (List ℕ)

-- exactly the words of the degree in which no word of the index stands, falling
pub record AreNormal (weights : List ℕ) (leads : List Lead) (d : ℕ) (words : List (List ℕ)) : Type 0 where
  pub exactly : (w : List ℕ) → Contains words w ↔ (Contains (words_of_degree weights d) w × IsFree leads w)
  pub falling : AllPairs IsLetterwiseGreater words

-- the degree that follows a list of consecutive degrees
abbrev pub next_of : List WordsOfDegree → ℕ
next_of [] = 0
next_of (n ∷ ns) = n.degree + length (n ∷ ns)

-- each degree is one more than the degree before it
abbrev pub AreConsecutive : List WordsOfDegree → Type 0
AreConsecutive before = (i : ℕ) (n : WordsOfDegree) → i < length before →
    (slice_index_or before i n).degree + length before ≡ next_of before + i

-- the normal words of one or more consecutive degrees
pub record AreBefore (weights : List ℕ) (leads : List Lead) (before : List WordsOfDegree) : Type 0 where
  pub some : 0 < length before
  pub consecutive : AreConsecutive before
  pub each : All (λ n. AreNormal weights leads n.degree n.words) before
