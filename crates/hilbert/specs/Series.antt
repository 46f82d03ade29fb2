-- How many normal words a degree has.
use Rattle.std.specs.Prelude.{ℕ, ◌≡◌, ◌≢◌, ◌+◌, ◌<◌, ◌≤◌, ◌↔◌, ◌⊎◌, List, [], All, length, slice_index}
use Rattle.free_poly.specs.declared.term.Term.{Term}
use Rattle.ideal_laws.specs.Closure.{IsNormal}
use Rattle.ideal_laws.specs.Dimension.{IsHilbertCoefficient}
use Rattle.ideal_laws.specs.Engine.{Elements, IsReducedUpto}
use Rattle.ideal_laws.specs.Ideal.{ideal_over}
use Rattle.ideal_laws.specs.Kept.{IsKept}
use Rattle.ideal_laws.specs.Laws.{IsSetting}
use Rattle.ideal_laws.specs.Quantities.{AreNormalWords}
use Rattle.lead_index.specs.declared.lead.Lead.{Lead}
use Rattle.lead_index.specs.Leads.{IsFree}
use Rattle.normal_words.specs.Normal.{AreConsecutive, AreNormal, WordsOfDegree, next_of}

-- so many words of the degree contain no leading word of the elements
pub record IsCount (weights : List ℕ) (G : List (List Term)) (d n : ℕ) : Type 0 where
  pub words : List (List ℕ)
  pub are_normal : AreNormalWords weights G d words
  pub count : n ≡ length words

-- these numbers of the first degrees, none of which is above the limit
pub record AreCounts (weights : List ℕ) (G : List (List Term)) (limit degrees : ℕ) (numbers : List ℕ) : Type 0 where
  pub size : length numbers ≡ degrees
  pub each : (d : ℕ) → d < degrees → IsCount weights G d (slice_index numbers d)
  pub few : All (λ n. n ≤ limit) numbers

-- the first degree whose number is above the limit, and the numbers below it
pub record IsFirstLarge (weights : List ℕ) (G : List (List Term)) (limit bound degree value : ℕ)
    (below : List ℕ) : Type 0 where
  pub upto : degree ≤ bound
  pub kept : value ≡ limit + 1
  pub before : AreCounts weights G limit degree below
  pub number : ℕ
  pub is_number : IsCount weights G degree number
  pub large : limit < number

-- the index has the leading words, none of which is empty: no word of it stands in a word exactly where no leading
-- word does
pub record IndexesLeads (G : List (List Term)) (leads : List Lead) : Type 0 where
  pub some : All (λ l. l.word ≢ []) leads
  pub says : (w : List ℕ) → IsFree leads w ↔ IsNormal G w

-- the normal words of the last degrees, all degrees that a letter can leave among them, or none in the beginning
pub record AreHeld (weights : List ℕ) (leads : List Lead) (held : List WordsOfDegree) : Type 0 where
  pub consecutive : AreConsecutive held
  pub each : All (λ n. AreNormal weights leads n.degree n.words) held
  pub enough : (next_of held ≡ length held) ⊎ (8 ≤ length held)

-- up to the last degree that is done the coefficients are the numbers of normal words
abbrev pub CountsCoefficients : Type 0
CountsCoefficients = (p : ℕ) (relations : List (List Term)) (basis : Elements)
    → IsSetting (ideal_over p basis.weights relations)
    → IsKept basis →
    IsReducedUpto p relations basis
    → (d n : ℕ) → d ≤ basis.done → IsCount basis.weights basis.elements d n →
    IsHilbertCoefficient (ideal_over p basis.weights relations) d n
