-- How many chains have a degree, a length and a last piece, and how many a degree and a length.
use Rattle.std.specs.Prelude.{ℕ, zero, suc, ◌≡◌, ◌+◌, ◌-◌, ◌*◌, ◌<◌, ◌≤◌, ◌==◌, ◌⊎◌, cond, List, [], ◌∷◌, ◌++◌, All}
use Rattle.std.specs.Prelude.{AllPairs, Contains, length, map}
use Rattle.std.specs.List.{flat_map, range_with_len, sum_by}
use Rattle.words.specs.Words.{IsOver, degree_of}
use Rattle.free_poly.specs.declared.term.Term.{Term}
use Rattle.ideal_laws.specs.Engine.{Elements}
use Rattle.anick_chains.specs.declared.chain.Chain.{Chain}
use Rattle.anick_chains.specs.declared.tally.ChainCount.{ChainCount}
use Rattle.anick_chains.specs.declared.tally.Tally.{Tally}
use Rattle.anick_chains.specs.BasisTips.{leads_of}
use Rattle.anick_chains.specs.Listed.{AreListed}
use Rattle.anick_chains.specs.Texts.{blocks_of, count_line}
use Rattle.anick_chains.specs.Walk.{free_letters, last_piece, next_pieces}

-- a number for each degree, length and last piece, added up over the chains of a tally
abbrev pub tally_weight : (ℕ → ℕ → List ℕ → ℕ) → Tally → ℕ
tally_weight f t = t.count * f t.degree t.size t.last

-- the same of one chain
abbrev pub chain_weight : (ℕ → ℕ → List ℕ → ℕ) → Chain → ℕ
chain_weight f c = f c.degree (length c.pieces) (last_piece c.pieces)

-- whatever depends on degree, length and last piece alone has one sum over the tallies and over the chains
abbrev pub Tells : List Tally → List Chain → Type 0
Tells tallies chains =
    (f : ℕ → ℕ → List ℕ → ℕ) → sum_by (tally_weight f) tallies ≡ sum_by (chain_weight f) chains

-- the same of two lists of tallies
abbrev pub TellsSame : List Tally → List Tally → Type 0
TellsSame a b = (f : ℕ → ℕ → List ℕ → ℕ) → sum_by (tally_weight f) a ≡ sum_by (tally_weight f) b

-- the chains of all these
abbrev pub tally_total : List Tally → ℕ
tally_total tallies = sum_by (λ t. t.count) tallies

-- so many chains with each of these last pieces
abbrev pub tallies_with : ℕ → ℕ → ℕ → List (List ℕ) → List Tally
tallies_with d size count pieces = map (λ r. record { degree = d; size = size; last = r; count = count }) pieces

-- the chains of degree d that have one piece more than those of a tally
abbrev pub longer_tallies : List ℕ → List (List Term) → ℕ → Tally → List Tally
longer_tallies weights G d t =
    tallies_with d (t.size + 1) t.count (next_pieces weights G t.last (degree_of weights t.last + (d - t.degree)))

-- the chains of degree d, from the tallies of all chains of lower degrees
abbrev pub tallies_at : List ℕ → List (List Term) → ℕ → List Tally → List Tally
tallies_at weights G d below = tallies_with d 1 1 (free_letters weights G d)
    ++ flat_map (longer_tallies weights G d) below

-- a tally of a degree below d, with a last piece that has a part of the degree
pub record IsTallyBelow (weights : List ℕ) (d : ℕ) (t : Tally) : Type 0 where
  pub over : IsOver (length weights) t.last
  pub part : degree_of weights t.last ≤ t.degree
  pub short : t.size ≤ t.degree
  pub below : t.degree < d
  pub some : 0 < t.count

-- of the chains of some tallies so many have the length
abbrev pub number_of : ℕ → List Tally → ℕ
number_of size tallies = sum_by (λ t. cond (t.size == size) t.count 0) tallies

-- a number of chains, in a list, unless there is none
abbrev pub count_of : ℕ → ℕ → ℕ → List ChainCount
count_of d size zero = []
count_of d size (suc n) = record { degree = d; size = size; count = suc n } ∷ []

-- for each length up to d how many of the chains have it
abbrev pub counts_at : ℕ → List Tally → List ChainCount
counts_at d tallies = flat_map (λ n. count_of d n (number_of n tallies)) (range_with_len 1 d)

-- for each degree and length that has a chain how many of the chains have them
abbrev pub counts_of : List Chain → List ChainCount
counts_of chains = map (λ b. record { degree = b.degree; size = b.size; count = length b.chains }) (blocks_of chains)

-- the numbers of the chains up to a degree, by degree and length, in the order of the list of all of them
pub record AreCounts (T : List ℕ → Type 0) (names : ℕ) (weights : List ℕ) (bound : ℕ) (counts : List ChainCount) :
    Type 0 where
  pub chains : List Chain
  pub listed : AreListed T names weights bound chains
  pub counted : counts ≡ counts_of chains

-- all chains of these
abbrev pub count_total : List ChainCount → ℕ
count_total counts = sum_by (λ k. k.count) counts

-- a number for each degree and length, added up over chains of which only the numbers are known
abbrev pub count_weight : (ℕ → ℕ → ℕ) → ChainCount → ℕ
count_weight f k = k.count * f k.degree k.size

-- by degree, and then by length
abbrev pub IsLower : ChainCount → ChainCount → Type 0
IsLower a b = (a.degree < b.degree) ⊎ ((a.degree ≡ b.degree) × (a.size < b.size))

-- numbers of chains up to a degree
pub record IsCounted (e : ℕ) (counts : List ChainCount) (chains : List Chain) : Type 0 where
  pub same : (f : ℕ → ℕ → ℕ) → sum_by (count_weight f) counts ≡ sum_by (λ c. f c.degree (length c.pieces)) chains
  pub rising : AllPairs IsLower counts
  pub some : All (λ k. 0 < k.count) counts
  pub upto : All (λ k. k.degree ≤ e) counts

-- tallies and numbers of all chains up to a degree
pub record AreTallied (T : List ℕ → Type 0) (names : ℕ) (weights : List ℕ) (e total : ℕ) (tallies : List Tally)
    (counts : List ChainCount) : Type 0 where
  pub chains : List Chain
  pub listed : AreListed T names weights e chains
  pub number : total ≡ length chains
  pub tells : Tells tallies chains
  pub some : All (λ t. 0 < t.count) tallies
  pub counted : IsCounted e counts chains

-- those over the leading words of a basis
abbrev pub AreTalliedOf : Elements → ℕ → ℕ → List Tally → List ChainCount → Type 0
AreTalliedOf b = AreTallied (Contains (leads_of b.elements)) (length b.weights) b.weights

-- a line for each degree and length that has a chain
abbrev pub count_text : List ChainCount → List ℕ
count_text counts = flat_map (λ k. count_line k.degree k.size k.count) counts
