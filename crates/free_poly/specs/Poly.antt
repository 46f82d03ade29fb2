-- Polynomials: sums of terms in normal form.
use Rattle.std.specs.Prelude.{ℕ, ◌≡◌, ◌≢◌, ◌<◌, List, [], ◌∷◌, ◌++◌, All, AllPairs, Option, Some, None}
use Rattle.std.specs.declared.cmp.Ordering.{Ordering}
use Rattle.std.specs.declared.cmp.Ordering.TheVariants.{Less, Greater}
use Rattle.words.specs.Order.{IsLetterwiseGreater, letterwise_cmp}
use Rattle.free_poly.specs.declared.term.Term.{Term}
use Rattle.free_poly.specs.Terms.{IsSame, scaled, term_at}

-- words falling letter by letter, which on one degree is the order of words, and no coefficient is 0
pub record IsPolynomial (terms : List Term) : Type 0 where
  pub falling : AllPairs (λ s t. IsLetterwiseGreater s.word t.word) terms
  pub nonzero : All (λ t. t.coefficient ≢ 0) terms

-- the first word, which is the greatest where all words have one degree
abbrev pub lead_of : List Term → Option (List ℕ)
lead_of [] = None
lead_of (t ∷ ts) = Some t.word

-- the same, and the empty word where there is none
abbrev pub lead_or_none : List Term → List ℕ
lead_or_none [] = []
lead_or_none (t ∷ ts) = t.word

-- the element with these residues at the columns
abbrev pub element_on : List (List ℕ) → List ℕ → List Term
element_on [] row = []
element_on (w ∷ ws) [] = []
element_on (w ∷ ws) (a ∷ row) = term_at w a ++ element_on ws row

-- the order of the first words, where a sum with no word has the smaller
abbrev pub firsts_cmp : List Term → List Term → Ordering
firsts_cmp f [] = Greater
firsts_cmp [] (u ∷ g) = Less
firsts_cmp (t ∷ f) (u ∷ g) = letterwise_cmp t.word u.word

-- the coefficient at the first word is 1
abbrev pub IsMonic : List Term → Type 0
IsMonic [] = ⊥
IsMonic (t ∷ ts) = t.coefficient ≡ 1

-- f is g times a residue other than 0
pub record IsMultiple (p : ℕ) (f g : List Term) : Type 0 where
  pub factor : ℕ
  pub other : 0 < factor
  pub residue : factor < p
  pub same : IsSame p f (scaled factor g)
