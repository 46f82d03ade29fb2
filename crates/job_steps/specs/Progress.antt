-- How far a task on an ideal comes, and what it prints.
use Rattle.std.specs.Prelude.{ℕ, ◌≡◌, ◌⊎◌, ◌+◌, ◌-◌, ◌<◌, ◌≤◌, Bool, true, false, List, [], ◌++◌}
use Rattle.words.specs.Names.{Letters}
use Rattle.free_poly.specs.declared.term.Term.{Term}
use Rattle.ideal_laws.specs.Ideal.{Ideal, ideal_over}
use Rattle.ideal_laws.specs.declared.limits.LimitKind.{LimitKind}
use Rattle.ideal_laws.specs.declared.limits.LimitKind.TheVariants.{NormalWords}
use Rattle.ideal_laws.specs.Dimension.{IsHilbertCoefficient}
use Rattle.ideal_laws.specs.Quantities.{IsFirstRefused, NonePassesUpto}
use Rattle.poly_writer.specs.Outputs.{IsBasisText, IsSeriesText}

-- what is asked of an ideal: a modulus, letters and relations; the limits of an engine in their order, and that of
-- the normal words; a bound of degrees; and which parts are shown
pub record Task : Type 0 where
  pub modulus : ℕ
  pub letters : Letters
  pub relations : List (List Term)
  pub limits : List (LimitKind × ℕ)
  pub normal_words : ℕ
  pub bound : ℕ
  pub shows_basis : Bool
  pub shows_series : Bool

-- the ideal that a task asks of
abbrev pub ideal_of_task : Task → Ideal
ideal_of_task t = ideal_over t.modulus t.letters.weights t.relations

-- a task comes to its end, or to the first quantity that passes its limit: one of the engine, or the normal words of
-- a degree
pub data Reach : Type 0 where
  whole : Reach
  refused : (kind : LimitKind) (degree value : ℕ) → Reach
  crowded : (degree value : ℕ) → Reach

-- in the degrees below d the coefficients are at most the limit
abbrev pub AreSmallBelow : Ideal → ℕ → ℕ → Type 0
AreSmallBelow ideal limit d = (e : ℕ) → e < d → (h : ℕ) × IsHilbertCoefficient ideal e h × (h ≤ limit)

-- d is the first degree with a greater coefficient, and the kept value is the limit plus 1
pub record IsFirstLargeCoefficient (ideal : Ideal) (limit d value : ℕ) : Type 0 where
  pub before : AreSmallBelow ideal limit d
  pub coefficient : ℕ
  pub is_coefficient : IsHilbertCoefficient ideal d coefficient
  pub large : limit < coefficient
  pub kept : value ≡ limit + 1

-- in no degree up to d a quantity of the engine passes its limit
abbrev pub PassesNone : Task → ℕ → Type 0
PassesNone t d = NonePassesUpto (ideal_of_task t) t.limits d

-- the task comes so far
abbrev pub IsReach : Task → Reach → Type 0
IsReach t whole = PassesNone t t.bound × (t.shows_series ≡ true →
    AreSmallBelow (ideal_of_task t) t.normal_words (t.bound + 1))
IsReach t (refused kind d value) = IsFirstRefused (ideal_of_task t) t.limits t.bound
    kind d value
IsReach t (crowded d value) = PassesNone t t.bound × (t.shows_series ≡ true) × (d ≤ t.bound)
    × IsFirstLargeCoefficient (ideal_of_task t) t.normal_words d value

-- it is stopped by this limit
abbrev pub IsStoppedBy : Reach → LimitKind → ℕ → ℕ → Type 0
IsStoppedBy whole kind d value = ⊥
IsStoppedBy (refused own e v) kind d value = (own ≡ kind) × (e ≡ d) × (v ≡ value)
IsStoppedBy (crowded e v) kind d value = (NormalWords ≡ kind) × (e ≡ d) × (v ≡ value)

-- a part that is shown has such a text, and another one none
abbrev pub IsPart : Bool → (List ℕ → Type 0) → List ℕ → Type 0
IsPart true P text = P text
IsPart false P text = text ≡ []

-- the reduced bases of degrees 1 to d, where the basis is shown
abbrev pub IsBasisPart : Task → ℕ → List ℕ → Type 0
IsBasisPart t d text = IsPart t.shows_basis (IsBasisText t.modulus t.letters t.relations d) text

-- the coefficients of degrees 0 to d, where the series is shown
abbrev pub IsSeriesPart : Task → ℕ → List ℕ → Type 0
IsSeriesPart t d text = IsPart t.shows_series (IsSeriesText t.modulus t.letters t.relations d) text

-- the basis of all degrees, and then the coefficients of degrees 0 to d
pub record IsOutput (t : Task) (d : ℕ) (text : List ℕ) : Type 0 where
  pub basis : List ℕ
  pub series : List ℕ
  pub is_basis : IsBasisPart t t.bound basis
  pub is_series : IsSeriesPart t d series
  pub joined : text ≡ basis ++ series

-- what a task prints that comes so far
abbrev pub IsText : Task → Reach → List ℕ → Type 0
IsText t whole text = IsOutput t t.bound text
IsText t (refused kind d value) text = IsBasisPart t (d - 1) text
IsText t (crowded d value) text = IsOutput t (d - 1) text

-- the text of a task
abbrev pub IsTaskText : Task → List ℕ → Type 0
IsTaskText t text = (reach : Reach) × IsReach t reach × IsText t reach text

-- the first bytes of a text, or all of them
pub record IsBeginning (first text : List ℕ) : Type 0 where
  pub rest : List ℕ
  pub joined : text ≡ first ++ rest

-- the basis of degrees 1 to d, in none of which a quantity passes
pub record IsBasisSoFar (t : Task) (d : ℕ) (text : List ℕ) : Type 0 where
  pub upto : d ≤ t.bound
  pub passes_none : PassesNone t d
  pub is_basis : IsBasisPart t d text

-- the last degree that is computed of a task that comes so far
abbrev pub last_degree : Task → Reach → ℕ
last_degree t whole = t.bound
last_degree t (refused kind d value) = d - 1
last_degree t (crowded d value) = t.bound

-- what the task has to print once degrees 1 to e are computed: the basis so far, or its text
abbrev pub IsDue : Task → ℕ → List ℕ → Type 0
IsDue t e text = IsBasisSoFar t e text ⊎ ((reach : Reach) × IsReach t reach × IsText t reach text
    × (e ≡ last_degree t reach))

-- the lines of all degrees below e stand in what was gained: it begins with the basis up to a degree, and e is at
-- most the next
pub record HasLinesBelow (t : Task) (e : ℕ) (gained : List ℕ) : Type 0 where
  pub degree : ℕ
  pub lines : List ℕ
  pub so_far : IsBasisSoFar t degree lines
  pub begins : IsBeginning lines gained
  pub upto : e ≤ degree + 1
