-- The quantities of a degree, and which of them passes its limit first.
use Rattle.std.specs.Prelude.{ℕ, ◌≡◌, ◌+◌, ◌*◌, ◌-◌, ◌^◌, ◌<◌, ◌≤◌, ◌↔◌, ◌⊎◌, min, List, [], ◌∷◌, ◌++◌, AllPairs}
use Rattle.std.specs.Prelude.{Contains, Option, Some, None, map, length}
use Rattle.std.specs.List.{AllZip, flat_map}
use Rattle.words.specs.Order.{IsLetterwiseGreater}
use Rattle.words.specs.Words.{words_of_degree}
use Rattle.free_poly.specs.declared.term.Term.{Term}
use Rattle.free_poly.specs.Terms.{HasResidues, IsSame}
use Rattle.free_poly.specs.Poly.{IsPolynomial}
use Rattle.ideal_laws.specs.Ideal.{Ideal}
use Rattle.ideal_laws.specs.declared.limits.LimitKind.{LimitKind}
use Rattle.ideal_laws.specs.declared.limits.LimitKind.TheVariants.{PlainWords, Rows, Columns, Entries, Cells, Terms}
use Rattle.ideal_laws.specs.declared.limits.LimitKind.TheVariants.{NormalWords}
use Rattle.ideal_laws.specs.Basis.{IsReducedBasis}
use Rattle.ideal_laws.specs.Closure.{AreColumns, AreObstructions, HasReducer, IsNormal, IsObstruction, Overlap}
use Rattle.ideal_laws.specs.Closure.{obstruction_row}
use Rattle.ideal_laws.specs.Engine.{Elements, of_degree}
use Rattle.ideal_laws.specs.Kept.{IsBelow}
use Rattle.ideal_laws.specs.Laws.{IsSetting}

-- the words of all terms
abbrev pub words_of : List (List Term) → List (List ℕ)
words_of fs = map (λ t. t.word) (flat_map (λ f. f) fs)

-- how many terms all of them have
abbrev pub terms_in : List (List Term) → ℕ
terms_in fs = length (flat_map (λ f. f) fs)

-- the polynomial of an obstruction
pub record IsRowOf (p : ℕ) (weights : List ℕ) (G : List (List Term)) (d : ℕ) (o : Overlap) (row : List Term) : Type
    0 where
  pub obstruction : IsObstruction weights G d o.left o.right o.before o.shared o.behind
  pub form : IsPolynomial row
  pub residues : HasResidues p row
  pub same : IsSame p row (obstruction_row p obstruction.first o.behind o.before obstruction.second)

-- the relations of degree d, and then the rows of its obstructions
pub record AreRows (ideal : Ideal) (G : List (List Term)) (d : ℕ) (rows : List (List Term)) : Type 0 where
  pub overlaps : List Overlap
  pub overlap_rows : List (List Term)
  pub are_obstructions : AreObstructions ideal.weights G d overlaps
  pub each : AllZip (IsRowOf ideal.modulus ideal.weights G d) overlaps overlap_rows
  pub joined : rows ≡ of_degree ideal.weights d ideal.relations ++ overlap_rows

-- the columns of the rows, each with its reducer or none
pub record AreClosed (ideal : Ideal) (G : List (List Term)) (d : ℕ) (rows : List (List Term)) (columns : List (List ℕ))
    (reducers : List (Option (List Term))) : Type 0 where
  pub are_rows : AreRows ideal G d rows
  pub are_columns : AreColumns G (words_of rows) columns
  pub are_reducers : AllZip (HasReducer G) columns reducers

-- the reducers that are there
abbrev pub reducers_in : List (Option (List Term)) → List (List Term)
reducers_in [] = []
reducers_in (None ∷ rs) = reducers_in rs
reducers_in (Some r ∷ rs) = r ∷ reducers_in rs

-- the columns that have none, in their order
abbrev pub contested_words : List (List ℕ) → List (Option (List Term)) → List (List ℕ)
contested_words [] rs = []
contested_words (w ∷ ws) [] = []
contested_words (w ∷ ws) (None ∷ rs) = w ∷ contested_words ws rs
contested_words (w ∷ ws) (Some r ∷ rs) = contested_words ws rs

-- how many columns have none
abbrev pub contested_in : List (Option (List Term)) → ℕ
contested_in [] = 0
contested_in (None ∷ rs) = 1 + contested_in rs
contested_in (Some r ∷ rs) = contested_in rs

-- exactly the normal words of a degree
pub record AreNormalWords (weights : List ℕ) (G : List (List Term)) (d : ℕ) (words : List (List ℕ)) : Type 0 where
  pub exactly : (w : List ℕ) → Contains words w ↔ (Contains (words_of_degree weights d) w × IsNormal G w)
  pub falling : AllPairs IsLetterwiseGreater words

-- what each quantity of degree d is, over the reduced basis of the degrees below
abbrev pub IsQuantity : Ideal → Elements → ℕ → LimitKind → ℕ → Type 0
IsQuantity ideal below d PlainWords q = q ≡ length (words_of_degree ideal.weights d)
IsQuantity ideal below d Rows q = (overlaps : List Overlap) × AreObstructions ideal.weights below.elements d overlaps
    × (q ≡ length (of_degree ideal.weights d ideal.relations) + length overlaps)
IsQuantity ideal below d Columns q =
    (rows : List (List Term)) × (columns : List (List ℕ)) × AreRows ideal below.elements d rows
    × AreColumns below.elements (words_of rows) columns × (q ≡ length columns)
IsQuantity ideal below d Entries q =
    (rows : List (List Term)) × (columns : List (List ℕ)) × (reducers : List (Option (List Term)))
    × AreClosed ideal below.elements d rows columns reducers × (q ≡ terms_in rows + terms_in (reducers_in reducers))
IsQuantity ideal below d Cells q =
    (rows : List (List Term)) × (columns : List (List ℕ)) × (reducers : List (Option (List Term)))
    × AreClosed ideal below.elements d rows columns reducers × (q ≡ length rows * contested_in reducers)
IsQuantity ideal below d Terms q = (basis : List (List Term)) × IsReducedBasis ideal d basis
    × (q ≡ terms_in below.elements + terms_in basis)
IsQuantity ideal below d NormalWords q =
    (basis : List (List Term)) × (words : List (List ℕ)) × IsReducedBasis ideal d basis
    × AreNormalWords ideal.weights (below.elements ++ basis) d words × (q ≡ length words)

-- over a reduced basis each quantity is at most one number
abbrev pub HasOneQuantity : Type 0
HasOneQuantity = (ideal : Ideal) → IsSetting ideal → (d : ℕ) (below : Elements) → IsBelow ideal d below
    → (kind : LimitKind) (q r : ℕ) → IsQuantity ideal below d kind q →
    IsQuantity ideal below d kind r → q ≡ r

-- what each quantity is
abbrev pub Quantities : Type 1
Quantities = LimitKind → ℕ → Type 0

-- the kept value of a quantity that passes a limit
abbrev pub kept_value : LimitKind → ℕ → ℕ → ℕ
kept_value PlainWords limit quantity = min quantity (2 ^ 64 - 1)
kept_value Rows limit quantity = limit + 1
kept_value Columns limit quantity = limit + 1
kept_value Entries limit quantity = limit + 1
kept_value Cells limit quantity = quantity
kept_value Terms limit quantity = min quantity (2 ^ 64 - 1)
kept_value NormalWords limit quantity = limit + 1

-- this kind is the first, in the order of the limits, whose quantity passes its number
abbrev pub IsFirstPassing : Quantities → List (LimitKind × ℕ) → LimitKind → ℕ → Type 0
IsFirstPassing Q [] kind value = ⊥
IsFirstPassing Q (l ∷ ls) kind value =
    ((q : ℕ) × Q l.0 q × (l.1 < q) × (kind ≡ l.0) × (value ≡ kept_value l.0 l.1 q))
    ⊎ ((q : ℕ) × Q l.0 q × (q ≤ l.1) × IsFirstPassing Q ls kind value)

-- each quantity is at most its number
abbrev pub NonePasses : Quantities → List (LimitKind × ℕ) → Type 0
NonePasses Q [] = Unit {0}
NonePasses Q (l ∷ ls) = ((q : ℕ) × Q l.0 q × (q ≤ l.1)) × NonePasses Q ls

-- in each degree from 1 to d none passes
abbrev pub NonePassesUpto : Ideal → List (LimitKind × ℕ) → ℕ → Type 0
NonePassesUpto ideal limits d = (e : ℕ) → 0 < e → e ≤ d → (below : Elements) × IsBelow ideal e below
    × NonePasses (IsQuantity ideal below e) limits

-- the first degree up to a bound in which a quantity passes, and the first one there
pub record IsFirstRefused (ideal : Ideal) (limits : List (LimitKind × ℕ)) (bound : ℕ)
    (kind : LimitKind) (d value : ℕ) : Type 0 where
  pub from : 0 < d
  pub upto : d ≤ bound
  pub before : NonePassesUpto ideal limits (d - 1)
  pub below : Elements
  pub is_below : IsBelow ideal d below
  pub passes : IsFirstPassing (IsQuantity ideal below d) limits kind value
