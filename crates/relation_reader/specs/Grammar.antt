-- The grammar of the input text: what a text spells, and which marks may come at a place.
use Rattle.std.specs.Prelude.{ℕ, ◌≡◌, ◌↔◌, List, [], ◌∷◌, ◌++◌, if◌then◌else◌, codes, bytes_eq, Option, Some, None}
use Rattle.std.specs.List.{flat_map}
use Rattle.relation_reader.specs.declared.token.Mark.{Mark}
use Rattle.relation_reader.specs.declared.token.Mark.TheVariants as marks
use Rattle.relation_reader.specs.declared.token.Token.{Token}
use Rattle.relation_reader.specs.declared.fault.Want.TheVariants as wants
use Rattle.relation_reader.specs.declared.fault.InputFault.{InputFault}
use Rattle.relation_reader.specs.declared.fault.InputFault.TheVariants as faults
use Rattle.relation_reader.specs.declared.place.Place.{Place}
use Rattle.relation_reader.specs.declared.place.Place.TheVariants as places
use Rattle.relation_reader.specs.Tokens.{span}

-- a token as the grammar sees it: its mark, a name with its bytes
pub data Lexeme : Type 0 where
  name : (bytes : List ℕ) → Lexeme
  number : (value : ℕ) → Lexeme
  plus : Lexeme
  minus : Lexeme
  star : Lexeme
  caret : Lexeme
  comma : Lexeme
  semicolon : Lexeme
  colon : Lexeme
  the_end : Lexeme

-- a lexeme, and where it begins
pub record Piece : Type 0 where
  pub lexeme : Lexeme
  pub at : ℕ

-- what a token of this mark with these bytes is to the grammar
abbrev pub lexeme_of : Mark → List ℕ → Lexeme
lexeme_of marks.Name bytes = name bytes
lexeme_of (marks.Number value) bytes = number value
lexeme_of marks.Plus bytes = plus
lexeme_of marks.Minus bytes = minus
lexeme_of marks.Star bytes = star
lexeme_of marks.Caret bytes = caret
lexeme_of marks.Comma bytes = comma
lexeme_of marks.Semicolon bytes = semicolon
lexeme_of marks.Colon bytes = colon
lexeme_of marks.End bytes = the_end

-- what a token of a text is to the grammar, and where it begins
abbrev pub piece_of : List ℕ → Token → Piece
piece_of text t = record { lexeme = lexeme_of t.mark (span text t.start t.end); at = t.start }

-- a declared name with its weight, where one is written
pub record Item : Type 0 where
  pub name : List ℕ
  pub weight : Option ℕ

-- a number, or a name with its exponent, where one is written
pub data Factor : Type 0 where
  constant : (value : ℕ) → Factor
  power : (letter : List ℕ) (exponent : Option ℕ) → Factor

-- at least one factor
pub record Summand : Type 0 where
  pub first : Factor
  pub others : List Factor

-- `+` or `-`
pub data Sign : Type 0 where
  positive : Sign
  negative : Sign

-- a summand after its sign
pub record Signed : Type 0 where
  pub sign : Sign
  pub summand : Summand

-- a relation: the sign before its first summand, where one is written, and the further ones
pub record Relation : Type 0 where
  pub sign : Option Sign
  pub first : Summand
  pub others : List Signed

-- a text: at least one declared name, and any number of relations
pub record Tree : Type 0 where
  pub first : Item
  pub others : List Item
  pub relations : List Relation

-- Each of the following is one line of the grammar.

-- [ ":" number ]
abbrev pub spelled_weight : Option ℕ → List Lexeme
spelled_weight None = []
spelled_weight (Some value) = colon ∷ number value ∷ []

-- item = name [ ":" number ]
abbrev pub spelled_item : Item → List Lexeme
spelled_item item = name item.name ∷ spelled_weight item.weight

-- [ "^" number ]
abbrev pub spelled_exponent : Option ℕ → List Lexeme
spelled_exponent None = []
spelled_exponent (Some value) = caret ∷ number value ∷ []

-- factor = number | name [ "^" number ]
abbrev pub spelled_factor : Factor → List Lexeme
spelled_factor (constant value) = number value ∷ []
spelled_factor (power letter exponent) = name letter ∷ spelled_exponent exponent

-- summand = factor { "*" factor }
abbrev pub spelled_summand : Summand → List Lexeme
spelled_summand s = spelled_factor s.first ++ flat_map (λ f. star ∷ spelled_factor f) s.others

-- sign = "+" | "-"
abbrev pub spelled_sign : Sign → List Lexeme
spelled_sign positive = plus ∷ []
spelled_sign negative = minus ∷ []

-- [ sign ]
abbrev pub spelled_first_sign : Option Sign → List Lexeme
spelled_first_sign None = []
spelled_first_sign (Some sign) = spelled_sign sign

-- relation = [ sign ] summand { sign summand }
abbrev pub spelled_relation : Relation → List Lexeme
spelled_relation r = spelled_first_sign r.sign ++ spelled_summand r.first
    ++ flat_map (λ (s : Signed). spelled_sign s.sign ++ spelled_summand s.summand) r.others

-- [ relation { "," relation } ]
abbrev pub spelled_relations : List Relation → List Lexeme
spelled_relations [] = []
spelled_relations (r ∷ rs) = spelled_relation r ++ flat_map (λ s. comma ∷ spelled_relation s) rs

-- text = "vars" item { "," item } ";" [ relation { "," relation } ] ";" end
abbrev pub spelled : Tree → List Lexeme
spelled tree = name (codes "vars") ∷ (spelled_item tree.first
    ++ (flat_map (λ item. comma ∷ spelled_item item) tree.others
    ++ (semicolon ∷ (spelled_relations tree.relations ++ (semicolon ∷ the_end ∷ [])))))

-- what may come after a whole factor, and the place after it
abbrev pub in_relation : Lexeme → Option Place
in_relation star = Some places.AfterOperator
in_relation plus = Some places.AfterOperator
in_relation minus = Some places.AfterOperator
in_relation comma = Some places.AfterComma
in_relation semicolon = Some places.AfterLast
in_relation lexeme = None

-- what may begin a factor
abbrev pub of_factor : Lexeme → Option Place
of_factor (name bytes) = Some places.AfterName
of_factor (number value) = Some places.AfterNumber
of_factor lexeme = None

-- what may begin a relation
abbrev pub of_term : Lexeme → Option Place
of_term plus = Some places.AfterOperator
of_term minus = Some places.AfterOperator
of_term lexeme = of_factor lexeme

-- what may come at a place, and the place after it
abbrev pub next_place : Place → Lexeme → Option Place
next_place places.Beginning (name bytes) = if bytes_eq bytes (codes "vars") then Some places.AfterVars else None
next_place places.Beginning lexeme = None
next_place places.AfterVars (name bytes) = Some places.AfterDeclared
next_place places.AfterVars lexeme = None
next_place places.AfterListComma (name bytes) = Some places.AfterDeclared
next_place places.AfterListComma lexeme = None
next_place places.AfterDeclared comma = Some places.AfterListComma
next_place places.AfterDeclared semicolon = Some places.AfterList
next_place places.AfterDeclared colon = Some places.AfterListColon
next_place places.AfterDeclared lexeme = None
next_place places.AfterListColon (number value) = Some places.AfterWeight
next_place places.AfterListColon lexeme = None
next_place places.AfterWeight comma = Some places.AfterListComma
next_place places.AfterWeight semicolon = Some places.AfterList
next_place places.AfterWeight lexeme = None
next_place places.AfterList semicolon = Some places.AfterLast
next_place places.AfterList lexeme = of_term lexeme
next_place places.AfterComma lexeme = of_term lexeme
next_place places.AfterOperator lexeme = of_factor lexeme
next_place places.AfterName caret = Some places.AfterCaret
next_place places.AfterName lexeme = in_relation lexeme
next_place places.AfterCaret (number value) = Some places.AfterNumber
next_place places.AfterCaret lexeme = None
next_place places.AfterNumber lexeme = in_relation lexeme
next_place places.AfterLast the_end = Some places.AfterEnd
next_place places.AfterLast lexeme = None
next_place places.AfterEnd lexeme = None

-- the fault of a token that may not come at a place
abbrev pub refusal : Place → Lexeme → ℕ → InputFault
refusal places.Beginning lexeme at = faults.Expected at wants.Vars
refusal places.AfterVars semicolon at = faults.NoVariable at
refusal places.AfterVars lexeme at = faults.Expected at wants.Name
refusal places.AfterListComma lexeme at = faults.Expected at wants.Name
refusal places.AfterDeclared lexeme at = faults.Expected at wants.ListMark
refusal places.AfterListColon lexeme at = faults.Expected at wants.Weight
refusal places.AfterWeight lexeme at = faults.Expected at wants.ListMark
refusal places.AfterList lexeme at = faults.Expected at wants.Term
refusal places.AfterComma lexeme at = faults.Expected at wants.Term
refusal places.AfterOperator lexeme at = faults.Expected at wants.Factor
refusal places.AfterName lexeme at = faults.Expected at wants.Operator
refusal places.AfterCaret lexeme at = faults.Expected at wants.Exponent
refusal places.AfterNumber lexeme at = faults.Expected at wants.Operator
refusal places.AfterLast lexeme at = faults.AfterEnd at
refusal places.AfterEnd lexeme at = faults.AfterEnd at

-- the place after some marks, where each may come
abbrev pub reached : Option Place → List Lexeme → Option Place
reached None ls = None
reached (Some place) [] = Some place
reached (Some place) (l ∷ ls) = reached (next_place place l) ls

-- the marks that the table lets through to the end are those of the texts of the grammar
abbrev pub TableIsGrammar : Type 0
TableIsGrammar = (ls : List Lexeme) → (reached (Some places.Beginning) ls ≡ Some places.AfterEnd)
    ↔ ((tree : Tree) × (ls ≡ spelled tree))

-- each place is on the way to a whole text, so that the table refuses a mark only where no text of the grammar goes
-- on with it
abbrev pub TableIsTight : Type 0
TableIsTight = (ls : List Lexeme) (place : Place) → reached (Some places.Beginning) ls ≡ Some place →
    (rest : List Lexeme) × (reached (Some place) rest ≡ Some places.AfterEnd)

-- a text of the grammar is spelled by one tree
abbrev pub SpellsOnce : Type 0
SpellsOnce = (s t : Tree) → spelled s ≡ spelled t → s ≡ t
