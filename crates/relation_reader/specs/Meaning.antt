-- What a text means, and where its faults stand.
use Rattle.std.specs.Prelude.{ℕ, suc, ◌≡◌, ◌+◌, ◌-◌, ◌*◌, ◌%◌, ◌<◌, ◌==◌, ◌&&◌, ◌||◌, ◌⊎◌, Bool, true, false, not}
use Rattle.std.specs.Prelude.{List, [], ◌∷◌, ◌++◌, if◌then◌else◌}
use Rattle.std.specs.Prelude.{nat_le, nat_lt, length, bytes_eq, map, replicate, Option, Some, None, is_none, unwrap_or}
use Rattle.std.specs.List.{flat_map}
use Rattle.words.specs.Names.{Letters}
use Rattle.words.specs.Words.{degree_of}
use Rattle.free_poly.specs.declared.term.Term.{Term}
use Rattle.free_poly.specs.Terms.{HasResidues, IsSame}
use Rattle.free_poly.specs.Poly.{IsPolynomial}
use Rattle.ideal_laws.specs.Laws.{IsOne}
use Rattle.relation_reader.specs.declared.token.Token.{Token}
use Rattle.relation_reader.specs.declared.fault.InputFault.{InputFault}
use Rattle.relation_reader.specs.declared.fault.InputFault.TheVariants as faults
use Rattle.relation_reader.specs.Tokens.{SplitsFrom}
use Rattle.relation_reader.specs.declared.place.Place.{Place}
use Rattle.relation_reader.specs.declared.place.Place.TheVariants as places
use Rattle.relation_reader.specs.Grammar.{Lexeme, name, number, star, caret, semicolon, the_end, Piece, piece_of}
use Rattle.relation_reader.specs.Grammar.{Factor, constant, power, Summand}
use Rattle.relation_reader.specs.Grammar.{Sign, positive, negative, Signed, Relation, Tree, spelled, next_place}
use Rattle.relation_reader.specs.Grammar.{refusal}

-- The faults with a place.

-- a token with the place that it stands at
pub record Placed : Type 0 where
  pub place : Place
  pub lexeme : Lexeme
  pub at : ℕ

-- each token up to the first that may not come
abbrev pub placed_from : Option Place → List Piece → List Placed
placed_from None ts = []
placed_from (Some place) [] = []
placed_from (Some place) (t ∷ ts) = record { place = place; lexeme = t.lexeme; at = t.at }
    ∷ placed_from (next_place place t.lexeme) ts

-- this name stands among these
abbrev pub is_among : List ℕ → List (List ℕ) → Bool
is_among x [] = false
is_among x (y ∷ ys) = bytes_eq x y || is_among x ys

-- a declared name, and it has this
abbrev pub is_declared : (List ℕ → Bool) → Place → Lexeme → Bool
is_declared test places.AfterVars (name bytes) = test bytes
is_declared test places.AfterListComma (name bytes) = test bytes
is_declared test place lexeme = false

-- a name in a relation, and it has this
abbrev pub is_used : (List ℕ → Bool) → Place → Lexeme → Bool
is_used test places.AfterList (name bytes) = test bytes
is_used test places.AfterComma (name bytes) = test bytes
is_used test places.AfterOperator (name bytes) = test bytes
is_used test place lexeme = false

-- a declared weight, and it has this
abbrev pub is_weight : (ℕ → Bool) → Place → Lexeme → Bool
is_weight test places.AfterListColon (number value) = test value
is_weight test place lexeme = false

-- an exponent, and it has this
abbrev pub is_exponent : (ℕ → Bool) → Place → Lexeme → Bool
is_exponent test places.AfterCaret (number value) = test value
is_exponent test place lexeme = false

-- the first token of a relation
abbrev pub begins_relation : Place → Lexeme → Bool
begins_relation places.AfterList semicolon = false
begins_relation places.AfterList lexeme = true
begins_relation places.AfterComma lexeme = true
begins_relation place lexeme = false

-- the name that a token declares, where it declares one
abbrev pub declares : Place → Lexeme → List (List ℕ)
declares places.AfterVars (name bytes) = bytes ∷ []
declares places.AfterListComma (name bytes) = bytes ∷ []
declares place lexeme = []

-- the names that some tokens declare
abbrev pub declared_names : List Placed → List (List ℕ)
declared_names ts = flat_map (λ t. declares t.place t.lexeme) ts

-- how many relations begin in some tokens
abbrev pub relations_begun : List Placed → ℕ
relations_begun [] = 0
relations_begun (t ∷ ts) = (if begins_relation t.place t.lexeme then 1 else 0) + relations_begun ts

-- the letters of a term up to here: a name is one, `^` takes it back, and the exponent says how many
abbrev pub letters_after : ℕ → Place → Lexeme → ℕ
letters_after n place (name bytes) = n + 1
letters_after n place caret = n - 1
letters_after n places.AfterCaret (number value) = n + value
letters_after n place (number value) = n
letters_after n place star = n
letters_after n place lexeme = 0

-- the letters of the present term after these tokens, where it had some before
abbrev pub letters_from : ℕ → List Placed → ℕ
letters_from n [] = n
letters_from n (t ∷ ts) = letters_from (letters_after n t.place t.lexeme) ts

-- the mark `^`
abbrev pub is_caret : Lexeme → Bool
is_caret caret = true
is_caret lexeme = false

-- `^` comes next
abbrev pub takes_exponent : List Placed → Bool
takes_exponent [] = false
takes_exponent (t ∷ ts) = is_caret t.lexeme

-- with this many more letters the word passes 256 for the first time
abbrev pub passes : ℕ → ℕ → Bool
passes letters more = nat_le more 256 && nat_le letters 256 && nat_lt 256 (letters + more)

-- this fault, where it holds
abbrev pub when : Bool → InputFault → Option InputFault
when holds fault = if holds then Some fault else None

-- the faults that stand at a token, in the order of the tables: that of the grammar, and those of meaning
abbrev pub faults_here : List Placed → Placed → List Placed → List (Option InputFault)
faults_here before t after =
    when (is_none (next_place t.place t.lexeme)) (refusal t.place t.lexeme t.at)
    ∷ when (is_declared (λ bytes. nat_lt 32 (length bytes)) t.place t.lexeme) (faults.NameTooLong t.at)
    ∷ when (is_declared (λ bytes. length (declared_names before) == 64) t.place t.lexeme) (faults.TooManyVariables t.at)
    ∷ when (is_declared (λ bytes. is_among bytes (declared_names before)) t.place t.lexeme)
    (faults.RepeatedVariable t.at)
    ∷ when (is_weight (λ value. value == 0 || nat_lt 8 value) t.place t.lexeme) (faults.WeightOutOfRange t.at)
    ∷ when (begins_relation t.place t.lexeme && relations_begun before == 4096) (faults.TooManyRelations t.at)
    ∷ when (is_used (λ bytes. not (is_among bytes (declared_names before))) t.place t.lexeme)
    (faults.UnknownVariable t.at)
    ∷ when (is_exponent (λ value. nat_lt 256 value) t.place t.lexeme) (faults.ExponentTooLarge t.at)
    ∷ when (is_exponent (passes (letters_from 0 before)) t.place t.lexeme ||
    (is_used (λ bytes. passes (letters_from 0 before) 1) t.place t.lexeme && not (takes_exponent after)))
    (faults.WordTooLong t.at)
    ∷ []

-- those of all tokens, from the left
abbrev pub faults_from : List Placed → List Placed → List (Option InputFault)
faults_from before [] = []
faults_from before (t ∷ ts) = faults_here before t ts ++ faults_from (before ++ t ∷ []) ts

-- the first fault that there is
abbrev pub first_of : List (Option InputFault) → Option InputFault
first_of [] = None
first_of (Some fault ∷ rest) = Some fault
first_of (None ∷ rest) = first_of rest

-- the pieces of a text: its tokens, and End where it has no fault of tokens
abbrev pub pieces_of : List ℕ → List Token → Option InputFault → List Piece
pieces_of text tokens None = map (piece_of text) tokens ++ record { lexeme = the_end; at = length text } ∷ []
pieces_of text tokens (Some fault) = map (piece_of text) tokens

-- the fault with the least place, and the first of that place
abbrev pub place_fault : List Piece → Option InputFault → Option InputFault
place_fault pieces stop = first_of (faults_from [] (placed_from (Some places.Beginning) pieces) ++ stop ∷ [])

-- What a tree means.

-- the letter of a name: its place in the declaration
abbrev pub letter_of : List (List ℕ) → List ℕ → ℕ
letter_of [] x = 0
letter_of (y ∷ ys) x = if bytes_eq x y then 0 else suc (letter_of ys x)

-- the letters of a factor
abbrev pub word_of_factor : List (List ℕ) → Factor → List ℕ
word_of_factor names (constant value) = []
word_of_factor names (power letter exponent) = replicate (unwrap_or exponent 1) (letter_of names letter)

-- the number of a factor, which is 1 for a name
abbrev pub value_of_factor : Factor → ℕ
value_of_factor (constant value) = value
value_of_factor (power letter exponent) = 1

-- the word of a term
abbrev pub word_of : List (List ℕ) → Summand → List ℕ
word_of names s = word_of_factor names s.first ++ flat_map (word_of_factor names) s.others

-- the product of the numbers of these factors
abbrev pub product_of_values : List Factor → ℕ
product_of_values [] = 1
product_of_values (f ∷ fs) = value_of_factor f * product_of_values fs

-- the product of the numbers of a term
abbrev pub value_of : Summand → ℕ
value_of s = value_of_factor s.first * product_of_values s.others

-- a number after its sign, modulo p
abbrev pub signed : ℕ → Sign → ℕ → ℕ
signed p positive n = n
signed p negative n = p - n % p

-- what a term means after its sign
abbrev pub term_of : ℕ → List (List ℕ) → Sign → Summand → Term
term_of p names sign s = record { word = word_of names s; coefficient = signed p sign (value_of s) }

-- the terms of a relation as they stand
abbrev pub terms_of_relation : ℕ → List (List ℕ) → Relation → List Term
terms_of_relation p names r = term_of p names (unwrap_or r.sign positive) r.first
    ∷ map (λ (s : Signed). term_of p names s.sign s.summand) r.others

-- the element that a relation means
pub record IsMeaning (p : ℕ) (names : List (List ℕ)) (r : Relation) (f : List Term) : Type 0 where
  pub form : IsPolynomial f
  pub residues : HasResidues p f
  pub sum : IsSame p f (terms_of_relation p names r)

-- the elements that these relations mean, in order
abbrev pub AreMeanings : ℕ → List (List ℕ) → List Relation → List (List Term) → Type 0
AreMeanings p names [] [] = Unit {0}
AreMeanings p names (r ∷ rs) (f ∷ fs) = IsMeaning p names r f × AreMeanings p names rs fs
AreMeanings p names rs fs = ⊥

-- the declared names, and the weight of each, which is 1 where none is written
abbrev pub letters_of : Tree → Letters
letters_of tree = record {
  names = map (λ item. item.name) (tree.first ∷ tree.others);
  weights = map (λ item. unwrap_or item.weight 1) (tree.first ∷ tree.others);
}

-- the elements that are not 0
abbrev pub others_than_zero : List (List Term) → List (List Term)
others_than_zero [] = []
others_than_zero ([] ∷ fs) = others_than_zero fs
others_than_zero ((t ∷ ts) ∷ fs) = (t ∷ ts) ∷ others_than_zero fs

-- The faults by relation.

-- two words have different degrees
abbrev pub differs : List ℕ → List Term → Bool
differs weights [] = false
differs weights (t ∷ []) = false
differs weights (s ∷ t ∷ ts) = not (degree_of weights s.word == degree_of weights t.word) || differs weights (t ∷ ts)

-- a residue other than 0 times the empty word
abbrev pub is_constant : List Term → Bool
is_constant (t ∷ []) = length t.word == 0
is_constant f = false

-- the faults of these elements, the first of which has the number k
abbrev pub relation_faults : List ℕ → ℕ → List (List Term) → List (Option InputFault)
relation_faults weights k [] = []
relation_faults weights k (f ∷ fs) = when (differs weights f) (faults.NotHomogeneous k)
    ∷ when (is_constant f) (faults.Constant k)
    ∷ relation_faults weights (k + 1) fs

-- a text in the grammar without a fault that has a place, and what its relations mean
pub record Means (text : List ℕ) (p : ℕ) (letters : Letters) (meanings : List (List Term)) : Type 0 where
  pub tokens : List Token
  pub splits : SplitsFrom text 0 tokens None
  pub tree : Tree
  pub spelled_so : map (λ piece. piece.lexeme) (pieces_of text tokens None) ≡ spelled tree
  pub no_fault : place_fault (pieces_of text tokens None) None ≡ None
  pub letters_are : letters ≡ letters_of tree
  pub meanings_are : AreMeanings p letters.names tree.relations meanings

-- the whole text has these names with their weights, and these relations other than 0
pub record Reads (text : List ℕ) (p : ℕ) (letters : Letters) (relations : List (List Term)) : Type 0 where
  pub meanings : List (List Term)
  pub means : Means text p letters meanings
  pub no_fault : first_of (relation_faults letters.weights 1 meanings) ≡ None
  pub others : relations ≡ others_than_zero meanings

-- the fault with the least place
pub record IsFirstPlaced (text : List ℕ) (fault : InputFault) : Type 0 where
  pub tokens : List Token
  pub stop : Option InputFault
  pub splits : SplitsFrom text 0 tokens stop
  pub first : place_fault (pieces_of text tokens stop) stop ≡ Some fault

-- no fault has a place, and this is the one of the first relation with a fault
pub record IsFirstRelation (text : List ℕ) (p : ℕ) (fault : InputFault) : Type 0 where
  pub letters : Letters
  pub meanings : List (List Term)
  pub means : Means text p letters meanings
  pub first : first_of (relation_faults letters.weights 1 meanings) ≡ Some fault

-- the fault that a text is refused with
abbrev pub FirstFault : List ℕ → ℕ → InputFault → Type 0
FirstFault text p fault = IsFirstPlaced text fault ⊎ IsFirstRelation text p fault

-- what a text gives: a reading, or a fault
pub data Outcome : Type 0 where
  reading : (letters : Letters) (relations : List (List Term)) → Outcome
  refused : (fault : InputFault) → Outcome

-- the text gives this
abbrev pub IsOutcome : List ℕ → ℕ → Outcome → Type 0
IsOutcome text p (reading letters relations) = Reads text p letters relations
IsOutcome text p (refused fault) = FirstFault text p fault

-- a text has exactly one reading or exactly one first fault, never both
abbrev pub HasOneReading : Type 0
HasOneReading = (text : List ℕ) (p : ℕ) → 0 < p → IsOne (IsOutcome text p)
