-- The table of places lets through what a tree spells.
use Rattle.std.proofs.Common.{ℕ, ◌≡◌, Bool, true, false, List, [], ◌∷◌, ◌++◌, Option, Some, None, codes, refl, sym, ap, ◌∙◌, append_assoc}
use Rattle.std.specs.List.{flat_map}
use Rattle.relation_reader.specs.declared.place.Place.{Place}
use Rattle.relation_reader.specs.declared.place.Place.TheVariants as places
use Rattle.relation_reader.specs.Grammar.{Lexeme, name, number, star, comma, semicolon, the_end, Item, Factor, constant, power, Summand, Sign}
use Rattle.relation_reader.specs.Grammar.{positive, negative, Signed, Relation, Tree, reached, spelled, spelled_factor, spelled_first_sign}
use Rattle.relation_reader.specs.Grammar.{spelled_item, spelled_relation, spelled_relations, spelled_sign, spelled_summand}

-- the text behind the last relation
abbrev pub ending : List Lexeme
ending = semicolon ∷ the_end ∷ []

-- `*` and a factor, for each of these
abbrev pub starred : List Factor → List Lexeme
starred fs = flat_map (λ f. star ∷ spelled_factor f) fs

-- a sign and a summand, for each of these
abbrev pub signeds : List Signed → List Lexeme
signeds ss = flat_map (λ (s : Signed). spelled_sign s.sign ++ spelled_summand s.summand) ss

-- `,` and a relation, for each of these
abbrev pub commaed : List Relation → List Lexeme
commaed rs = flat_map (λ r. comma ∷ spelled_relation r) rs

-- `,` and an item, for each of these
abbrev pub listed : List Item → List Lexeme
listed items = flat_map (λ item. comma ∷ spelled_item item) items

-- the place after a factor: after a name, or after a number
abbrev pub end_place : Bool → Place
end_place true = places.AfterName
end_place false = places.AfterNumber

abbrev factor_end : Factor → Bool
factor_end (constant value) = false
factor_end (power letter None) = true
factor_end (power letter (Some value)) = false

abbrev last_end : Bool → List Factor → Bool
last_end b [] = b
last_end b (f ∷ fs) = last_end (factor_end f) fs

abbrev summand_end : Summand → Bool
summand_end s = last_end (factor_end s.first) s.others

abbrev signed_end : Bool → List Signed → Bool
signed_end b [] = b
signed_end b (s ∷ ss) = signed_end (summand_end s.summand) ss

abbrev relation_end : Relation → Bool
relation_end r = signed_end (summand_end r.first) r.others

factor-walk : (f : Factor) (rest : List Lexeme) → reached (Some places.AfterOperator) (spelled_factor f ++ rest)
    ≡ reached (Some (end_place (factor_end f))) rest
factor-walk (constant value) rest = refl
factor-walk (power letter None) rest = refl
factor-walk (power letter (Some value)) rest = refl

star-walk : (b : Bool) (rest : List Lexeme) → reached (Some (end_place b)) (star ∷ rest) ≡ reached (Some places.AfterOperator) rest
star-walk true rest = refl
star-walk false rest = refl

sign-walk : (b : Bool) (s : Sign) (rest : List Lexeme) → reached (Some (end_place b)) (spelled_sign s ++ rest) ≡ reached (Some places.AfterOperator) rest
sign-walk true positive rest = refl
sign-walk true negative rest = refl
sign-walk false positive rest = refl
sign-walk false negative rest = refl

comma-walk : (b : Bool) (rest : List Lexeme) → reached (Some (end_place b)) (comma ∷ rest) ≡ reached (Some places.AfterComma) rest
comma-walk true rest = refl
comma-walk false rest = refl

semicolon-walk : (b : Bool) (rest : List Lexeme) → reached (Some (end_place b)) (semicolon ∷ rest) ≡ reached (Some places.AfterLast) rest
semicolon-walk true rest = refl
semicolon-walk false rest = refl

others-walk : (b : Bool) (fs : List Factor) (rest : List Lexeme) →
    reached (Some (end_place b)) (starred fs ++ rest) ≡ reached (Some (end_place (last_end b fs))) rest
others-walk b [] rest = refl
others-walk b (f ∷ fs) rest =
    ap (λ ls. reached (Some (end_place b)) (star ∷ ls)) (append_assoc (spelled_factor f) (starred fs) rest)
    ∙ star-walk b (spelled_factor f ++ (starred fs ++ rest))
    ∙ factor-walk f (starred fs ++ rest)
    ∙ others-walk (factor_end f) fs rest

summand-walk : (s : Summand) (rest : List Lexeme) → reached (Some places.AfterOperator) (spelled_summand s ++ rest)
    ≡ reached (Some (end_place (summand_end s))) rest
summand-walk s rest =
    ap (reached (Some places.AfterOperator)) (append_assoc (spelled_factor s.first) (starred s.others) rest)
    ∙ factor-walk s.first (starred s.others ++ rest)
    ∙ others-walk (factor_end s.first) s.others rest

signeds-walk : (b : Bool) (ss : List Signed) (rest : List Lexeme) →
    reached (Some (end_place b)) (signeds ss ++ rest) ≡ reached (Some (end_place (signed_end b ss))) rest
signeds-walk b [] rest = refl
signeds-walk b (s ∷ ss) rest =
    ap (reached (Some (end_place b))) (append_assoc (spelled_sign s.sign ++ spelled_summand s.summand) (signeds ss) rest
    ∙ append_assoc (spelled_sign s.sign) (spelled_summand s.summand) (signeds ss ++ rest))
    ∙ sign-walk b s.sign (spelled_summand s.summand ++ (signeds ss ++ rest))
    ∙ summand-walk s.summand (signeds ss ++ rest)
    ∙ signeds-walk (summand_end s.summand) ss rest

-- the place before a relation: the first, or another one
abbrev pub start_place : Bool → Place
start_place true = places.AfterList
start_place false = places.AfterComma

start-factor : (b : Bool) (f : Factor) (rest : List Lexeme) → reached (Some (start_place b)) (spelled_factor f ++ rest)
    ≡ reached (Some places.AfterOperator) (spelled_factor f ++ rest)
start-factor true (constant value) rest = refl
start-factor true (power letter None) rest = refl
start-factor true (power letter (Some value)) rest = refl
start-factor false (constant value) rest = refl
start-factor false (power letter None) rest = refl
start-factor false (power letter (Some value)) rest = refl

start-summand : (b : Bool) (s : Summand) (rest : List Lexeme) → reached (Some (start_place b)) (spelled_summand s ++ rest)
    ≡ reached (Some places.AfterOperator) (spelled_summand s ++ rest)
start-summand b s rest =
    ap (reached (Some (start_place b))) (append_assoc (spelled_factor s.first) (starred s.others) rest)
    ∙ start-factor b s.first (starred s.others ++ rest)
    ∙ ap (reached (Some places.AfterOperator)) (sym (append_assoc (spelled_factor s.first) (starred s.others) rest))

first-walk : (b : Bool) (s : Option Sign) (m : Summand) (rest : List Lexeme) →
    reached (Some (start_place b)) (spelled_first_sign s ++ (spelled_summand m ++ rest))
    ≡ reached (Some places.AfterOperator) (spelled_summand m ++ rest)
first-walk b None m rest = start-summand b m rest
first-walk true (Some positive) m rest = refl
first-walk true (Some negative) m rest = refl
first-walk false (Some positive) m rest = refl
first-walk false (Some negative) m rest = refl

relation-walk : (b : Bool) (r : Relation) (rest : List Lexeme) →
    reached (Some (start_place b)) (spelled_relation r ++ rest) ≡ reached (Some (end_place (relation_end r))) rest
relation-walk b r rest =
    ap (reached (Some (start_place b))) (append_assoc (spelled_first_sign r.sign ++ spelled_summand r.first) (signeds r.others) rest
    ∙ append_assoc (spelled_first_sign r.sign) (spelled_summand r.first) (signeds r.others ++ rest))
    ∙ first-walk b r.sign r.first (signeds r.others ++ rest)
    ∙ summand-walk r.first (signeds r.others ++ rest)
    ∙ signeds-walk (summand_end r.first) r.others rest

further-walk : (b : Bool) (rs : List Relation) → reached (Some (end_place b)) (commaed rs ++ (semicolon ∷ the_end ∷ [])) ≡ Some places.AfterEnd
further-walk b [] = semicolon-walk b (the_end ∷ [])
further-walk b (r ∷ rs) =
    ap (λ ls. reached (Some (end_place b)) (comma ∷ ls)) (append_assoc (spelled_relation r) (commaed rs) (semicolon ∷ the_end ∷ []))
    ∙ comma-walk b (spelled_relation r ++ (commaed rs ++ (semicolon ∷ the_end ∷ [])))
    ∙ relation-walk false r (commaed rs ++ (semicolon ∷ the_end ∷ []))
    ∙ further-walk (relation_end r) rs

relations-walk : (rs : List Relation) → reached (Some places.AfterList) (spelled_relations rs ++ (semicolon ∷ the_end ∷ [])) ≡ Some places.AfterEnd
relations-walk [] = refl
relations-walk (r ∷ rs) =
    ap (reached (Some places.AfterList)) (append_assoc (spelled_relation r) (commaed rs) (semicolon ∷ the_end ∷ []))
    ∙ relation-walk true r (commaed rs ++ (semicolon ∷ the_end ∷ []))
    ∙ further-walk (relation_end r) rs

-- the place after an item: after its name, or after its weight
abbrev pub item_place : Bool → Place
item_place true = places.AfterDeclared
item_place false = places.AfterWeight

abbrev weight_end : Option ℕ → Bool
weight_end None = true
weight_end (Some value) = false

abbrev items_end : Bool → List Item → Bool
items_end b [] = b
items_end b (item ∷ items) = items_end (weight_end item.weight) items

first-item : (x : List ℕ) (w : Option ℕ) (rest : List Lexeme) → reached (Some places.AfterVars)
    (spelled_item (record { name = x; weight = w }) ++ rest) ≡ reached (Some (item_place (weight_end w))) rest
first-item x None rest = refl
first-item x (Some value) rest = refl

next-item : (b : Bool) (x : List ℕ) (w : Option ℕ) (rest : List Lexeme) →
    reached (Some (item_place b)) (comma ∷ (spelled_item (record { name = x; weight = w }) ++ rest))
    ≡ reached (Some (item_place (weight_end w))) rest
next-item true x None rest = refl
next-item true x (Some value) rest = refl
next-item false x None rest = refl
next-item false x (Some value) rest = refl

list-end : (b : Bool) (rest : List Lexeme) → reached (Some (item_place b)) (semicolon ∷ rest) ≡ reached (Some places.AfterList) rest
list-end true rest = refl
list-end false rest = refl

items-walk : (b : Bool) (items : List Item) (rest : List Lexeme) →
    reached (Some (item_place b)) (listed items ++ rest) ≡ reached (Some (item_place (items_end b items))) rest
items-walk b [] rest = refl
items-walk b (item ∷ items) rest =
    ap (λ ls. reached (Some (item_place b)) (comma ∷ ls)) (append_assoc (spelled_item item) (listed items) rest)
    ∙ next-item b item.name item.weight (listed items ++ rest)
    ∙ items-walk (weight_end item.weight) items rest

-- what a tree spells leads from the beginning to the end
pub spelled-walk : (tree : Tree) → reached (Some places.Beginning) (spelled tree) ≡ Some places.AfterEnd
spelled-walk tree =
    let rest = semicolon ∷ (spelled_relations tree.relations ++ (semicolon ∷ the_end ∷ [])) in
    first-item tree.first.name tree.first.weight (listed tree.others ++ rest)
    ∙ items-walk (weight_end tree.first.weight) tree.others rest
    ∙ list-end (items_end (weight_end tree.first.weight) tree.others) (spelled_relations tree.relations ++ (semicolon ∷ the_end ∷ []))
    ∙ relations-walk tree.relations

-- from each place a text of the grammar can be ended
pub tight : (place : Place) → (rest : List Lexeme) × (reached (Some place) rest ≡ Some places.AfterEnd)
tight places.Beginning = (name (codes "vars") ∷ name (codes "x") ∷ semicolon ∷ semicolon ∷ the_end ∷ [], refl)
tight places.AfterVars = (name (codes "x") ∷ semicolon ∷ semicolon ∷ the_end ∷ [], refl)
tight places.AfterListComma = (name (codes "x") ∷ semicolon ∷ semicolon ∷ the_end ∷ [], refl)
tight places.AfterDeclared = (semicolon ∷ semicolon ∷ the_end ∷ [], refl)
tight places.AfterListColon = (number 1 ∷ semicolon ∷ semicolon ∷ the_end ∷ [], refl)
tight places.AfterWeight = (semicolon ∷ semicolon ∷ the_end ∷ [], refl)
tight places.AfterList = (semicolon ∷ the_end ∷ [], refl)
tight places.AfterComma = (number 1 ∷ semicolon ∷ the_end ∷ [], refl)
tight places.AfterOperator = (number 1 ∷ semicolon ∷ the_end ∷ [], refl)
tight places.AfterName = (semicolon ∷ the_end ∷ [], refl)
tight places.AfterCaret = (number 1 ∷ semicolon ∷ the_end ∷ [], refl)
tight places.AfterNumber = (semicolon ∷ the_end ∷ [], refl)
tight places.AfterLast = (the_end ∷ [], refl)
tight places.AfterEnd = ([], refl)
