-- What the table of places lets through to the end is spelled by a tree. From the right: what is left at each place.
use Rattle.std.proofs.Common.{ℕ, ◌≡◌, true, if◌then◌else◌, List, [], ◌∷◌, ◌++◌, Option, Some, None, codes, bytes_eq, inl, inr, refl, sym, ap, ◌∙◌, append_assoc}
use Rattle.std.proofs.lemmas.Bool.{cases_Bool}
use Rattle.std.proofs.lemmas.Slice.Eq.{bytes_eq-Decides}
use Rattle.relation_reader.specs.declared.place.Place.{Place}
use Rattle.relation_reader.specs.declared.place.Place.TheVariants as places
use Rattle.relation_reader.specs.Grammar.{Lexeme, name, number, plus, minus, star, caret, comma, semicolon, colon, the_end, Item, Factor, constant}
use Rattle.relation_reader.specs.Grammar.{power, Summand, Sign, positive, negative, Signed, Relation, Tree, reached, spelled, spelled_exponent}
use Rattle.relation_reader.specs.Grammar.{spelled_factor, spelled_first_sign, spelled_item, spelled_relation, spelled_relations, spelled_sign}
use Rattle.relation_reader.specs.Grammar.{spelled_weight}
use Rattle.relation_reader.proofs.Spelled.{commaed, ending, listed, signeds, starred}

-- the text behind a factor
abbrev tail_text : List Factor → List Signed → List Relation → List Lexeme
tail_text fs ss rs = starred fs ++ (signeds ss ++ (commaed rs ++ ending))

-- the text behind an item
abbrev list_text : List Item → List Relation → List Lexeme
list_text items rs = listed items ++ (semicolon ∷ (spelled_relations rs ++ ending))

record LeftAfterFactor (ls : List Lexeme) : Type 0 where
  others : List Factor
  signed : List Signed
  relations : List Relation
  is : ls ≡ tail_text others signed relations

record LeftAfterName (ls : List Lexeme) : Type 0 where
  exponent : Option ℕ
  others : List Factor
  signed : List Signed
  relations : List Relation
  is : ls ≡ spelled_exponent exponent ++ tail_text others signed relations

record LeftAfterCaret (ls : List Lexeme) : Type 0 where
  value : ℕ
  others : List Factor
  signed : List Signed
  relations : List Relation
  is : ls ≡ number value ∷ tail_text others signed relations

record LeftAfterOperator (ls : List Lexeme) : Type 0 where
  factor : Factor
  others : List Factor
  signed : List Signed
  relations : List Relation
  is : ls ≡ spelled_factor factor ++ tail_text others signed relations

record LeftAfterComma (ls : List Lexeme) : Type 0 where
  sign : Option Sign
  factor : Factor
  others : List Factor
  signed : List Signed
  relations : List Relation
  is : ls ≡ spelled_first_sign sign ++ (spelled_factor factor ++ tail_text others signed relations)

record LeftAfterList (ls : List Lexeme) : Type 0 where
  relations : List Relation
  is : ls ≡ spelled_relations relations ++ ending

record LeftAfterWeight (ls : List Lexeme) : Type 0 where
  items : List Item
  relations : List Relation
  is : ls ≡ list_text items relations

record LeftAfterDeclared (ls : List Lexeme) : Type 0 where
  weight : Option ℕ
  items : List Item
  relations : List Relation
  is : ls ≡ spelled_weight weight ++ list_text items relations

record LeftAfterColon (ls : List Lexeme) : Type 0 where
  value : ℕ
  items : List Item
  relations : List Relation
  is : ls ≡ number value ∷ list_text items relations

record BeforeItem (ls : List Lexeme) : Type 0 where
  item : Item
  items : List Item
  relations : List Relation
  is : ls ≡ spelled_item item ++ list_text items relations

-- what is left at a place
abbrev Left : Place → List Lexeme → Type 0
Left places.Beginning ls = (tree : Tree) × (ls ≡ spelled tree)
Left places.AfterVars ls = BeforeItem ls
Left places.AfterListComma ls = BeforeItem ls
Left places.AfterDeclared ls = LeftAfterDeclared ls
Left places.AfterListColon ls = LeftAfterColon ls
Left places.AfterWeight ls = LeftAfterWeight ls
Left places.AfterList ls = LeftAfterList ls
Left places.AfterComma ls = LeftAfterComma ls
Left places.AfterOperator ls = LeftAfterOperator ls
Left places.AfterName ls = LeftAfterName ls
Left places.AfterCaret ls = LeftAfterCaret ls
Left places.AfterNumber ls = LeftAfterFactor ls
Left places.AfterLast ls = ls ≡ the_end ∷ []
Left places.AfterEnd ls = ls ≡ []

regroup : (a f s q y : List Lexeme) → a ++ (f ++ (s ++ (q ++ y))) ≡ ((a ++ (f ++ s)) ++ q) ++ y
regroup a f s q y = simp append_assoc

regroup-more : (a f s q c y : List Lexeme) → a ++ (f ++ (s ++ (q ++ (c ++ y)))) ≡ (((a ++ (f ++ s)) ++ q) ++ c) ++ y
regroup-more a f s q c y = simp append_assoc

abbrev summand : Factor → List Factor → Summand
summand f fs = record { first = f; others = fs }

star_first : (ls : List Lexeme) → LeftAfterOperator ls → LeftAfterFactor (star ∷ ls)
star_first ls x = record {
  others = x.factor ∷ x.others;
  signed = x.signed;
  relations = x.relations;
  is =
      ap (λ t. star ∷ t) (x.is ∙ sym (append_assoc (spelled_factor x.factor) (starred x.others)
      (signeds x.signed ++ (commaed x.relations ++ ending))));
}

sign_first : (s : Sign) (ls : List Lexeme) → LeftAfterOperator ls → LeftAfterFactor (spelled_sign s ++ ls)
sign_first s ls x = record {
  others = [];
  signed = record { sign = s; summand = summand x.factor x.others } ∷ x.signed;
  relations = x.relations;
  is = ap (λ t. spelled_sign s ++ t) x.is ∙ regroup (spelled_sign s) (spelled_factor x.factor) (starred x.others)
      (signeds x.signed) (commaed x.relations ++ ending);
}

relation_text : (ls : List Lexeme) (x : LeftAfterComma ls) → ls ≡
    (spelled_relation (record { sign = x.sign; first = summand x.factor x.others; others = x.signed }) ++ commaed x.relations) ++ ending
relation_text ls x = x.is ∙ regroup-more (spelled_first_sign x.sign) (spelled_factor x.factor) (starred x.others) (signeds x.signed)
    (commaed x.relations) ending

comma_first : (ls : List Lexeme) → LeftAfterComma ls → LeftAfterFactor (comma ∷ ls)
comma_first ls x = record {
  others = [];
  signed = [];
  relations = record { sign = x.sign; first = summand x.factor x.others; others = x.signed } ∷ x.relations;
  is = ap (λ t. comma ∷ t) (relation_text ls x);
}

semicolon_first : (ls : List Lexeme) → ls ≡ the_end ∷ [] → LeftAfterFactor (semicolon ∷ ls)
semicolon_first ls e = record { others = []; signed = []; relations = []; is = ap (λ t. semicolon ∷ t) e }

no_exponent : (ls : List Lexeme) → LeftAfterFactor ls → LeftAfterName ls
no_exponent ls x = record { exponent = None; others = x.others; signed = x.signed; relations = x.relations; is = x.is }

name_first : (b : List ℕ) (ls : List Lexeme) → LeftAfterName ls → LeftAfterOperator (name b ∷ ls)
name_first b ls x = record { factor = power b x.exponent; others = x.others; signed = x.signed; relations = x.relations; is = ap (λ t. name b ∷ t) x.is }

number_first : (v : ℕ) (ls : List Lexeme) → LeftAfterFactor ls → LeftAfterOperator (number v ∷ ls)
number_first v ls x = record { factor = constant v; others = x.others; signed = x.signed; relations = x.relations; is = ap (λ t. number v ∷ t) x.is }

signed_relation : (s : Sign) (ls : List Lexeme) → LeftAfterOperator ls → LeftAfterComma (spelled_sign s ++ ls)
signed_relation s ls x = record {
  sign = Some s;
  factor = x.factor;
  others = x.others;
  signed = x.signed;
  relations = x.relations;
  is = ap (λ t. spelled_sign s ++ t) x.is;
}

plain_relation : (ls : List Lexeme) → LeftAfterOperator ls → LeftAfterComma ls
plain_relation ls x = record { sign = None; factor = x.factor; others = x.others; signed = x.signed; relations = x.relations; is = x.is }

first_relation : (ls : List Lexeme) → LeftAfterComma ls → LeftAfterList ls
first_relation ls x = record {
  relations = record { sign = x.sign; first = summand x.factor x.others; others = x.signed } ∷ x.relations;
  is = relation_text ls x;
}

item_first : (ls : List Lexeme) → BeforeItem ls → LeftAfterWeight (comma ∷ ls)
item_first ls x = record {
  items = x.item ∷ x.items;
  relations = x.relations;
  is =
      ap (λ t. comma ∷ t) (x.is ∙ sym (append_assoc (spelled_item x.item) (listed x.items)
      (semicolon ∷ (spelled_relations x.relations ++ ending))));
}

list_end : (ls : List Lexeme) → LeftAfterList ls → LeftAfterWeight (semicolon ∷ ls)
list_end ls x = record { items = []; relations = x.relations; is = ap (λ t. semicolon ∷ t) x.is }

no_weight : (ls : List Lexeme) → LeftAfterWeight ls → LeftAfterDeclared ls
no_weight ls x = record { weight = None; items = x.items; relations = x.relations; is = x.is }

declared : (b : List ℕ) (ls : List Lexeme) → LeftAfterDeclared ls → BeforeItem (name b ∷ ls)
declared b ls x = record { item = record { name = b; weight = x.weight }; items = x.items; relations = x.relations; is = ap (λ t. name b ∷ t) x.is }

never : (ls : List Lexeme) → reached None ls ≡ Some places.AfterEnd → ⊥
never ls = λ e. cc

-- a text that begins with `vars`
vars_first : (b : List ℕ) (ls : List Lexeme) → bytes_eq b (codes "vars") ≡ true → BeforeItem ls → (tree : Tree) × (name b ∷ ls ≡ spelled tree)
vars_first b ls e x = (
  record { first = x.item; others = x.items; relations = x.relations },
  (λ i. name ((bytes_eq-Decides b (codes "vars")).0 e i) ∷ x.is i),
)

left : (ls : List Lexeme) (place : Place) → reached (Some place) ls ≡ Some places.AfterEnd → Left place ls
left [] places.AfterEnd e = refl
left [] place e = absurd (let f : reached (Some place) [] ≡ Some places.AfterEnd = e in cc)
left (name b ∷ ls) places.Beginning e = elim (cases_Bool (bytes_eq b (codes "vars"))) [
  | inl is_vars ↦ vars_first b ls is_vars (left ls places.AfterVars (sym (ap (λ t. reached (if t then Some places.AfterVars else None) ls) is_vars) ∙ e))
  | inr is_other ↦ absurd (never ls (sym (ap (λ t. reached (if t then Some places.AfterVars else None) ls) is_other) ∙ e))
]
left (name b ∷ ls) places.AfterVars e = declared b ls (left ls places.AfterDeclared e)
left (name b ∷ ls) places.AfterListComma e = declared b ls (left ls places.AfterDeclared e)
left (comma ∷ ls) places.AfterDeclared e = no_weight (comma ∷ ls) (item_first ls (left ls places.AfterListComma e))
left (semicolon ∷ ls) places.AfterDeclared e = no_weight (semicolon ∷ ls) (list_end ls (left ls places.AfterList e))
left (colon ∷ ls) places.AfterDeclared e = let x = left ls places.AfterListColon e in
    record { weight = Some x.value; items = x.items; relations = x.relations; is = ap (λ t. colon ∷ t) x.is }
left (number v ∷ ls) places.AfterListColon e = let x = left ls places.AfterWeight e in
    record { value = v; items = x.items; relations = x.relations; is = ap (λ t. number v ∷ t) x.is }
left (comma ∷ ls) places.AfterWeight e = item_first ls (left ls places.AfterListComma e)
left (semicolon ∷ ls) places.AfterWeight e = list_end ls (left ls places.AfterList e)
left (semicolon ∷ ls) places.AfterList e = record { relations = []; is = ap (λ t. semicolon ∷ t) (left ls places.AfterLast e) }
left (plus ∷ ls) places.AfterList e = first_relation (plus ∷ ls) (signed_relation positive ls (left ls places.AfterOperator e))
left (minus ∷ ls) places.AfterList e = first_relation (minus ∷ ls) (signed_relation negative ls (left ls places.AfterOperator e))
left (name b ∷ ls) places.AfterList e = first_relation (name b ∷ ls) (plain_relation (name b ∷ ls) (name_first b ls (left ls places.AfterName e)))
left (number v ∷ ls) places.AfterList e = first_relation (number v ∷ ls) (plain_relation (number v ∷ ls) (number_first v ls (left ls places.AfterNumber e)))
left (plus ∷ ls) places.AfterComma e = signed_relation positive ls (left ls places.AfterOperator e)
left (minus ∷ ls) places.AfterComma e = signed_relation negative ls (left ls places.AfterOperator e)
left (name b ∷ ls) places.AfterComma e = plain_relation (name b ∷ ls) (name_first b ls (left ls places.AfterName e))
left (number v ∷ ls) places.AfterComma e = plain_relation (number v ∷ ls) (number_first v ls (left ls places.AfterNumber e))
left (name b ∷ ls) places.AfterOperator e = name_first b ls (left ls places.AfterName e)
left (number v ∷ ls) places.AfterOperator e = number_first v ls (left ls places.AfterNumber e)
left (caret ∷ ls) places.AfterName e = let x = left ls places.AfterCaret e in
    record { exponent = Some x.value; others = x.others; signed = x.signed; relations = x.relations; is = ap (λ t. caret ∷ t) x.is }
left (star ∷ ls) places.AfterName e = no_exponent (star ∷ ls) (star_first ls (left ls places.AfterOperator e))
left (plus ∷ ls) places.AfterName e = no_exponent (plus ∷ ls) (sign_first positive ls (left ls places.AfterOperator e))
left (minus ∷ ls) places.AfterName e = no_exponent (minus ∷ ls) (sign_first negative ls (left ls places.AfterOperator e))
left (comma ∷ ls) places.AfterName e = no_exponent (comma ∷ ls) (comma_first ls (left ls places.AfterComma e))
left (semicolon ∷ ls) places.AfterName e = no_exponent (semicolon ∷ ls) (semicolon_first ls (left ls places.AfterLast e))
left (number v ∷ ls) places.AfterCaret e = let x = left ls places.AfterNumber e in
    record { value = v; others = x.others; signed = x.signed; relations = x.relations; is = ap (λ t. number v ∷ t) x.is }
left (star ∷ ls) places.AfterNumber e = star_first ls (left ls places.AfterOperator e)
left (plus ∷ ls) places.AfterNumber e = sign_first positive ls (left ls places.AfterOperator e)
left (minus ∷ ls) places.AfterNumber e = sign_first negative ls (left ls places.AfterOperator e)
left (comma ∷ ls) places.AfterNumber e = comma_first ls (left ls places.AfterComma e)
left (semicolon ∷ ls) places.AfterNumber e = semicolon_first ls (left ls places.AfterLast e)
left (the_end ∷ ls) places.AfterLast e = ap (λ t. the_end ∷ t) (left ls places.AfterEnd e)
left (l ∷ ls) place e = absurd (never ls e)

-- a tree of what the table lets through
pub tree-of : (ls : List Lexeme) → reached (Some places.Beginning) ls ≡ Some places.AfterEnd → (tree : Tree) × (ls ≡ spelled tree)
tree-of ls e = left ls places.Beginning e
