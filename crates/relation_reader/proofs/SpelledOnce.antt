-- A text of the grammar is spelled by one tree: its lexemes, read from the right, give it back.
use Rattle.std.proofs.Common.{ℕ, ◌≡◌, List, [], ◌∷◌, ◌++◌, Option, Some, None, refl, sym, ap, subst, ◌∙◌, append_assoc}
use Rattle.relation_reader.specs.Grammar.{Lexeme, name, number, plus, minus, star, caret, comma, semicolon, colon, Item, Factor, constant, power}
use Rattle.relation_reader.specs.Grammar.{Summand, Sign, positive, negative, Signed, Relation, Tree, spelled, spelled_factor, spelled_first_sign}
use Rattle.relation_reader.specs.Grammar.{spelled_item, spelled_relation, spelled_relations, spelled_sign, spelled_summand}
use Rattle.relation_reader.proofs.Spelled.{commaed, ending, listed, signeds, starred}

-- what some lexemes of relations begin with: a number, an exponent, a summand, further factors, further summands, a
-- relation, further relations; and all their relations
record Behind : Type 0 where
  value : ℕ
  exponent : Option ℕ
  summand : Summand
  others : List Factor
  signed : List Signed
  relation : Relation
  relations : List Relation
  all : List Relation

abbrev no_summand : Summand
no_summand = record { first = constant 0; others = [] }

abbrev nothing : Behind
nothing = record {
  value = 0;
  exponent = None;
  summand = no_summand;
  others = [];
  signed = [];
  relation = record { sign = None; first = no_summand; others = [] };
  relations = [];
  all = [];
}

abbrev with_factor : Factor → Behind → Behind
with_factor f x =
    let s : Summand = record { first = f; others = x.others } in
    let r : Relation = record { sign = None; first = s; others = x.signed } in
    record x { summand = s; relation = r; all = r ∷ x.relations }

abbrev with_sign : Sign → Behind → Behind
with_sign sign x =
    let r : Relation = record { sign = Some sign; first = x.summand; others = x.signed } in
    record x { exponent = None; others = []; signed = record { sign = sign; summand = x.summand } ∷ x.signed; relation = r; all = r ∷ x.relations }

abbrev with_lexeme : Lexeme → Behind → Behind
with_lexeme (name bytes) x = with_factor (power bytes x.exponent) x
with_lexeme (number value) x = let y = with_factor (constant value) x in record y { value = value }
with_lexeme plus x = with_sign positive x
with_lexeme minus x = with_sign negative x
with_lexeme star x = record x { exponent = None; others = x.summand.first ∷ x.summand.others }
with_lexeme caret x = record x { exponent = Some x.value }
with_lexeme comma x = record x { exponent = None; others = []; signed = []; relations = x.relation ∷ x.relations }
with_lexeme semicolon x = nothing
with_lexeme l x = x

abbrev behind : List Lexeme → Behind
behind [] = nothing
behind (l ∷ ls) = with_lexeme l (behind ls)

-- behind a factor
record IsTail (x : Behind) (fs : List Factor) (ss : List Signed) (rs : List Relation) : Type 0 where
  exponent_is : x.exponent ≡ None
  others_are : x.others ≡ fs
  signed_are : x.signed ≡ ss
  relations_are : x.relations ≡ rs

-- before a relation
record IsHead (x : Behind) (r : Relation) (rs : List Relation) : Type 0 where
  relation_is : x.relation ≡ r
  relations_are : x.relations ≡ rs
  all_are : x.all ≡ x.relation ∷ x.relations

-- before a summand, with which a relation without a sign begins
record IsPart (x : Behind) (s : Summand) (ss : List Signed) (rs : List Relation) : Type 0 where
  summand_is : x.summand ≡ s
  signed_are : x.signed ≡ ss
  relations_are : x.relations ≡ rs
  relation_is : x.relation ≡ record { sign = None; first = x.summand; others = x.signed }
  all_are : x.all ≡ x.relation ∷ x.relations

factor-part : (f : Factor) (rest : List Lexeme) (fs : List Factor) (ss : List Signed) (rs : List Relation) → IsTail (behind rest) fs ss rs →
    IsPart (behind (spelled_factor f ++ rest)) (record { first = f; others = fs }) ss rs
factor-part (constant value) rest fs ss rs tail = record {
  summand_is = λ i. record { first = constant value; others = tail.others_are i };
  signed_are = tail.signed_are;
  relations_are = tail.relations_are;
  relation_is = refl;
  all_are = refl;
}
factor-part (power letter (Some value)) rest fs ss rs tail = record {
  summand_is = λ i. record { first = power letter (Some value); others = tail.others_are i };
  signed_are = tail.signed_are;
  relations_are = tail.relations_are;
  relation_is = refl;
  all_are = refl;
}
factor-part (power letter None) rest fs ss rs tail = record {
  summand_is = λ i. record { first = power letter (tail.exponent_is i); others = tail.others_are i };
  signed_are = tail.signed_are;
  relations_are = tail.relations_are;
  relation_is = refl;
  all_are = refl;
}

others-tail : (fs : List Factor) (rest : List Lexeme) (ss : List Signed) (rs : List Relation) → IsTail (behind rest) [] ss rs →
    IsTail (behind (starred fs ++ rest)) fs ss rs
others-tail [] rest ss rs tail = tail
others-tail (f ∷ fs) rest ss rs tail =
    let part = factor-part f (starred fs ++ rest) fs ss rs (others-tail fs rest ss rs tail) in
    let starts : IsTail (behind (star ∷ (spelled_factor f ++ (starred fs ++ rest)))) (f ∷ fs) ss rs = record {
      exponent_is = refl;
      others_are = ap (λ (s : Summand). s.first ∷ s.others) part.summand_is;
      signed_are = part.signed_are;
      relations_are = part.relations_are;
    } in
    subst (λ ls. IsTail (behind (star ∷ ls)) (f ∷ fs) ss rs) (sym (append_assoc (spelled_factor f) (starred fs) rest)) starts

summand-part : (s : Summand) (rest : List Lexeme) (ss : List Signed) (rs : List Relation) → IsTail (behind rest) [] ss rs →
    IsPart (behind (spelled_summand s ++ rest)) s ss rs
summand-part s rest ss rs tail =
    subst (λ ls. IsPart (behind ls) s ss rs) (sym (append_assoc (spelled_factor s.first) (starred s.others) rest))
    (factor-part s.first (starred s.others ++ rest) s.others ss rs (others-tail s.others rest ss rs tail))

sign-tail : (sign : Sign) (ls : List Lexeme) (s : Summand) (ss : List Signed) (rs : List Relation) → IsPart (behind ls) s ss rs →
    IsTail (behind (spelled_sign sign ++ ls)) [] (record { sign = sign; summand = s } ∷ ss) rs
sign-tail positive ls s ss rs part = record {
  exponent_is = refl;
  others_are = refl;
  signed_are = λ i. record { sign = positive; summand = part.summand_is i } ∷ part.signed_are i;
  relations_are = part.relations_are;
}
sign-tail negative ls s ss rs part = record {
  exponent_is = refl;
  others_are = refl;
  signed_are = λ i. record { sign = negative; summand = part.summand_is i } ∷ part.signed_are i;
  relations_are = part.relations_are;
}

signed-tail : (ss : List Signed) (rest : List Lexeme) (rs : List Relation) → IsTail (behind rest) [] [] rs → IsTail (behind (signeds ss ++ rest)) [] ss rs
signed-tail [] rest rs tail = tail
signed-tail (s ∷ ss) rest rs tail =
    subst (λ ls. IsTail (behind ls) [] (s ∷ ss) rs)
    (sym (append_assoc (spelled_sign s.sign ++ spelled_summand s.summand) (signeds ss) rest
    ∙ append_assoc (spelled_sign s.sign) (spelled_summand s.summand) (signeds ss ++ rest)))
    (sign-tail s.sign (spelled_summand s.summand ++ (signeds ss ++ rest)) s.summand ss rs
    (summand-part s.summand (signeds ss ++ rest) ss rs (signed-tail ss rest rs tail)))

first-head : (sign : Option Sign) (ls : List Lexeme) (s : Summand) (ss : List Signed) (rs : List Relation) → IsPart (behind ls) s ss rs →
    IsHead (behind (spelled_first_sign sign ++ ls)) (record { sign = sign; first = s; others = ss }) rs
first-head None ls s ss rs part = record {
  relation_is = part.relation_is ∙ (λ i. record { sign = None; first = part.summand_is i; others = part.signed_are i });
  relations_are = part.relations_are;
  all_are = part.all_are;
}
first-head (Some positive) ls s ss rs part = record {
  relation_is = λ i. record { sign = Some positive; first = part.summand_is i; others = part.signed_are i };
  relations_are = part.relations_are;
  all_are = refl;
}
first-head (Some negative) ls s ss rs part = record {
  relation_is = λ i. record { sign = Some negative; first = part.summand_is i; others = part.signed_are i };
  relations_are = part.relations_are;
  all_are = refl;
}

relation-head : (r : Relation) (rest : List Lexeme) (rs : List Relation) → IsTail (behind rest) [] [] rs → IsHead (behind (spelled_relation r ++ rest)) r rs
relation-head r rest rs tail =
    subst (λ ls. IsHead (behind ls) r rs)
    (sym (append_assoc (spelled_first_sign r.sign ++ spelled_summand r.first) (signeds r.others) rest
    ∙ append_assoc (spelled_first_sign r.sign) (spelled_summand r.first) (signeds r.others ++ rest)))
    (first-head r.sign (spelled_summand r.first ++ (signeds r.others ++ rest)) r.first r.others rs
    (summand-part r.first (signeds r.others ++ rest) r.others rs (signed-tail r.others rest rs tail)))

further-tail : (rs : List Relation) → IsTail (behind (commaed rs ++ ending)) [] [] rs
further-tail [] = record { exponent_is = refl; others_are = refl; signed_are = refl; relations_are = refl }
further-tail (r ∷ rs) =
    let head = relation-head r (commaed rs ++ ending) rs (further-tail rs) in
    let starts : IsTail (behind (comma ∷ (spelled_relation r ++ (commaed rs ++ ending)))) [] [] (r ∷ rs) = record {
      exponent_is = refl;
      others_are = refl;
      signed_are = refl;
      relations_are = λ i. head.relation_is i ∷ head.relations_are i;
    } in
    subst (λ ls. IsTail (behind (comma ∷ ls)) [] [] (r ∷ rs)) (sym (append_assoc (spelled_relation r) (commaed rs) ending)) starts

relations-all : (rs : List Relation) → (behind (spelled_relations rs ++ ending)).all ≡ rs
relations-all [] = refl
relations-all (r ∷ rs) =
    let head = relation-head r (commaed rs ++ ending) rs (further-tail rs) in
    ap (λ ls. (behind ls).all) (append_assoc (spelled_relation r) (commaed rs) ending)
    ∙ head.all_are ∙ (λ i. head.relation_is i ∷ head.relations_are i)

-- what some lexemes of a declaration begin with: a number, a weight, an item, further items; and the relations behind
-- it
record Declared : Type 0 where
  value : ℕ
  weight : Option ℕ
  item : Item
  items : List Item
  relations : List Relation

abbrev declared_with : Lexeme → List Lexeme → Declared → Declared
declared_with (name bytes) ls x = record x { item = record { name = bytes; weight = x.weight } }
declared_with (number value) ls x = record x { value = value }
declared_with comma ls x = record x { weight = None; items = x.item ∷ x.items }
declared_with semicolon ls x = record x { weight = None; items = []; relations = (behind ls).all }
declared_with colon ls x = record x { weight = Some x.value }
declared_with l ls x = x

abbrev declared : List Lexeme → Declared
declared [] = record { value = 0; weight = None; item = record { name = []; weight = None }; items = []; relations = [] }
declared (l ∷ ls) = declared_with l ls (declared ls)

-- behind an item
record IsList (x : Declared) (items : List Item) (rs : List Relation) : Type 0 where
  weight_is : x.weight ≡ None
  items_are : x.items ≡ items
  relations_are : x.relations ≡ rs

-- before an item
record IsItem (x : Declared) (item : Item) (items : List Item) (rs : List Relation) : Type 0 where
  item_is : x.item ≡ item
  items_are : x.items ≡ items
  relations_are : x.relations ≡ rs

item-first : (bytes : List ℕ) (weight : Option ℕ) (rest : List Lexeme) (items : List Item) (rs : List Relation) →
    IsList (declared rest) items rs → IsItem (declared (spelled_item (record { name = bytes; weight = weight }) ++ rest))
    (record { name = bytes; weight = weight }) items rs
item-first bytes None rest items rs list = record {
  item_is = λ i. record { name = bytes; weight = list.weight_is i };
  items_are = list.items_are;
  relations_are = list.relations_are;
}
item-first bytes (Some value) rest items rs list = record { item_is = refl; items_are = list.items_are; relations_are = list.relations_are }

items-list : (items : List Item) (rs : List Relation) → IsList (declared (listed items ++ (semicolon ∷ (spelled_relations rs ++ ending)))) items rs
items-list [] rs = record { weight_is = refl; items_are = refl; relations_are = relations-all rs }
items-list (item ∷ items) rs =
    let rest = semicolon ∷ (spelled_relations rs ++ ending) in
    let first = item-first item.name item.weight (listed items ++ rest) items rs (items-list items rs) in
    let starts : IsList (declared (comma ∷ (spelled_item item ++ (listed items ++ rest)))) (item ∷ items) rs = record {
      weight_is = refl;
      items_are = λ i. first.item_is i ∷ first.items_are i;
      relations_are = first.relations_are;
    } in
    subst (λ ls. IsList (declared (comma ∷ ls)) (item ∷ items) rs) (sym (append_assoc (spelled_item item) (listed items) rest)) starts

-- the tree of the lexemes of a text
abbrev tree_of : List Lexeme → Tree
tree_of [] = let x = declared [] in record { first = x.item; others = []; relations = [] }
tree_of (l ∷ ls) = let x = declared ls in record { first = x.item; others = x.items; relations = x.relations }

tree_of-spelled : (tree : Tree) → tree_of (spelled tree) ≡ tree
tree_of-spelled tree =
    let rest = listed tree.others ++ (semicolon ∷ (spelled_relations tree.relations ++ ending)) in
    let first = item-first tree.first.name tree.first.weight rest tree.others tree.relations (items-list tree.others tree.relations) in
    λ i. record { first = first.item_is i; others = first.items_are i; relations = first.relations_are i }

-- two trees do not spell the same
pub spells_once : (s t : Tree) → spelled s ≡ spelled t → s ≡ t
spells_once s t e = sym (tree_of-spelled s) ∙ ap tree_of e ∙ tree_of-spelled t
