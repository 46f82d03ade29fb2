-- On what a tree spells, the declaration gives its letters, which are an alphabet.
use Rattle.std.proofs.Common.{ℕ, ◌≡◌, ◌≢◌, ◌+◌, ◌<◌, ◌≤◌, ◌==◌, ◌||◌, Bool, true, false, List, [], ◌∷◌, ◌++◌, length, map, Option, Some, None}
use Rattle.std.proofs.Common.{bytes_eq, codes, refl, sym, ap, ◌∙◌, arith, append_assoc, append-nil, inl, inr, subst, All}
use Rattle.std.specs.Prelude.{min, unwrap_or, nat_lt}
use Rattle.std.specs.List.{Contains}
use Rattle.std.proofs.lemmas.Bool.{cases_Bool, eqb-false, ltb-false}
use Rattle.std.proofs.lemmas.List.{length-append}
use Rattle.std.proofs.lemmas.List.Elements.{All-cons, All-nil, All-push}
use Rattle.std.proofs.lemmas.List.Quantifiers.{all_pairs_push}
use Rattle.std.proofs.lemmas.Slice.Eq.{bytes_eq-Decides}
use Rattle.words.specs.Names.{AreApart, AreNames, Letters}
use Rattle.words.specs.Words.{AreWeights}
use Rattle.words.proofs.Members.{AllPairs-nil, Contains-first, Contains-more}
use Rattle.relation_reader.specs.declared.place.Place.TheVariants as places
use Rattle.relation_reader.specs.Grammar.{Lexeme, name, comma, semicolon, Item, Tree, spelled, spelled_relations, spelled_weight}
use Rattle.relation_reader.specs.Meaning.{is_among, letters_of}
use Rattle.relation_reader.specs.Gathering.{listed}
use Rattle.relation_reader.proofs.Bools.{both_false}
use Rattle.relation_reader.proofs.Spelled.{ending, item_place, listed as items_text}
use Rattle.relation_reader.proofs.Fit.{AreFit}

-- a name that is not among these is none of them
not_among : (x : List ℕ) (names : List (List ℕ)) → is_among x names ≡ false → All (λ y. y ≢ x) names
not_among x [] e = All-nil (λ y. y ≢ x)
not_among x (y ∷ ys) e =
    let parts = both_false (bytes_eq x y) (is_among x ys) e in
    All-cons (λ y. y ≢ x) y ys (λ s. (let t : bytes_eq x y ≡ true = (bytes_eq-Decides x y).1 (sym s) in let f : true ≡ false = sym t
    ∙ parts.0 in cc)) (not_among x ys parts.1)

-- a name among these is one of them
pub among : (x : List ℕ) (names : List (List ℕ)) → is_among x names ≡ true → Contains names x
among x [] e = absurd (let f : false ≡ true = e in cc)
among x (y ∷ ys) e = elim (cases_Bool (bytes_eq x y)) [
  | inl is ↦ subst (Contains (y ∷ ys)) (sym ((bytes_eq-Decides x y).0 is)) (Contains-first y ys)
  | inr other ↦ Contains-more y ys x (among x ys (sym (ap (λ (b : Bool). b || is_among x ys) other) ∙ e))
]

-- names that are apart, the weights of all but the last, and the weight of the last
record AreListed (names : List (List ℕ)) (weights : List ℕ) (weight : ℕ) : Type 0 where
  few : length names ≤ 64
  apart : AreApart names
  count : length weights + 1 ≡ length names
  weights_fit : AreWeights weights
  weight_fits : (0 < weight) × (weight ≤ 8)

-- the weight of an item
record Weighs (names : List (List ℕ)) (weights : List ℕ) (w : Option ℕ) (rest : List Lexeme) : Type 0 where
  walk : listed names weights 1 (spelled_weight w ++ rest) ≡ listed names weights (unwrap_or w 1) rest
  fits : (0 < unwrap_or w 1) × (unwrap_or w 1 ≤ 8)
  end : Bool
  fit : AreFit names (Some (item_place end)) rest

weight-fits : (v : ℕ) → (v == 0 || nat_lt 8 v) ≡ false → (0 < v) × (v ≤ 8)
weight-fits v e =
    let parts = both_false (v == 0) (nat_lt 8 v) e in
    let other : v ≢ 0 = eqb-false v 0 parts.0 in
    (omega arith, ltb-false 8 v parts.1)

weight-walk : (names : List (List ℕ)) (weights : List ℕ) (w : Option ℕ) (rest : List Lexeme) →
    AreFit names (Some places.AfterDeclared) (spelled_weight w ++ rest) → Weighs names weights w rest
weight-walk names weights None rest h = record { walk = refl; fits = (omega arith, omega arith); end = true; fit = h }
weight-walk names weights (Some v) rest h =
    let fits = weight-fits v h.1.0.weight in
    let small : min v 8 ≡ v = omega (arith, fits.1) in
    record { walk = ap (λ (n : ℕ). listed names weights n rest) small; fits = fits; end = false; fit = h.1.1 }

after_comma_fit : (names : List (List ℕ)) (end : Bool) (ls : List Lexeme) → AreFit names (Some (item_place end)) (comma ∷ ls) →
    AreFit names (Some places.AfterListComma) ls
after_comma_fit names true ls h = h.1
after_comma_fit names false ls h = h.1

after_list_fit : (names : List (List ℕ)) (end : Bool) (ls : List Lexeme) → AreFit names (Some (item_place end)) (semicolon ∷ ls) →
    AreFit names (Some places.AfterList) ls
after_list_fit names true ls h = h.1
after_list_fit names false ls h = h.1

push_weights : (weights : List ℕ) (x : ℕ) → AreWeights weights → (0 < x) × (x ≤ 8) → AreWeights (weights ++ x ∷ [])
push_weights weights x h here = All-push (λ e. (0 < e) × (e ≤ 8)) weights x h here

push_listed : (names : List (List ℕ)) (weights : List ℕ) (x : ℕ) (y : List ℕ) (v : ℕ) → AreListed names weights x →
    (length names == 64) ≡ false → is_among y names ≡ false → (0 < v) × (v ≤ 8) → AreListed (names ++ y ∷ []) (weights ++ x ∷ []) v
push_listed names weights x y v h room new fits =
    let more : length names ≢ 64 = eqb-false (length names) 64 room in
    record {
      few = omega (arith, h.few, length-append names (y ∷ []));
      apart = all_pairs_push (λ a b. a ≢ b) names y h.apart (not_among y names new);
      count = omega (arith, h.count, length-append names (y ∷ []), length-append weights (x ∷ []));
      weights_fit = push_weights weights x h.weights_fit h.weight_fits;
      weight_fits = fits;
    }

-- what a declaration gives
record Declares (names : List (List ℕ)) (weights : List ℕ) (weight : ℕ) (ls rest : List Lexeme) (letters : Letters) : Type 0 where
  walk : listed names weights weight ls ≡ record { letters = letters; rest = rest }
  are_names : AreNames letters.names
  are_weights : AreWeights letters.weights
  count : length letters.weights ≡ length letters.names
  fit : AreFit letters.names (Some places.AfterList) rest

-- the names and weights of some, and then of these items
abbrev with_items : List (List ℕ) → List ℕ → List Item → Letters
with_items names weights items = record { names = names ++ map (λ item. item.name) items; weights = weights ++ map (λ item. unwrap_or item.weight 1) items }

items-walk : (names : List (List ℕ)) (weights : List ℕ) (x : ℕ) (end : Bool) (items : List Item) (rest : List Lexeme) →
    AreListed names weights x → AreFit names (Some (item_place end)) (items_text items ++ (semicolon ∷ rest))
    → Declares names weights x (items_text items ++ (semicolon ∷ rest)) rest (with_items names (weights ++ x ∷ []) items)
items-walk names weights x end [] rest l h =
    let none = append-nil names in
    let same : length (weights ++ x ∷ []) ≡ length names = omega (arith, l.count, length-append weights (x ∷ [])) in
    record {
      walk = λ i. record { letters = record { names = sym none i; weights = sym (append-nil (weights ++ x ∷ [])) i }; rest = rest };
      are_names = subst AreNames (sym none) (record { some = omega (arith, l.count); few = l.few; apart = l.apart });
      are_weights = subst AreWeights (sym (append-nil (weights ++ x ∷ []))) (push_weights weights x l.weights_fit l.weight_fits);
      count = ap length (append-nil (weights ++ x ∷ [])) ∙ same ∙ ap length (sym none);
      fit = subst (λ (ns : List (List ℕ)). AreFit ns (Some places.AfterList) rest) (sym none) (after_list_fit names end rest h);
    }
items-walk names weights x end (item ∷ items) rest l h =
    let more = items_text items ++ (semicolon ∷ rest) in
    let e : items_text (item ∷ items) ++ (semicolon ∷ rest) ≡ comma ∷ name item.name ∷ (spelled_weight item.weight ++ more) =
    ap (λ (ls : List Lexeme). comma ∷ name item.name ∷ ls) (append_assoc (spelled_weight item.weight) (items_text items)
    (semicolon ∷ rest)) in
    let h' = after_comma_fit names end (name item.name ∷ (spelled_weight item.weight ++ more))
    (subst (λ (ls : List Lexeme). AreFit names (Some (item_place end)) ls) e h) in
    let w = weight-walk (names ++ item.name ∷ []) (weights ++ x ∷ []) item.weight more h'.1 in
    let r = items-walk (names ++ item.name ∷ []) (weights ++ x ∷ []) (unwrap_or item.weight 1) w.end items rest
    (push_listed names weights x item.name (unwrap_or item.weight 1) l h'.0.few h'.0.apart w.fits) w.fit in
    let ns : (names ++ item.name ∷ []) ++ map (λ item. item.name) items ≡ names ++ map (λ item. item.name) (item ∷ items) =
    append_assoc names (item.name ∷ []) (map (λ item. item.name) items) in
    let ws : ((weights ++ x ∷ []) ++ unwrap_or item.weight 1 ∷ []) ++ map (λ item. unwrap_or item.weight 1) items ≡ (weights ++ x ∷ [])
    ++ map (λ item. unwrap_or item.weight 1) (item ∷ items)
    = append_assoc (weights ++ x ∷ []) (unwrap_or item.weight 1 ∷ []) (map (λ item. unwrap_or item.weight 1) items) in
    record {
      walk = ap (listed names weights x) e ∙ w.walk ∙ r.walk ∙ (λ i. record { letters = record { names = ns i; weights = ws i }; rest = rest });
      are_names = subst AreNames ns r.are_names;
      are_weights = subst AreWeights ws r.are_weights;
      count = sym (ap length ws) ∙ r.count ∙ ap length ns;
      fit = subst (λ (ns : List (List ℕ)). AreFit ns (Some places.AfterList) rest) ns r.fit;
    }

-- the letters of a tree, from its lexemes behind `vars`
pub record DeclaresTree (tree : Tree) (ls : List Lexeme) : Type 0 where
  pub walk : listed [] [] 1 ls ≡ record { letters = letters_of tree; rest = spelled_relations tree.relations ++ ending }
  pub are_names : AreNames (letters_of tree).names
  pub are_weights : AreWeights (letters_of tree).weights
  pub count : length (letters_of tree).weights ≡ length (letters_of tree).names
  pub fit : AreFit (letters_of tree).names (Some places.AfterList) (spelled_relations tree.relations ++ ending)

-- lexemes that spell a tree and are fit declare its letters
pub declares-tree : (tree : Tree) (ls : List Lexeme) → name (codes "vars") ∷ ls ≡ spelled tree →
    AreFit [] (Some places.Beginning) (name (codes "vars") ∷ ls) → DeclaresTree tree ls
declares-tree tree ls is h =
    let item = tree.first in
    let rest = spelled_relations tree.relations ++ ending in
    let more = items_text tree.others ++ (semicolon ∷ rest) in
    let e : ls ≡ name item.name ∷ (spelled_weight item.weight ++ more) = cc is in
    let h' : AreFit [] (Some places.AfterVars) (name item.name ∷ (spelled_weight item.weight ++ more)) =
    subst (λ (ls : List Lexeme). AreFit [] (Some places.AfterVars) ls) e h.1 in
    let w = weight-walk (item.name ∷ []) [] item.weight more h'.1 in
    let one : AreListed (item.name ∷ []) [] (unwrap_or item.weight 1) = record {
      few = omega arith;
      apart = all_pairs_push (λ a b. a ≢ b) [] item.name (AllPairs-nil (λ a b. a ≢ b)) (All-nil (λ y. y ≢ item.name));
      count = refl;
      weights_fit = All-nil (λ e. (0 < e) × (e ≤ 8));
      weight_fits = w.fits;
    } in
    let r = items-walk (item.name ∷ []) [] (unwrap_or item.weight 1) w.end tree.others rest one w.fit in
    record {
      walk = ap (listed [] [] 1) e ∙ w.walk ∙ r.walk;
      are_names = r.are_names;
      are_weights = r.are_weights;
      count = r.count;
      fit = r.fit;
    }
