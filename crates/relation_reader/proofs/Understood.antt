-- A text without a fault that has a place: its tree, its letters, and the terms of its relations.
use Rattle.std.proofs.Common.{ap₂, ℕ, ◌≡◌, ◌+◌, ◌<◌, ◌%◌, Bool, true, cond, bytes_eq, List, [], ◌∷◌, ◌++◌, length, map, drop, None, Some, codes}
use Rattle.std.proofs.Common.{false, min, refl, sym, ap, ◌∙◌, subst}
use Rattle.std.proofs.Math.Nat.{add-mod, mod-lt, mod-mod}
use Rattle.std.proofs.lemmas.List.{map-append}
use Rattle.std.proofs.lemmas.List.Elements.{All-map}
use Rattle.std.proofs.lemmas.Simd.{map-map}
use Rattle.words.specs.Names.{AreNames, Letters}
use Rattle.words.specs.Words.{AreWeights}
use Rattle.free_poly.specs.declared.term.Term.{Term}
use Rattle.free_poly.specs.Terms.{HasResidues, total_at}
use Rattle.relation_reader.specs.declared.place.Place.TheVariants as places
use Rattle.relation_reader.specs.declared.token.Token.{Token}
use Rattle.relation_reader.specs.Tokens.{SplitsFrom, span}
use Rattle.relation_reader.specs.Grammar.{Lexeme, name, number, comma, semicolon, the_end, Piece, Relation, Tree, lexeme_of, piece_of, spelled}
use Rattle.relation_reader.specs.Meaning.{AreMeanings, Means, letters_of, pieces_of, place_fault, terms_of_relation}
use Rattle.relation_reader.specs.Gathering.{Gathering, Listed, fresh, gather, gathered, lexemes_of, listed}
use Rattle.relation_reader.specs.Elements.{AreElementsOf}
use Rattle.relation_reader.proofs.Accepted.{accepted}
use Rattle.relation_reader.proofs.Declarations.{declares-tree}
use Rattle.relation_reader.proofs.Fit.{AreFit, fit}
use Rattle.relation_reader.proofs.Gathers.{reduced, reduced_terms, relations-walk}
use Rattle.relation_reader.proofs.Trees.{tree-of}

-- End changes nothing

gathered-end : (p : ℕ) (names : List (List ℕ)) (s : Gathering) (ls : List Lexeme) → gathered p names s (ls ++ the_end ∷ []) ≡ gathered p names s ls
gathered-end p names s [] = refl
gathered-end p names s (l ∷ ls) = gathered-end p names (gather p names s l) ls

record EndsAlike (names : List (List ℕ)) (weights : List ℕ) (weight : ℕ) (ls : List Lexeme) : Type 0 where
  letters : (listed names weights weight (ls ++ the_end ∷ [])).letters ≡ (listed names weights weight ls).letters
  rest : (p : ℕ) (ns : List (List ℕ)) (s : Gathering) → gathered p ns s (listed names weights weight (ls ++ the_end ∷ [])).rest
      ≡ gathered p ns s (listed names weights weight ls).rest

ends-alike : (names : List (List ℕ)) (weights : List ℕ) (weight : ℕ) (ls : List Lexeme) → EndsAlike names weights weight ls
ends-alike names weights weight [] = record { letters = refl; rest = λ p ns s. refl }
ends-alike names weights weight (semicolon ∷ ls) = record { letters = refl; rest = λ p ns s. gathered-end p ns s ls }
ends-alike names weights weight (name bytes ∷ ls) = let h = ends-alike (names ++ bytes ∷ []) weights weight ls in record { letters = h.letters; rest = h.rest }
ends-alike names weights weight (number value ∷ ls) = let h = ends-alike names weights (min value 8) ls in record { letters = h.letters; rest = h.rest }
ends-alike names weights weight (comma ∷ ls) = let h = ends-alike names (weights ++ weight ∷ []) 1 ls in record { letters = h.letters; rest = h.rest }
ends-alike names weights weight (l ∷ ls) = let h = ends-alike names weights weight ls in record { letters = h.letters; rest = h.rest }

-- the lexemes of the pieces of a text are those of its tokens, and End
pub pieces-are : (text : List ℕ) (tokens : List Token) → map (λ (piece : Piece). piece.lexeme) (pieces_of text tokens None)
    ≡ lexemes_of text tokens ++ the_end ∷ []
pieces-are text tokens =
    map-append (λ (piece : Piece). piece.lexeme) (map (piece_of text) tokens) (record { lexeme = the_end; at = length text } ∷ [])
    ∙ ap (λ (ls : List Lexeme). ls ++ the_end ∷ []) (map-map (λ (piece : Piece). piece.lexeme) (piece_of text) tokens)

-- what a text without a fault that has a place says
pub record Understood (text : List ℕ) (tokens : List Token) : Type 0 where
  pub tree : Tree
  pub spelled_so : map (λ (piece : Piece). piece.lexeme) (pieces_of text tokens None) ≡ spelled tree
  pub letters : (listed [] [] 1 (lexemes_of text (drop 1 tokens))).letters ≡ letters_of tree
  pub are_names : AreNames (letters_of tree).names
  pub are_weights : AreWeights (letters_of tree).weights
  pub count : length (letters_of tree).weights ≡ length (letters_of tree).names
  pub terms : (p : ℕ) → gathered p (letters_of tree).names (fresh p [] [] false) (listed [] [] 1 (lexemes_of text (drop 1 tokens))).rest
      ≡ map (reduced_terms p (letters_of tree).names) tree.relations

-- a text whose lexemes spell a tree and are fit is understood
understood-from : (text : List ℕ) (tokens : List Token) (tree : Tree) → map (λ (piece : Piece). piece.lexeme) (pieces_of text tokens None) ≡ spelled tree
    → AreFit [] (Some places.Beginning) (map (λ (piece : Piece). piece.lexeme) (pieces_of text tokens None)) → Understood text tokens
understood-from text [] tree is h = absurd (let e : the_end ∷ [] ≡ spelled tree = is in cc)
understood-from text (t ∷ ts) tree is h =
    let ls = lexemes_of text ts ++ the_end ∷ [] in
    let e : lexeme_of t.mark (span text t.start t.end) ∷ ls ≡ spelled tree = sym (pieces-are text (t ∷ ts)) ∙ is in
    let first : lexeme_of t.mark (span text t.start t.end) ≡ name (codes "vars") = cc e in
    let begins : map (λ (piece : Piece). piece.lexeme) (pieces_of text (t ∷ ts) None) ≡ name (codes "vars") ∷ ls = pieces-are text (t ∷ ts)
    ∙ ap (λ (l : Lexeme). l ∷ ls) first in
    let d = declares-tree tree ls (sym begins ∙ is) (subst (λ (ls : List Lexeme). AreFit [] (Some places.Beginning) ls) begins h) in
    let same = ends-alike [] [] 1 (lexemes_of text ts) in
    record {
      tree = tree;
      spelled_so = is;
      letters = sym same.letters ∙ ap (λ (l : Listed). l.letters) d.walk;
      are_names = d.are_names;
      are_weights = d.are_weights;
      count = d.count;
      terms = λ p.
          sym (same.rest p (letters_of tree).names (fresh p [] [] false))
          ∙ ap (λ (l : Listed). gathered p (letters_of tree).names (fresh p [] [] false) l.rest) d.walk
          ∙ relations-walk p (letters_of tree).names tree.relations d.fit;
    }

-- a text in which no fault has a place is understood
pub understood : (text : List ℕ) (tokens : List Token) → place_fault (pieces_of text tokens None) None ≡ None → Understood text tokens
understood text tokens none =
    let t = tree-of (map (λ (piece : Piece). piece.lexeme) (pieces_of text tokens None)) (accepted text tokens none) in
    understood-from text tokens t.0 t.1 (fit text tokens none)

-- terms modulo p are the same element

reduced-total : (p : ℕ) (terms : List Term) (w : List ℕ) → total_at (map (reduced p) terms) w % p ≡ total_at terms w % p
reduced-total p [] w = refl
reduced-total p (t ∷ terms) w =
    add-mod (cond (bytes_eq t.word w) (t.coefficient % p) 0) (total_at (map (reduced p) terms) w) p
    ∙ ap₂ (λ (m n : ℕ). (m + n) % p) (by_test (bytes_eq t.word w)) (reduced-total p terms w)
    ∙ sym (add-mod (cond (bytes_eq t.word w) t.coefficient 0) (total_at terms w) p)
  where
    by_test : (b : Bool) → cond b (t.coefficient % p) 0 % p ≡ cond b t.coefficient 0 % p
    by_test true = mod-mod t.coefficient p
    by_test false = refl

-- terms modulo p have residues
pub reduced-residues : (p : ℕ) → 0 < p → (names : List (List ℕ)) (r : Relation) → HasResidues p (reduced_terms p names r)
reduced-residues p some names r = All-map (λ (t : Term). t.coefficient < p) (reduced p) (terms_of_relation p names r) (λ k d within. mod-lt _ some)

meanings-from : (p : ℕ) (names : List (List ℕ)) (rs : List Relation) (fs : List (List Term)) →
    AreElementsOf p (map (reduced_terms p names) rs) fs → AreMeanings p names rs fs
meanings-from p names [] [] h = tt
meanings-from p names [] (f ∷ fs) h = absurd h
meanings-from p names (r ∷ rs) [] h = absurd h
meanings-from p names (r ∷ rs) (f ∷ fs) h = (
  record { form = h.0.form; residues = h.0.residues; sum = λ w. h.0.sum w ∙ reduced-total p (terms_of_relation p names r) w },
  meanings-from p names rs fs h.1,
)

-- what is understood means the elements of its relations
pub means-from : (text : List ℕ) (p : ℕ) (tokens : List Token) (letters : Letters) (meanings : List (List Term)) →
    SplitsFrom text 0 tokens None → place_fault (pieces_of text tokens None) None ≡ None
    → (u : Understood text tokens) → letters ≡ letters_of u.tree →
    AreElementsOf p (map (reduced_terms p (letters_of u.tree).names) u.tree.relations) meanings → Means text p letters meanings
means-from text p tokens letters meanings splits none u is h = record {
  tokens = tokens;
  splits = splits;
  tree = u.tree;
  spelled_so = u.spelled_so;
  no_fault = none;
  letters_are = is;
  meanings_are = subst (λ (ns : List (List ℕ)). AreMeanings p ns u.tree.relations meanings) (ap (λ (l : Letters). l.names) (sym is))
      (meanings-from p (letters_of u.tree).names u.tree.relations meanings h);
}
