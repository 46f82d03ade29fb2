-- What the lexemes of a text say, one after another: the letters of its declaration, and the terms of its relations.
-- Numbers that are refused elsewhere are cut off, and a name that is not declared is taken for the first.
use Rattle.std.specs.Prelude.{ℕ, ◌-◌, ◌*◌, ◌%◌, ◌≤◌, Bool, true, false, List, [], ◌∷◌, ◌++◌, if◌then◌else◌, length}
use Rattle.std.specs.Prelude.{map, min, replicate, Option, Some, None}
use Rattle.std.specs.Option.{option_to_list}
use Rattle.words.specs.Names.{Letters}
use Rattle.free_poly.specs.declared.term.Term.{Term}
use Rattle.relation_reader.specs.declared.token.Token.{Token}
use Rattle.relation_reader.specs.Tokens.{span}
use Rattle.relation_reader.specs.Grammar.{Lexeme, lexeme_of, name, number, plus, minus, star, comma, semicolon}
use Rattle.relation_reader.specs.Meaning.{is_among, letter_of}

-- the bytes of a token are some of the text
pub record IsInside (text : List ℕ) (t : Token) : Type 0 where
  pub order : t.start ≤ t.end
  pub within : t.end ≤ length text

-- what some tokens of a text are to the grammar
abbrev pub lexemes_of : List ℕ → List Token → List Lexeme
lexemes_of text tokens = map (λ t. lexeme_of t.mark (span text t.start t.end)) tokens

-- the names of a declaration so far, the weights of all but the last, and the weight of the last
pub record Listing : Type 0 where
  pub names : List (List ℕ)
  pub weights : List ℕ
  pub weight : ℕ

-- the letters of a declaration, and what stands behind it
pub record Listed : Type 0 where
  pub letters : Letters
  pub rest : List Lexeme

-- a declaration with these names, the weights of all but the last, and the weight of the last
abbrev pub listed : List (List ℕ) → List ℕ → ℕ → List Lexeme → Listed
listed names weights weight [] = record { letters = record { names = names; weights = weights }; rest = [] }
listed names weights weight (name bytes ∷ ls) = listed (names ++ bytes ∷ []) weights weight ls
listed names weights weight (number value ∷ ls) = listed names weights (min value 8) ls
listed names weights weight (comma ∷ ls) = listed names (weights ++ weight ∷ []) 1 ls
listed names weights weight (semicolon ∷ ls) = record
    { letters = record { names = names; weights = weights ++ weight ∷ [] }; rest = ls }
listed names weights weight (l ∷ ls) = listed names weights weight ls

-- the relations so far, the terms of the present one, and of the present term: its word, a name that may have an
-- exponent, its number, its sign, and whether it has a factor
pub record Gathering : Type 0 where
  pub relations : List (List Term)
  pub terms : List Term
  pub word : List ℕ
  pub letter : Option ℕ
  pub value : ℕ
  pub negative : Bool
  pub begun : Bool

-- before the first term of a relation, or before the next one
abbrev pub fresh : ℕ → List (List Term) → List Term → Bool → Gathering
fresh p relations terms negative = record {
  relations = relations;
  terms = terms;
  word = [];
  letter = None;
  value = 1 % p;
  negative = negative;
  begun = false;
}

-- the letter of a name
abbrev pub known_letter : List (List ℕ) → List ℕ → ℕ
known_letter names bytes = if is_among bytes names then letter_of names bytes else 0

-- the word of the present term
abbrev pub whole_word : Gathering → List ℕ
whole_word s = s.word ++ option_to_list s.letter

-- the present term
abbrev pub present : ℕ → Gathering → Term
present p s = record { word = whole_word s; coefficient = if s.negative then (p - s.value) % p else s.value }

-- a number is a factor, or behind a name its exponent
abbrev pub with_number : ℕ → Gathering → ℕ → Option ℕ → Gathering
with_number p s value None = record {
  relations = s.relations;
  terms = s.terms;
  word = s.word;
  letter = None;
  value = (s.value * (value % p)) % p;
  negative = s.negative;
  begun = true;
}
with_number p s value (Some letter) = record {
  relations = s.relations;
  terms = s.terms;
  word = s.word ++ replicate (min value 256) letter;
  letter = None;
  value = s.value;
  negative = s.negative;
  begun = true;
}

-- a sign ends a term, where there is one
abbrev pub with_sign : ℕ → Gathering → Bool → Gathering
with_sign p s negative = fresh p s.relations (if s.begun then s.terms ++ present p s ∷ [] else s.terms) negative

-- `,` and `;` end a relation, where there is one
abbrev pub with_end : ℕ → Gathering → Gathering
with_end p s = if s.begun then fresh p (s.relations ++ (s.terms ++ present p s ∷ []) ∷ []) [] false else s

-- one more lexeme
abbrev pub gather : ℕ → List (List ℕ) → Gathering → Lexeme → Gathering
gather p names s (name bytes) = record {
  relations = s.relations;
  terms = s.terms;
  word = s.word;
  letter = Some (known_letter names bytes);
  value = s.value;
  negative = s.negative;
  begun = true;
}
gather p names s (number value) = with_number p s value s.letter
gather p names s star = record {
  relations = s.relations;
  terms = s.terms;
  word = whole_word s;
  letter = None;
  value = s.value;
  negative = s.negative;
  begun = s.begun;
}
gather p names s plus = with_sign p s false
gather p names s minus = with_sign p s true
gather p names s comma = with_end p s
gather p names s semicolon = with_end p s
gather p names s lexeme = s

-- the terms of each relation, after these lexemes too
abbrev pub gathered : ℕ → List (List ℕ) → Gathering → List Lexeme → List (List Term)
gathered p names s [] = s.relations
gathered p names s (l ∷ ls) = gathered p names (gather p names s l) ls
