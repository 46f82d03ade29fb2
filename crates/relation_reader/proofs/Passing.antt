-- What the tokens so far leave, one token on.
use Rattle.std.proofs.Common.{ℕ, ◌≡◌, ◌+◌, List, [], ◌∷◌, ◌++◌, if◌then◌else◌, refl, sym, ap, ◌∙◌, arith}
use Rattle.std.proofs.lemmas.List.{append-nil}
use Rattle.std.proofs.lemmas.List.Concat.{flat_map-append}
use Rattle.relation_reader.specs.declared.token.Token.{Token}
use Rattle.relation_reader.specs.declared.place.Place.{Place}
use Rattle.relation_reader.specs.Grammar.{lexeme_of}
use Rattle.relation_reader.specs.Meaning.{Placed, begins_relation, declared_names, declares, letters_after, letters_from, relations_begun}
use Rattle.relation_reader.specs.Walk.{HasPassed, placed}

-- the letters of the present term after one more token
pub letters_from-append : (n : ℕ) (before : List Placed) (t : Placed) →
    letters_from n (before ++ t ∷ []) ≡ letters_after (letters_from n before) t.place t.lexeme
letters_from-append n [] t = refl
letters_from-append n (s ∷ before) t = letters_from-append (letters_after n s.place s.lexeme) before t

-- the relations begun, with the one that it may begin
pub relations_begun-append : (before : List Placed) (t : Placed) →
    relations_begun (before ++ t ∷ []) ≡ relations_begun before + (if begins_relation t.place t.lexeme then 1 else 0)
relations_begun-append [] t = omega arith
relations_begun-append (s ∷ before) t = omega (arith, relations_begun-append before t)

declared_names-append : (before : List Placed) (t : Placed) → declared_names (before ++ t ∷ []) ≡ declared_names before ++ declares t.place t.lexeme
declared_names-append before t =
    flat_map-append (λ (u : Placed). declares u.place u.lexeme) before (t ∷ [])
    ∙ ap (λ names. declared_names before ++ names) (append-nil (declares t.place t.lexeme))

-- what the tokens leave after one more of them
pub HasPassed-next : (names : List (List ℕ)) (begun letters : ℕ) (place : Place) (t : Token) (bytes : List ℕ) (names' : List (List ℕ))
    (begun' letters' : ℕ) → names' ≡ names ++ declares place (lexeme_of t.mark bytes) →
    begun' ≡ begun + (if begins_relation place (lexeme_of t.mark bytes) then 1 else 0) →
    letters' ≡ letters_after letters place (lexeme_of t.mark bytes) → (before : List Placed) → HasPassed names begun letters before →
    HasPassed names' begun' letters' (before ++ placed place t bytes ∷ [])
HasPassed-next names begun letters place t bytes names' begun' letters' e f g before passed = record {
  names_are = declared_names-append before (placed place t bytes) ∙ ap (λ ns. ns ++ declares place (lexeme_of t.mark bytes)) passed.names_are ∙ sym e;
  begun_are = relations_begun-append before (placed place t bytes)
      ∙ ap (λ n. n + (if begins_relation place (lexeme_of t.mark bytes) then 1 else 0)) passed.begun_are ∙ sym f;
  letters_are = letters_from-append 0 before (placed place t bytes) ∙ ap (λ n. letters_after n place (lexeme_of t.mark bytes)) passed.letters_are ∙ sym g;
}
