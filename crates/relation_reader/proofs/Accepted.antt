-- Tokens without a fault that has a place are let through to the end.
use Rattle.std.proofs.Common.{ℕ, ◌≡◌, List, [], ◌∷◌, ◌++◌, length, map, Option, Some, None, is_none, refl, sym, ap, subst, ◌∙◌, append_assoc}
use Rattle.relation_reader.specs.declared.token.Token.{Token}
use Rattle.relation_reader.specs.declared.fault.InputFault.{InputFault}
use Rattle.relation_reader.specs.declared.place.Place.{Place}
use Rattle.relation_reader.specs.declared.place.Place.TheVariants as places
use Rattle.relation_reader.specs.Grammar.{Lexeme, the_end, Piece, next_place, piece_of, reached, refusal}
use Rattle.relation_reader.specs.Meaning.{Placed, faults_from, faults_here, first_of, pieces_of, place_fault, placed_from, when}

-- where no fault is the first of some, none is the first of the last of them
pub first_of-later : (xs ys : List (Option InputFault)) → first_of (xs ++ ys) ≡ None → first_of ys ≡ None
first_of-later [] ys none = none
first_of-later (None ∷ xs) ys none = first_of-later xs ys none
first_of-later (Some fault ∷ xs) ys none = absurd (let e : Some fault ≡ None = none in cc)

-- no fault of the grammar is first: the token may come
comes : (next : Option Place) (fault : InputFault) (others : List (Option InputFault)) →
    first_of (when (is_none next) fault ∷ others) ≡ None → (place : Place) × (next ≡ Some place)
comes None fault others none = absurd (let e : Some fault ≡ None = none in cc)
comes (Some place) fault others none = (place, refl)

-- End comes at the end alone
end-comes : (place : Place) → ((q : Place) × (next_place place the_end ≡ Some q)) → next_place place the_end ≡ Some places.AfterEnd
end-comes places.AfterLast q = refl
end-comes place q = absurd (let e : next_place place the_end ≡ Some q.0 = q.1 in cc)

abbrev lexemes : List Piece → List Lexeme
lexemes ts = map (λ t. t.lexeme) ts

walked : (place : Place) (before : List Placed) (ts : List Piece) (at : ℕ) →
    first_of (faults_from before (placed_from (Some place) (ts ++ record { lexeme = the_end; at = at } ∷ [])) ++ None ∷ []) ≡ None →
    reached (Some place) (lexemes (ts ++ record { lexeme = the_end; at = at } ∷ [])) ≡ Some places.AfterEnd
walked place before [] at none =
    ap (λ q. reached q []) (end-comes place (comes (next_place place the_end) (refusal place the_end at) _ none))
walked place before (t ∷ ts) at none =
    let after = ts ++ record { lexeme = the_end; at = at } ∷ [] in
    let here : Placed = record { place = place; lexeme = t.lexeme; at = t.at } in
    let q = comes (next_place place t.lexeme) (refusal place t.lexeme t.at) _ none in
    let rest = placed_from (next_place place t.lexeme) after in
    let later = first_of-later (faults_here before here rest) (faults_from (before ++ here ∷ []) rest ++ None ∷ [])
    (sym (ap first_of (append_assoc (faults_here before here rest) (faults_from (before ++ here ∷ []) rest) (None ∷ []))) ∙ none) in
    ap (λ p. reached p (lexemes after)) q.1
    ∙ walked q.0 (before ++ here ∷ []) ts at (subst (λ p. first_of (faults_from (before ++ here ∷ []) (placed_from p after) ++ None ∷ []) ≡ None) q.1 later)

-- a text without a fault that has a place is let through
pub accepted : (text : List ℕ) (tokens : List Token) → place_fault (pieces_of text tokens None) None ≡ None →
    reached (Some places.Beginning) (map (λ piece. piece.lexeme) (pieces_of text tokens None)) ≡ Some places.AfterEnd
accepted text tokens none = walked places.Beginning [] (map (piece_of text) tokens) (length text) none
