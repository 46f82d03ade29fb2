-- What it says of the lexemes of a text that no fault has a place there.
use Rattle.std.proofs.Common.{ℕ, ◌≡◌, ◌==◌, ◌||◌, ◌&&◌, Bool, true, false, List, [], ◌∷◌, ◌++◌, length, map, Option, Some, None, is_none, refl, ap}
use Rattle.std.proofs.Common.{subst, ◌∙◌, append-nil}
use Rattle.std.specs.Prelude.{nat_lt, not}
use Rattle.std.proofs.lemmas.List.Concat.{flat_map-append}
use Rattle.relation_reader.specs.declared.token.Token.{Token}
use Rattle.relation_reader.specs.declared.fault.InputFault.{InputFault}
use Rattle.relation_reader.specs.declared.fault.InputFault.TheVariants as faults
use Rattle.relation_reader.specs.declared.place.Place.{Place}
use Rattle.relation_reader.specs.declared.place.Place.TheVariants as places
use Rattle.relation_reader.specs.Grammar.{Lexeme, name, Piece, next_place, refusal}
use Rattle.relation_reader.specs.Meaning.{Placed, begins_relation, declared_names, declares, faults_from, first_of, is_among, is_declared}
use Rattle.relation_reader.specs.Meaning.{is_exponent, is_used, is_weight, letters_from, passes, pieces_of, place_fault, placed_from, relations_begun}
use Rattle.relation_reader.specs.Meaning.{takes_exponent, when}

-- a lexeme that has no fault of meaning at a place, behind the declaration of some names
pub record IsFit (names : List (List ℕ)) (place : Place) (l : Lexeme) : Type 0 where
  pub few : is_declared (λ bytes. length names == 64) place l ≡ false
  pub apart : is_declared (λ bytes. is_among bytes names) place l ≡ false
  pub weight : is_weight (λ value. value == 0 || nat_lt 8 value) place l ≡ false
  pub known : is_used (λ bytes. not (is_among bytes names)) place l ≡ false
  pub small : is_exponent (λ value. nat_lt 256 value) place l ≡ false

-- the declared names after one more lexeme
abbrev pub more_names : List (List ℕ) → Place → Lexeme → List (List ℕ)
more_names names places.AfterVars (name bytes) = names ++ bytes ∷ []
more_names names places.AfterListComma (name bytes) = names ++ bytes ∷ []
more_names names place lexeme = names

-- each of these is fit where it stands
abbrev pub AreFit : List (List ℕ) → Option Place → List Lexeme → Type 0
AreFit names None ls = Unit {0}
AreFit names (Some place) [] = Unit {0}
AreFit names (Some place) (l ∷ ls) = IsFit names place l × AreFit (more_names names place l) (next_place place l) ls

-- the declared names after one more lexeme are those before it, and the one that it declares
pub more_names-is : (names : List (List ℕ)) (place : Place) (l : Lexeme) → names ++ declares place l ≡ more_names names place l
more_names-is names places.AfterVars (name bytes) = refl
more_names-is names places.AfterListComma (name bytes) = refl
more_names-is names place l = append-nil names

declared_names-push : (before : List Placed) (t : Placed) → declared_names (before ++ t ∷ []) ≡ more_names (declared_names before) t.place t.lexeme
declared_names-push before t =
    flat_map-append (λ (t : Placed). declares t.place t.lexeme) before (t ∷ [])
    ∙ ap (λ xs. declared_names before ++ xs) (append-nil (declares t.place t.lexeme))
    ∙ more_names-is (declared_names before) t.place t.lexeme

-- where none of some faults is there, their first one is not, and none of the others is
record NoneOf (holds : Bool) (others : List (Option InputFault)) : Type 0 where
  here : holds ≡ false
  rest : first_of others ≡ None

none_of : (holds : Bool) (fault : InputFault) (rest : List (Option InputFault)) → first_of (when holds fault ∷ rest) ≡ None → NoneOf holds rest
none_of true fault rest e = absurd (let f : Some fault ≡ None = e in cc)
none_of false fault rest e = record { here = refl; rest = e }

fit-from : (o : Option Place) (before : List Placed) (ts : List Piece) →
    first_of (faults_from before (placed_from o ts) ++ None ∷ []) ≡ None →
    AreFit (declared_names before) o (map (λ (t : Piece). t.lexeme) ts)
fit-from None before ts h = tt
fit-from (Some place) before [] h = tt
fit-from (Some place) before (t ∷ ts) h =
    let here : Placed = record { place = place; lexeme = t.lexeme; at = t.at } in
    let rest = placed_from (next_place place t.lexeme) ts in
    let p = place in
    let l = t.lexeme in
    let names = declared_names before in
    let letters = letters_from 0 before in
    let last = faults_from (before ++ here ∷ []) rest ++ None ∷ [] in
    let w8 = when (is_exponent (passes letters) p l || (is_used (λ bytes. passes letters 1) p l && not (takes_exponent rest)))
    (faults.WordTooLong t.at) ∷ last in
    let w7 = when (is_exponent (λ value. nat_lt 256 value) p l) (faults.ExponentTooLarge t.at) ∷ w8 in
    let w6 = when (is_used (λ bytes. not (is_among bytes names)) p l) (faults.UnknownVariable t.at) ∷ w7 in
    let w5 = when (begins_relation p l && relations_begun before == 4096) (faults.TooManyRelations t.at) ∷ w6 in
    let w4 = when (is_weight (λ value. value == 0 || nat_lt 8 value) p l) (faults.WeightOutOfRange t.at) ∷ w5 in
    let w3 = when (is_declared (λ bytes. is_among bytes names) p l) (faults.RepeatedVariable t.at) ∷ w4 in
    let w2 = when (is_declared (λ bytes. length names == 64) p l) (faults.TooManyVariables t.at) ∷ w3 in
    let w1 = when (is_declared (λ bytes. nat_lt 32 (length bytes)) p l) (faults.NameTooLong t.at) ∷ w2 in
    let a0 = none_of (is_none (next_place p l)) (refusal p l t.at) w1 h in
    let a1 = none_of (is_declared (λ bytes. nat_lt 32 (length bytes)) p l) (faults.NameTooLong t.at) w2 a0.rest in
    let a2 = none_of (is_declared (λ bytes. length names == 64) p l) (faults.TooManyVariables t.at) w3 a1.rest in
    let a3 = none_of (is_declared (λ bytes. is_among bytes names) p l) (faults.RepeatedVariable t.at) w4 a2.rest in
    let a4 = none_of (is_weight (λ value. value == 0 || nat_lt 8 value) p l) (faults.WeightOutOfRange t.at) w5 a3.rest in
    let a5 = none_of (begins_relation p l && relations_begun before == 4096) (faults.TooManyRelations t.at) w6 a4.rest in
    let a6 = none_of (is_used (λ bytes. not (is_among bytes names)) p l) (faults.UnknownVariable t.at) w7 a5.rest in
    let a7 = none_of (is_exponent (λ value. nat_lt 256 value) p l) (faults.ExponentTooLarge t.at) w8 a6.rest in
    let a8 = none_of (is_exponent (passes letters) p l || (is_used (λ bytes. passes letters 1) p l && not (takes_exponent rest)))
    (faults.WordTooLong t.at) last a7.rest in (
      record { few = a2.here; apart = a3.here; weight = a4.here; known = a6.here; small = a7.here },
      subst (λ (names : List (List ℕ)). AreFit names (next_place place t.lexeme) (map (λ (t : Piece). t.lexeme) ts)) (declared_names-push before here)
          (fit-from (next_place place t.lexeme) (before ++ here ∷ []) ts a8.rest),
    )

-- a text without a fault that has a place
pub fit : (text : List ℕ) (tokens : List Token) → place_fault (pieces_of text tokens None) None ≡ None →
    AreFit [] (Some places.Beginning) (map (λ (t : Piece). t.lexeme) (pieces_of text tokens None))
fit text tokens h = fit-from (Some places.Beginning) [] (pieces_of text tokens None) h
