-- The faults at a token that may come, by what the tokens before it left.
use Rattle.std.proofs.Common.{ℕ, ◌≡◌, ◌≢◌, ◌==◌, ◌&&◌, ◌||◌, ◌⊎◌, inl, inr, Bool, true, false, not, List, [], ◌∷◌, length, nat_lt, Option, Some, None}
use Rattle.std.proofs.Common.{is_none, refl, sym, ap, ◌∙◌}
use Rattle.relation_reader.specs.declared.fault.InputFault.{InputFault}
use Rattle.relation_reader.specs.declared.fault.InputFault.TheVariants as faults
use Rattle.relation_reader.specs.declared.place.Place.{Place}
use Rattle.relation_reader.specs.declared.place.Place.TheVariants as places
use Rattle.relation_reader.specs.Grammar.{Lexeme, name, Piece, next_place, refusal}
use Rattle.relation_reader.specs.Meaning.{Placed, begins_relation, declared_names, faults_here, first_of, is_among, is_declared, is_exponent, is_used}
use Rattle.relation_reader.specs.Meaning.{is_weight, letters_from, passes, placed_from, relations_begun, takes_exponent, when}
use Rattle.relation_reader.specs.Walk.{HasPassed, begin_faults, leads_caret, used_faults}

-- those of meaning, by the names, the relations begun, the letters and whether `^` comes next
abbrev pub faults_with : List (List ℕ) → ℕ → ℕ → Bool → Placed → List (Option InputFault)
faults_with names begun letters caret t =
    when (is_declared (λ bytes. nat_lt 32 (length bytes)) t.place t.lexeme) (faults.NameTooLong t.at)
    ∷ when (is_declared (λ bytes. length names == 64) t.place t.lexeme) (faults.TooManyVariables t.at)
    ∷ when (is_declared (λ bytes. is_among bytes names) t.place t.lexeme) (faults.RepeatedVariable t.at)
    ∷ when (is_weight (λ value. value == 0 || nat_lt 8 value) t.place t.lexeme) (faults.WeightOutOfRange t.at)
    ∷ when (begins_relation t.place t.lexeme && begun == 4096) (faults.TooManyRelations t.at)
    ∷ when (is_used (λ bytes. not (is_among bytes names)) t.place t.lexeme) (faults.UnknownVariable t.at)
    ∷ when (is_exponent (λ value. nat_lt 256 value) t.place t.lexeme) (faults.ExponentTooLarge t.at)
    ∷ when (is_exponent (passes letters) t.place t.lexeme || (is_used (λ bytes. passes letters 1) t.place t.lexeme && not caret)) (faults.WordTooLong t.at)
    ∷ []

takes_exponent-leads : (next : Option Place) (rest : List Piece) → is_none next ≡ false → takes_exponent (placed_from next rest) ≡ leads_caret rest
takes_exponent-leads None rest comes = absurd (let e : true ≡ false = comes in cc)
takes_exponent-leads (Some place) [] comes = refl
takes_exponent-leads (Some place) (t ∷ ts) comes = refl

-- at a token that may come, the first fault is the first of meaning
pub first_here : (names : List (List ℕ)) (begun letters : ℕ) (caret : Bool) (t : Placed) (before : List Placed) (rest : List Piece) →
    is_none (next_place t.place t.lexeme) ≡ false → HasPassed names begun letters before → leads_caret rest ≡ caret →
    first_of (faults_here before t (placed_from (next_place t.place t.lexeme) rest)) ≡ first_of (faults_with names begun letters caret t)
first_here names begun letters caret t before rest comes passed leads =
    ap (λ b. first_of (when b (refusal t.place t.lexeme t.at) ∷ faults_with (declared_names before) (relations_begun before)
    (letters_from 0 before) (takes_exponent (placed_from (next_place t.place t.lexeme) rest)) t)) comes
    ∙ ap (λ b. first_of (faults_with (declared_names before) (relations_begun before) (letters_from 0 before) b t))
    (takes_exponent-leads (next_place t.place t.lexeme) rest comes ∙ leads)
    ∙ ap (λ ns. first_of (faults_with ns (relations_begun before) (letters_from 0 before) caret t)) passed.names_are
    ∙ ap (λ n. first_of (faults_with names n (letters_from 0 before) caret t)) passed.begun_are
    ∙ ap (λ n. first_of (faults_with names begun n caret t)) passed.letters_are

-- a line that tells nothing may be left out
drop_none : (a b : Option InputFault) → first_of (a ∷ b ∷ []) ≡ first_of (a ∷ None ∷ b ∷ [])
drop_none None b = refl
drop_none (Some fault) b = refl

drop_third : (a b d : Option InputFault) → first_of (a ∷ b ∷ d ∷ []) ≡ first_of (a ∷ b ∷ None ∷ d ∷ [])
drop_third None b d = drop_none b d
drop_third (Some fault) b d = refl

-- the first of them behind an operator is the first of those of what begins a factor
pub used_faults-with : (names : List (List ℕ)) (begun letters : ℕ) (caret : Bool) (l : Lexeme) (at : ℕ) →
    first_of (used_faults names letters caret l at) ≡ first_of (faults_with names begun letters caret
    (record { place = places.AfterOperator; lexeme = l; at = at }))
used_faults-with names begun letters caret l at = drop_none (when (is_used (λ bytes. not (is_among bytes names)) places.AfterOperator l)
    (faults.UnknownVariable at)) (when (is_used (λ bytes. passes letters 1) places.AfterOperator l && not caret) (faults.WordTooLong at))

first_faults : (names : List (List ℕ)) (begun letters : ℕ) (caret : Bool) (l : Lexeme) (at : ℕ) →
    first_of (begin_faults names begun letters caret places.AfterList l at)
    ≡ first_of (faults_with names begun letters caret (record { place = places.AfterList; lexeme = l; at = at }))
first_faults names begun letters caret (name bytes) at = drop_third (when (begun == 4096) (faults.TooManyRelations at))
    (when (not (is_among bytes names)) (faults.UnknownVariable at)) (when (passes letters 1 && not caret) (faults.WordTooLong at))
first_faults names begun letters caret l at = drop_third (when (begins_relation places.AfterList l && begun == 4096) (faults.TooManyRelations at)) None None

next_faults : (names : List (List ℕ)) (begun letters : ℕ) (caret : Bool) (l : Lexeme) (at : ℕ) →
    first_of (begin_faults names begun letters caret places.AfterComma l at)
    ≡ first_of (faults_with names begun letters caret (record { place = places.AfterComma; lexeme = l; at = at }))
next_faults names begun letters caret (name bytes) at = drop_third (when (begun == 4096) (faults.TooManyRelations at))
    (when (not (is_among bytes names)) (faults.UnknownVariable at)) (when (passes letters 1 && not caret) (faults.WordTooLong at))
next_faults names begun letters caret l at = drop_third (when (begun == 4096) (faults.TooManyRelations at)) None None

-- the first where a relation begins is the first of those of its first token
pub begin_faults-with : (names : List (List ℕ)) (begun letters : ℕ) (caret : Bool) (place : Place) (l : Lexeme) (at : ℕ) →
    (place ≡ places.AfterList) ⊎ (place ≡ places.AfterComma) → first_of (begin_faults names begun letters caret place l at)
    ≡ first_of (faults_with names begun letters caret (record { place = place; lexeme = l; at = at }))
begin_faults-with names begun letters caret place l at (inl e) =
    ap (λ p. first_of (begin_faults names begun letters caret p l at)) e
    ∙ first_faults names begun letters caret l at
    ∙ ap (λ p. first_of (faults_with names begun letters caret (record { place = p; lexeme = l; at = at }))) (sym e)
begin_faults-with names begun letters caret place l at (inr e) =
    ap (λ p. first_of (begin_faults names begun letters caret p l at)) e
    ∙ next_faults names begun letters caret l at
    ∙ ap (λ p. first_of (faults_with names begun letters caret (record { place = p; lexeme = l; at = at }))) (sym e)

-- places where no token has a fault of meaning
pub no_faults : (names : List (List ℕ)) (begun letters : ℕ) (caret : Bool) (place : Place) (l : Lexeme) (at : ℕ) → place ≢ places.AfterVars
    → place ≢ places.AfterListComma → place ≢ places.AfterListColon → place ≢ places.AfterList → place ≢ places.AfterComma →
    place ≢ places.AfterOperator → place ≢ places.AfterCaret → first_of
    (faults_with names begun letters caret (record { place = place; lexeme = l; at = at })) ≡ None
no_faults names begun letters caret places.AfterVars l at a b d e f g h = absurd (a refl)
no_faults names begun letters caret places.AfterListComma l at a b d e f g h = absurd (b refl)
no_faults names begun letters caret places.AfterListColon l at a b d e f g h = absurd (d refl)
no_faults names begun letters caret places.AfterList l at a b d e f g h = absurd (e refl)
no_faults names begun letters caret places.AfterComma l at a b d e f g h = absurd (f refl)
no_faults names begun letters caret places.AfterOperator l at a b d e f g h = absurd (g refl)
no_faults names begun letters caret places.AfterCaret l at a b d e f g h = absurd (h refl)
no_faults names begun letters caret place l at a b d e f g h = refl
