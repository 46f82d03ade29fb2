-- A word has one key, and a key has one place.
use Rattle.std.proofs.Common.{◌≡◌, ◌<◌, ◌++◌, ◌∷◌, [], ℕ, List, refl, sym, ap, ◌∙◌, if◌then◌else◌, ◌==◌, lit<}
use Rattle.std.specs.Prelude.{codes}
use Rattle.std.proofs.lemmas.List.{append_cancel_left}
use Rattle.command_words.specs.declared.job.Key.{Key}
use Rattle.command_words.specs.declared.job.Key.TheVariants as keys
use Rattle.command_words.specs.declared.value.Value.{Value}
use Rattle.command_words.specs.Keys.{name_of}
use Rattle.command_words.specs.Refusals.{HasKey, IsWordOf, Says}
use Rattle.command_words.specs.Draft.{place_of}
use Rattle.command_words.proofs.ReadBack.{one_by}

-- the key by its first two letters
second_of : List ℕ → Key
second_of [] = keys.Show
second_of (b ∷ bs) = if b == 104 then keys.Show else keys.Schedule

key_of : List ℕ → Key
key_of [] = keys.Mod
key_of (b ∷ bs) =
    if b == 109 then keys.Mod else
    if b == 100 then keys.Deg else
    if b == 119 then keys.Workers else
    if b == 115 then second_of bs else
    if b == 116 then keys.Trace else
    if b == 101 then keys.Engine else
    if b == 110 then keys.Number else
    if b == 118 then keys.Vars else
    if b == 103 then keys.Gens else
    if b == 108 then keys.List else keys.Ask

key_of-word : (key : Key) (text : List ℕ) → key_of (name_of key ++ (codes "=" ++ text)) ≡ key
unfolding key_of second_of
key_of-word keys.Mod text = refl
key_of-word key text = refl

-- a word has at most one key
pub one_key : (a b : Key) (word s t : List ℕ) → IsWordOf a s word → IsWordOf b t word → a ≡ b
one_key a b word s t p q = sym (key_of-word a s) ∙ ap key_of (sym p ∙ q) ∙ key_of-word b t

-- behind a key and `=` it has one text
pub one_text : (key : Key) (s t : List ℕ) → name_of key ++ (codes "=" ++ s) ≡ name_of key ++ (codes "=" ++ t) → s ≡ t
one_text key s t e = append_cancel_left (codes "=") s t (append_cancel_left (name_of key) (codes "=" ++ s) (codes "=" ++ t) e)

-- a word that says a value of a key has that key
pub key_said : (key : Key) (word : List ℕ) (value : Value) → Says key word value → HasKey key word
key_said key word value says = record { text = says.text; word_is = says.word_is }

-- the key by its place
key_at : ℕ → Key
key_at n =
    if n == 0 then keys.Mod else
    if n == 1 then keys.Deg else
    if n == 2 then keys.Workers else
    if n == 3 then keys.Show else
    if n == 4 then keys.Trace else
    if n == 5 then keys.Engine else
    if n == 6 then keys.Schedule else
    if n == 7 then keys.Number else
    if n == 8 then keys.Vars else
    if n == 9 then keys.Gens else
    if n == 10 then keys.List else keys.Ask

key_at-place : (key : Key) → key_at (place_of key) ≡ key
unfolding key_at
key_at-place keys.Mod = refl
key_at-place key = refl

-- keys with the same place are one
pub one_place : (a b : Key) → place_of a ≡ place_of b → a ≡ b
one_place = one_by place_of key_at key_at-place

-- each key has one of twelve places
pub place_below : (key : Key) → place_of key < 12
place_below keys.Mod = lit< tt
place_below key = lit< tt
