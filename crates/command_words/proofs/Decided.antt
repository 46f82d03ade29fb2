-- Each text is a value of a key or none, and each word has a key of a row or none.
use Rattle.std.proofs.Common.{◌≡◌, ◌≢◌, ◌⊎◌, ℕ, List, [], ◌∷◌, ◌++◌, refl, sym, ap, ◌∙◌, inl, inr, arith, subst, ◌==◌, append_assoc, bytes_eq}
use Rattle.std.specs.Prelude.{Contains, codes}
use Rattle.std.specs.List.{list_any}
use Rattle.std.proofs.lemmas.Bool.{cases_Bool, cases_lt, eqb-false, eqb-true, true≢false}
use Rattle.std.proofs.lemmas.Slice.Eq.{bytes_eq-Decides}
use Rattle.field_table.specs.Residues.{listed_moduli}
use Rattle.command_words.specs.declared.job.Command.{Command}
use Rattle.command_words.specs.declared.job.Key.{Key}
use Rattle.command_words.specs.declared.job.Key.TheVariants as keys
use Rattle.command_words.specs.declared.value.Value.{Value}
use Rattle.command_words.specs.declared.value.Value.TheVariants.{Count, Shown, Answer, Kind}
use Rattle.command_words.specs.Keys.{command_name, name_of}
use Rattle.command_words.specs.Values.{IsAnswer, IsEngine, IsModulus, IsNumberFrom, IsShow, IsValue, answer_name, engine_name, show_name}
use Rattle.command_words.specs.Refusals.{HasKey, Says}
use Rattle.command_words.proofs.Digits.{listed_says, number_or_not, one_number, says_listed}
use Rattle.command_words.proofs.Members.{among_or_not}
use Rattle.command_words.proofs.Named.{answer_of, answer_of-name, command_of, command_of-name, engine_of, engine_of-name, show_of, show_of-name}
use Rattle.command_words.proofs.OneKey.{one_text}
use Rattle.command_words.proofs.Parts.{Decided}

text_or_not : (s t : List ℕ) → (s ≡ t) ⊎ (s ≢ t)
text_or_not s t = elim (cases_Bool (bytes_eq s t)) [
  | inl e ↦ inl ((bytes_eq-Decides s t).0 e)
  | inr e ↦ inr (λ same. true≢false (sym ((bytes_eq-Decides s t).1 same) ∙ e))
]

-- a text is how something is written, or nothing is written so
named_or_not : {A : Type 0} (name : A → List ℕ) (read : List ℕ → A) → ((a : A) → read (name a) ≡ a) → (text : List ℕ) → Decided (λ (a : A). text ≡ name a)
named_or_not name read back text = elim (text_or_not text (name (read text))) [
  | inl e ↦ inl (read text, e)
  | inr other ↦ inr (λ a is. other (is ∙ ap name (sym (ap read is ∙ back a))))
]

-- a text is the name of a command, or of none
pub command_or_not : (word : List ℕ) → Decided (λ (command : Command). word ≡ command_name command)
command_or_not = named_or_not command_name command_of command_of-name

-- and so it is a value of its kind, or none
kind_or_not : {A : Type 0} (name : A → List ℕ) (read : List ℕ → A) → ((a : A) → read (name a) ≡ a) → (make : A → Value) (text : List ℕ) →
    Decided (λ (v : Value). (a : A) × (text ≡ name a) × (v ≡ make a))
kind_or_not name read back make text = elim (named_or_not name read back text) [
  | inl is ↦ inl (make is.0, (is.0, is.1, refl))
  | inr none ↦ inr (λ v h. none h.0 h.1)
]

show_or_not : (text : List ℕ) → Decided (IsShow text)
show_or_not = kind_or_not show_name show_of show_of-name Shown

answer_or_not : (text : List ℕ) → Decided (IsAnswer text)
answer_or_not = kind_or_not answer_name answer_of answer_of-name Answer

engine_or_not : (text : List ℕ) → Decided (IsEngine text)
engine_or_not = kind_or_not engine_name engine_of engine_of-name Kind

count_or_not : (low high : ℕ) (text : List ℕ) → Decided (IsNumberFrom low high text)
count_or_not low high text = elim (number_or_not text) [
  | inl n ↦ elim (cases_lt n.0 low) [
    | inl lt ↦ inr (λ v h. omega (arith, lt, h.above, one_number text h.number n.0 h.is_number n.1))
    | inr ge ↦ elim (cases_lt high n.0) [
      | inl gt ↦ inr (λ v h. omega (arith, gt, h.below, one_number text h.number n.0 h.is_number n.1))
      | inr le ↦ inl (Count n.0, record { number = n.0; is_number = n.1; above = ge; below = le; value_is = refl })
    ]
  ]
  | inr none ↦ inr (λ v h. none h.number h.is_number)
]

modulus_or_not : (text : List ℕ) → Decided (IsModulus text)
modulus_or_not text = elim (number_or_not text) [
  | inl n ↦ elim (cases_Bool (list_any (λ y. y == n.0) listed_moduli)) [
    | inl is ↦ inl (Count n.0, record { number = n.0; is_number = n.1; listed = listed_says n.0 listed_moduli is; value_is = refl })
    | inr not ↦ inr (λ v h. true≢false (sym (says_listed n.0 listed_moduli
        (subst (λ (m : ℕ). Contains listed_moduli m) (one_number text h.number n.0 h.is_number n.1) h.listed)) ∙ not))
  ]
  | inr none ↦ inr (λ v h. none h.number h.is_number)
]

value_or_not : (key : Key) (text : List ℕ) → Decided (IsValue key text)
value_or_not keys.Mod text = modulus_or_not text
value_or_not keys.Deg text = count_or_not 1 64 text
value_or_not keys.Workers text = count_or_not 1 64 text
value_or_not keys.Show text = show_or_not text
value_or_not keys.Trace text = answer_or_not text
value_or_not keys.Engine text = engine_or_not text
value_or_not keys.Schedule text = count_or_not 0 4294967295 text
value_or_not keys.Number text = count_or_not 0 4294967295 text
value_or_not keys.Vars text = count_or_not 2 33 text
value_or_not keys.Gens text = count_or_not 1 64 text
value_or_not keys.List text = answer_or_not text
value_or_not keys.Ask text = count_or_not 1 4096 text

-- a word that has a key says a value of it, or none
pub said_or_not : (key : Key) (word : List ℕ) → HasKey key word → Decided (Says key word)
said_or_not key word has = elim (value_or_not key has.text) [
  | inl v ↦ inl (v.0, record { text = has.text; word_is = has.word_is; is_value = v.1 })
  | inr none ↦ inr (λ v says. none v (subst (λ (t : List ℕ). IsValue key t v) (one_text key says.text has.text (sym says.word_is ∙ has.word_is)) says.is_value))
]

-- the list begins so or not
front_or_not : (p s : List ℕ) → Decided (λ (t : List ℕ). s ≡ p ++ t)
front_or_not [] s = inl (s, refl)
front_or_not (x ∷ p) [] = inr (λ t e. cc e)
front_or_not (x ∷ p) (y ∷ s) = elim (cases_Bool (y == x)) [
  | inl h ↦ elim (front_or_not p s) [
    | inl r ↦ inl (r.0, λ i. eqb-true y x h i ∷ r.1 i)
    | inr none ↦ inr (λ t e. let rest : s ≡ p ++ t = cc e in none t rest)
  ]
  | inr f ↦ inr (λ t e. let first : y ≡ x = cc e in eqb-false y x f first)
]

has_key_or_not : (key : Key) (word : List ℕ) → HasKey key word ⊎ (HasKey key word → ⊥)
has_key_or_not key word = elim (front_or_not (name_of key ++ codes "=") word) [
  | inl r ↦ inl (record { text = r.0; word_is = r.1 ∙ append_assoc (name_of key) (codes "=") r.0 })
  | inr none ↦ inr (λ has. none has.text (has.word_is ∙ sym (append_assoc (name_of key) (codes "=") has.text)))
]

-- a word has a key of the row, or none of them
pub key_or_not : (row : List Key) (word : List ℕ) → Decided (λ (key : Key). Contains row key × HasKey key word)
key_or_not row word = among_or_not (λ key. HasKey key word) (λ key. has_key_or_not key word) row
