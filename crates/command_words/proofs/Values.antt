-- A value of a key by its name.
use Rattle.std.proofs.Common.{◌≡◌, ℕ, List, Option, subst, sym}
use Rattle.std.specs.Prelude.{MatchOption}
use Rattle.command_words.specs.declared.job.Key.{Key}
use Rattle.command_words.specs.declared.value.Value.{Value}
use Rattle.command_words.specs.Values.{IsValue}

-- whether a text is a value of a key, and which, is the same of an equal key
pub value_of_key : (a b : Key) (text : List ℕ) (o : Option Value) → a ≡ b →
    MatchOption o ((value : Value) → IsValue b text value → ⊥) (IsValue b text) →
    MatchOption o ((value : Value) → IsValue a text value → ⊥) (IsValue a text)
value_of_key a b text o e h = subst (λ (key : Key). MatchOption o ((value : Value) → IsValue key text value → ⊥) (IsValue key text)) (sym e) h
