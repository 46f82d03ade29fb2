-- Each name says one command, one answer, one engine, and so on, and each text one value of a key.
use Rattle.std.proofs.Common.{◌≡◌, ◌∷◌, [], ℕ, List, Bool, true, false, refl, sym, ap, ◌∙◌, if◌then◌else◌, ◌==◌}
use Rattle.command_words.specs.declared.job.Command.{Command}
use Rattle.command_words.specs.declared.job.Command.TheVariants as commands
use Rattle.command_words.specs.declared.job.Key.{Key}
use Rattle.command_words.specs.declared.job.Key.TheVariants as keys
use Rattle.command_words.specs.declared.job.Show.{Show}
use Rattle.command_words.specs.declared.job.Show.TheVariants as shows
use Rattle.command_words.specs.declared.job.EngineKind.{EngineKind}
use Rattle.command_words.specs.declared.job.EngineKind.TheVariants as engines
use Rattle.command_words.specs.declared.value.Value.{Value}
use Rattle.command_words.specs.declared.value.Value.TheVariants.{Count, Shown, Answer, Kind}
use Rattle.command_words.specs.Keys.{command_name}
use Rattle.command_words.specs.Values.{IsAnswer, IsEngine, IsModulus, IsNumberFrom, IsShow, IsValue, answer_name, engine_name, show_name}
use Rattle.command_words.proofs.Digits.{one_number}
use Rattle.command_words.proofs.ReadBack.{one_by}

second_command : List ℕ → Command
second_command [] = commands.Make
second_command (b ∷ bs) = if b == 97 then commands.Make else commands.Module

-- the command that a text names, and some command where it names none
pub command_of : List ℕ → Command
command_of [] = commands.Gb
command_of (b ∷ bs) = if b == 103 then commands.Gb else if b == 99 then commands.Chains else if b == 110 then commands.Normal else second_command bs

-- the name of a command is read as that command
pub command_of-name : (command : Command) → command_of (command_name command) ≡ command
unfolding command_of second_command
command_of-name commands.Gb = refl
command_of-name command = refl

-- commands with the same name are one
pub one_command : (a b : Command) → command_name a ≡ command_name b → a ≡ b
one_command = one_by command_name command_of command_of-name

second_show : List ℕ → Show
second_show [] = shows.Basis
second_show (b ∷ bs) = if b == 97 then shows.Basis else shows.Both

-- the value of `show` that a text names, and some value where it names none
pub show_of : List ℕ → Show
show_of [] = shows.Basis
show_of (b ∷ bs) = if b == 115 then shows.Series else second_show bs

-- the name of such a value is read as that value
pub show_of-name : (show : Show) → show_of (show_name show) ≡ show
unfolding show_of second_show
show_of-name shows.Basis = refl
show_of-name show = refl

-- the engine that a text names, and some engine where it names none
pub engine_of : List ℕ → EngineKind
engine_of [] = engines.Race
engine_of (b ∷ bs) = if b == 114 then engines.Race else if b == 99 then engines.Core else if b == 115 then engines.Seq else engines.Plain

-- the name of an engine is read as that engine
pub engine_of-name : (engine : EngineKind) → engine_of (engine_name engine) ≡ engine
unfolding engine_of
engine_of-name engines.Race = refl
engine_of-name engine = refl

-- yes where a text begins with `y`, and else no
pub answer_of : List ℕ → Bool
answer_of [] = false
answer_of (b ∷ bs) = b == 121

-- yes and no are read as they are written
pub answer_of-name : (answer : Bool) → answer_of (answer_name answer) ≡ answer
unfolding answer_of
answer_of-name true = refl
answer_of-name false = refl

same_number : (low high : ℕ) (text : List ℕ) (v w : Value) → IsNumberFrom low high text v → IsNumberFrom low high text w → v ≡ w
same_number low high text v w p q = p.value_is ∙ ap Count (one_number text p.number q.number p.is_number q.is_number) ∙ sym q.value_is

same_modulus : (text : List ℕ) (v w : Value) → IsModulus text v → IsModulus text w → v ≡ w
same_modulus text v w p q = p.value_is ∙ ap Count (one_number text p.number q.number p.is_number q.is_number) ∙ sym q.value_is

-- a text is the name of one value of its kind
same_named : {A : Type 0} (name : A → List ℕ) (read : List ℕ → A) → ((a : A) → read (name a) ≡ a) → (make : A → Value) (text : List ℕ) (v w : Value) →
    (a : A) × (text ≡ name a) × (v ≡ make a) → (a : A) × (text ≡ name a) × (w ≡ make a) → v ≡ w
same_named name read back make text v w p q = p.2 ∙ ap make (one_by name read back p.0 q.0 (sym p.1 ∙ q.1)) ∙ sym q.2

same_show : (text : List ℕ) (v w : Value) → IsShow text v → IsShow text w → v ≡ w
same_show = same_named show_name show_of show_of-name Shown

same_answer : (text : List ℕ) (v w : Value) → IsAnswer text v → IsAnswer text w → v ≡ w
same_answer = same_named answer_name answer_of answer_of-name Answer

same_engine : (text : List ℕ) (v w : Value) → IsEngine text v → IsEngine text w → v ≡ w
same_engine = same_named engine_name engine_of engine_of-name Kind

-- a text is at most one value of a key
pub one_value : (key : Key) (text : List ℕ) (v w : Value) → IsValue key text v → IsValue key text w → v ≡ w
one_value keys.Mod text v w p q = same_modulus text v w p q
one_value keys.Deg text v w p q = same_number 1 64 text v w p q
one_value keys.Workers text v w p q = same_number 1 64 text v w p q
one_value keys.Show text v w p q = same_show text v w p q
one_value keys.Trace text v w p q = same_answer text v w p q
one_value keys.Engine text v w p q = same_engine text v w p q
one_value keys.Schedule text v w p q = same_number 0 4294967295 text v w p q
one_value keys.Number text v w p q = same_number 0 4294967295 text v w p q
one_value keys.Vars text v w p q = same_number 2 33 text v w p q
one_value keys.Gens text v w p q = same_number 1 64 text v w p q
one_value keys.List text v w p q = same_answer text v w p q
one_value keys.Ask text v w p q = same_number 1 4096 text v w p q
