-- What is kept of the words that were taken.
use Rattle.std.specs.Prelude.{ℕ, ◌≡◌, ◌+◌, Bool, List, [], ◌∷◌, ◌++◌, All, Contains, Option, Some, None, IsSome}
use Rattle.std.specs.Prelude.{MatchOption, length, slice_index_or, slice_set}
use Rattle.command_words.specs.declared.job.Command.{Command}
use Rattle.command_words.specs.declared.job.Key.{Key}
use Rattle.command_words.specs.declared.job.Key.TheVariants as keys
use Rattle.command_words.specs.declared.job.Show.{Show}
use Rattle.command_words.specs.declared.job.EngineKind.{EngineKind}
use Rattle.command_words.specs.declared.job.UsageFault.{UsageFault}
use Rattle.command_words.specs.declared.job.UsageFault.TheVariants.{UnknownKey, RepeatedKey, BadValue}
use Rattle.command_words.specs.declared.value.Value.{Value}
use Rattle.command_words.specs.declared.value.Value.TheVariants.{Count, Shown, Answer, Kind}
use Rattle.command_words.specs.Keys.{keys_of}
use Rattle.command_words.specs.Refusals.{HasKey, IsUnknown, Says, Stands}
use Rattle.command_words.specs.JobOf.{AreTaken, IsTold}

-- the keys in the order of their declaration
abbrev pub place_of : Key → ℕ
place_of keys.Mod = 0
place_of keys.Deg = 1
place_of keys.Workers = 2
place_of keys.Show = 3
place_of keys.Trace = 4
place_of keys.Engine = 5
place_of keys.Schedule = 6
place_of keys.Number = 7
place_of keys.Vars = 8
place_of keys.Gens = 9
place_of keys.List = 10
place_of keys.Ask = 11

-- the value that is kept of the key
abbrev pub kept : List (Option Value) → Key → Option Value
kept values key = slice_index_or values (place_of key) None

-- a key of the command for which nothing was kept has this value now, which the word says
pub record Takes (command : Command) (old new : List (Option Value)) (word : List ℕ) : Type 0 where
  pub key : Key
  pub of_command : Contains (keys_of command) key
  pub value : Value
  pub says : Says key word value
  pub first : kept old key ≡ None
  pub new_is : new ≡ slice_set old (place_of key) (Some value)

-- the word has a key of the command for which a value is kept
pub record IsKeptBefore (command : Command) (values : List (Option Value)) (word : List ℕ) : Type 0 where
  pub key : Key
  pub of_command : Contains (keys_of command) key
  pub has_key : HasKey key word
  pub before : IsSome (kept values key)

-- it has a key of the command for which nothing is kept, and no value of it
pub record HasNoValue (command : Command) (values : List (Option Value)) (word : List ℕ) : Type 0 where
  pub key : Key
  pub of_command : Contains (keys_of command) key
  pub has_key : HasKey key word
  pub first : kept values key ≡ None
  pub no_value : (value : Value) → Says key word value → ⊥

-- the word of this number is refused so
abbrev pub IsRefusal : Command → List (Option Value) → List ℕ → ℕ → UsageFault → Type 0
IsRefusal command values word number (UnknownKey n) = (n ≡ number) × IsUnknown command word
IsRefusal command values word number (RepeatedKey n) = (n ≡ number) × IsKeptBefore command values word
IsRefusal command values word number (BadValue n) = (n ≡ number) × HasNoValue command values word
IsRefusal command values word number fault = ⊥

-- the first of the keys of which nothing is kept
pub record IsFirstGap (keys : List Key) (values : List (Option Value)) (key : Key) : Type 0 where
  pub earlier : List Key
  pub later : List Key
  pub keys_are : keys ≡ earlier ++ key ∷ later
  pub kept_before : All (λ k. IsSome (kept values k)) earlier
  pub gap : kept values key ≡ None

-- a value of the asked kind, or else this
abbrev pub count_in : Option Value → ℕ → ℕ
count_in (Some (Count n)) otherwise = n
count_in value otherwise = otherwise

abbrev pub answer_in : Option Value → Bool → Bool
answer_in (Some (Answer answer)) otherwise = answer
answer_in value otherwise = otherwise

abbrev pub show_in : Option Value → Show → Show
show_in (Some (Shown show)) otherwise = show
show_in value otherwise = otherwise

abbrev pub engine_in : Option Value → EngineKind → EngineKind
engine_in (Some (Kind engine)) otherwise = engine
engine_in value otherwise = otherwise

-- of how many keys a value is kept
abbrev pub filled : List (Option Value) → ℕ
filled [] = 0
filled (None ∷ values) = filled values
filled (Some value ∷ values) = filled values + 1

-- these words after the command were taken, and what they say is kept
pub record IsDraft (command : Command) (words : List (List ℕ)) (values : List (Option Value)) : Type 0 where
  pub taken : AreTaken command words
  pub told : (key : Key) → MatchOption (kept values key) (Stands words key → ⊥) (IsTold words key)
  pub size : length values ≡ 12
  pub each_once : filled values ≡ length words
