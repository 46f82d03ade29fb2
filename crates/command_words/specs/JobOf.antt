-- The job of the words of a command line, and the fault that they are refused with.
use Rattle.std.specs.Prelude.{ℕ, ◌≡◌, ◌≢◌, ◌⊎◌, List, [], ◌∷◌, ◌++◌, All, Contains, Result, MatchResult}
use Rattle.command_words.specs.declared.job.Command.{Command}
use Rattle.command_words.specs.declared.job.Key.{Key}
use Rattle.command_words.specs.declared.job.Job.{Job}
use Rattle.command_words.specs.declared.job.UsageFault.{UsageFault}
use Rattle.command_words.specs.declared.job.UsageFault.TheVariants.{NoCommand, UnknownCommand, MissingKey}
use Rattle.command_words.specs.declared.value.Value.{Value}
use Rattle.command_words.specs.Keys.{command_name, required_of}
use Rattle.command_words.specs.Values.{default_of, value_at}
use Rattle.command_words.specs.Refusals.{IsRefused, Says, Stands}

-- one of the words after the command is refused so
pub record HasRefused (command : Command) (words : List (List ℕ)) (fault : UsageFault) : Type 0 where
  pub before : List (List ℕ)
  pub word : List ℕ
  pub after : List (List ℕ)
  pub words_are : words ≡ before ++ word ∷ after
  pub refused : IsRefused command before word fault

-- none of them is refused
abbrev pub AreTaken : Command → List (List ℕ) → Type 0
AreTaken command words = (fault : UsageFault) → HasRefused command words fault → ⊥

-- the first of them that is refused is refused so
pub record IsFirstRefusal (command : Command) (words : List (List ℕ)) (fault : UsageFault) : Type 0 where
  pub before : List (List ℕ)
  pub word : List ℕ
  pub after : List (List ℕ)
  pub words_are : words ≡ before ++ word ∷ after
  pub taken : AreTaken command before
  pub refused : IsRefused command before word fault

-- the first of the keys that no word has
pub record IsFirstMissing (keys : List Key) (words : List (List ℕ)) (key : Key) : Type 0 where
  pub earlier : List Key
  pub later : List Key
  pub keys_are : keys ≡ earlier ++ key ∷ later
  pub stand : All (Stands words) earlier
  pub missing : Stands words key → ⊥

-- the fault of the words after a command
abbrev pub IsFaultOf : Command → List (List ℕ) → UsageFault → Type 0
IsFaultOf command words (MissingKey key) = AreTaken command words × IsFirstMissing (required_of command) words key
IsFaultOf command words fault = IsFirstRefusal command words fault

-- the first word is no command
pub record HasNoCommand (words : List (List ℕ)) : Type 0 where
  pub first : List ℕ
  pub rest : List (List ℕ)
  pub words_are : words ≡ first ∷ rest
  pub unknown : (command : Command) → first ≢ command_name command

-- the first word is a command, and the others have this fault
pub record HasFault (words : List (List ℕ)) (fault : UsageFault) : Type 0 where
  pub command : Command
  pub rest : List (List ℕ)
  pub words_are : words ≡ command_name command ∷ rest
  pub fault_is : IsFaultOf command rest fault

abbrev pub IsUsageFault : List (List ℕ) → UsageFault → Type 0
IsUsageFault words NoCommand = words ≡ []
IsUsageFault words UnknownCommand = HasNoCommand words
IsUsageFault words fault = HasFault words fault

-- one of the words says this value of the key
pub record IsTold (words : List (List ℕ)) (key : Key) (value : Value) : Type 0 where
  pub word : List ℕ
  pub among : Contains words word
  pub says : Says key word value

-- the value of the key: what a word says, or else the default
abbrev pub IsValueIn : List (List ℕ) → Key → Value → Type 0
IsValueIn words key value = IsTold words key value ⊎ ((Stands words key → ⊥) × (value ≡ default_of key))

-- no word is refused, no key is missing, and each key has its value
pub record IsJob (words : List (List ℕ)) (job : Job) : Type 0 where
  pub rest : List (List ℕ)
  pub words_are : words ≡ command_name job.command ∷ rest
  pub taken : AreTaken job.command rest
  pub complete : All (Stands rest) (required_of job.command)
  pub values : (key : Key) → IsValueIn rest key (value_at key job)

-- the words have this job or this fault
abbrev pub IsAnswerTo : List (List ℕ) → Result Job UsageFault → Type 0
IsAnswerTo words answer = MatchResult answer (IsJob words) (IsUsageFault words)

-- exactly one job or fault
pub record HasOneAnswer (words : List (List ℕ)) : Type 0 where
  pub answer : Result Job UsageFault
  pub is_answer : IsAnswerTo words answer
  pub only : (other : Result Job UsageFault) → IsAnswerTo words other → other ≡ answer
