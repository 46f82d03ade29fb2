-- What a word says, and why it is refused.
use Rattle.std.specs.Prelude.{ℕ, ◌≡◌, ◌+◌, List, ◌++◌, Contains, codes, length}
use Rattle.command_words.specs.declared.job.Command.{Command}
use Rattle.command_words.specs.declared.job.Key.{Key}
use Rattle.command_words.specs.declared.job.UsageFault.{UsageFault}
use Rattle.command_words.specs.declared.job.UsageFault.TheVariants.{UnknownKey, RepeatedKey, BadValue}
use Rattle.command_words.specs.declared.value.Value.{Value}
use Rattle.command_words.specs.Keys.{keys_of, name_of}
use Rattle.command_words.specs.Values.{IsValue}

-- the word is the key, `=` and the text
abbrev pub IsWordOf : Key → List ℕ → List ℕ → Type 0
IsWordOf key text word = word ≡ name_of key ++ (codes "=" ++ text)

-- the word has the key
pub record HasKey (key : Key) (word : List ℕ) : Type 0 where
  pub text : List ℕ
  pub word_is : IsWordOf key text word

-- one of the words has the key
pub record Stands (words : List (List ℕ)) (key : Key) : Type 0 where
  pub word : List ℕ
  pub among : Contains words word
  pub has_key : HasKey key word

-- the word says this value of the key
pub record Says (key : Key) (word : List ℕ) (value : Value) : Type 0 where
  pub text : List ℕ
  pub word_is : IsWordOf key text word
  pub is_value : IsValue key text value

-- the word has no key of the command
abbrev pub IsUnknown : Command → List ℕ → Type 0
IsUnknown command word = (key : Key) → Contains (keys_of command) key → HasKey key word → ⊥

-- it has a key of the command, which stands before
pub record IsRepeated (command : Command) (before : List (List ℕ)) (word : List ℕ) : Type 0 where
  pub key : Key
  pub of_command : Contains (keys_of command) key
  pub has_key : HasKey key word
  pub stands : Stands before key

-- it has a key of the command for the first time, and no value of it
pub record IsBad (command : Command) (before : List (List ℕ)) (word : List ℕ) : Type 0 where
  pub key : Key
  pub of_command : Contains (keys_of command) key
  pub has_key : HasKey key word
  pub first : Stands before key → ⊥
  pub no_value : (value : Value) → Says key word value → ⊥

-- a word after the command and these words is refused so; the command is word 1
abbrev pub IsRefused : Command → List (List ℕ) → List ℕ → UsageFault → Type 0
IsRefused command before word (UnknownKey n) = (n ≡ length before + 2) × IsUnknown command word
IsRefused command before word (RepeatedKey n) = (n ≡ length before + 2) × IsRepeated command before word
IsRefused command before word (BadValue n) = (n ≡ length before + 2) × IsBad command before word
IsRefused command before word fault = ⊥
