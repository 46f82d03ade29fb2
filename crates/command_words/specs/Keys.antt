-- The tables of a command line: the commands, and the keys of each.
use Rattle.std.specs.Prelude.{ℕ, List, [], ◌∷◌, ◌++◌, codes}
use Rattle.command_words.specs.declared.job.Command.{Command}
use Rattle.command_words.specs.declared.job.Command.TheVariants as commands
use Rattle.command_words.specs.declared.job.Key.{Key}
use Rattle.command_words.specs.declared.job.Key.TheVariants as keys

-- how a command is written
abbrev pub command_name : Command → List ℕ
command_name commands.Gb = codes "gb"
command_name commands.Make = codes "make"
command_name commands.Module = codes "module"
command_name commands.Chains = codes "chains"
command_name commands.Normal = codes "normal"

-- how a key is written
abbrev pub name_of : Key → List ℕ
name_of keys.Mod = codes "mod"
name_of keys.Deg = codes "deg"
name_of keys.Workers = codes "workers"
name_of keys.Show = codes "show"
name_of keys.Trace = codes "trace"
name_of keys.Engine = codes "engine"
name_of keys.Schedule = codes "schedule"
name_of keys.Number = codes "number"
name_of keys.Vars = codes "vars"
name_of keys.Gens = codes "gens"
name_of keys.List = codes "list"
name_of keys.Ask = codes "ask"

-- the keys that a command must have, in the order in which a missing one is named
abbrev pub required_of : Command → List Key
required_of commands.Gb = keys.Mod ∷ keys.Deg ∷ []
required_of commands.Make = keys.Mod ∷ keys.Deg ∷ keys.Number ∷ keys.Vars ∷ []
required_of commands.Module = keys.Mod ∷ keys.Deg ∷ keys.Gens ∷ []
required_of commands.Chains = keys.Mod ∷ keys.Deg ∷ []
required_of commands.Normal = keys.Mod ∷ keys.Deg ∷ keys.Ask ∷ []

-- the keys that it may have
abbrev pub further_of : Command → List Key
further_of commands.Gb = keys.Workers ∷ keys.Show ∷ keys.Trace ∷ keys.Engine ∷ keys.Schedule ∷ []
further_of commands.Make = keys.Workers ∷ keys.Engine ∷ keys.Schedule ∷ []
further_of commands.Module = keys.Workers ∷ keys.Show ∷ keys.Engine ∷ keys.Schedule ∷ []
further_of commands.Chains = keys.Workers ∷ keys.Engine ∷ keys.Schedule ∷ keys.List ∷ []
further_of commands.Normal = keys.Workers ∷ keys.Engine ∷ keys.Schedule ∷ []

-- all of its keys
abbrev pub keys_of : Command → List Key
keys_of command = required_of command ++ further_of command
