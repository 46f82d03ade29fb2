-- The values of each key, and where a job has them.
use Rattle.std.specs.Prelude.{ℕ, ◌≡◌, ◌≤◌, Bool, true, false, List, Contains, codes}
use Rattle.field_table.specs.Residues.{listed_moduli}
use Rattle.command_words.specs.declared.job.Key.{Key}
use Rattle.command_words.specs.declared.job.Key.TheVariants as keys
use Rattle.command_words.specs.declared.job.Show.{Show}
use Rattle.command_words.specs.declared.job.Show.TheVariants as shows
use Rattle.command_words.specs.declared.job.EngineKind.{EngineKind}
use Rattle.command_words.specs.declared.job.EngineKind.TheVariants as engines
use Rattle.command_words.specs.declared.job.Job.{Job}
use Rattle.command_words.specs.declared.value.Value.{Value}
use Rattle.command_words.specs.declared.value.Value.TheVariants.{Count, Shown, Answer, Kind}
use Rattle.command_words.specs.Numbers.{IsNumber}

-- how the values that are no numbers are written
abbrev pub show_name : Show → List ℕ
show_name shows.Basis = codes "basis"
show_name shows.Series = codes "series"
show_name shows.Both = codes "both"

abbrev pub answer_name : Bool → List ℕ
answer_name true = codes "yes"
answer_name false = codes "no"

abbrev pub engine_name : EngineKind → List ℕ
engine_name engines.Race = codes "race"
engine_name engines.Core = codes "core"
engine_name engines.Seq = codes "seq"
engine_name engines.Plain = codes "plain"

-- the text is a number in these bounds
pub record IsNumberFrom (low high : ℕ) (text : List ℕ) (value : Value) : Type 0 where
  pub number : ℕ
  pub is_number : IsNumber text number
  pub above : low ≤ number
  pub below : number ≤ high
  pub value_is : value ≡ Count number

-- the text is a listed modulus
pub record IsModulus (text : List ℕ) (value : Value) : Type 0 where
  pub number : ℕ
  pub is_number : IsNumber text number
  pub listed : Contains listed_moduli number
  pub value_is : value ≡ Count number

-- the text is the name of such a value
abbrev pub IsShow : List ℕ → Value → Type 0
IsShow text value = (show : Show) × (text ≡ show_name show) × (value ≡ Shown show)

abbrev pub IsAnswer : List ℕ → Value → Type 0
IsAnswer text value = (answer : Bool) × (text ≡ answer_name answer) × (value ≡ Answer answer)

abbrev pub IsEngine : List ℕ → Value → Type 0
IsEngine text value = (engine : EngineKind) × (text ≡ engine_name engine) × (value ≡ Kind engine)

-- the text is this value of the key
abbrev pub IsValue : Key → List ℕ → Value → Type 0
IsValue keys.Mod = IsModulus
IsValue keys.Deg = IsNumberFrom 1 64
IsValue keys.Workers = IsNumberFrom 1 64
IsValue keys.Show = IsShow
IsValue keys.Trace = IsAnswer
IsValue keys.Engine = IsEngine
IsValue keys.Schedule = IsNumberFrom 0 4294967295
IsValue keys.Number = IsNumberFrom 0 4294967295
IsValue keys.Vars = IsNumberFrom 2 33
IsValue keys.Gens = IsNumberFrom 1 64
IsValue keys.List = IsAnswer
IsValue keys.Ask = IsNumberFrom 1 4096

-- the value of a key that no word has
abbrev pub default_of : Key → Value
default_of keys.Mod = Count 0
default_of keys.Deg = Count 0
default_of keys.Workers = Count 1
default_of keys.Show = Shown shows.Both
default_of keys.Trace = Answer false
default_of keys.Engine = Kind engines.Race
default_of keys.Schedule = Count 0
default_of keys.Number = Count 0
default_of keys.Vars = Count 0
default_of keys.Gens = Count 0
default_of keys.List = Answer false
default_of keys.Ask = Count 0

-- where a job has the value of a key
abbrev pub value_at : Key → Job → Value
value_at keys.Mod job = Count job.modulus
value_at keys.Deg job = Count job.bound
value_at keys.Workers job = Count job.workers
value_at keys.Show job = Shown job.show
value_at keys.Trace job = Answer job.trace
value_at keys.Engine job = Kind job.engine
value_at keys.Schedule job = Count job.schedule
value_at keys.Number job = Count job.number
value_at keys.Vars job = Count job.letters
value_at keys.Gens job = Count job.gens
value_at keys.List job = Answer job.list
value_at keys.Ask job = Count job.ask
