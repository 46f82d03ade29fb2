-- What the words of a job say of it, and that words are one job or have one fault.
use Rattle.std.proofs.Common.{◌≡◌, ◌≤◌, ℕ, List, All, sym, ◌∙◌, inl, inr, arith, subst, Result, Ok, Err, lit<}
use Rattle.std.specs.List.{Contains}
use Rattle.std.proofs.lemmas.List.Elements.{All-contains}
use Rattle.field_table.specs.Residues.{IsFieldModulus, listed_moduli}
use Rattle.command_words.specs.declared.job.Command.{Command}
use Rattle.command_words.specs.declared.job.Command.TheVariants.{Gb, Make, Module, Normal}
use Rattle.command_words.specs.declared.job.Key.{Key}
use Rattle.command_words.specs.declared.job.Key.TheVariants as keys
use Rattle.command_words.specs.declared.job.Job.{Job}
use Rattle.command_words.specs.declared.job.UsageFault.{UsageFault}
use Rattle.command_words.specs.declared.value.Value.TheVariants.{Count}
use Rattle.command_words.specs.JobOf.{HasOneAnswer, IsJob, IsUsageFault, IsValueIn}
use Rattle.command_words.specs.Keys.{required_of}
use Rattle.command_words.specs.Refusals.{Stands}
use Rattle.command_words.specs.Values.{IsNumberFrom, IsValue, value_at}
use Rattle.command_words.proofs.Digits.{modulus_below}
use Rattle.bergman_cli.specs.Jobs.{IsSound}

one_count : (m n : ℕ) → Count m ≡ Count n → m ≡ n
one_count m n e = cc

-- a required key has a value that a word says
told : (words : List (List ℕ)) (job : Job) (key : Key) → (j : IsJob words job) → Stands j.rest key → (text : List ℕ) × IsValue key text (value_at key job)
told words job key j stands = by_value (j.values key)
  where
    by_value : IsValueIn j.rest key (value_at key job) → (text : List ℕ) × IsValue key text (value_at key job)
    by_value (inl t) = (t.says.text, t.says.is_value)
    by_value (inr d) = absurd (d.0 stands)

-- the number that it says is in its bounds
in_range : (low high n : ℕ) (text : List ℕ) → IsNumberFrom low high text (Count n) → (low ≤ n) × (n ≤ high)
in_range low high n text v = let same = one_count n v.number v.value_is in (omega (arith, same, v.above), omega (arith, same, v.below))

-- the workers, whether a word tells them or not
pub workers_range : (words : List (List ℕ)) (job : Job) → IsJob words job → (1 ≤ job.workers) × (job.workers ≤ 64)
workers_range words job j = by_value (j.values keys.Workers)
  where
    by_value : IsValueIn j.rest keys.Workers (value_at keys.Workers job) → (1 ≤ job.workers) × (job.workers ≤ 64)
    by_value (inl t) = in_range 1 64 job.workers t.says.text t.says.is_value
    by_value (inr d) = let same = one_count job.workers 1 d.1 in (omega (arith, same), omega (arith, same))

module _ (words : List (List ℕ)) (job : Job) (j : IsJob words job) where
  abbrev AllStand : Command → Type 0
  AllStand command = All (Stands j.rest) (required_of command)

  -- each command has a modulus and a bound
  modulus_stands : (command : Command) → AllStand command → Stands j.rest keys.Mod
  modulus_stands Gb all = all 0 keys.Mod (lit< tt)
  modulus_stands command all = all 0 keys.Mod (lit< tt)

  bound_stands : (command : Command) → AllStand command → Stands j.rest keys.Deg
  bound_stands Gb all = all 1 keys.Deg (lit< tt)
  bound_stands command all = all 1 keys.Deg (lit< tt)

  -- the keys of this command
  required : (command : Command) → job.command ≡ command → AllStand command
  required command is = subst AllStand is j.complete

  -- the modulus of a job is a listed one
  pub listed : Contains listed_moduli job.modulus
  listed =
      let t = told words job keys.Mod j (modulus_stands job.command j.complete) in
      subst (Contains listed_moduli) (sym (one_count job.modulus t.1.number t.1.value_is)) t.1.listed

  -- its bound is from 1 to 64
  pub bound_range : (1 ≤ job.bound) × (job.bound ≤ 64)
  bound_range = let t = told words job keys.Deg j (bound_stands job.command j.complete) in in_range 1 64 job.bound t.0 t.1

  letters_range : job.command ≡ Make → (2 ≤ job.letters) × (job.letters ≤ 33)
  letters_range is = let t = told words job keys.Vars j (required Make is 3 keys.Vars (lit< tt)) in in_range 2 33 job.letters t.0 t.1

  gens_range : job.command ≡ Module → (1 ≤ job.gens) × (job.gens ≤ 64)
  gens_range is = let t = told words job keys.Gens j (required Module is 2 keys.Gens (lit< tt)) in in_range 1 64 job.gens t.0 t.1

  ask_range : job.command ≡ Normal → (1 ≤ job.ask) × (job.ask ≤ 4096)
  ask_range is = let t = told words job keys.Ask j (required Normal is 2 keys.Ask (lit< tt)) in in_range 1 4096 job.ask t.0 t.1

-- a job has a worker or more
pub some_workers : (words : List (List ℕ)) (job : Job) → IsJob words job → 1 ≤ job.workers
some_workers words job j = (workers_range words job j).0

-- it has at most 64 workers
pub few_workers : (words : List (List ℕ)) (job : Job) → IsJob words job → job.workers ≤ 64
few_workers words job j = (workers_range words job j).1

-- the numbers of a job are in their ranges
pub sound_job : (words : List (List ℕ)) (job : Job) → IsJob words job → All IsFieldModulus listed_moduli → IsSound job
sound_job words job j all = record {
  modulus = All-contains IsFieldModulus listed_moduli job.modulus all (listed words job j);
  small = omega (arith, modulus_below job.modulus (listed words job j));
  some_degree = (bound_range words job j).0;
  few_degrees = (bound_range words job j).1;
  letters = letters_range words job j;
  gens = gens_range words job j;
  ask = ask_range words job j;
}

module _ (words : List (List ℕ)) (one : HasOneAnswer words) where
  same_answer : (a b : Result Job UsageFault) → a ≡ one.answer → b ≡ one.answer → a ≡ b
  same_answer a b e f = e ∙ sym f

  -- two jobs of the same words are one
  pub one_job : (j k : Job) → IsJob words j → IsJob words k → j ≡ k
  one_job j k a b = let e : Ok j ≡ Ok k = same_answer (Ok j) (Ok k) (one.only (Ok j) a) (one.only (Ok k) b) in cc

  -- words that are a job have no usage fault
  pub no_fault : (j : Job) (f : UsageFault) → IsJob words j → IsUsageFault words f → ⊥
  no_fault j f a b = let e : Ok j ≡ Err f = same_answer (Ok j) (Err f) (one.only (Ok j) a) (one.only (Err f) b) in cc

  -- two usage faults of the same words are one
  pub one_fault : (f g : UsageFault) → IsUsageFault words f → IsUsageFault words g → f ≡ g
  one_fault f g a b = let e : Err f ≡ Err g = same_answer (Err f) (Err g) (one.only (Err f) a) (one.only (Err g) b) in cc
