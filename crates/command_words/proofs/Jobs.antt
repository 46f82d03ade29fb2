-- From what is kept to the job, or to the key that is missing.
use Rattle.std.proofs.Common.{◌≡◌, ℕ, List, ◌∷◌, Bool, refl, sym, ap, ◌∙◌, inl, inr, Option, Some, None, subst, false, unwrap_or}
use Rattle.std.specs.Prelude.{All, IfSome, IsSome, MatchOption}
use Rattle.std.proofs.lemmas.List.Elements.{All-weaker}
use Rattle.command_words.specs.declared.job.Command.{Command}
use Rattle.command_words.specs.declared.job.Key.{Key}
use Rattle.command_words.specs.declared.job.Key.TheVariants as keys
use Rattle.command_words.specs.declared.job.Show.{Show}
use Rattle.command_words.specs.declared.job.Show.TheVariants as shows
use Rattle.command_words.specs.declared.job.EngineKind.{EngineKind}
use Rattle.command_words.specs.declared.job.EngineKind.TheVariants as engines
use Rattle.command_words.specs.declared.job.Job.{Job}
use Rattle.command_words.specs.declared.value.Value.{Value}
use Rattle.command_words.specs.declared.value.Value.TheVariants.{Count, Shown, Answer, Kind}
use Rattle.command_words.specs.Keys.{command_name, required_of}
use Rattle.command_words.specs.Values.{IsAnswer, IsEngine, IsModulus, IsNumberFrom, IsShow, IsValue, default_of, value_at}
use Rattle.command_words.specs.Refusals.{Stands}
use Rattle.command_words.specs.JobOf.{AreTaken, IsFirstMissing, IsJob, IsTold, IsValueIn}
use Rattle.command_words.specs.Draft.{IsDraft, IsFirstGap, answer_in, count_in, engine_in, kept, show_in}
use Rattle.command_words.proofs.Drafts.{kept_stands, unkept}

-- what is kept is a value of its key
abbrev pub AreValues : List (Option Value) → Type 0
AreValues values = (key : Key) → IfSome (kept values key) (λ value. (text : List ℕ) × IsValue key text value)

has_text : (words : List (List ℕ)) (key : Key) (o : Option Value) → MatchOption o (Stands words key → ⊥) (IsTold words key) →
    IfSome o (λ value. (text : List ℕ) × IsValue key text value)
has_text words key None h = tt
has_text words key (Some v) h = (h.says.text, h.says.is_value)

-- what a draft keeps of a key is a value of that key
pub are_values : (command : Command) (words : List (List ℕ)) (values : List (Option Value)) → IsDraft command words values → AreValues values
are_values command words values draft key = has_text words key (kept values key) (draft.told key)

-- what is read of a value of its kind, which a text says, or the default
value_is : {A : Type 0} (make : A → Value) (read : Option Value → A → A) → ((a d : A) → read (Some (make a)) d ≡ a) → ((d : A) → read None d ≡ d) →
    (Is : List ℕ → Value → Type 0) → ((text : List ℕ) (v : Value) → Is text v → (a : A) × (v ≡ make a)) → (o : Option Value) (d a : A) → a ≡ read o d →
    IfSome o (λ v. (text : List ℕ) × Is text v) → make a ≡ unwrap_or o (make d)
value_is make read of none Is kind None d a e h = ap make (e ∙ none d)
value_is make read of none Is kind (Some v) d a e h =
    let own = kind h.0 v h.1 in
    ap make (e ∙ ap (λ (w : Value). read (Some w) d) own.1 ∙ of own.0 d) ∙ sym own.1

count_is : (low high : ℕ) (o : Option Value) (d n : ℕ) → n ≡ count_in o d → IfSome o (λ v. (text : List ℕ) × IsNumberFrom low high text v) →
    Count n ≡ unwrap_or o (Count d)
count_is low high = value_is Count count_in (λ a d. refl) (λ d. refl) (IsNumberFrom low high) (λ text v is. (is.number, is.value_is))

modulus_is : (o : Option Value) (d n : ℕ) → n ≡ count_in o d → IfSome o (λ v. (text : List ℕ) × IsModulus text v) → Count n ≡ unwrap_or o (Count d)
modulus_is = value_is Count count_in (λ a d. refl) (λ d. refl) IsModulus (λ text v is. (is.number, is.value_is))

answer_is : (o : Option Value) (d b : Bool) → b ≡ answer_in o d → IfSome o (λ v. (text : List ℕ) × IsAnswer text v) → Answer b ≡ unwrap_or o (Answer d)
answer_is = value_is Answer answer_in (λ a d. refl) (λ d. refl) IsAnswer (λ text v is. (is.0, is.2))

show_is : (o : Option Value) (d b : Show) → b ≡ show_in o d → IfSome o (λ v. (text : List ℕ) × IsShow text v) → Shown b ≡ unwrap_or o (Shown d)
show_is = value_is Shown show_in (λ a d. refl) (λ d. refl) IsShow (λ text v is. (is.0, is.2))

engine_is : (o : Option Value) (d b : EngineKind) → b ≡ engine_in o d → IfSome o (λ v. (text : List ℕ) × IsEngine text v) → Kind b ≡ unwrap_or o (Kind d)
engine_is = value_is Kind engine_in (λ a d. refl) (λ d. refl) IsEngine (λ text v is. (is.0, is.2))

-- the fields of a job are what is kept
pub record AreFields (values : List (Option Value)) (job : Job) : Type 0 where
  pub modulus : job.modulus ≡ count_in (kept values keys.Mod) 0
  pub bound : job.bound ≡ count_in (kept values keys.Deg) 0
  pub workers : job.workers ≡ count_in (kept values keys.Workers) 1
  pub show : job.show ≡ show_in (kept values keys.Show) shows.Both
  pub trace : job.trace ≡ answer_in (kept values keys.Trace) false
  pub engine : job.engine ≡ engine_in (kept values keys.Engine) engines.Race
  pub schedule : job.schedule ≡ count_in (kept values keys.Schedule) 0
  pub number : job.number ≡ count_in (kept values keys.Number) 0
  pub letters : job.letters ≡ count_in (kept values keys.Vars) 0
  pub gens : job.gens ≡ count_in (kept values keys.Gens) 0
  pub list : job.list ≡ answer_in (kept values keys.List) false
  pub ask : job.ask ≡ count_in (kept values keys.Ask) 0

module _ (values : List (Option Value)) (job : Job) (are : AreValues values) (fields : AreFields values job) where
  -- a job with these fields has of each key the value that is kept, or else the default
  pub field_is : (key : Key) → value_at key job ≡ unwrap_or (kept values key) (default_of key)
  field_is keys.Mod = modulus_is (kept values keys.Mod) 0 job.modulus fields.modulus (are keys.Mod)
  field_is keys.Deg = count_is 1 64 (kept values keys.Deg) 0 job.bound fields.bound (are keys.Deg)
  field_is keys.Workers = count_is 1 64 (kept values keys.Workers) 1 job.workers fields.workers (are keys.Workers)
  field_is keys.Show = show_is (kept values keys.Show) shows.Both job.show fields.show (are keys.Show)
  field_is keys.Trace = answer_is (kept values keys.Trace) false job.trace fields.trace (are keys.Trace)
  field_is keys.Engine = engine_is (kept values keys.Engine) engines.Race job.engine fields.engine (are keys.Engine)
  field_is keys.Schedule = count_is 0 4294967295 (kept values keys.Schedule) 0 job.schedule fields.schedule (are keys.Schedule)
  field_is keys.Number = count_is 0 4294967295 (kept values keys.Number) 0 job.number fields.number (are keys.Number)
  field_is keys.Vars = count_is 2 33 (kept values keys.Vars) 0 job.letters fields.letters (are keys.Vars)
  field_is keys.Gens = count_is 1 64 (kept values keys.Gens) 0 job.gens fields.gens (are keys.Gens)
  field_is keys.List = answer_is (kept values keys.List) false job.list fields.list (are keys.List)
  field_is keys.Ask = count_is 1 4096 (kept values keys.Ask) 0 job.ask fields.ask (are keys.Ask)

value_in_words : (words : List (List ℕ)) (key : Key) (o : Option Value) (v : Value) →
    MatchOption o (Stands words key → ⊥) (IsTold words key) → v ≡ unwrap_or o (default_of key) → IsValueIn words key v
value_in_words words key None v h e = inr (h, e)
value_in_words words key (Some w) v h e = inl (subst (IsTold words key) (sym e) h)

module _ (command : Command) (rest : List (List ℕ)) (values : List (Option Value)) (draft : IsDraft command rest values) where
  -- it is the job of the words, where a value of each required key is kept
  pub job_is : (words : List (List ℕ)) (job : Job) → words ≡ command_name command ∷ rest → job.command ≡ command
      → All (λ key. IsSome (kept values key)) (required_of command) →
      ((key : Key) → value_at key job ≡ unwrap_or (kept values key) (default_of key)) → IsJob words job
  job_is words job whole same complete fields =
      let stand : All (Stands rest) (required_of command) = All-weaker (λ (key : Key). IsSome (kept values key)) (Stands rest)
      (kept_stands command rest values draft) (required_of command) complete in
      record {
        rest = rest;
        words_are = whole ∙ ap (λ (c : Command). command_name c ∷ rest) (sym same);
        taken = subst (λ (c : Command). AreTaken c rest) (sym same) draft.taken;
        complete = subst (λ (c : Command). All (Stands rest) (required_of c)) (sym same) stand;
        values = λ key. value_in_words rest key (kept values key) (value_at key job) (draft.told key) (fields key);
      }

  -- the first key of which nothing is kept is the first that no word has
  pub missing_is : (keys : List Key) (key : Key) → IsFirstGap keys values key → IsFirstMissing keys rest key
  missing_is keys key gap = record {
    earlier = gap.earlier;
    later = gap.later;
    keys_are = gap.keys_are;
    stand = All-weaker (λ (k : Key). IsSome (kept values k)) (Stands rest) (kept_stands command rest values draft) gap.earlier gap.kept_before;
    missing = unkept command rest values draft key gap.gap;
  }
