-- Words have an answer.
use Rattle.std.proofs.Common.{◌≡◌, ◌⊎◌, ◌+◌, ℕ, List, [], ◌∷◌, ◌++◌, length, replicate, set, refl, sym, ap, inl, inr, subst, append_assoc, false}
use Rattle.std.proofs.Common.{Option, Some, None, Result, Ok, Err}
use Rattle.std.specs.Prelude.{All, IsSome}
use Rattle.std.proofs.lemmas.List.{append-nil}
use Rattle.std.proofs.lemmas.List.Elements.{All-cons, All-nil}
use Rattle.command_words.specs.declared.job.Command.{Command}
use Rattle.command_words.specs.declared.job.Key.{Key}
use Rattle.command_words.specs.declared.job.Key.TheVariants as keys
use Rattle.command_words.specs.declared.job.Job.{Job}
use Rattle.command_words.specs.declared.job.Show.TheVariants as shows
use Rattle.command_words.specs.declared.job.EngineKind.TheVariants as engines
use Rattle.command_words.specs.declared.job.UsageFault.{UsageFault}
use Rattle.command_words.specs.declared.job.UsageFault.TheVariants.{NoCommand, UnknownCommand, UnknownKey, RepeatedKey, BadValue, MissingKey}
use Rattle.command_words.specs.declared.value.Value.{Value}
use Rattle.command_words.specs.Keys.{command_name, keys_of, required_of}
use Rattle.command_words.specs.Refusals.{IsRefused}
use Rattle.command_words.specs.JobOf.{HasFault, HasOneAnswer, IsAnswerTo, IsFaultOf, IsFirstRefusal, IsJob, IsUsageFault}
use Rattle.command_words.specs.Draft.{IsDraft, IsFirstGap, answer_in, count_in, engine_in, kept, place_of, show_in}
use Rattle.command_words.proofs.Decided.{command_or_not, key_or_not, said_or_not}
use Rattle.command_words.proofs.Drafts.{draft_more, draft_none, kept_stands, unkept}
use Rattle.command_words.proofs.Jobs.{are_values, field_is, job_is, missing_is}
use Rattle.command_words.proofs.OneAnswer.{one_answer}

kept_or_not : (o : Option Value) → (o ≡ None) ⊎ IsSome o
kept_or_not None = inl refl
kept_or_not (Some v) = inr refl

all_or_gap : (row : List Key) (values : List (Option Value)) → All (λ (key : Key). IsSome (kept values key)) row ⊎ ((key : Key) × IsFirstGap row values key)
all_or_gap [] values = inl (All-nil (λ (key : Key). IsSome (kept values key)))
all_or_gap (k ∷ row) values = elim (kept_or_not (kept values k)) [
  | inl none ↦ inr (k, record { earlier = []; later = row; keys_are = refl; kept_before = All-nil (λ (key : Key). IsSome (kept values key)); gap = none })
  | inr some ↦ elim (all_or_gap row values) [
    | inl all ↦ inl (All-cons (λ (key : Key). IsSome (kept values key)) k row some all)
    | inr g ↦ inr (
      g.0,
      record {
        earlier = k ∷ g.1.earlier;
        later = g.1.later;
        keys_are = ap (λ (ks : List Key). k ∷ ks) g.1.keys_are;
        kept_before = All-cons (λ (key : Key). IsSome (kept values key)) k g.1.earlier some g.1.kept_before;
        gap = g.1.gap;
      },
    )
  ]
]

-- the job with these values
job_with : Command → List (Option Value) → Job
job_with command values = record {
  command = command;
  modulus = count_in (kept values keys.Mod) 0;
  bound = count_in (kept values keys.Deg) 0;
  workers = count_in (kept values keys.Workers) 1;
  show = show_in (kept values keys.Show) shows.Both;
  trace = answer_in (kept values keys.Trace) false;
  engine = engine_in (kept values keys.Engine) engines.Race;
  schedule = count_in (kept values keys.Schedule) 0;
  number = count_in (kept values keys.Number) 0;
  letters = count_in (kept values keys.Vars) 0;
  gens = count_in (kept values keys.Gens) 0;
  list = answer_in (kept values keys.List) false;
  ask = count_in (kept values keys.Ask) 0;
}

job_there : (command : Command) (rest : List (List ℕ)) (values : List (Option Value)) → IsDraft command rest values →
    All (λ (key : Key). IsSome (kept values key)) (required_of command) → IsJob (command_name command ∷ rest) (job_with command values)
unfolding job_with
job_there command rest values draft all =
    job_is command rest values draft (command_name command ∷ rest) (job_with command values) refl refl all
    (field_is values (job_with command values) (are_values command rest values draft) (record {
      modulus = refl;
      bound = refl;
      workers = refl;
      show = refl;
      trace = refl;
      engine = refl;
      schedule = refl;
      number = refl;
      letters = refl;
      gens = refl;
      list = refl;
      ask = refl;
    }))

-- a fault of the words after the command, or a job
abbrev Outcome : Command → List (List ℕ) → Type 0
Outcome command rest = ((fault : UsageFault) × IsFaultOf command rest fault) ⊎ ((job : Job) × IsJob (command_name command ∷ rest) job)

module _ (command : Command) where
  at_end : (rest : List (List ℕ)) (values : List (Option Value)) → IsDraft command rest values → Outcome command rest
  at_end rest values draft = elim (all_or_gap (required_of command) values) [
    | inl all ↦ inr (job_with command values, job_there command rest values draft all)
    | inr g ↦ inl (MissingKey g.0, (draft.taken, missing_is command rest values draft (required_of command) g.0 g.1))
  ]

  refusal : (words : List (List ℕ)) (values : List (Option Value)) (word : List ℕ) (left : List (List ℕ)) (fault : UsageFault) →
      IsDraft command words values → IsRefused command words word fault → IsFirstRefusal command (words ++ word ∷ left) fault
  refusal words values word left fault draft refused = record {
    before = words;
    word = word;
    after = left;
    words_are = refl;
    taken = draft.taken;
    refused = refused;
  }

  from : (left words : List (List ℕ)) (values : List (Option Value)) → IsDraft command words values → Outcome command (words ++ left)
  from [] words values draft = subst (Outcome command) (sym (append-nil words)) (at_end words values draft)
  from (word ∷ left) words values draft = elim (key_or_not (keys_of command) word) [
    | inr none ↦ inl (
      UnknownKey (length words + 2),
      refusal words values word left (UnknownKey (length words + 2)) draft
          (refl, λ key m has. none key (m, has)),
    )
    | inl k ↦ elim (kept_or_not (kept values k.0)) [
      | inr some ↦ inl (
        RepeatedKey (length words + 2),
        refusal words values word left (RepeatedKey (length words + 2)) draft
            (refl, record { key = k.0; of_command = k.1.0; has_key = k.1.1; stands = kept_stands command words values draft k.0 some }),
      )
      | inl gap ↦ elim (said_or_not k.0 word k.1.1) [
        | inr none ↦ inl (
          BadValue (length words + 2),
          refusal words values word left (BadValue (length words + 2)) draft (
            refl,
            record {
              key = k.0;
              of_command = k.1.0;
              has_key = k.1.1;
              first = unkept command words values draft k.0 gap;
              no_value = none;
            },
          ),
        )
        | inl v ↦ (
            let new = set values (place_of k.0) (Some v.0) in
            let more = draft_more command words values draft new word (record
            { key = k.0; of_command = k.1.0; value = v.0; says = v.1; first = gap; new_is = refl }) in
            subst (Outcome command) (append_assoc words (word ∷ []) left) (from left (words ++ word ∷ []) new more))
      ]
    ]
  ]

usage_fault : (words : List (List ℕ)) (fault : UsageFault) → HasFault words fault → IsUsageFault words fault
usage_fault words NoCommand h = absurd h.fault_is.refused
usage_fault words UnknownCommand h = absurd h.fault_is.refused
usage_fault words fault h = h

-- an answer to words
abbrev Answered : List (List ℕ) → Type 0
Answered words = (answer : Result Job UsageFault) × IsAnswerTo words answer

some_answer : (words : List (List ℕ)) → Answered words
some_answer [] = (Err NoCommand, refl)
some_answer (first ∷ rest) = elim (command_or_not first) [
  | inl c ↦ (
      let none : List (Option Value) = replicate 12 None in
      let whole = ap (λ (w : List ℕ). w ∷ rest) (sym c.1) in
      let here : Answered (command_name c.0 ∷ rest) = elim (from c.0 rest [] none (draft_none c.0 none refl)) [
        | inl f ↦ (Err f.0, usage_fault (command_name c.0 ∷ rest) f.0 (record { command = c.0; rest = rest; words_are = refl; fault_is = f.1 }))
        | inr j ↦ (Ok j.0, j.1)
      ] in
      subst Answered whole here)
  | inr none ↦ (Err UnknownCommand, record { first = first; rest = rest; words_are = refl; unknown = none })
]

-- words have exactly one answer, a job or a fault
pub has_one_answer : (words : List (List ℕ)) → HasOneAnswer words
has_one_answer words =
    let some = some_answer words in
    record { answer = some.0; is_answer = some.1; only = λ other is. one_answer words other some.0 is some.1 }
