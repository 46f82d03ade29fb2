-- What is given to a job: a text that is read from its source, or with make the generated one.
use Rattle.std.proofs.Common.{◌≡◌, ◌⊎◌, ◌<◌, ◌≤◌, ℕ, List, ◌++◌, length, length-append, refl, sym, ap, ◌∙◌, inl, inr, arith, subst}
use Rattle.std.proofs.lemmas.List.{append-nil}
use Rattle.std.specs.declared.option.Option.{Option}
use Rattle.std.specs.declared.option.Option.TheVariants.{None, Some}
use Rattle.words.specs.Names.{Letters}
use Rattle.free_poly.specs.declared.term.Term.{Term}
use Rattle.bg_io.specs.Ends.{Loses}
use Rattle.relation_reader.specs.declared.fault.InputFault.{InputFault}
use Rattle.relation_reader.specs.Meaning.{FirstFault, HasOneReading, Reads, reading, refused}
use Rattle.command_words.specs.declared.job.Command.{Command}
use Rattle.command_words.specs.declared.job.Command.TheVariants as commands
use Rattle.command_words.specs.declared.job.Job.{Job}
use Rattle.job_steps.specs.declared.status.InputProblem.TheVariants.{TooLong, Text}
use Rattle.job_steps.specs.declared.status.Status.{Status}
use Rattle.job_steps.specs.declared.status.Status.TheVariants.{Input, ReadFault, NoMemory}
use Rattle.job_steps.specs.Inputs.{IsInput, IsInputEnd}
use Rattle.job_steps.specs.States.{SinkState, SourceState}
use Rattle.bergman_cli.specs.Run.{IsGivenTo, IsMishap, IsToldTo, IsUngivenTo, ReadsSource}

-- make, or a command that reads its source
pub make_or_reads : (command : Command) → (command ≡ commands.Make) ⊎ ReadsSource command
make_or_reads commands.Make = inl refl
make_or_reads command = inr tt

module _ (job : Job) (left now : Option (List ℕ)) (text : List ℕ) where
  -- with a command that reads its source the given text is the input
  pub given_input : (command : Command) → ReadsSource command → IsGivenTo command job left now text → IsInput left now text
  given_input commands.Make reads h = absurd reads
  given_input command reads h = h

  -- and the text that is told is what the source has left, at most 1,048,576 bytes
  pub told_input : (command : Command) → ReadsSource command → IsToldTo command job left text → (left ≡ Some text) × (length text ≤ 1048576)
  told_input commands.Make reads h = absurd reads
  told_input command reads h = h

module _ (p : ℕ) (unread rest : SourceState) (status : Status) where
  -- with such a command the input has the end for which there was no reading
  pub ungiven_input : (command : Command) → ReadsSource command → IsUngivenTo command p unread rest status → IsInputEnd p unread rest status
  ungiven_input commands.Make reads h = absurd reads
  ungiven_input command reads h = h

-- a text that is told is the one that was read to the end
told_text : (xs text : List ℕ) (now : Option (List ℕ)) → IsInput (Some xs) now text → xs ≡ text
told_text xs text None h = absurd h.taken
told_text xs text (Some ys) h = h.taken ∙ ap (λ (l : List ℕ). text ++ l) h.at_end ∙ append-nil text

-- where a source tells what it has left, this is its input
pub input_is : (left now : Option (List ℕ)) (text own : List ℕ) → left ≡ Some text → IsInput left now own → text ≡ own
input_is left now text own told h = told_text text own now (subst (λ (l : Option (List ℕ)). IsInput l now own) told h)

lost_long : (xs : List ℕ) (now : Option (List ℕ)) (n : ℕ) → Loses (Some xs) now n → n ≤ length xs
lost_long xs None n h = absurd h.gone
lost_long xs (Some ys) n h = omega (arith, h.long, ap length h.gone, length-append h.taken ys)

-- more than all bytes are not lost
pub told_long : (left now : Option (List ℕ)) (text : List ℕ) (n : ℕ) → left ≡ Some text → Loses left now n → n ≤ length text
told_long left now text n told h = lost_long text now n (subst (λ (l : Option (List ℕ)). Loses l now n) told h)

-- the text that is told is the one that is given
pub given_is : (command : Command) (job : Job) (left now : Option (List ℕ)) (text own : List ℕ) → IsToldTo command job left text →
    IsGivenTo command job left now own → text ≡ own
given_is commands.Make job left now text own told h = told ∙ sym h
given_is command job left now text own told h = input_is left now text own told.0 h

outcome_readings : (l m : Letters) (rs ss : List (List Term)) → reading l rs ≡ reading m ss → (l ≡ m) × (rs ≡ ss)
outcome_readings l m rs ss e = (cc, cc)

outcome_faults : (f g : InputFault) → refused f ≡ refused g → f ≡ g
outcome_faults f g e = cc

reading_is_no_fault : (l : Letters) (rs : List (List Term)) (fault : InputFault) → reading l rs ≡ refused fault → ⊥
reading_is_no_fault l rs fault e = cc

-- a text has one reading or one first fault
module _ (law : HasOneReading) (text : List ℕ) (p : ℕ) (some : 0 < p) where
  -- two readings of a text are one
  pub one_reading : (l m : Letters) (rs ss : List (List Term)) → Reads text p l rs → Reads text p m ss → (l ≡ m) × (rs ≡ ss)
  one_reading l m rs ss h k = let one = law text p some in outcome_readings l m rs ss (one.only (reading l rs) h ∙ sym (one.only (reading m ss) k))

  -- two first faults of a text are one
  pub one_text_fault : (f g : InputFault) → FirstFault text p f → FirstFault text p g → f ≡ g
  one_text_fault f g h k = let one = law text p some in outcome_faults f g (one.only (refused f) h ∙ sym (one.only (refused g) k))

  -- a text with a reading has no first fault
  pub no_text_fault : (l : Letters) (rs : List (List Term)) (fault : InputFault) → Reads text p l rs → FirstFault text p fault → ⊥
  no_text_fault l rs fault h k = let one = law text p some in reading_is_no_fault l rs fault (one.only (reading l rs) h ∙ sym (one.only (refused fault) k))

-- where the text is told, is no fault of length, and has this end, a status of the input is this end or a mishap
module _ (p : ℕ) (unread rest : SourceState) (before after : SinkState) (text : List ℕ) (told : unread.left ≡ Some text)
    (command : Command) (reads : ReadsSource command) where
  -- the text has a reading
  pub read_mishap : length text ≤ 1048576 → ((fault : InputFault) → FirstFault text p fault → ⊥) → (own status : Status) →
      IsInputEnd p unread rest status → IsMishap command own unread rest before after status
  read_mishap short none own (Input TooLong) h = absurd (omega (arith, short, told_long unread.left rest.left text 1048577 told h))
  read_mishap short none own (Input (Text fault)) h = absurd (none fault
      (subst (λ (t : List ℕ). FirstFault t p fault) (sym (input_is unread.left rest.left text h.0 told h.1)) h.2))
  read_mishap short none own ReadFault h = (reads, h)
  read_mishap short none own NoMemory h = tt
  read_mishap short none own status h = absurd h

  -- the text is too long
  pub long_mishap : 1048576 < length text → (status : Status) → IsInputEnd p unread rest status →
      (status ≡ Input TooLong) ⊎ IsMishap command (Input TooLong) unread rest before after status
  long_mishap long (Input TooLong) h = inl refl
  long_mishap long (Input (Text fault)) h = absurd (omega (arith, long, h.1.short, ap length (input_is unread.left rest.left text h.0 told h.1)))
  long_mishap long ReadFault h = inr (reads, h)
  long_mishap long NoMemory h = inr tt
  long_mishap long status h = absurd h

  -- the text has this first fault
  pub fault_mishap : HasOneReading → 0 < p → length text ≤ 1048576 → (fault : InputFault) → FirstFault text p fault → (status : Status) →
      IsInputEnd p unread rest status
      → (status ≡ Input (Text fault)) ⊎ IsMishap command (Input (Text fault)) unread rest before after status
  fault_mishap law some short fault first (Input TooLong) h = absurd (omega (arith, short, told_long unread.left rest.left text 1048577 told h))
  fault_mishap law some short fault first (Input (Text own)) h =
      inl (ap (λ (f : InputFault). Input (Text f)) (one_text_fault law text p some own fault
      (subst (λ (t : List ℕ). FirstFault t p own) (sym (input_is unread.left rest.left text h.0 told h.1)) h.2) first))
  fault_mishap law some short fault first ReadFault h = inr (reads, h)
  fault_mishap law some short fault first NoMemory h = inr tt
  fault_mishap law some short fault first status h = absurd h
