-- Words have at most one answer.
use Rattle.std.proofs.Common.{◌≡◌, ℕ, List, [], ◌∷◌, refl, sym, ap, ◌∙◌, subst, Result, Ok, Err}
use Rattle.command_words.specs.declared.job.Command.{Command}
use Rattle.command_words.specs.declared.job.Job.{Job}
use Rattle.command_words.specs.declared.job.UsageFault.{UsageFault}
use Rattle.command_words.specs.declared.job.UsageFault.TheVariants.{NoCommand, UnknownCommand}
use Rattle.command_words.specs.Keys.{command_name}
use Rattle.command_words.specs.JobOf.{HasFault, HasNoCommand, IsAnswerTo, IsFaultOf, IsJob, IsUsageFault}
use Rattle.command_words.proofs.Named.{one_command}
use Rattle.command_words.proofs.OneFault.{no_fault_of, one_fault_of}
use Rattle.command_words.proofs.OneJob.{one_job}

no_words : (words : List (List ℕ)) (w : List ℕ) (r : List (List ℕ)) → words ≡ [] → words ≡ w ∷ r → ⊥
no_words words w r p q = cc (sym p ∙ q)

unknown_known : (words : List (List ℕ)) (c : Command) (r : List (List ℕ)) → HasNoCommand words → words ≡ command_name c ∷ r → ⊥
unknown_known words c r h p = let e : h.first ≡ command_name c = cc (sym h.words_are ∙ p) in h.unknown c e

-- a fault behind the command is one of the words behind it
behind_command : (words : List (List ℕ)) (f : UsageFault) → HasFault words f → (command : Command) (rest : List (List ℕ)) →
    words ≡ command_name command ∷ rest → IsFaultOf command rest f
behind_command words f h command rest words_are =
    let whole = sym h.words_are ∙ words_are in
    let first : command_name h.command ≡ command_name command = cc whole in
    let others : h.rest ≡ rest = cc whole in
    subst (λ (ws : List (List ℕ)). IsFaultOf command ws f) others
    (subst (λ (c : Command). IsFaultOf c h.rest f) (one_command h.command command first) h.fault_is)

one_usage_fault : (words : List (List ℕ)) (f g : UsageFault) → IsUsageFault words f → IsUsageFault words g → f ≡ g
one_usage_fault words NoCommand NoCommand p q = refl
one_usage_fault words NoCommand UnknownCommand p q = absurd (no_words words q.first q.rest p q.words_are)
one_usage_fault words NoCommand g p q = absurd (no_words words (command_name q.command) q.rest p q.words_are)
one_usage_fault words UnknownCommand NoCommand p q = absurd (no_words words p.first p.rest q p.words_are)
one_usage_fault words UnknownCommand UnknownCommand p q = refl
one_usage_fault words UnknownCommand g p q = absurd (unknown_known words q.command q.rest p q.words_are)
one_usage_fault words f NoCommand p q = absurd (no_words words (command_name p.command) p.rest q p.words_are)
one_usage_fault words f UnknownCommand p q = absurd (unknown_known words p.command p.rest q p.words_are)
one_usage_fault words f g p q = one_fault_of q.command q.rest f g (behind_command words f p q.command q.rest q.words_are) q.fault_is

-- words with a job have no fault
job_or_fault : (words : List (List ℕ)) (j : Job) (f : UsageFault) → IsJob words j → IsUsageFault words f → ⊥
job_or_fault words j NoCommand p q = no_words words (command_name j.command) p.rest q p.words_are
job_or_fault words j UnknownCommand p q = unknown_known words j.command p.rest q p.words_are
job_or_fault words j f p q = no_fault_of j.command p.rest p.taken p.complete f (behind_command words f q j.command p.rest p.words_are)

-- words have at most one job or one fault, and never both
pub one_answer : (words : List (List ℕ)) (a b : Result Job UsageFault) → IsAnswerTo words a → IsAnswerTo words b → a ≡ b
one_answer words (Ok j) (Ok k) p q = ap Ok (one_job words j k p q)
one_answer words (Ok j) (Err g) p q = absurd (job_or_fault words j g p q)
one_answer words (Err f) (Ok k) p q = absurd (job_or_fault words k f q p)
one_answer words (Err f) (Err g) p q = ap Err (one_usage_fault words f g p q)
