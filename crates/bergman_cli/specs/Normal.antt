-- What the command normal asks: the last relations are questions about the ideal of those before them.
use Rattle.std.specs.Prelude.{ℕ, ◌≡◌, ◌+◌, ◌-◌, ◌<◌, ◌≤◌, suc, false, List, [], ◌∷◌, ◌++◌, ◌⊎◌, drop, length}
use Rattle.std.specs.Prelude.{slice_index_or, take}
use Rattle.words.specs.Names.{Letters}
use Rattle.free_poly.specs.declared.term.Term.{Term}
use Rattle.ideal_laws.specs.Ideal.{ideal_over}
use Rattle.ideal_laws.specs.declared.limits.LimitKind.{LimitKind}
use Rattle.ideal_laws.specs.Kept.{lead_degree}
use Rattle.cofactors.specs.declared.certificate.Certificate.{Certificate}
use Rattle.cofactors.specs.Certificate.{IsCertificate}
use Rattle.cofactors.specs.ProductList.{triples}
use Rattle.cofactors.specs.Texts.{answer_text}
use Rattle.command_words.specs.declared.job.Job.{Job}
use Rattle.job_steps.specs.declared.status.InputProblem.TheVariants.{TooFewRelations, AboveBound}
use Rattle.job_steps.specs.declared.status.Status.{Status}
use Rattle.job_steps.specs.declared.status.Status.TheVariants.{Done, Input, Limit, Products}
use Rattle.job_steps.specs.Progress.{Task}
use Rattle.job_steps.specs.Statuses.{IsTaskStatus}
use Rattle.bergman_cli.specs.Jobs.{job_task}

-- how many relations the ideal has
abbrev pub ideal_size : Job → List (List Term) → ℕ
ideal_size job relations = length relations - job.ask

-- the relations of the ideal
abbrev pub defining_relations : Job → List (List Term) → List (List Term)
defining_relations job relations = take (ideal_size job relations) relations

-- the others are the questions
abbrev pub questions_of : Job → List (List Term) → List (List Term)
questions_of job relations = drop (ideal_size job relations) relations

-- the basis of the ideal up to the bound, of which nothing is shown
abbrev pub normal_task : Job → Letters → List (List Term) → Task
normal_task job letters relations = job_task job letters (defining_relations job relations) false false

-- the first element with P stands at this place
pub record IsFirstPlace (P : List Term → Type 0) (fs : List (List Term)) (place : ℕ) : Type 0 where
  pub within : place < length fs
  pub here : P (slice_index_or fs place [])
  pub before : (k : ℕ) → k < place → P (slice_index_or fs k []) → ⊥

-- no element has P
abbrev pub HasNone : (List Term → Type 0) → List (List Term) → Type 0
HasNone P fs = (k : ℕ) → k < length fs → P (slice_index_or fs k []) → ⊥

-- an element of a degree above the bound
abbrev pub IsAbove : List ℕ → ℕ → List Term → Type 0
IsAbove weights bound f = bound < lead_degree weights f

-- a question may have so many triples
abbrev pub most_triples : ℕ
most_triples = 16384

-- an element of whose degree there are more triples
abbrev pub HasManyTriples : List ℕ → List (List Term) → List Term → Type 0
HasManyTriples weights relations f = most_triples < length (triples weights relations (lead_degree weights f))

-- how the work ends: there are fewer relations than questions are asked, a question stands above the bound, a limit
-- of the engine stops it, a question has too many triples, or all are answered
pub data Ending : Type 0 where
  too_few : Ending
  above : (place : ℕ) → Ending
  stopped : (kind : LimitKind) (degree value : ℕ) → Ending
  too_many : (place : ℕ) → Ending
  answered : Ending

-- there are enough relations, and no question stands above the bound
abbrev pub IsAskable : Job → Letters → List (List Term) → Type 0
IsAskable job letters relations = (job.ask ≤ length relations)
    × HasNone (IsAbove letters.weights job.bound) (questions_of job relations)

-- and no limit of the engine is passed on the ideal
abbrev pub IsComputable : Job → Letters → List (List Term) → Type 0
IsComputable job letters relations = IsAskable job letters relations
    × IsTaskStatus (normal_task job letters relations) Done

-- the work ends so: each cause is looked for where none before it stands, and the first question of its kind is named
abbrev pub IsEnding : Job → Letters → List (List Term) → Ending → Type 0
IsEnding job letters relations too_few = length relations < job.ask
IsEnding job letters relations (above place) = (job.ask ≤ length relations)
    × IsFirstPlace (IsAbove letters.weights job.bound) (questions_of job relations) place
IsEnding job letters relations (stopped kind d value) = IsAskable job letters relations
    × IsTaskStatus (normal_task job letters relations) (Limit kind d value)
IsEnding job letters relations (too_many place) = IsComputable job letters relations
    × IsFirstPlace (HasManyTriples letters.weights (defining_relations job relations)) (questions_of job relations)
    place
IsEnding job letters relations answered = IsComputable job letters relations
    × HasNone (HasManyTriples letters.weights (defining_relations job relations)) (questions_of job relations)

-- its status, where relations are counted from 1
abbrev pub status_of : Job → Letters → List (List Term) → Ending → Status
status_of job letters relations too_few = Input (TooFewRelations (length relations))
status_of job letters relations (above place) = Input (AboveBound (ideal_size job relations + place + 1))
status_of job letters relations (stopped kind d value) = Limit kind d value
status_of job letters relations (too_many place) = Products (lead_degree letters.weights
    (slice_index_or (questions_of job relations) place [])) (most_triples + 1)
status_of job letters relations answered = Done

-- the answer texts of the questions, numbered from k on, each with the normal form and some product list
abbrev pub AreAnswers : ℕ → Letters → List (List Term) → ℕ → List (List Term) → List ℕ → Type 0
AreAnswers p letters relations k [] text = text ≡ []
AreAnswers p letters relations k (f ∷ fs) text =
    (c : Certificate) × IsCertificate (ideal_over p letters.weights relations) (lead_degree letters.weights f) f c
    × ((more : List ℕ) × AreAnswers p letters relations (suc k) fs more
    × (text ≡ answer_text letters.names p k c ++ more))

-- the first question has too many triples of those that have, and those before it are answered; or all are answered
abbrev pub IsAnsweredBy : ℕ → Letters → List (List Term) → List (List Term) → Status → List ℕ → Type 0
IsAnsweredBy p letters relations questions status text =
    ((place : ℕ) × IsFirstPlace (HasManyTriples letters.weights relations) questions place
    × (status ≡ Products (lead_degree letters.weights (slice_index_or questions place [])) (most_triples + 1))
    × AreAnswers p letters relations 1 (take place questions) text)
    ⊎ (HasNone (HasManyTriples letters.weights relations) questions × (status ≡ Done)
    × AreAnswers p letters relations 1 questions text)

-- what is printed: the answers, or those before the question that has too many triples
abbrev pub IsEndingText : Job → Letters → List (List Term) → Ending → List ℕ → Type 0
IsEndingText job letters relations (too_many place) text =
    AreAnswers job.modulus letters (defining_relations job relations) 1 (take place (questions_of job relations)) text
IsEndingText job letters relations answered text = AreAnswers job.modulus letters (defining_relations job relations) 1
    (questions_of job relations) text
IsEndingText job letters relations ending text = text ≡ []

-- the status that is due
abbrev pub IsNormalStatus : Job → Letters → List (List Term) → Status → Type 0
IsNormalStatus job letters relations status = (ending : Ending) × IsEnding job letters relations ending
    × (status ≡ status_of job letters relations ending)

-- an end of the command, with its text
abbrev pub IsNormalOutcome : Job → Letters → List (List Term) → Status → List ℕ → Type 0
IsNormalOutcome job letters relations status text =
    (ending : Ending) × IsEnding job letters relations ending × (status ≡ status_of job letters relations ending)
    × IsEndingText job letters relations ending text
