-- The steps of a task: the basis of the next degree, the basis, the series.
use Rattle.std.specs.Prelude.{ℕ, ◌≡◌, ◌⊎◌, ◌+◌, ◌-◌, ◌≤◌, Bool, true, false, List, []}
use Rattle.std.specs.Io.KnownBytes.{Appends}
use Rattle.words.specs.Names.{Letters}
use Rattle.free_poly.specs.declared.term.Term.{Term}
use Rattle.bg_io.specs.Ends.{Rose}
use Rattle.ideal_laws.specs.Ideal.{ideal_over}
use Rattle.ideal_laws.specs.declared.limits.LimitKind.{LimitKind}
use Rattle.ideal_laws.specs.declared.limits.LimitKind.TheVariants.{NormalWords}
use Rattle.ideal_laws.specs.declared.presentation.Presentation.{Presentation}
use Rattle.ideal_laws.specs.Basis.{IsReducedBasis}
use Rattle.ideal_laws.specs.Engine.{Elements}
use Rattle.ideal_laws.specs.Limits.{standard_limits}
use Rattle.ideal_laws.specs.Quantities.{IsFirstPassing, IsQuantity, NonePasses}
use Rattle.poly_writer.specs.Outputs.{IsSeriesText}
use Rattle.poly_writer.specs.Texts.{degree_text}
use Rattle.job_steps.specs.declared.print.Asked.{Asked}
use Rattle.job_steps.specs.declared.print.PrintFault.{PrintFault}
use Rattle.job_steps.specs.declared.print.PrintFault.TheVariants.{Limit, WriteFault, NoMemory}
use Rattle.job_steps.specs.Progress.{AreSmallBelow, HasLinesBelow, IsDue, IsFirstLargeCoefficient, Task}
use Rattle.job_steps.specs.Progress.{ideal_of_task, refused}
use Rattle.job_steps.specs.States.{SinkState}
use Rattle.job_steps.specs.Gains.{GainsPart, GainsSome, HasPrinted}

-- In the following, before and after are what the sink tells before the step and after it.

-- the task of a presentation, with the standard limit of normal words
abbrev pub task_of : ℕ → Presentation → List (LimitKind × ℕ) → Asked → Task
task_of p given limits asked = record {
  modulus = p;
  letters = given.alphabet;
  relations = given.relations;
  limits = limits;
  normal_words = standard_limits.normal_words;
  bound = asked.bound;
  shows_basis = asked.basis;
  shows_series = asked.series;
}

-- the lines of a degree, where the basis is shown
abbrev pub lines_of : Bool → List (List ℕ) → ℕ → ℕ → List (List Term) → List ℕ
lines_of true names p d elements = degree_text names p d elements
lines_of false names p d elements = []

-- the reduced basis of the next degree of a task, in which no quantity passes
pub record IsNext (t : Task) (below : Elements) (elements : List (List Term)) : Type 0 where
  pub reduced : IsReducedBasis (ideal_of_task t) (below.done + 1) elements
  pub passes_none : NonePasses (IsQuantity (ideal_of_task t) below (below.done + 1)) t.limits

-- such elements with their lines, of which something holds
abbrev pub OfNext : Task → Elements → (List ℕ → Type 0) → Type 0
OfNext t below Holds = (elements : List (List Term)) × IsNext t below elements
    × Holds (lines_of t.shows_basis t.letters.names t.modulus (below.done + 1) elements)

-- why the next degree was not printed, and what holds where it was not computed and where it was
abbrev pub IsNextUndone : Task → Elements → SinkState → SinkState → Type 0 → Type 0 → PrintFault → Type 0
IsNextUndone t below before after Here Next (Limit kind d value) =
    (d ≡ below.done + 1) × IsFirstPassing (IsQuantity (ideal_of_task t) below (below.done + 1)) t.limits kind value
    × Appends before.held after.held [] × Here
IsNextUndone t below before after Here Next WriteFault =
    Rose before.faults after.faults × OfNext t below (GainsPart before after) × Next
IsNextUndone t below before after Here Next NoMemory =
    (Appends before.held after.held [] × Here) ⊎ (OfNext t below (GainsSome before after) × Next)

-- why the basis was not printed whole, and what holds of the last degree that was computed
abbrev pub IsBasisUndone : Task → SinkState → SinkState → (ℕ → Type 0) → PrintFault → Type 0
IsBasisUndone t before after Holds (Limit kind d value) = HasPrinted t (refused kind d value) before after
    × Holds (d - 1)
IsBasisUndone t before after Holds WriteFault =
    Rose before.faults after.faults × ((e : ℕ) × (due : List ℕ) × IsDue t e due × (part : GainsPart before after due)
    × HasLinesBelow t e part.gained × Holds e)
IsBasisUndone t before after Holds NoMemory =
    (e : ℕ) × (due : List ℕ) × IsDue t e due × (part : GainsSome before after due) × HasLinesBelow t e part.gained
    × Holds e

-- all coefficients, none of which is above the limit
pub record IsWholeSeries (p : ℕ) (letters : Letters) (relations : List (List Term)) (limit bound : ℕ)
    (text : List ℕ) : Type 0 where
  pub small : AreSmallBelow (ideal_over p letters.weights relations) limit (bound + 1)
  pub printed : IsSeriesText p letters relations bound text

-- the coefficients below the first degree with one that is above the limit
pub record IsCutSeries (p : ℕ) (letters : Letters) (relations : List (List Term)) (limit bound d value : ℕ)
    (text : List ℕ) : Type 0 where
  pub upto : d ≤ bound
  pub large : IsFirstLargeCoefficient (ideal_over p letters.weights relations) limit d value
  pub printed : IsSeriesText p letters relations (d - 1) text

-- what is to be printed of the coefficients
abbrev pub IsSeriesDue : ℕ → Letters → List (List Term) → ℕ → ℕ → List ℕ → Type 0
IsSeriesDue p letters relations limit bound text =
    IsWholeSeries p letters relations limit bound text ⊎
    ((d value : ℕ) × IsCutSeries p letters relations limit bound d value text)

-- why the series was not printed whole
abbrev pub IsSeriesUndone : ℕ → Letters → List (List Term) → ℕ → ℕ → SinkState → SinkState → PrintFault → Type 0
IsSeriesUndone p letters relations limit bound before after (Limit kind d value) =
    (NormalWords ≡ kind) × ((text : List ℕ) × IsCutSeries p letters relations limit bound d value text
    × Appends before.held after.held text)
IsSeriesUndone p letters relations limit bound before after WriteFault =
    Rose before.faults after.faults × ((text : List ℕ) × IsSeriesDue p letters relations limit bound text
    × GainsPart before after text)
IsSeriesUndone p letters relations limit bound before after NoMemory =
    Appends before.held after.held [] ⊎ ((text : List ℕ) × IsSeriesDue p letters relations limit bound text
    × GainsSome before after text)
