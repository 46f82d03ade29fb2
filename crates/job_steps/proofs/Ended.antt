-- A task ends with its series, or without it.
use Rattle.std.proofs.Common.{◌≡◌, ◌-◌, ℕ, Bool, true, List, ◌++◌, refl, sym, inl, inr, arith, subst}
use Rattle.std.proofs.KnownBytes.{Appends-trans}
use Rattle.ideal_laws.specs.Laws.{IsSetting}
use Rattle.poly_writer.specs.Outputs.{IsSeriesText}
use Rattle.job_steps.specs.declared.print.PrintFault.{PrintFault}
use Rattle.job_steps.specs.declared.print.PrintFault.TheVariants.{Limit, WriteFault, NoMemory}
use Rattle.job_steps.specs.Gains.{GainsAll, GainsSome, HasPrinted, IsUndone}
use Rattle.job_steps.specs.Printing.{IsCutSeries, IsSeriesDue, IsSeriesUndone, IsWholeSeries}
use Rattle.job_steps.specs.Progress.{HasLinesBelow, IsBasisSoFar, IsBeginning, IsDue, IsPart, IsReach, IsText, Task, crowded, ideal_of_task, whole}
use Rattle.job_steps.specs.States.{SinkState}
use Rattle.job_steps.proofs.Gaining.{appended_none, beginning_self, part_behind, part_front, rose_from, some_behind, some_front}
use Rattle.job_steps.proofs.Reaches.{part_upto, some_upto}

shown : (shows : Bool) (P : List ℕ → Type 0) (x : List ℕ) → shows ≡ true → P x → IsPart shows P x
shown shows P x is h = subst (λ (b : Bool). IsPart b P x) (sym is) h

module _ (t : Task) (text : List ℕ) (so_far : IsBasisSoFar t t.bound text) where
  -- the lines of all degrees stand before what comes of the series
  all_lines : (gained : List ℕ) → IsBeginning text gained → HasLinesBelow t t.bound gained
  all_lines gained begins = record { degree = t.bound; lines = text; so_far = so_far; begins = begins; upto = omega arith }

  module _ (shows : t.shows_series ≡ true) where
    whole_reach : (series : List ℕ) → IsWholeSeries t.modulus t.letters t.relations t.normal_words t.bound series → IsReach t whole
    whole_reach series h = (so_far.passes_none, λ _. h.small)

    whole_text : (series : List ℕ) → IsWholeSeries t.modulus t.letters t.relations t.normal_words t.bound series → IsText t whole (text ++ series)
    whole_text series h = record {
      basis = text;
      series = series;
      is_basis = so_far.is_basis;
      is_series = shown t.shows_series (IsSeriesText t.modulus t.letters t.relations t.bound) series shows h.printed;
      joined = refl;
    }

    cut_reach : (d value : ℕ) (series : List ℕ) → IsCutSeries t.modulus t.letters t.relations t.normal_words t.bound d value series →
        IsReach t (crowded d value)
    cut_reach d value series h = (so_far.passes_none, shows, h.upto, h.large)

    cut_text : (d value : ℕ) (series : List ℕ) → IsCutSeries t.modulus t.letters t.relations t.normal_words t.bound d value series →
        IsText t (crowded d value) (text ++ series)
    cut_text d value series h = record {
      basis = text;
      series = series;
      is_basis = so_far.is_basis;
      is_series = shown t.shows_series (IsSeriesText t.modulus t.letters t.relations (d - 1)) series shows h.printed;
      joined = refl;
    }

    due_with_series : (series : List ℕ) → IsSeriesDue t.modulus t.letters t.relations t.normal_words t.bound series → IsDue t t.bound (text ++ series)
    due_with_series series (inl h) = inr (whole, whole_reach series h, whole_text series h, refl)
    due_with_series series (inr h) = inr (crowded h.0 h.1, cut_reach h.0 h.1 series h.2, cut_text h.0 h.1 series h.2, refl)

    -- the whole series is gained behind the basis
    pub done_with_series : (a b c : SinkState) (series : List ℕ) → GainsAll a b text →
        IsWholeSeries t.modulus t.letters t.relations t.normal_words t.bound series → GainsAll b c series → HasPrinted t whole a c
    done_with_series a b c series w is v = record {
      is_reach = whole_reach series is;
      text = text ++ series;
      is_text = whole_text series is;
      appended = Appends-trans a.held b.held c.held text series w.appended v.appended;
    }

    -- the series is not gained whole behind the basis, so the task is not done
    pub undone_series : IsSetting (ideal_of_task t) →
        (a b c : SinkState) (Holds : ℕ → Type 0) (fault : PrintFault) → Holds t.bound → GainsAll a b text →
        IsSeriesUndone t.modulus t.letters t.relations t.normal_words t.bound b c fault → IsUndone t a c Holds fault
    undone_series st a b c Holds (Limit kind d value) holds w u = (
      crowded d value,
      (u.0, refl, refl),
      record {
        is_reach = cut_reach d value u.1.0 u.1.1;
        text = text ++ u.1.0;
        is_text = cut_text d value u.1.0 u.1.1;
        appended = Appends-trans a.held b.held c.held text u.1.0 w.appended u.1.2;
      },
      holds,
    )
    undone_series st a b c Holds WriteFault holds w u =
        let due = due_with_series u.1.0 u.1.1 in (
          rose_from a.faults b.faults c.faults w.kept u.0,
          part_upto t st a c Holds t.bound (text ++ u.1.0) due
              (part_behind a b c text u.1.0 w u.1.2)
              (all_lines _ (part_front a b c text u.1.0 w u.1.2)) holds,
        )
    undone_series st a b c Holds NoMemory holds w (inl none) =
        let part : GainsSome a c text = record {
          gained = text;
          appended = appended_none a.held b.held c.held text w.appended none;
          beginning = beginning_self text;
        } in
        some_upto t st a c Holds t.bound text (inl so_far) part (all_lines text (beginning_self text)) holds
    undone_series st a b c Holds NoMemory holds w (inr u) =
        some_upto t st a c Holds t.bound (text ++ u.0) (due_with_series u.0 u.1) (some_behind a b c text u.0 w.appended u.2)
        (all_lines _ (some_front a b c text u.0 w.appended u.2)) holds
