-- The numbers of normal words are the printed coefficients.
use Rattle.std.proofs.Common.{◌≡◌, ◌+◌, ◌-◌, ◌<◌, ◌≤◌, ℕ, List, get_or, refl, sym, inl, inr, arith, subst}
use Rattle.std.proofs.lemmas.Bool.{cases_lt}
use Rattle.words.specs.Names.{Letters}
use Rattle.free_poly.specs.declared.term.Term.{Term}
use Rattle.ideal_laws.specs.Dimension.{IsHilbertCoefficient}
use Rattle.ideal_laws.specs.Engine.{Elements, IsReducedUpto}
use Rattle.ideal_laws.specs.Ideal.{ideal_over}
use Rattle.ideal_laws.specs.Kept.{IsKept}
use Rattle.ideal_laws.specs.Laws.{IsSetting}
use Rattle.poly_writer.specs.Outputs.{IsSeriesText}
use Rattle.poly_writer.specs.Texts.{series_text}
use Rattle.hilbert.specs.Series.{AreCounts, CountsCoefficients, IsCount, IsFirstLarge}
use Rattle.job_steps.specs.declared.print.PrintFault.{PrintFault}
use Rattle.job_steps.specs.declared.print.PrintFault.TheVariants.{Limit, WriteFault, NoMemory}
use Rattle.job_steps.specs.Gains.{IsUnwritten}
use Rattle.job_steps.specs.Printing.{IsCutSeries, IsSeriesDue, IsSeriesUndone, IsWholeSeries}
use Rattle.job_steps.specs.Progress.{AreSmallBelow}
use Rattle.job_steps.specs.States.{SinkState}

module _ (law : CountsCoefficients) (p : ℕ) (letters : Letters) (relations : List (List Term)) (basis : Elements)
    (st : IsSetting (ideal_over p letters.weights relations)) (same : basis.weights ≡ letters.weights) (kept : IsKept basis)
    (reduced : IsReducedUpto p relations basis) (limit : ℕ) where
  -- a number of normal words of a degree that is done is its Hilbert coefficient
  pub coefficient : (d n : ℕ) → d ≤ basis.done → IsCount basis.weights basis.elements d n → IsHilbertCoefficient (ideal_over p letters.weights relations) d n
  coefficient d n le c =
      subst (λ (ws : List ℕ). IsHilbertCoefficient (ideal_over p ws relations) d n) same
      (law p relations basis (subst (λ (ws : List ℕ). IsSetting (ideal_over p ws relations)) (sym same) st) kept reduced d n le c)

  small_from_counts : (d : ℕ) (numbers : List ℕ) → d ≤ basis.done + 1 → AreCounts basis.weights basis.elements limit d numbers →
      AreSmallBelow (ideal_over p letters.weights relations) limit d
  small_from_counts d numbers le c e below =
      (get_or numbers e 0, coefficient e (get_or numbers e 0) (omega (arith, le, below)) (c.each e below), c.few e 0 (omega (arith, c.size, below)))

  printed_from_counts : (d : ℕ) (numbers : List ℕ) → d ≤ basis.done → AreCounts basis.weights basis.elements limit (d + 1) numbers →
      IsSeriesText p letters relations d (series_text numbers)
  printed_from_counts d numbers le c = record {
    numbers = numbers;
    count = c.size;
    each = λ k within. coefficient k (get_or numbers k 0) (omega (arith, le, within)) (c.each k within);
    printed = refl;
  }

  -- where no number up to the bound is above the limit, their text is the whole series
  pub whole_from_counts : (bound : ℕ) (numbers : List ℕ) → bound ≡ basis.done →
      AreCounts basis.weights basis.elements limit (bound + 1) numbers →
      IsWholeSeries p letters relations limit basis.done (series_text numbers)
  whole_from_counts bound numbers is c =
      let at = subst (λ (n : ℕ). AreCounts basis.weights basis.elements limit (n + 1) numbers) is c in
      record {
        small = small_from_counts (basis.done + 1) numbers (omega arith) at;
        printed = printed_from_counts basis.done numbers (omega arith) at;
      }

  -- degree 0 has one word
  some_degree : 0 < limit → (d n : ℕ) → limit < n → IsHilbertCoefficient (ideal_over p letters.weights relations) d n → 0 < d
  some_degree some d n large h = elim (cases_lt 0 d) [
    | inl above ↦ above
    | inr none ↦
        let zero_is : d ≡ 0 = omega (arith, none) in
        let at = subst (λ (e : ℕ). IsHilbertCoefficient (ideal_over p letters.weights relations) e n) zero_is h in
        absurd (omega (arith, at.rest, some, large))
  ]

  -- where one is, the text of those below the first such degree is the cut series
  pub cut_from_large : 0 < limit → (bound d value : ℕ) (below : List ℕ) → bound ≡ basis.done →
      IsFirstLarge basis.weights basis.elements limit bound d value below →
      IsCutSeries p letters relations limit basis.done d value (series_text below)
  cut_from_large some bound d value below is h =
      let number = coefficient d h.number (omega (arith, h.upto, is)) h.is_number in
      let from = some_degree some d h.number h.large number in
      let back : d ≡ d - 1 + 1 = omega (arith, from) in
      record {
        upto = omega (arith, h.upto, is);
        large = record {
          before = small_from_counts d below (omega (arith, h.upto, is)) h.before;
          coefficient = h.number;
          is_coefficient = number;
          large = h.large;
          kept = h.kept;
        };
        printed = printed_from_counts (d - 1) below (omega (arith, h.upto, is))
            (subst (λ (n : ℕ). AreCounts basis.weights basis.elements limit n below) back h.before);
      }

  -- what is told of all numbers, by a limit that is this one
  pub whole_told : (own : ℕ) → own ≡ limit → (bound : ℕ) (numbers told : List ℕ) → bound ≡ basis.done → told ≡ numbers →
      AreCounts basis.weights basis.elements own (bound + 1) numbers → IsWholeSeries p letters relations limit basis.done (series_text told)
  whole_told own is bound numbers told at same c =
      subst (λ (ns : List ℕ). IsWholeSeries p letters relations limit basis.done (series_text ns)) (sym same)
      (whole_from_counts bound numbers at (subst (λ (l : ℕ). AreCounts basis.weights basis.elements l (bound + 1) numbers) is c))

  -- and of those below a large one
  pub cut_told : (own : ℕ) → own ≡ limit → 0 < limit → (bound d value : ℕ) (below told : List ℕ) → bound ≡ basis.done → told ≡ below →
      IsFirstLarge basis.weights basis.elements own bound d value below → IsCutSeries p letters relations limit basis.done d value (series_text told)
  cut_told own is some bound d value below told at same h =
      subst (λ (ns : List ℕ). IsCutSeries p letters relations limit basis.done d value (series_text ns)) (sym same)
      (cut_from_large some bound d value below at (subst (λ (l : ℕ). IsFirstLarge basis.weights basis.elements l bound d value below) is h))

  -- a series that was not written
  pub undone_from_unwritten : (a b : SinkState) (text : List ℕ) (fault : PrintFault) → IsSeriesDue p letters relations limit basis.done text →
      IsUnwritten a b text fault → IsSeriesUndone p letters relations limit basis.done a b fault
  undone_from_unwritten a b text (Limit kind d value) due u = absurd u
  undone_from_unwritten a b text WriteFault due u = (u.0, (text, due, u.1))
  undone_from_unwritten a b text NoMemory due u = inr (text, due, u)
