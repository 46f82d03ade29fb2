-- The texts of an ideal: its reduced bases and its coefficients, printed.
use Rattle.std.specs.Prelude.{ℕ, ◌≡◌, ◌+◌, ◌<◌, List, [], length, slice_index, slice_index_or}
use Rattle.words.specs.Names.{Letters}
use Rattle.free_poly.specs.declared.term.Term.{Term}
use Rattle.ideal_laws.specs.Basis.{IsReducedBasis}
use Rattle.ideal_laws.specs.Dimension.{IsHilbertCoefficient}
use Rattle.poly_writer.specs.Texts.{basis_text, series_text}
use Rattle.ideal_laws.specs.Ideal.{ideal_over}

-- the printed reduced bases of degrees 1 to e
pub record IsBasisText (p : ℕ) (letters : Letters) (relations : List (List Term)) (e : ℕ) (text : List ℕ) : Type 0 where
  pub bases : List (List (List Term))
  pub count : length bases ≡ e
  pub each : (k : ℕ) → k < e → IsReducedBasis (ideal_over p letters.weights relations) (k + 1)
      (slice_index_or bases k [])
  pub printed : text ≡ basis_text letters.names p bases

-- the printed coefficients of degrees 0 to e
pub record IsSeriesText (p : ℕ) (letters : Letters) (relations : List (List Term)) (e : ℕ) (text : List ℕ) : Type 0
  where
    pub numbers : List ℕ
    pub count : length numbers ≡ e + 1
    pub each : (k : ℕ) → k < e + 1 → IsHilbertCoefficient (ideal_over p letters.weights relations) k
        (slice_index numbers k)
    pub printed : text ≡ series_text numbers
