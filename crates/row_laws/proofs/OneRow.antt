-- Each row of a degree leaves exactly one list of residues at the contested columns.
use Rattle.std.proofs.Common.{ap₂, ◌≡◌, ◌≢◌, ◌-◌, ◌%◌, ℕ, List, ◌++◌, ap, ◌∙◌, Option, subst}
use Rattle.std.specs.List.{Contains, flat_map}
use Rattle.words.proofs.Members.{All-from_members, Contains-map}
use Rattle.free_poly.specs.declared.term.Term.{Term}
use Rattle.free_poly.specs.Terms.{scaled}
use Rattle.free_poly.proofs.Totals.{total_at-absent}
use Rattle.linear_algebra.specs.Fields.{Field}
use Rattle.linear_algebra.specs.Mod.{Residue}
use Rattle.linear_algebra.proofs.ModField.{same_residue}
use Rattle.ideal_laws.specs.Closure.{brought}
use Rattle.ideal_laws.specs.Ideal.{Ideal}
use Rattle.ideal_laws.specs.Laws.{IsSetting, part_terms}
use Rattle.ideal_laws.specs.Overlaps.{AreLower}
use Rattle.ideal_laws.specs.Quantities.{AreClosed, contested_words}
use Rattle.ideal_laws.proofs.Vectors as vectors
use Rattle.row_laws.specs.Contested.{IsContestedRow}
use Rattle.free_poly.specs.Poly.{element_on}
use Rattle.row_laws.specs.Laws.{LeavesOneRow}
use Rattle.row_laws.proofs.Cleared.{AreClosedWords, IsOn, left_of}
use Rattle.row_laws.proofs.ClosedColumns.{column_says, row_column}
use Rattle.row_laws.proofs.ContestedRows.{back_less, one_row, vector_of-less}
use Rattle.row_laws.proofs.Parts.{has_parts}
use Rattle.row_laws.proofs.Spread.{residues_of, residues_of-row, spread, spread-element, spread-residues}

module _ (ideal : Ideal) (st : IsSetting ideal) (d : ℕ) (G : List (List Term)) (lower : AreLower ideal d G)
    (rows : List (List Term)) (columns : List (List ℕ)) (reducers : List (Option (List Term)))
    (closed : AreClosed ideal G d rows columns reducers) where
  abbrev K : Field
  K = vectors.K ideal.modulus st.modulus

  abbrev vec : List Term → List ℕ → Residue ideal.modulus
  vec f = vectors.vector_of ideal.modulus st.modulus f

  abbrev contested : List (List ℕ)
  contested = contested_words columns reducers

  abbrev OnColumns : (List ℕ → Residue ideal.modulus) → Type 0
  OnColumns = IsOn ideal st d G lower columns

  -- a sum of terms with words of columns
  words_on : (f : List Term) → ((t : Term) → Contains f t → Contains columns t.word) → OnColumns (vec f)
  words_on f h y off = same_residue ideal.modulus _ _ (ap (λ (n : ℕ). n % ideal.modulus) (total_at-absent f y
      (All-from_members (λ t. t.word ≢ y) f (λ t m e. off (subst (Contains columns) e (h t m))))))

  closed_words : AreClosedWords ideal st d G lower columns
  closed_words = record {
    falling = closed.are_columns.falling;
    over = λ x m. (column_says ideal st d G lower rows closed.are_rows columns closed.are_columns x m).0;
    degree = λ x m. (column_says ideal st d G lower rows closed.are_rows columns closed.are_columns x m).1;
    reducers_on = λ x g m r. words_on g (λ t n. (closed.are_columns.exactly t.word).1
        (brought x t.word g ((closed.are_columns.exactly x).0 m) r (Contains-map (λ (s : Term). s.word) g t n)));
  }

  row_on : (f : List Term) → Contains rows f → OnColumns (vec f)
  row_on f m = words_on f (row_column ideal st d G lower rows closed.are_rows columns closed.are_columns f m)

  -- what the reducers leave of it
  left_row : (f : List Term) → Contains rows f → (r : List ℕ) × IsContestedRow ideal.modulus columns reducers f r
  left_row f m =
      let h = left_of ideal st d G lower columns reducers closed.are_reducers closed_words (vec f) (row_on f m) in
      let q = has_parts ideal.modulus st.modulus reducers h.rest h.spanned in
      let r = residues_of ideal.modulus st.modulus contested h.entries in
      let element = element_on contested r in
      let at : (w : List ℕ) → vec element w ≡ spread ideal.modulus st.modulus contested h.entries w = λ w. spread-element ideal.modulus st.modulus contested r w
      ∙ spread-residues ideal.modulus st.modulus contested h.entries w in
      let same : (w : List ℕ) → vec (f ++ scaled (ideal.modulus - 1) element) w ≡ vec (flat_map part_terms q.parts) w = λ w.
      vector_of-less ideal.modulus st.modulus f element w
      ∙ ap₂ (λ (a b : Residue ideal.modulus). K.add a (K.mul (K.neg K.one) b)) (h.sum w
      ∙ K.add_comm (spread ideal.modulus st.modulus contested h.entries w) (h.rest w)) (at w)
      ∙ back_less K (h.rest w) (spread ideal.modulus st.modulus contested h.entries w) ∙ q.sum w in (
        r,
        record {
          is_row = residues_of-row ideal.modulus st.modulus contested h.entries;
          rest = record { parts = q.parts; each = q.each; sum = λ w. ap (λ (n : Residue ideal.modulus). n.0) (same w) };
        },
      )

-- over the reduced elements of lower degrees each row of a degree leaves exactly one list of residues at the contested columns
pub leaves_one_row : LeavesOneRow
leaves_one_row ideal st d G lower rows columns reducers closed f m =
    let r = left_row ideal st d G lower rows columns reducers closed f m in
    record { value = r.0; holds = r.1; only = λ x h. one_row ideal st d G lower rows columns reducers closed f x r.0 h r.1 }
