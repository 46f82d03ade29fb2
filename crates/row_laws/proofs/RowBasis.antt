-- The elements of the echelon form of the contested rows are the reduced basis of the degree.
use Rattle.std.proofs.Common.{ℕ, List, [], length, get_or, map, sym, AllPairs, Option}
use Rattle.std.proofs.Common.{subst}
use Rattle.std.specs.List.{Contains}
use Rattle.std.proofs.lemmas.List.Elements.{Contains-get_or}
use Rattle.words.specs.Order.{IsLetterwiseGreater}
use Rattle.words.proofs.Members.{AllPairs-map, Contains-map, Contains-map_cases}
use Rattle.free_poly.specs.declared.term.Term.{Term}
use Rattle.free_poly.specs.Poly.{element_on}
use Rattle.linear_algebra.specs.Mod.{Residue}
use Rattle.ideal_laws.specs.Ideal.{Ideal, IsLeadingWord}
use Rattle.ideal_laws.specs.Basis.{HasGreaterLead, IsReduced, IsReducedBasis}
use Rattle.ideal_laws.specs.Closure.{IsNormal}
use Rattle.ideal_laws.specs.Laws.{IsSetting}
use Rattle.ideal_laws.specs.Overlaps.{AreLower}
use Rattle.ideal_laws.specs.Quantities.{AreClosed, contested_words}
use Rattle.back_reduce.specs.Rows.{IsInRowSpan}
use Rattle.back_reduce.specs.Rref.{IsRref}
use Rattle.row_laws.specs.Contested.{AreContestedRows}
use Rattle.row_laws.specs.Laws.{RowsGiveBasis}
use Rattle.row_laws.proofs.ClosedColumns.{contested_falling, contested_says}
use Rattle.row_laws.proofs.DegreeRows.{IsMember}
use Rattle.row_laws.proofs.Leaders.{IsLedBy}
use Rattle.row_laws.proofs.Mixtures.{combined_member}
use Rattle.row_laws.proofs.NormalLeads.{normal_led}
use Rattle.row_laws.proofs.ReducedRows.{led_of, reduced_of_row, row_is_reduced, rows_fall}
use Rattle.row_laws.proofs.Spread.{spread}

module _ (ideal : Ideal) (st : IsSetting ideal) (d : ℕ) (G : List (List Term)) (lower : AreLower ideal d G)
    (rows : List (List Term)) (columns : List (List ℕ)) (reducers : List (Option (List Term))) (closed : AreClosed ideal G d rows columns reducers)
    (cells : List (List ℕ)) (are_cells : AreContestedRows ideal.modulus columns reducers rows cells) (echelon : List (List ℕ))
    (rref : IsRref ideal.modulus (length (contested_words columns reducers)) cells echelon) where
  abbrev contested : List (List ℕ)
  contested = contested_words columns reducers

  abbrev m : ℕ
  m = length contested

  falling : AllPairs IsLetterwiseGreater contested
  falling = contested_falling columns reducers closed.are_columns.falling

  members : (u : ℕ → Residue ideal.modulus) → IsInRowSpan ideal.modulus st.modulus cells u → IsMember ideal st d (spread ideal.modulus st.modulus contested u)
  members = combined_member ideal st d G lower rows columns reducers closed cells are_cells

  led_by : (w : List ℕ) → IsLeadingWord ideal d w → IsNormal G w → IsLedBy ideal.modulus m st.modulus cells echelon rref contested w
  led_by = normal_led ideal st d G lower rows columns reducers closed cells are_cells echelon rref

  normal_at : (x : List ℕ) → Contains contested x → IsNormal G x
  normal_at x k = (contested_says G columns reducers closed.are_reducers x k).1

  among : (w : List ℕ) → Contains contested w → IsLeadingWord ideal d w → IsLedBy ideal.modulus m st.modulus cells echelon rref contested w
  among w k l = led_by w l (normal_at w k)

  listed_reduced : (g : List Term) → Contains (map (element_on contested) echelon) g → IsReduced ideal d g
  listed_reduced g k =
      let r = Contains-map_cases (element_on contested) echelon g k in
      let l = led_of ideal st d contested falling cells echelon rref members r.0 r.1 in
      subst (IsReduced ideal d) r.2 (row_is_reduced ideal st d contested falling cells echelon rref members G lower among led_by l.0 r.0 l.1
      (normal_at (get_or contested l.0 []) (Contains-get_or contested l.0 [] l.1.within)))

  reduced_listed : (g : List Term) → IsReduced ideal d g → Contains (map (element_on contested) echelon) g
  reduced_listed g h =
      let r = reduced_of_row ideal st d contested falling cells echelon rref members G lower among led_by g h in
      subst (Contains (map (element_on contested) echelon)) (sym r.is) (Contains-map (element_on contested) echelon r.row r.listed)

  -- the reduced elements of the degree are exactly the elements of the rows of the form, and these stand by falling leading word
  pub row_basis : IsReducedBasis ideal d (map (element_on contested) echelon)
  row_basis = record {
    exactly = λ g. (listed_reduced g, reduced_listed g);
    falling = AllPairs-map (element_on contested) (λ (r s : List ℕ). HasGreaterLead (element_on contested r) (element_on contested s)) HasGreaterLead
        (λ r s h. h) echelon (rows_fall ideal st d contested falling cells echelon rref members);
  }

-- over the reduced elements of lower degrees the elements of the echelon form of the contested rows are the reduced basis of the degree
pub rows_give_basis : RowsGiveBasis
rows_give_basis = row_basis
