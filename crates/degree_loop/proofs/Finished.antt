-- The elements of a degree, from the echelon form of its matrix.
use Rattle.std.proofs.Common.{◌≡◌, Err, Result, ◌+◌, ◌-◌, ◌^◌, ◌<◌, ◌≤◌, ℕ, List, [], ◌∷◌, All, inl, length, map, min, sym, ◌∙◌}
use Rattle.std.proofs.Common.{arith, subst, refl}
use Rattle.std.proofs.lemmas.Slice.Zip.{AllZip-long}
use Rattle.words.proofs.Members.{All-from_members}
use Rattle.free_poly.specs.declared.term.Term.{Term}
use Rattle.free_poly.specs.Poly.{IsMonic, element_on}
use Rattle.ideal_laws.specs.Basis.{IsReducedBasis}
use Rattle.ideal_laws.specs.Ideal.{Ideal}
use Rattle.ideal_laws.specs.Laws.{IsSetting}
use Rattle.ideal_laws.specs.declared.limits.LimitKind.{LimitKind}
use Rattle.ideal_laws.specs.declared.limits.LimitKind.TheVariants.{Terms}
use Rattle.ideal_laws.specs.declared.engine.EngineFault.{EngineFault}
use Rattle.ideal_laws.specs.declared.engine.EngineFault.TheVariants.{Limit}
use Rattle.ideal_laws.specs.Engine.{Elements}
use Rattle.ideal_laws.specs.Quantities.{IsFirstPassing, IsQuantity, NonePasses, terms_in, contested_words}
use Rattle.ideal_laws.specs.Overlaps.{AreLower}
use Rattle.back_reduce.specs.declared.problem.Problem.{Problem}
use Rattle.back_reduce.specs.Problems.{rows_of}
use Rattle.back_reduce.specs.Rref.{IsRref}
use Rattle.row_laws.specs.Contested.{IsContestedRow}
use Rattle.row_laws.specs.Laws.{RowsGiveBasis}
use Rattle.symbolic_prep.specs.Closed.{ClosedColumns}
use Rattle.degree_loop.specs.Matrix.{IsMatrix}

module _ (ideal : Ideal) (G : List (List Term)) (d : ℕ) (closed : ClosedColumns) (problem : Problem) (h : IsMatrix ideal G d closed problem) where
  abbrev contested : List (List ℕ)
  contested = contested_words closed.columns closed.reducers

  -- the echelon form of the problem is one by the modulus of the ideal, with as many columns as contested words
  pub form_of : (echelon : List (List ℕ)) → IsRref problem.modulus problem.m (rows_of problem) echelon
      → IsRref ideal.modulus (length contested) (rows_of problem) echelon
  form_of echelon f = subst (λ (n : ℕ). IsRref ideal.modulus n (rows_of problem) echelon) h.width
      (subst (λ (n : ℕ). IsRref n problem.m (rows_of problem) echelon) h.modulus f)

  -- the polynomials of the rows of an echelon form of the problem are the reduced basis of the degree, by the law of the rows
  pub basis_of : (law : RowsGiveBasis) (st : IsSetting ideal) (lower : AreLower ideal d G) (echelon : List (List ℕ))
      → IsRref problem.modulus problem.m (rows_of problem) echelon
      → (elements : List (List Term)) → elements ≡ map (element_on contested) echelon → IsReducedBasis ideal d elements
  basis_of law st lower echelon f elements is =
      let own = law ideal st d G lower h.rows closed.columns closed.reducers h.are_closed (rows_of problem) h.contested
      echelon (form_of echelon f) in
      subst (IsReducedBasis ideal d) (sym is) own

-- the problem has as many rows as the degree
pub count_rows : (ideal : Ideal) (G : List (List Term)) (d : ℕ) (closed : ClosedColumns) (problem : Problem) →
    (h : IsMatrix ideal G d closed problem) → problem.n ≡ length h.rows
count_rows ideal G d closed problem h =
    sym problem.count ∙ AllZip-long (IsContestedRow ideal.modulus closed.columns closed.reducers) h.rows (rows_of problem) h.contested

-- the elements of a reduced basis are monic
pub basis_monic : (ideal : Ideal) (d : ℕ) (basis : List (List Term)) → IsReducedBasis ideal d basis → All IsMonic basis
basis_monic ideal d basis h = All-from_members IsMonic basis (λ f m. ((h.exactly f).0 m).monic)

-- the terms pass their limit, or do not
module _ (ideal : Ideal) (below : Elements) (d most count : ℕ) (elements : List (List Term)) (basis : IsReducedBasis ideal d elements)
    (few : most < 2 ^ 32) (is : count ≡ min (terms_in below.elements + terms_in elements) (2 ^ 64 - 1)) where
  -- if the terms of all elements pass their limit, the fault that says so names the degree and the first quantity that passes
  pub terms_pass : most < count → (kind : LimitKind) (degree value : ℕ) → {T : Type 0} (r : Result T EngineFault) →
      r ≡ Err (Limit Terms d count) → r ≡ Err (Limit kind degree value)
      → (degree ≡ d) × IsFirstPassing (IsQuantity ideal below d) ((Terms, most) ∷ []) kind value
  terms_pass lt kind degree value r own e =
      let is_kind : kind ≡ Terms = cc e in
      let is_degree : degree ≡ d = cc e in
      let is_value : value ≡ count = cc e in
      (is_degree, inl (terms_in below.elements + terms_in elements, (elements, basis, refl), omega (arith, lt, is, few), is_kind, omega (arith, is_value, is)))

  -- if the terms of all elements are within their limit, none passes
  pub terms_within : count ≤ most → NonePasses (IsQuantity ideal below d) ((Terms, most) ∷ [])
  terms_within le = ((terms_in below.elements + terms_in elements, (elements, basis, refl), omega (arith, le, is, few)), tt)

  -- if the terms of all elements are within their limit, and the elements of the degree no more than their terms, they are within it, too
  pub elements_few : count ≤ most → length elements ≤ terms_in elements → length elements ≤ most
  elements_few le some = omega (arith, le, is, few, some)
