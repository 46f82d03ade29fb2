-- The rows of pivots, each reduced by those of later columns, are the reduced row echelon form.
use Rattle.std.proofs.Common.{◌≡◌, ◌↔◌, ◌+◌, ◌<◌, ◌≤◌, ℕ, zero, suc, List, [], ◌∷◌, All, Result, Ok, Err, map, length, get_or, refl, sym, ap, ◌∙◌}
use Rattle.std.proofs.Common.{inl, inr, arith, subst}
use Rattle.std.specs.Result.{IfOk}
use Rattle.std.specs.List.{AllZip, Contains, range_with_len}
use Rattle.std.proofs.lemmas.List.{length-map}
use Rattle.std.proofs.lemmas.List.Elements.{All-contains, All-head, All-map, All-tail, Contains-get_or}
use Rattle.words.proofs.Members.{Contains-cases, Contains-first, Contains-more}
use Rattle.field_table.specs.Residues.{IsFieldModulus}
use Rattle.linear_algebra.specs.Echelon.{IsOneOf}
use Rattle.linear_algebra.specs.Fields.{Field}
use Rattle.linear_algebra.specs.Spans.{IsInSpan}
use Rattle.linear_algebra.proofs.Algebra.{IsInSpan-one}
use Rattle.linear_algebra.proofs.Elimination.{IsInSpan-trans}
use Rattle.back_reduce.specs.declared.echelon.Leader.{Leader}
use Rattle.back_reduce.specs.Leaders.{AreLeaders, AreLeadersOf, IsLaterVector, IsReducedRow}
use Rattle.back_reduce.specs.declared.problem.Problem.{Problem}
use Rattle.back_reduce.specs.Problems.{rows_of}
use Rattle.back_reduce.specs.Rows.{IsInRowSpan, IsRow}
use Rattle.back_reduce.specs.Rref.{IsRref}
use Rattle.back_reduce.specs.Table.{IsLeader}
use Rattle.back_reduce.proofs.Coordinates.{basis_from}
use Rattle.back_reduce.proofs.Forms.{led, reduced_from, rows_of_led, IsFormFrom}
use Rattle.back_reduce.proofs.Beside.{beside_left, beside_right}
use Rattle.back_reduce.proofs.RowLists.{OneOf}
use Rattle.back_reduce.proofs.Sums.{plus_back, plus_inside}
use Rattle.back_reduce.proofs.Vectors.{leader_within, K, V, vec}

-- a row and what it is reduced to
abbrev pub IsReducedTo : ℕ → List Leader → Leader → List ℕ → Type 0
IsReducedTo p leaders own row = IsReducedRow p leaders own.column own.row row

abbrev pub columns_of : List Leader → List ℕ
columns_of leaders = map (λ l. l.column) leaders

abbrev pub starts_of : List Leader → List (List ℕ)
starts_of leaders = map (λ l. l.row) leaders

module _ (p m : ℕ) where
  leaders_tail : (own : Leader) (leaders : List Leader) → AreLeaders p m (own ∷ leaders) → AreLeaders p m leaders
  leaders_tail own leaders h = record {
    each = All-tail (λ l. IsLeader p m l.column l.row) own leaders h.each;
    rising = λ i j d below within. h.rising (suc i) (suc j) d (omega (arith, below)) (omega (arith, within));
  }

  form_of : (a : ℕ) (all leaders : List Leader) (ends : List (List ℕ)) → AreLeaders p m leaders →
      ((l : Leader) → Contains leaders l → Contains all l) → All (λ l. a ≤ l.column) leaders
      → AllZip (IsReducedTo p all) leaders ends → IsFormFrom m a (columns_of leaders) ends
  form_of a all [] [] h part from z = tt
  form_of a all [] (e ∷ ends) h part from z = absurd z
  form_of a all (own ∷ leaders) [] h part from z = absurd z
  form_of a all (own ∷ leaders) (e ∷ ends) h part from z =
      let start : IsLeader p m own.column own.row = All-head (λ l. IsLeader p m l.column l.row) own leaders h.each in
      let above : (k : ℕ) (d : Leader) → k < length leaders → own.column < (get_or leaders k d).column =
      λ k d within. h.rising zero (suc k) d (omega arith) (omega (arith, within)) in (
        All-head (λ (l : Leader). a ≤ l.column) own leaders from,
        leader_within p m own.column own.row start,
        z.0.leader.one,
        z.0.leader.before,
        All-map (λ d. get_or e d 0 ≡ 0) (λ (l : Leader). l.column) leaders
            (λ k d within. z.0.zero_later (get_or leaders k d) (part (get_or leaders k d)
            (Contains-more own leaders (get_or leaders k d) (Contains-get_or leaders k d within))) (above k d within)),
        form_of (own.column + 1) all leaders ends (leaders_tail own leaders h) (λ l there. part l (Contains-more own leaders l there))
            (λ k d within. omega (arith, above k d within)) z.1,
      )

  module _ (modulus : IsFieldModulus p) where
    abbrev Ke : Field
    Ke = K p modulus

    abbrev Ve : Type 0
    Ve = V p modulus

    -- the vector of a row in a list is one of the list's vectors
    pub contained_one : (rows : List (List ℕ)) (r : List ℕ) → Contains rows r → OneOf p modulus rows (vec p modulus r)
    contained_one [] r there = absurd (omega (arith, there.1))
    contained_one (x ∷ rows) r there = elim (Contains-cases x rows r there) [
      | inl is ↦ inl (ap (vec p modulus) (sym is))
      | inr later ↦ inr (contained_one rows r later)
    ]

    -- each of a list's vectors is the vector of a row in it
    pub one_contained : (rows : List (List ℕ)) (v : Ve) → OneOf p modulus rows v → (r : List ℕ) × Contains rows r × (v ≡ vec p modulus r)
    one_contained [] v h = absurd h
    one_contained (x ∷ rows) v (inl is) = (x, Contains-first x rows, is)
    one_contained (x ∷ rows) v (inr h) = let r = one_contained rows v h in (r.0, Contains-more x rows r.0 r.1, r.2)

    start_one : (leaders : List Leader) (l : Leader) → Contains leaders l → OneOf p modulus (starts_of leaders) (vec p modulus l.row)
    start_one [] l there = absurd (omega (arith, there.1))
    start_one (x ∷ leaders) l there = elim (Contains-cases x leaders l there) [
      | inl is ↦ inl (ap (λ (i : Leader). vec p modulus i.row) (sym is))
      | inr later ↦ inr (start_one leaders l later)
    ]

    one_start : (leaders : List Leader) (v : Ve) → OneOf p modulus (starts_of leaders) v → (l : Leader) × Contains leaders l × (v ≡ vec p modulus l.row)
    one_start [] v h = absurd h
    one_start (x ∷ leaders) v (inl is) = (x, Contains-first x leaders, is)
    one_start (x ∷ leaders) v (inr h) = let r = one_start leaders v h in (r.0, Contains-more x leaders r.0 r.1, r.2)

    module _ (leaders : List Leader) (ends : List (List ℕ)) (are : AreLeaders p m leaders) (z : AllZip (IsReducedTo p leaders) leaders ends) where
      end_in : (r : List ℕ) → Contains ends r → IsInRowSpan p modulus (starts_of leaders) (vec p modulus r)
      end_in r there =
          let b = beside_right (IsReducedTo p leaders) leaders ends r z there in
          let own = b.0 in
          let Q = OneOf p modulus (starts_of leaders) in
          plus_inside p modulus (IsLaterVector p modulus leaders own.column) Q
          (λ v later. IsInSpan-one Ke ℕ Q v (subst Q (sym later.is) (start_one leaders later.later later.there))) own.row r (b.1.related.sum modulus)
          (IsInSpan-one Ke ℕ Q (vec p modulus own.row) (start_one leaders own b.1.left))

      start_in : (n : ℕ) (l : Leader) → Contains leaders l → m ≤ l.column + n → IsInRowSpan p modulus ends (vec p modulus l.row)
      start_in zero l there le = absurd (omega (
        arith,
        le,
        leader_within p m l.column l.row
            (All-contains (λ (l : Leader). IsLeader p m l.column l.row) leaders l are.each there),
      ))
      start_in (suc n) l there le =
          let b = beside_left (IsReducedTo p leaders) leaders ends l z there in
          let r = b.0 in
          let Q = OneOf p modulus ends in
          plus_back p modulus (IsLaterVector p modulus leaders l.column) Q
          (λ v later. subst (IsInSpan Ke ℕ Q) (sym later.is) (start_in n later.later later.there (omega (arith, le, later.after))))
          l.row r (b.1.related.sum modulus)
          (IsInSpan-one Ke ℕ Q (vec p modulus r) (contained_one ends r b.1.right))

      -- the span of the reduced rows is in that of the leaders' rows
      pub ends_from : (v : Ve) → IsInRowSpan p modulus ends v → IsInRowSpan p modulus (starts_of leaders) v
      ends_from = IsInSpan-trans Ke ℕ (OneOf p modulus ends) (OneOf p modulus (starts_of leaders)) (λ v one. (
          let r = one_contained ends v one in subst (IsInRowSpan p modulus (starts_of leaders)) (sym r.2) (end_in r.0 r.1)))

      -- the span of the leaders' rows is in that of the reduced rows
      pub starts_from : (v : Ve) → IsInRowSpan p modulus (starts_of leaders) v → IsInRowSpan p modulus ends v
      starts_from = IsInSpan-trans Ke ℕ (OneOf p modulus (starts_of leaders)) (OneOf p modulus ends) (λ v one. (
          let l = one_start leaders v one in subst (IsInRowSpan p modulus ends) (sym l.2) (start_in m l.0 l.1 (omega arith))))

  end_row : (leaders : List Leader) (ends : List (List ℕ)) → AreLeaders p m leaders → AllZip (IsReducedTo p leaders) leaders ends → All (IsRow p m) ends
  end_row leaders ends are z k d within =
      let r = get_or ends k d in
      let b = beside_right (IsReducedTo p leaders) leaders ends r z (Contains-get_or ends k d within) in
      let own = b.0 in
      let start : IsLeader p m own.column own.row = All-contains (λ (l : Leader). IsLeader p m l.column l.row) leaders own are.each b.1.left in
      record { size = b.1.related.leader.size ∙ start.size; residues = b.1.related.leader.residues }

  -- what leaders with the span of some rows are reduced to is the reduced row echelon form of these rows
  pub rref_from : (rows : List (List ℕ)) (leaders : List Leader) (ends : List (List ℕ)) → AreLeaders p m leaders → AllZip (IsReducedTo p leaders) leaders ends
      → ((modulus : IsFieldModulus p) (v : V p modulus) → IsInRowSpan p modulus (starts_of leaders) v ↔ IsInRowSpan p modulus rows v) → IsRref p m rows ends
  rref_from rows leaders ends are z same = record {
    each = end_row leaders ends are z;
    leads = columns_of leaders;
    count = length-map leaders (λ l. l.column) ∙ length_all_zip_of leaders ends z;
    basis = λ modulus. (
        let form = form_of 0 leaders leaders ends are (λ l there. there) (λ k d within. omega arith) z in
        let es = led p modulus (columns_of leaders) ends in
        let shown : map (λ e. e.1) es ≡ map (vec p modulus) ends = rows_of_led p modulus m 0 (columns_of leaders) ends form in
        basis_from (K p modulus) ℕ (range_with_len 0 m) (map (vec p modulus) rows) es
        (reduced_from p modulus m m 0 (columns_of leaders) ends (omega arith) form)
        (λ g one. (same modulus g).0 (ends_from modulus leaders ends are z g
        (IsInSpan-one (K p modulus) ℕ (OneOf p modulus ends) g (subst (λ (l : List (V p modulus)). IsOneOf (K p modulus) ℕ l g) shown
        one))))
        (λ v s. subst (λ (l : List (V p modulus)). IsInSpan (K p modulus) ℕ (IsOneOf (K p modulus) ℕ l) v) (sym shown)
        (starts_from modulus leaders ends are z v ((same modulus v).1 s))));
  }
    where
      length_all_zip_of : (xs : List Leader) (ys : List (List ℕ)) → AllZip (IsReducedTo p leaders) xs ys → length xs ≡ length ys
      length_all_zip_of [] [] h = refl
      length_all_zip_of [] (y ∷ ys) h = absurd h
      length_all_zip_of (x ∷ xs) [] h = absurd h
      length_all_zip_of (x ∷ xs) (y ∷ ys) h = ap suc (length_all_zip_of xs ys h.1)

-- what all leaders of a problem's rows are reduced to is the reduced row echelon form of these rows
pub problem_rref : {C E : Type 0} (problem : Problem) (p : ℕ) (shown leaders : List Leader) (result : Result C E) (items : C → List (List ℕ))
    → problem.modulus ≡ p → shown ≡ leaders → AreLeadersOf problem leaders
    → IfOk result (λ c. AllZip (IsReducedTo p shown) shown (items c)) → IfOk result (λ c. IsRref problem.modulus problem.m (rows_of problem) (items c))
problem_rref problem p shown leaders (Err e) items is same h z = tt
problem_rref problem p shown leaders (Ok c) items is same h z =
    let q = problem.modulus in
    let here : AllZip (IsReducedTo q leaders) leaders (items c) =
    subst (λ (n : ℕ). AllZip (IsReducedTo n leaders) leaders (items c)) (sym is)
    (subst (λ (l : List Leader). AllZip (IsReducedTo p l) l (items c)) same z) in
    rref_from q problem.m (rows_of problem) leaders (items c) h.are here h.span
