-- The span of a reduced row echelon form.
use Rattle.std.proofs.Common.{◌≡◌, ◌+◌, ◌<◌, ◌≤◌, ℕ, zero, suc, List, [], ◌∷◌, All, map, length, sym, ◌∙◌, inl, inr, arith, subst, zip}
use Rattle.std.specs.List.{Contains, range_with_len}
use Rattle.std.proofs.lemmas.Bool.{cases_eq, cases_lt}
use Rattle.std.proofs.lemmas.List.{length-map}
use Rattle.std.proofs.lemmas.List.FromFn.{length-range_with_len}
use Rattle.std.proofs.lemmas.Slice.Zip.{length-zip}
use Rattle.words.proofs.Members.{Contains-first, Contains-more}
use Rattle.field_table.specs.Residues.{IsFieldModulus}
use Rattle.linear_algebra.specs.Fields.{Field}
use Rattle.linear_algebra.specs.Spans.{Vector, IsInSpan, sum_of}
use Rattle.linear_algebra.specs.Echelon.{AreInSpan, AreSameAt, IsOneOf, IsReduced, done, skip, lead, from_leads}
use Rattle.linear_algebra.specs.Laws.{ResidueVector}
use Rattle.linear_algebra.specs.Mod.{residue_field}
use Rattle.linear_algebra.proofs.Algebra.{IsInSpan-add, IsInSpan-scaled, IsInSpan-zero}
use Rattle.linear_algebra.proofs.Elimination.{AreSameAtLeads, own_entries, same_span}
use Rattle.back_reduce.specs.Rows.{IsInRowSpan, IsRow, vector}
use Rattle.back_reduce.specs.Rref.{IsRref}
use Rattle.back_reduce.proofs.RowLists.{OneOf}
use Rattle.row_laws.proofs.Leaders.{led_rows, of_lead, row_combined, with_lead}
use Rattle.plain_engine.specs.Spans.{HaveOneSpan, SpansAll}
use Rattle.plain_engine.proofs.RowSpans.{span_one, span_past, span_within}

module _ (K : Field) (X : Type 0) where
  -- at most one row leads at each column
  reduced-length : (xs : List X) (es : List (X × Vector K X)) → IsReduced K X xs es → length es ≤ length xs
  reduced-length xs es done = omega arith
  reduced-length xs es (skip x ys es' z r) = omega (arith, reduced-length ys es r)
  reduced-length xs es (lead x ys v es' one z zl r) = omega (arith, reduced-length ys es' r)

  -- with as many rows as columns, all columns are leading ones
  all_led : (xs : List X) (es : List (X × Vector K X)) (w v : Vector K X) → IsReduced K X xs es → length es ≡ length xs → AreSameAtLeads K X es w v →
      AreSameAt K X xs v w
  all_led xs es w v done l s = tt
  all_led xs es w v (skip x ys es' z r) l s = absurd (omega (arith, l, reduced-length ys es r))
  all_led xs es w v (lead x ys g es' one z zl r) l s = (sym s.0, all_led ys es' w v r (omega (arith, l)) s.1)

  sum_inside : (P : Vector K X → Type 0) (es : List (X × Vector K X)) (v : Vector K X)
      → ((e : X × Vector K X) → Contains es e → IsInSpan K X P e.1) → IsInSpan K X P (sum_of K X (from_leads K X es v))
  sum_inside P [] v h = IsInSpan-zero K X P
  sum_inside P (e ∷ es) v h =
      IsInSpan-add K X P (λ x. K.mul (v e.0) (e.1 x)) (sum_of K X (from_leads K X es v)) (IsInSpan-scaled K X P (v e.0) e.1 (h e (Contains-first e es)))
      (sum_inside P es v (λ d m. h d (Contains-more e es d m)))

  inside-map : (gs hs : List (Vector K X)) (es : List (X × Vector K X))
      → ((v : Vector K X) → IsInSpan K X (IsOneOf K X hs) v → IsInSpan K X (IsOneOf K X gs) v) → AreInSpan K X hs es → AreInSpan K X gs es
  inside-map gs hs [] h s = tt
  inside-map gs hs (e ∷ es) h s = (h e.1 s.0, inside-map gs hs es h s.1)

-- the form of rows is that of each list with their span
pub rref-span : (p m : ℕ) (given rows echelon : List (List ℕ)) → HaveOneSpan p given rows → IsRref p m rows echelon → IsRref p m given echelon
rref-span p m given rows echelon h rref = record {
  each = rref.each;
  leads = rref.leads;
  count = rref.count;
  basis = λ modulus. (
      let b = rref.basis modulus in
      let K = residue_field p modulus in
      record {
        reduced = b.reduced;
        inside = inside-map K ℕ (map (vector p modulus) given) (map (vector p modulus) rows) (zip rref.leads (map (vector p modulus) echelon))
            (λ v. (h.same modulus v).1) b.inside;
        coordinates = λ v s. b.coordinates v ((h.same modulus v).0 s);
      });
}

module _ (p m : ℕ) (rows echelon : List (List ℕ)) (rref : IsRref p m rows echelon) where
  module _ (modulus : IsFieldModulus p) where
    abbrev K : Field
    K = residue_field p modulus

    abbrev V : Type 0
    V = ResidueVector p modulus ℕ

    abbrev es : List (ℕ × V)
    es = led_rows p m modulus rows echelon rref

    sized : length es ≡ length echelon
    sized = omega (arith, length-zip rref.leads (map (vector p modulus) echelon), length-map echelon (vector p modulus), rref.count)

    -- the form has at most m rows
    pub rref-length : length echelon ≤ m
    rref-length = omega (arith, sized, reduced-length K ℕ (range_with_len 0 m) es (rref.basis modulus).reduced, length-range_with_len 0 m)

    same_at : (a n k : ℕ) (v w : V) → AreSameAt K ℕ (range_with_len a n) v w → a ≤ k → k < a + n → v k ≡ w k
    same_at a zero k v w s le lt = absurd (omega (arith, le, lt))
    same_at a (suc n) k v w s le lt = elim (cases_eq k a) [
      | inl is ↦ subst (λ (i : ℕ). v i ≡ w i) (sym is) s.0
      | inr other ↦ same_at (a + 1) n k v w s.1 (omega (arith, le, other)) (omega (arith, lt))
    ]

    -- a vector that is had by its entries at the leading columns is in the span
    had_inside : (v : V) → ((c : ℕ) → m ≤ c → v c ≡ K.zero) → AreSameAt K ℕ (range_with_len 0 m) v (sum_of K ℕ (from_leads K ℕ es v)) →
        IsInRowSpan p modulus echelon v
    had_inside v past s =
        let sum : V = sum_of K ℕ (from_leads K ℕ es v) in
        let inside : IsInRowSpan p modulus echelon sum = sum_inside K ℕ (OneOf p modulus echelon) es v (λ e n. (
        let r = of_lead (vector p modulus) rref.leads echelon e n in
        subst (IsInRowSpan p modulus echelon) (sym r.2) (span_one p modulus echelon r.0 r.1))) in
        same_span K ℕ (OneOf p modulus echelon) sum v (λ c. elim (cases_lt c m) [
          | inl lt ↦ sym (same_at 0 m c v sum s (omega arith) (omega (arith, lt)))
          | inr le ↦ span_past p modulus m echelon rref.each sum inside c le ∙ sym (past c le)
        ]) inside

  -- the form of rows of m residues has one span with them
  pub rref-one_span : All (IsRow p m) rows → HaveOneSpan p rows echelon
  rref-one_span are = record {
    same = λ modulus v. (
      λ s. had_inside modulus v (span_past p modulus m rows are v s) ((rref.basis modulus).coordinates v s),
      span_within p modulus echelon rows (λ r n. (
          let l = with_lead (vector p modulus) rref.leads echelon rref.count r n in
          row_combined p m modulus rows echelon rref (l.0, vector p modulus r) l.1)) v,
    );
  }

  -- a form of m rows spans all
  pub rref-full : length echelon ≡ m → SpansAll p m echelon
  rref-full l modulus v past =
      let b = rref.basis modulus in
      let led = es modulus in
      had_inside modulus v past (all_led (K modulus) ℕ (range_with_len 0 m) led (sum_of (K modulus) ℕ (from_leads (K modulus) ℕ led v)) v b.reduced
      (sized modulus ∙ l ∙ sym (length-range_with_len 0 m)) (own_entries (K modulus) ℕ (range_with_len 0 m) led v b.reduced))
