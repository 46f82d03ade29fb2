-- The leading columns of the echelon form: each normal leading word of the degree is the word of one.
use Rattle.std.proofs.Common.{◌≡◌, ◌≢◌, ◌<◌, ℕ, List, [], ◌∷◌, length, get_or, map, zip, sym, ap, ◌∙◌, inl, inr, arith, AllPairs, subst}
use Rattle.std.specs.List.{Contains, range_with_len}
use Rattle.std.proofs.Math.Nat.{mod-eq_of_lt, zero-mod}
use Rattle.words.proofs.Degrees.{Contains-range, range-bounds, range-rising}
use Rattle.words.proofs.Members.{Contains-cases, Contains-first, Contains-more, Contains-none}
use Rattle.field_table.specs.Residues.{IsFieldModulus}
use Rattle.linear_algebra.specs.Fields.{Field}
use Rattle.linear_algebra.specs.Echelon.{AreInSpan, IsBasis}
use Rattle.linear_algebra.specs.Mod.{Residue, residue_field}
use Rattle.back_reduce.specs.Rows.{IsInRowSpan, IsRow, vector}
use Rattle.back_reduce.specs.Rref.{IsRref}
use Rattle.row_laws.proofs.Forms.{first_led, lead_in_columns, leads_ordered, row_before, row_one, row_zero}

module _ {X Y : Type 0} (f : X → Y) where
  -- of as many leading columns as rows, each row's image has one beside it
  pub with_lead : (ls : List ℕ) (rs : List X) → length ls ≡ length rs → (r : X) → Contains rs r → (l : ℕ) × Contains (zip ls (map f rs)) (l, f r)
  with_lead [] [] e r m = absurd (Contains-none r m)
  with_lead [] (s ∷ rs) e r m = absurd (omega (arith, e))
  with_lead (l ∷ ls) [] e r m = absurd (omega (arith, e))
  with_lead (l ∷ ls) (s ∷ rs) e r m = elim (Contains-cases s rs r m) [
    | inl is ↦ (l, subst (λ x. Contains (zip (l ∷ ls) (map f (s ∷ rs))) (l, f x)) is (Contains-first (l, f s) (zip ls (map f rs))))
    | inr n ↦ let q = with_lead ls rs (omega (arith, e)) r n in (q.0, Contains-more (l, f s) (zip ls (map f rs)) (q.0, f r) q.1)
  ]

  -- what stands beside a leading column is the image of one of the rows
  pub of_lead : (ls : List ℕ) (rs : List X) (e : ℕ × Y) → Contains (zip ls (map f rs)) e → (r : X) × Contains rs r × (e.1 ≡ f r)
  of_lead [] rs e m = absurd (Contains-none e m)
  of_lead (l ∷ ls) [] e m = absurd (Contains-none e m)
  of_lead (l ∷ ls) (s ∷ rs) e m = elim (Contains-cases (l, f s) (zip ls (map f rs)) e m) [
    | inl is ↦ (s, Contains-first s rs, ap (λ (x : ℕ × Y). x.1) (sym is))
    | inr n ↦ let q = of_lead ls rs e n in (q.0, Contains-more s rs q.0 q.1, q.2)
  ]

-- rising numbers
before_itself : (k : ℕ) → k < k → ⊥
before_itself k lt = omega (arith, lt)

before_trans : (i j k : ℕ) → i < j → j < k → i < k
before_trans i j k a b = omega (arith, a, b)

module _ (p m : ℕ) (fm : IsFieldModulus p) (cells echelon : List (List ℕ)) (rref : IsRref p m cells echelon) where
  abbrev Kn : Field
  Kn = residue_field p fm

  abbrev N : Type 0
  N = ℕ → Residue p

  abbrev pub row_vector : List ℕ → N
  row_vector = vector p fm

  -- the rows of the form with their leading columns
  abbrev pub led_rows : List (ℕ × N)
  led_rows = zip rref.leads (map row_vector echelon)

  -- a row of the form that leads at the column with this word
  pub record IsLedBy (columns : List (List ℕ)) (w : List ℕ) : Type 0 where
    pub row : ℕ × N
    pub among : Contains led_rows row
    pub word : get_or columns row.0 [] ≡ w

  basis : IsBasis Kn ℕ (range_with_len 0 m) (map row_vector cells) led_rows
  basis = rref.basis fm

  inside_at : (es : List (ℕ × N)) → AreInSpan Kn ℕ (map row_vector cells) es → (e : ℕ × N) → Contains es e → IsInRowSpan p fm cells e.1
  inside_at [] h e n = absurd (Contains-none e n)
  inside_at (c ∷ es) h e n = elim (Contains-cases c es e n) [
    | inl is ↦ subst (λ (q : ℕ × N). IsInRowSpan p fm cells q.1) is h.0
    | inr k ↦ inside_at es h.1 e k
  ]

  -- each row of the form is in the span of the given rows
  pub row_combined : (e : ℕ × N) → Contains led_rows e → IsInRowSpan p fm cells e.1
  row_combined e n = inside_at led_rows basis.inside e n

  -- the leading columns of the form rise
  pub leads_rising : AllPairs (λ (d e : ℕ × N). d.0 < e.0) led_rows
  leads_rising = leads_ordered Kn ℕ (λ i j. i < j) before_itself before_trans (range_with_len 0 m) led_rows basis.reduced (range-rising 0 m)

  -- each leading column is one of the m columns
  pub lead_within : (e : ℕ × N) → Contains led_rows e → e.0 < m
  lead_within e n = omega (arith, (range-bounds 0 m e.0 (lead_in_columns Kn ℕ (range_with_len 0 m) led_rows basis.reduced e n)).1)

  -- a row of the form is 0 at each leading column other than its own
  pub zero_at_others : (e d : ℕ × N) → Contains led_rows e → Contains led_rows d → d.0 ≢ e.0 → e.1 d.0 ≡ Kn.zero
  zero_at_others = row_zero Kn ℕ (range_with_len 0 m) led_rows basis.reduced

  -- a row is 1 at its leading column and 0 before it
  module _ (l : ℕ) (r : List ℕ) (n : Contains led_rows (l, row_vector r)) (is_row : IsRow p m r) where
    entry : (k : ℕ) → k < m → get_or r k 0 < p
    entry k lt = is_row.residues k 0 (omega (arith, lt, is_row.size))

    -- a row of the form has the residue 1 at its leading column
    pub one_there : get_or r l 0 ≡ 1
    one_there =
        let at : row_vector r l ≡ Kn.one = row_one Kn ℕ (range_with_len 0 m) led_rows basis.reduced (l, row_vector r) n in
        sym (mod-eq_of_lt (entry l (lead_within (l, row_vector r) n))) ∙ ap (λ (x : Residue p). x.0) at
        ∙ mod-eq_of_lt {n = 1} {m = p} (omega (arith, fm.two_or_more))

    -- a row of the form has the residue 0 at each column before its leading one
    pub none_before : (k : ℕ) → k < l → get_or r k 0 ≡ 0
    none_before k lt =
        let within : k < m = omega (arith, lt, lead_within (l, row_vector r) n) in
        let at : row_vector r k ≡ Kn.zero = row_before Kn ℕ (λ i j. i < j) before_itself before_trans (range_with_len 0 m) led_rows
        basis.reduced (range-rising 0 m) (l, row_vector r) n k
        (Contains-range 0 m k (omega arith) (omega (arith, within))) lt in
        sym (mod-eq_of_lt (entry k within)) ∙ ap (λ (x : Residue p). x.0) at ∙ zero-mod p

  -- the first column at which a combination of the rows is not 0 is a leading one
  pub first_leads : (v : N) → IsInRowSpan p fm cells v → (k : ℕ) → k < m → (v k ≡ Kn.zero → ⊥) → ((j : ℕ) → j < k → v j ≡ Kn.zero) →
      (e : ℕ × N) × Contains led_rows e × (e.0 ≡ k)
  first_leads v s k lt some none = first_led Kn ℕ (λ i j. i < j) before_itself before_trans (range_with_len 0 m) led_rows basis.reduced
      (range-rising 0 m) v (basis.coordinates v s) k
      (Contains-range 0 m k (omega arith) (omega (arith, lt))) some (λ j n before. none j before)
