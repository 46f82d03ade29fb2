-- Rows that lead at rising columns and are 0 at each other's columns are reduced.
use Rattle.std.proofs.Common.{◌≡◌, ◌+◌, ◌<◌, ◌≤◌, ℕ, zero, suc, List, [], ◌∷◌, All, map, get_or, zip, refl, sym, ap, ◌∙◌, inl, inr, arith, subst}
use Rattle.std.specs.List.{range_with_len}
use Rattle.std.proofs.lemmas.Bool.{cases_eq}
use Rattle.std.proofs.lemmas.List.Elements.{All-head, All-tail}
use Rattle.field_table.specs.Residues.{IsFieldModulus}
use Rattle.linear_algebra.specs.Fields.{Field}
use Rattle.linear_algebra.specs.Echelon.{AreZeroAt, IsReduced, IsZeroAtLeads, done, skip, lead}
use Rattle.back_reduce.proofs.Vectors.{K, V, vec, vec-one, vec-zero}

-- rows with the columns from a on at which they lead, rising
abbrev pub IsFormFrom : ℕ → ℕ → List ℕ → List (List ℕ) → Type 0
IsFormFrom m a [] [] = Unit {0}
IsFormFrom m a [] (r ∷ rs) = ⊥
IsFormFrom m a (c ∷ cs) [] = ⊥
IsFormFrom m a (c ∷ cs) (r ∷ rs) = (a ≤ c) × (c < m) × (get_or r c 0 ≡ 1) × ((k : ℕ) → k < c → get_or r k 0 ≡ 0)
    × All (λ d. get_or r d 0 ≡ 0) cs × IsFormFrom m (c + 1) cs rs

-- rows that lead at rising columns from a on lead so from each smaller column on
pub form_later : (m a b : ℕ) (cs : List ℕ) (rs : List (List ℕ)) → b ≤ a → IsFormFrom m a cs rs → IsFormFrom m b cs rs
form_later m a b [] [] le h = tt
form_later m a b [] (r ∷ rs) le h = h
form_later m a b (c ∷ cs) [] le h = h
form_later m a b (c ∷ cs) (r ∷ rs) le h = (omega (arith, le, h.0), h.1, h.2, h.3, h.4, h.5)

module _ (p : ℕ) (modulus : IsFieldModulus p) where
  abbrev Kf : Field
  Kf = K p modulus

  abbrev Vf : Type 0
  Vf = V p modulus

  abbrev pub led : List ℕ → List (List ℕ) → List (ℕ × Vf)
  led cs rs = zip cs (map (vec p modulus) rs)

  zero_before : (m a x : ℕ) (cs : List ℕ) (rs : List (List ℕ)) → x < a → IsFormFrom m a cs rs → AreZeroAt Kf ℕ x (led cs rs)
  zero_before m a x [] [] lt h = tt
  zero_before m a x [] (r ∷ rs) lt h = absurd h
  zero_before m a x (c ∷ cs) [] lt h = absurd h
  zero_before m a x (c ∷ cs) (r ∷ rs) lt h = (
    vec-zero p modulus r x (h.3 x (omega (arith, lt, h.0))),
    zero_before m (c + 1) x cs rs (omega (arith, lt, h.0)) h.5,
  )

  zero_at_leads : (m a : ℕ) (r : List ℕ) (cs : List ℕ) (rs : List (List ℕ)) → All (λ d. get_or r d 0 ≡ 0) cs → IsFormFrom m a cs rs →
      IsZeroAtLeads Kf ℕ (vec p modulus r) (led cs rs)
  zero_at_leads m a r [] [] z h = tt
  zero_at_leads m a r [] (s ∷ rs) z h = absurd h
  zero_at_leads m a r (c ∷ cs) [] z h = absurd h
  zero_at_leads m a r (c ∷ cs) (s ∷ rs) z h = (
    vec-zero p modulus r c (All-head (λ (d : ℕ). get_or r d 0 ≡ 0) c cs z),
    zero_at_leads m (c + 1) r cs rs (All-tail (λ (d : ℕ). get_or r d 0 ≡ 0) c cs z) h.5,
  )

  -- rows that lead at rising columns from a on, below m, and are 0 at each other's columns are reduced over the columns from a to m
  pub reduced_from : (n m a : ℕ) (cs : List ℕ) (rs : List (List ℕ)) → a + n ≡ m → IsFormFrom m a cs rs → IsReduced Kf ℕ (range_with_len a n) (led cs rs)
  reduced_from zero m a [] [] e h = done
  reduced_from zero m a [] (r ∷ rs) e h = absurd h
  reduced_from zero m a (c ∷ cs) [] e h = absurd h
  reduced_from zero m a (c ∷ cs) (r ∷ rs) e h = absurd (omega (arith, e, h.0, h.1))
  reduced_from (suc n) m a [] [] e h = skip a (range_with_len (a + 1) n) [] tt (reduced_from n m (a + 1) [] [] (omega (arith, e)) tt)
  reduced_from (suc n) m a [] (r ∷ rs) e h = absurd h
  reduced_from (suc n) m a (c ∷ cs) [] e h = absurd h
  reduced_from (suc n) m a (c ∷ cs) (r ∷ rs) e h = elim (cases_eq c a) [
    | inl is ↦
        let rest : IsFormFrom m (a + 1) cs rs = form_later m (c + 1) (a + 1) cs rs (omega (arith, is)) h.5 in
        let one : vec p modulus r a ≡ Kf.one = vec-one p modulus r a (ap (λ (i : ℕ). get_or r i 0) (sym is) ∙ h.2) in
        let P : ℕ → Type 0 = λ i. IsReduced Kf ℕ (a ∷ range_with_len (a + 1) n) ((i, vec p modulus r) ∷ led cs rs) in
        subst P (sym is) (lead a (range_with_len (a + 1) n) (vec p modulus r) (led cs rs) one
        (zero_before m (a + 1) a cs rs (omega arith) rest) (zero_at_leads m (c + 1) r cs rs h.4 h.5)
        (reduced_from n m (a + 1) cs rs (omega (arith, e)) rest))
    | inr other ↦
        let le : a + 1 ≤ c = omega (arith, h.0, other) in
        let whole : IsFormFrom m (a + 1) (c ∷ cs) (r ∷ rs) = (le, h.1, h.2, h.3, h.4, h.5) in
        skip a (range_with_len (a + 1) n) (led (c ∷ cs) (r ∷ rs)) (zero_before m (a + 1) a (c ∷ cs) (r ∷ rs) (omega arith) whole)
        (reduced_from n m (a + 1) (c ∷ cs) (r ∷ rs) (omega (arith, e)) whole)
  ]

  -- what stands beside the leading columns are the vectors of all rows
  pub rows_of_led : (m a : ℕ) (cs : List ℕ) (rs : List (List ℕ)) → IsFormFrom m a cs rs → map (λ e. e.1) (led cs rs) ≡ map (vec p modulus) rs
  rows_of_led m a [] [] h = refl
  rows_of_led m a [] (r ∷ rs) h = absurd h
  rows_of_led m a (c ∷ cs) [] h = absurd h
  rows_of_led m a (c ∷ cs) (r ∷ rs) h = ap (λ (l : List Vf). vec p modulus r ∷ l) (rows_of_led m (c + 1) cs rs h.5)
