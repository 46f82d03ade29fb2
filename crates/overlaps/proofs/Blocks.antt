-- The overlaps with one left element and one number of letters before the right one, place by place.
use Rattle.std.proofs.Common.{◌≡◌, ◌≢◌, ◌⊎◌, ◌+◌, ◌-◌, ◌<◌, ◌≤◌, ◌==◌, ◌&&◌, ℕ, zero, suc, Bool, true, false, cond, List, [], ◌∷◌, ◌++◌, length, map}
use Rattle.std.proofs.Common.{take, refl, sym, ap, ◌∙◌, inl, inr, arith, subst, bytes_eq, length-append, eq-eqb}
use Rattle.std.specs.List.{filter, range_with_len}
use Rattle.std.proofs.lemmas.Bool.{cases_Bool, cases_lt, eqb-true, ne_eqb}
use Rattle.std.proofs.lemmas.List.{append-nil}
use Rattle.std.proofs.lemmas.List.FromFn.{filter_of_map_range_with_len_more}
use Rattle.std.proofs.lemmas.Slice.Eq.{bytes_eq-Decides}
use Rattle.words.specs.Words.{degree_of}
use Rattle.free_poly.specs.declared.term.Term.{Term}
use Rattle.free_poly.proofs.Totals.{letterwise-apart}
use Rattle.ideal_laws.specs.Closure.{Overlap}
use Rattle.ideal_laws.specs.Engine.{Elements}
use Rattle.ideal_laws.specs.Kept.{IsKept, count_below, count_upto}
use Rattle.overlaps.specs.Walk.{IsAbove, block, lead_word, meets, overlap_at, shared_at}
use Rattle.overlaps.proofs.Fronts.{none-behind}
use Rattle.overlaps.proofs.Places.{before_degree, behind_degree, falls_in_degree, in_degree}

module _ (weights : List ℕ) (G : List (List Term)) (left before rest : ℕ) where
  abbrev shared : List ℕ
  shared = shared_at G left before

  abbrev at : ℕ → Overlap
  at right = overlap_at G left before right

  abbrev met : ℕ → Bool
  met right = meets weights G rest (at right)

  -- the overlaps with a right element before a place
  abbrev pub block_upto : ℕ → List Overlap
  block_upto right = filter (meets weights G rest) (map (overlap_at G left before) (range_with_len 0 right))

  -- a right element of another degree does not meet
  pub meets-other : (right : ℕ) → degree_of weights (lead_word G right) ≢ rest → met right ≡ false
  meets-other right ne = elim (cases_Bool (met right)) [
    | inr fails ↦ fails
    | inl holds ↦ by_front (bytes_eq (take (length shared) (lead_word G right)) shared) refl
  ]
    where
      by_front : (b : Bool) → bytes_eq (take (length shared) (lead_word G right)) shared ≡ b → met right ≡ false
      by_front true e = rw e (ne_eqb (degree_of weights (lead_word G right)) rest ne)
      by_front false e = rw e refl

  -- nor does one whose leading word begins otherwise
  pub meets-apart : (right : ℕ) → (take (length shared) (lead_word G right) ≡ shared → ⊥) → met right ≡ false
  meets-apart right ne = elim (cases_Bool (bytes_eq (take (length shared) (lead_word G right)) shared)) [
    | inl is ↦ absurd (ne ((bytes_eq-Decides (take (length shared) (lead_word G right)) shared).0 is))
    | inr other ↦ rw other refl
  ]

  -- one of the degree that begins with what is shared does
  pub meets-both : (right : ℕ) → take (length shared) (lead_word G right) ≡ shared → degree_of weights (lead_word G right) ≡ rest → met right ≡ true
  meets-both right e f = rw ((bytes_eq-Decides (take (length shared) (lead_word G right)) shared).1 e) (eq-eqb (degree_of weights (lead_word G right)) rest f)

  -- and no other one does
  pub meets-says : (right : ℕ) → met right ≡ true → (take (length shared) (lead_word G right) ≡ shared) × (degree_of weights (lead_word G right) ≡ rest)
  meets-says right e = by_tests (bytes_eq (take (length shared) (lead_word G right)) shared) refl (degree_of weights (lead_word G right) == rest) refl
    where
      by_tests : (a : Bool) → bytes_eq (take (length shared) (lead_word G right)) shared ≡ a → (b : Bool) → (degree_of weights (lead_word G right) == rest) ≡ b
          → (take (length shared) (lead_word G right) ≡ shared) × (degree_of weights (lead_word G right) ≡ rest)
      by_tests true f true g = (
        (bytes_eq-Decides (take (length shared) (lead_word G right)) shared).0 f,
        eqb-true (degree_of weights (lead_word G right)) rest g,
      )
      by_tests false f b g = absurd (let h : false ≡ true = rw f at e in cc h)
      by_tests true f false g = absurd (let h : (true && false) ≡ true = sym (λ i. f i && g i) ∙ e in cc h)

  -- a place that does not meet adds nothing
  pub block_upto-none : (right : ℕ) → met right ≡ false → block_upto (right + 1) ≡ block_upto right
  block_upto-none right e =
      filter_of_map_range_with_len_more (meets weights G rest) (overlap_at G left before) 0 right right (omega arith)
      ∙ ap (λ (b : Bool). block_upto right ++ cond b (at right ∷ []) []) e ∙ append-nil (block_upto right)

  -- one that meets adds its overlap at the end
  pub block_upto-one : (right : ℕ) → met right ≡ true → block_upto (right + 1) ≡ block_upto right ++ at right ∷ []
  block_upto-one right e =
      filter_of_map_range_with_len_more (meets weights G rest) (overlap_at G left before) 0 right right (omega arith)
      ∙ ap (λ (b : Bool). block_upto right ++ cond b (at right ∷ []) []) e

  -- with more places the list is no shorter
  pub block_upto-longer : (n right : ℕ) → length (block_upto right) ≤ length (block_upto (right + n))
  block_upto-longer zero right = omega (arith, ap (λ (k : ℕ). length (block_upto k)) (let z : right + 0 ≡ right = omega arith in z))
  block_upto-longer (suc n) right =
      let next : right + suc n ≡ (right + n) + 1 = omega arith in
      let more = filter_of_map_range_with_len_more (meets weights G rest) (overlap_at G left before) 0 (right + n) (right + n) (omega arith) in
      omega (
        arith,
        block_upto-longer n right,
        ap (λ (k : ℕ). length (block_upto k)) next,
        ap length more,
        length-append (block_upto (right + n)) (cond (met (right + n)) (at (right + n) ∷ []) []),
      )

  -- places without one
  pub block_upto-skip : (n right : ℕ) → ((k : ℕ) → right ≤ k → k < right + n → met k ≡ false) → block_upto (right + n) ≡ block_upto right
  block_upto-skip zero right none = ap block_upto (omega arith)
  block_upto-skip (suc n) right none =
      ap block_upto (let next : right + suc n ≡ (right + n) + 1 = omega arith in next)
      ∙ block_upto-none (right + n) (none (right + n) (omega arith) (omega arith))
      ∙ block_upto-skip n right (λ k from under. none k from (omega (arith, under)))

  -- the same up to a place that is given
  pub block_upto-same : (right end : ℕ) → right ≤ end → ((k : ℕ) → right ≤ k → k < end → met k ≡ false) → block_upto end ≡ block_upto right
  block_upto-same right end le none =
      let whole : right + (end - right) ≡ end = omega (arith, le) in
      ap block_upto (sym whole) ∙ block_upto-skip (end - right) right (λ k from under. none k from (omega (arith, under, whole)))

module _ (b : Elements) (kept : IsKept b) (left before rest first end : ℕ) (is_first : first ≡ count_below b.weights rest b.elements)
    (is_end : end ≡ count_upto b.weights rest b.elements) (fits : end ≤ length b.elements) where
  abbrev c : List ℕ
  c = shared_at b.elements left before

  abbrev upto : ℕ → List Overlap
  upto right = block_upto b.weights b.elements left before rest right

  outside : (k : ℕ) → k < length b.elements → (k < first) ⊎ (end ≤ k) → meets b.weights b.elements rest (overlap_at b.elements left before k) ≡ false
  outside k within (inl under) = meets-other b.weights b.elements left before rest k
      (λ e. omega (arith, e, before_degree b kept rest k within (omega (arith, under, is_first))))
  outside k within (inr from) = meets-other b.weights b.elements left before rest k
      (λ e. omega (arith, e, behind_degree b kept rest k within (omega (arith, from, is_end))))

  -- before the first place that does not stand above there is none
  pub none_before : (start : ℕ) → start ≤ end → ((k : ℕ) → first ≤ k → k < start → IsAbove c (lead_word b.elements k)) → upto start ≡ []
  none_before start le above = block_upto-same b.weights b.elements left before rest 0 start (omega arith) none
    where
      none : (k : ℕ) → 0 ≤ k → k < start → meets b.weights b.elements rest (overlap_at b.elements left before k) ≡ false
      none k from under = elim (cases_lt k first) [
        | inl before_first ↦ outside k (omega (arith, under, le, fits)) (inl before_first)
        | inr there ↦ meets-apart b.weights b.elements left before rest k
            (λ e. letterwise-apart (take (length c) (lead_word b.elements k)) c (above k there under) e)
      ]

  -- at the end all have been met
  pub upto_end : upto end ≡ block b.weights b.elements left before rest
  upto_end = sym (block_upto-same b.weights b.elements left before rest end (length b.elements) fits (λ k from within. outside k within (inr from)))

  -- and also where the first one stands that does not begin with what is shared
  pub upto_other : (right : ℕ) → first ≤ right → right < end → (IsAbove c (lead_word b.elements right) → ⊥) →
      (take (length c) (lead_word b.elements right) ≡ c → ⊥)
      → upto right ≡ block b.weights b.elements left before rest
  upto_other right from under low other = sym (block_upto-same b.weights b.elements left before rest right (length b.elements)
      (omega (arith, under, fits)) none)
    where
      none : (k : ℕ) → right ≤ k → k < length b.elements → meets b.weights b.elements rest (overlap_at b.elements left before k) ≡ false
      none k later within = elim (cases_lt k end) [
        | inr behind ↦ outside k within (inr behind)
        | inl there ↦ meets-apart b.weights b.elements left before rest k (elim (cases_lt right k) [
          | inl after ↦ none-behind c (lead_word b.elements right) (lead_word b.elements k)
              (falls_in_degree b kept rest (omega (arith, fits, is_end)) right k (omega (arith, from, is_first)) after (omega (arith, there, is_end))) low other
          | inr le ↦ let same : right ≡ k = omega (arith, later, le) in subst (λ (n : ℕ). take (length c) (lead_word b.elements n) ≡ c → ⊥) same other
        ])
      ]

  -- a right element of the degree that begins with what is shared adds its overlap
  pub upto_met : (right : ℕ) → first ≤ right → right < end → take (length c) (lead_word b.elements right) ≡ c →
      upto (right + 1) ≡ upto right ++ overlap_at b.elements left before right ∷ []
  upto_met right from under e =
      block_upto-one b.weights b.elements left before rest right
      (meets-both b.weights b.elements left before rest right e (in_degree b kept rest right (omega (arith, from, is_first))
      (omega (arith, under, is_end)) (omega (arith, under, fits))))

  -- where one more is met, the block is longer
  pub upto_longer : (right : ℕ) → first ≤ right → right < end → take (length c) (lead_word b.elements right) ≡ c →
      length (upto right) < length (block b.weights b.elements left before rest)
  upto_longer right from under e =
      let whole : (right + 1) + (length b.elements - (right + 1)) ≡ length b.elements = omega (arith, under, fits) in
      omega (
        arith,
        ap length (upto_met right from under e),
        length-append (upto right) (overlap_at b.elements left before right ∷ []),
        block_upto-longer b.weights b.elements left before rest (length b.elements - (right + 1)) (right + 1),
        ap (λ (k : ℕ). length (upto k)) whole,
      )
