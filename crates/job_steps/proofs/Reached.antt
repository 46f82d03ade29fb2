-- Each task comes somewhere: degree by degree a quantity passes its limit or none does, and then the coefficients.
use Rattle.std.proofs.Common.{◌≡◌, ◌⊎◌, ◌+◌, ◌-◌, ◌<◌, ◌≤◌, ℕ, zero, suc, Bool, true, false, List, [], ◌∷◌, length, map, refl, sym}
use Rattle.std.proofs.Common.{inl, inr, arith, subst}
use Rattle.std.specs.List.{range_with_len}
use Rattle.std.proofs.lemmas.Bool.{both_ways, cases_lt}
use Rattle.std.proofs.lemmas.List.FromFn.{length-map-range_with_len}
use Rattle.free_poly.specs.declared.term.Term.{Term}
use Rattle.ideal_laws.specs.Ideal.{Ideal, ideal_over}
use Rattle.ideal_laws.specs.declared.limits.LimitKind.{LimitKind}
use Rattle.ideal_laws.specs.Basis.{IsReducedBasis}
use Rattle.ideal_laws.specs.Dimension.{IsHilbertCoefficient}
use Rattle.ideal_laws.specs.Engine.{Elements}
use Rattle.ideal_laws.specs.Kept.{IsBelow, IsStored}
use Rattle.ideal_laws.specs.Laws.{IsSetting}
use Rattle.ideal_laws.specs.Quantities.{IsFirstPassing, IsFirstRefused, IsQuantity, NonePasses, Quantities, kept_value}
use Rattle.ideal_laws.proofs.Dimensions.{has_one_dimension}
use Rattle.ideal_laws.proofs.Grown.{grown, next_from_reduced, reduced_grown, stored_grown, stored_none}
use Rattle.ideal_laws.proofs.OneBasis.{has_one_basis}
use Rattle.job_steps.specs.Progress.{AreSmallBelow, IsFirstLargeCoefficient, IsReach, PassesNone, Reach, Task, crowded, ideal_of_task, refused, whole}

-- where each quantity has a value, none passes or one is the first
passing : (Q : Quantities) → ((kind : LimitKind) → (q : ℕ) × Q kind q) → (limits : List (LimitKind × ℕ)) →
    NonePasses Q limits ⊎ ((kind : LimitKind) × (value : ℕ) × IsFirstPassing Q limits kind value)
passing Q some [] = inl tt
passing Q some (l ∷ ls) = let q = some l.0 in elim (cases_lt l.1 q.0) [
  | inl above ↦ inr (l.0, kept_value l.0 l.1 q.0, inl (q.0, q.1, above, refl, refl))
  | inr within ↦ elim (passing Q some ls) [
    | inl none ↦ inl ((q.0, q.1, within), none)
    | inr first ↦ inr (first.0, first.1, inr (q.0, q.1, within, first.2))
  ]
]

module _ (ideal : Ideal) (st : IsSetting ideal) (limit : ℕ) where
  coefficient_of : (d : ℕ) → (h : ℕ) × IsHilbertCoefficient ideal d h
  coefficient_of d = let dim = has_one_dimension ideal st d in (length dim.others, (dim.coefficient (length dim.others)).1 refl)

  -- all coefficients are small, or one is the first large one
  small_or_large : (d : ℕ) → AreSmallBelow ideal limit d
      ⊎ ((e : ℕ) × (value : ℕ) × (e < d) × IsFirstLargeCoefficient ideal limit e value)
  small_or_large zero = inl (λ e below. absurd (omega (arith, below)))
  small_or_large (suc d) = elim (small_or_large d) [
    | inr large ↦ inr (large.0, large.1, omega (arith, large.2), large.3)
    | inl small ↦ let h = coefficient_of d in elim (cases_lt limit h.0) [
      | inl above ↦ inr (d, limit + 1, omega arith, record { before = small; coefficient = h.0; is_coefficient = h.1; large = above; kept = refl })
      | inr within ↦ inl (λ e below. elim (cases_lt e d) [
        | inl lower ↦ small e lower
        | inr last ↦ let is : d ≡ e = omega (arith, below, last) in
            (h.0, subst (λ (n : ℕ). IsHilbertCoefficient ideal n h.0) is h.1, within)
      ])
    ]
  ]

module _ (t : Task) (st : IsSetting (ideal_of_task t)) (some : 0 < length t.letters.weights)
    (letters : length t.letters.weights ≤ 64) (degrees : t.bound ≤ 64)
    (quantity : (d : ℕ) (below : Elements) → IsBelow (ideal_of_task t) d below → (kind : LimitKind) →
    (q : ℕ) × IsQuantity (ideal_of_task t) below d kind q)
    (few : (d : ℕ) (below : Elements) (basis : List (List Term)) → IsReducedBasis (ideal_of_task t) d basis →
    NonePasses (IsQuantity (ideal_of_task t) below d) t.limits → length basis ≤ 16777216) where
  abbrev p : ℕ
  p = t.modulus

  abbrev weights : List ℕ
  weights = t.letters.weights

  -- no quantity passes up to d, and this is the basis up to there
  pub record ComesTo (d : ℕ) : Type 0 where
    pub passes_none : PassesNone t d
    pub below : Elements
    pub is_below : IsBelow (ideal_of_task t) (d + 1) below
    pub ends : List ℕ
    pub stored : IsStored below ends

  abbrev none_ended : List ℕ
  none_ended = map (λ (k : ℕ). zero) (range_with_len 0 65)

  begins : ComesTo 0
  begins =
      let stored = stored_none weights none_ended some letters st.are_weights (length-map-range_with_len {X = ℕ} (λ k. zero) 0 65) refl in
      record {
        passes_none = λ e from upto. absurd (omega (arith, from, upto));
        below = record { weights = weights; done = 0; elements = [] };
        is_below = record {
          kept = stored.kept;
          next = refl;
          same_weights = refl;
          reduced = λ d from upto. absurd (omega (arith, from, upto));
        };
        ends = none_ended;
        stored = stored;
      }

  comes_further : (d : ℕ) → d < t.bound → (c : ComesTo d) → NonePasses (IsQuantity (ideal_of_task t) c.below (d + 1)) t.limits
      → ComesTo (d + 1)
  comes_further d within c none =
      let one = has_one_basis (ideal_of_task t) st (d + 1) in
      let done : c.below.done ≡ d = omega (arith, c.is_below.next) in
      let basis : IsReducedBasis (ideal_over p c.below.weights t.relations) (c.below.done + 1) one.value =
      subst (λ (n : ℕ). IsReducedBasis (ideal_over p c.below.weights t.relations) n one.value) (sym c.is_below.next)
      (subst (λ (ws : List ℕ). IsReducedBasis (ideal_over p ws t.relations) (d + 1) one.value) (sym c.is_below.same_weights) one.holds) in
      let next = next_from_reduced p t.relations c.below one.value (few (d + 1) c.below one.value one.holds none) basis in
      let stored = stored_grown c.below one.value next c.ends c.stored (omega (arith, done, within, degrees)) in
      record {
        passes_none = λ e from upto. elim (cases_lt e (d + 1)) [
          | inl lower ↦ c.passes_none e from (omega (arith, lower))
          | inr last ↦
              let is : d + 1 ≡ e = omega (arith, upto, last) in (
                c.below,
                subst (λ (n : ℕ). IsBelow (ideal_of_task t) n c.below) is c.is_below,
                subst (λ (n : ℕ). NonePasses (IsQuantity (ideal_of_task t) c.below n) t.limits) is none,
              )
        ];
        below = grown c.below one.value;
        is_below = record {
          kept = stored.kept;
          next = omega (arith, done);
          same_weights = c.is_below.same_weights;
          reduced = reduced_grown c.below one.value next p t.relations c.is_below.kept c.is_below.reduced basis;
        };
        ends = _;
        stored = stored;
      }

  comes_or_refused : (d : ℕ) → d ≤ t.bound →
      ComesTo d ⊎ ((kind : LimitKind) × (e : ℕ) × (value : ℕ) × IsFirstRefused (ideal_of_task t) t.limits t.bound kind e value)
  comes_or_refused zero upto = inl begins
  comes_or_refused (suc d) upto = elim (comes_or_refused d (omega (arith, upto))) [
    | inr first ↦ inr first
    | inl c ↦ elim (passing (IsQuantity (ideal_of_task t) c.below (d + 1)) (quantity (d + 1) c.below c.is_below) t.limits) [
      | inl none ↦ let is : d + 1 ≡ suc d = omega arith in inl (subst ComesTo is (comes_further d (omega (arith, upto)) c none))
      | inr first ↦
          let before : d + 1 - 1 ≡ d = omega arith in
          inr (
            first.0,
            d + 1,
            first.1,
            record {
              from = omega arith;
              upto = omega (arith, upto);
              before = subst (PassesNone t) (sym before) c.passes_none;
              below = c.below;
              is_below = c.is_below;
              passes = first.2;
            },
          )
    ]
  ]

  with_series : (shows : Bool) → t.shows_series ≡ shows → PassesNone t t.bound → (reach : Reach) × IsReach t reach
  with_series false hides none = (whole, (none, λ shows. absurd (both_ways t.shows_series hides shows)))
  with_series true shows none = elim (small_or_large (ideal_of_task t) st t.normal_words (t.bound + 1)) [
    | inl small ↦ (whole, (none, λ _. small))
    | inr large ↦ (crowded large.0 large.1, (none, shows, omega (arith, large.2), large.3))
  ]

  -- a task comes so far, for some reach
  pub some_reach : (reach : Reach) × IsReach t reach
  some_reach = elim (comes_or_refused t.bound (omega arith)) [
    | inl c ↦ with_series t.shows_series refl c.passes_none
    | inr first ↦ (refused first.0 first.1 first.2, first.3)
  ]
