-- A task has at most one reach, and a reach has one text.
use Rattle.std.proofs.Common.{◌≡◌, ◌+◌, ◌-◌, ◌<◌, ℕ, zero, suc, Bool, true, false, List, [], ◌∷◌, ◌++◌, length, get_or, refl, arith, subst, zero-add}
use Rattle.ideal_laws.specs.declared.limits.LimitKind.TheVariants.{NormalWords}
use Rattle.ideal_laws.specs.Basis.{IsReducedBasis}
use Rattle.ideal_laws.specs.Dimension.{IsHilbertCoefficient}
use Rattle.ideal_laws.specs.Laws.{IsOne, IsSetting}
use Rattle.ideal_laws.proofs.Dimensions.{has_one_dimension}
use Rattle.ideal_laws.proofs.OneBasis.{has_one_basis}
use Rattle.poly_writer.specs.Outputs.{IsBasisText, IsSeriesText}
use Rattle.poly_writer.specs.Texts.{basis_text, series_text}
use Rattle.job_steps.specs.Progress.{IsBasisPart, IsOutput, IsPart, IsReach, IsTaskText, IsText, Reach, Task, crowded, ideal_of_task, refused, whole}
use Rattle.job_steps.proofs.Reaches.{none_and_refused, one_stop, one_text, small_and_large}

-- a list of so many values, one for each number from s on
values_from : {X : Type 0} (z : X) (P : ℕ → X → Type 0) → ((k : ℕ) → (x : X) × P k x) → (n s : ℕ) →
    (xs : List X) × (length xs ≡ n) × ((k : ℕ) → k < n → P (s + k) (get_or xs k z))
values_from z P some zero s = ([], refl, λ k within. absurd (omega (arith, within)))
values_from {X} z P some (suc n) s =
    let x = some s in
    let r = values_from z P some n (s + 1) in
    (x.0 ∷ r.0, omega (arith, r.1), at x.0 x.1 r.0 r.2)
  where
    at : (x : X) → P s x → (xs : List X) → ((k : ℕ) → k < n → P (s + 1 + k) (get_or xs k z)) → (k : ℕ) → k < suc n → P (s + k) (get_or (x ∷ xs) k z)
    at x h xs rest zero within = subst (λ (m : ℕ). P m x) (let e : s ≡ s + 0 = omega arith in e) h
    at x h xs rest (suc k) within = subst (λ (m : ℕ). P m (get_or xs k z)) (let e : s + 1 + k ≡ s + suc k = omega arith in e) (rest k (omega (arith, within)))

values_of : {X : Type 0} (z : X) (P : ℕ → X → Type 0) → ((k : ℕ) → (x : X) × P k x) → (n : ℕ) →
    (xs : List X) × (length xs ≡ n) × ((k : ℕ) → k < n → P k (get_or xs k z))
values_of z P some n =
    let v = values_from z P some n 0 in
    (v.0, v.1, λ k within. subst (λ (m : ℕ). P m (get_or v.0 k z)) (zero-add k) (v.2 k within))

module _ (t : Task) (st : IsSetting (ideal_of_task t)) where
  basis_text_of : (d : ℕ) → (text : List ℕ) × IsBasisText t.modulus t.letters t.relations d text
  basis_text_of d =
      let v = values_of [] (λ k fs. IsReducedBasis (ideal_of_task t) (k + 1) fs)
      (λ k. let one = has_one_basis (ideal_of_task t) st (k + 1) in (one.value, one.holds)) d in (
        basis_text t.letters.names t.modulus v.0,
        record { bases = v.0; count = v.1; each = v.2; printed = refl },
      )

  series_text_of : (d : ℕ) → (text : List ℕ) × IsSeriesText t.modulus t.letters t.relations d text
  series_text_of d =
      let v = values_of 0 (IsHilbertCoefficient (ideal_of_task t))
      (λ k. let dim = has_one_dimension (ideal_of_task t) st k in
      (length dim.others, (dim.coefficient (length dim.others)).1 refl))
      (d + 1) in
      (series_text v.0, record { numbers = v.0; count = v.1; each = v.2; printed = refl })

  part_of : (shows : Bool) (P : List ℕ → Type 0) → ((text : List ℕ) × P text) → (text : List ℕ) × IsPart shows P text
  part_of true P some = some
  part_of false P some = ([], refl)

  basis_part_of : (d : ℕ) → (text : List ℕ) × IsBasisPart t d text
  basis_part_of d = part_of t.shows_basis (IsBasisText t.modulus t.letters t.relations d) (basis_text_of d)

  output_of : (d : ℕ) → (text : List ℕ) × IsOutput t d text
  output_of d =
      let b = basis_part_of t.bound in
      let s = part_of t.shows_series (IsSeriesText t.modulus t.letters t.relations d) (series_text_of d) in
      (b.0 ++ s.0, record { basis = b.0; series = s.0; is_basis = b.1; is_series = s.1; joined = refl })

  text_of : (reach : Reach) → (text : List ℕ) × IsText t reach text
  text_of whole = output_of t.bound
  text_of (refused kind d value) = basis_part_of (d - 1)
  text_of (crowded d value) = output_of (d - 1)

  -- a task that comes so far has one text
  pub one_task_text : (reach : Reach) → IsReach t reach → IsOne (IsTaskText t)
  one_task_text reach h =
      let x = text_of reach in
      record { value = x.0; holds = (reach, h, x.1); only = λ text is. one_text t st is.0 reach text x.0 is.1 is.2 h x.1 }

  -- two reaches of one task are one
  pub one_reach : (r s : Reach) → IsReach t r → IsReach t s → r ≡ s
  one_reach whole whole a b = refl
  one_reach whole (refused k d v) a b = absurd (none_and_refused t st d t.bound v k a.0 b b.upto)
  one_reach whole (crowded d v) a b =
      absurd (small_and_large (ideal_of_task t) st t.normal_words d (t.bound + 1) v (a.1 b.1) b.3 (omega (arith, b.2)))
  one_reach (refused k d v) whole a b = absurd (none_and_refused t st d t.bound v k b.0 a a.upto)
  one_reach (refused k d v) (refused l e w) a b =
      let s = one_stop t st (refused k d v) (refused l e w) k l d e v w a (refl, refl, refl) b (refl, refl, refl) in
      λ i. refused (s.0 i) (s.1 i) (s.2 i)
  one_reach (refused k d v) (crowded e w) a b = absurd (none_and_refused t st d t.bound v k b.0 a a.upto)
  one_reach (crowded d v) whole a b =
      absurd (small_and_large (ideal_of_task t) st t.normal_words d (t.bound + 1) v (b.1 a.1) a.3 (omega (arith, a.2)))
  one_reach (crowded d v) (refused l e w) a b = absurd (none_and_refused t st e t.bound w l a.0 b b.upto)
  one_reach (crowded d v) (crowded e w) a b =
      let s = one_stop t st (crowded d v) (crowded e w) NormalWords NormalWords d e v w a (refl, refl, refl) b (refl, refl, refl) in
      λ i. crowded (s.1 i) (s.2 i)
