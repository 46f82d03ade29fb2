-- Calls and counts: every move keeps the bound on steps.
use Rattle.std.proofs.Common.{◌≡◌, inl, inr, ℕ, ◌+◌, ◌-◌, ◌*◌, ◌%◌, ◌<◌, ◌≤◌, List, length, get_or, set, refl, sym, ap, ◌∙◌, arith, subst, mul-one, mul-zero}
use Rattle.std.proofs.Math.Nat.{mod-eq_of_lt, mod_self, zero-mod}
use Rattle.std.proofs.lemmas.Bool.{cases_eq}
use Rattle.field_table.specs.Residues.{IsFieldModulus, negative_of}
use Rattle.back_reduce.specs.declared.problem.Problem.{Problem}
use Rattle.field_table.proofs.Multiples.{length-plus_multiple, plus_multiple-at}
use Rattle.pivot_core.specs.declared.view.Phase.{Phase}
use Rattle.pivot_core.specs.declared.view.Phase.TheVariants as phase
use Rattle.pivot_core.specs.declared.sight.Sight.{Sight}
use Rattle.pivot_core.specs.Words.{Spot}
use Rattle.pivot_core.specs.Views.{difference, given_row, lead_at}
use Rattle.pivot_core.specs.Runs.{State, view_at, word_at}
use Rattle.pivot_core.specs.Rule.{HeldInSpan, PublishedPrefix, Ranges, ReadPrefix}
use Rattle.pivot_core.specs.Calls.{IsBounded, steps_of_row}
use Rattle.pivot_core.proofs.Changes.{IsChange, numbers_at}
use Rattle.pivot_core.proofs.HeldRows.{held_row-at, values-before}
use Rattle.pivot_core.proofs.Monic.{lead_at-from}
use Rattle.pivot_core.proofs.Moves.{IsDraw, IsLastRead, IsMove, IsSettling, IsWonClaim, given_up, goes_on, draws, ends, looks_free, looks_held, puts}
use Rattle.pivot_core.proofs.Moves.{wins, loses, reads_more, reads_last}
use Rattle.pivot_core.proofs.PublishedKept.{IsPublished, published_view}
use Rattle.pivot_core.proofs.ModuloKept.{same_sizes}
use Rattle.pivot_core.proofs.ReadKept.{whole_read}
use Rattle.pivot_core.proofs.StepBounds.{column_steps, one_row_more, steps_before-most, steps_before-rises}

-- a difference is 0 where both rows are, and where both are 1
difference_at : (p : ℕ) (y x : List ℕ) (j : ℕ) → length y ≡ length x → j < length y →
    get_or (difference p y x) j 0 ≡ (get_or y j 0 + (p - 1) % p * get_or x j 0) % p
difference_at p y x j same lt = plus_multiple-at p (negative_of p 1) y x j same lt

difference_none : (p : ℕ) (y x : List ℕ) (j : ℕ) → length y ≡ length x → j < length y → get_or y j 0 ≡ 0 → get_or x j 0 ≡ 0 → get_or (difference p y x) j 0 ≡ 0
difference_none p y x j same lt none none' =
    difference_at p y x j same lt ∙ ap (λ (k : ℕ). (k + (p - 1) % p * get_or x j 0) % p) none ∙ ap (λ (k : ℕ). (0 + (p - 1) % p * k) % p) none'
    ∙ ap (λ (k : ℕ). (0 + k) % p) (mul-zero ((p - 1) % p)) ∙ zero-mod p

difference_ones : (p : ℕ) (y x : List ℕ) (j : ℕ) → 2 ≤ p → length y ≡ length x → j < length y → get_or y j 0 ≡ 1 → get_or x j 0 ≡ 1 →
    get_or (difference p y x) j 0 ≡ 0
difference_ones p y x j two same lt one one' =
    let less : (p - 1) % p ≡ p - 1 = mod-eq_of_lt (omega (arith, two)) in
    difference_at p y x j same lt ∙ ap (λ (k : ℕ). (k + (p - 1) % p * get_or x j 0) % p) one ∙ ap (λ (k : ℕ). (1 + (p - 1) % p * k) % p) one'
    ∙ ap (λ (k : ℕ). (1 + k) % p) (mul-one ((p - 1) % p) ∙ less) ∙ ap (λ (k : ℕ). k % p) (omega (arith, two)) ∙ mod_self p

module _ {problem : Problem} {crew : ℕ} {s t : State} {seat : ℕ} {w : Sight} {a : Spot} {x : ℕ} (c : IsChange problem crew s t seat w a x) where
  abbrev v : Sight
  v = view_at problem s seat

  abbrev old : ℕ
  old = word_at problem s a

  abbrev m : ℕ
  m = problem.m

  module _ (modulus : IsFieldModulus problem.modulus) (ranges : Ranges problem crew s) (held : HeldInSpan problem s)
      (published : PublishedPrefix problem crew s) (read : ReadPrefix problem crew s) where
    -- what is left of a row leads at a later column
    left_leads : (k : IsLastRead problem v old w a x) → k.column + 1 ≤ lead_at (difference problem.modulus v.current (set v.seen k.at old))
    left_leads k =
        let numbers = numbers_at c ranges k.was in
        let seen = set v.seen k.at old in
        let own : IsPublished problem s (phase.Reading k.row k.column k.holder k.at) v.current =
        subst (λ (f : Phase). IsPublished problem s f v.current) k.was (published_view problem crew s published seat c.below) in
        let whole = whole_read c ranges read k.row k.column k.holder k.at k.was k.spot k.last in
        let sizes : length v.current ≡ length seen = same_sizes c modulus ranges read k in
        let wide : length v.current ≡ m = (ranges.views seat c.below).current in
        lead_at-from (difference problem.modulus v.current seen) (k.column + 1)
        (omega (arith, length-plus_multiple problem.modulus (negative_of problem.modulus 1) v.current seen, wide, numbers.2, numbers.3))
        (λ j lt. elim (cases_eq j k.column) [
          | inl is ↦ ap (λ (i : ℕ). get_or (difference problem.modulus v.current seen) i 0) is
              ∙ difference_ones problem.modulus v.current seen k.column modulus.two_or_more sizes
              (omega (arith, wide, numbers.2, numbers.3)) (own.one k.row refl)
              (whole.1 k.column (omega (arith, numbers.2, numbers.3)) ∙ held.one k.column whole.0)
          | inr other ↦ difference_none problem.modulus v.current seen j sizes (omega (arith, lt, wide, numbers.2, numbers.3))
              (own.before k.row j refl (omega (arith, lt, other)))
              (whole.1 j (omega (arith, lt, numbers.2, numbers.3)) ∙ held_row-at problem s k.column j
              (omega (arith, lt, numbers.2, numbers.3)) ∙ values-before problem s k.column j (omega (arith, lt, other)))
        ])

    module _ (was : IsBounded m v.phase v.drawn v.steps) where
      was_at : {f : Phase} → v.phase ≡ f → IsBounded m f v.drawn v.steps
      was_at is = subst (λ (g : Phase). IsBounded m g v.drawn v.steps) is was

      now_at : {f : Phase} {d n : ℕ} → w.phase ≡ f → w.drawn ≡ d → w.steps ≡ n → IsBounded m f d n → IsBounded m w.phase w.drawn w.steps
      now_at {f} {d} is drawn steps h = subst (λ (g : Phase). IsBounded m g w.drawn w.steps) (sym is)
          (subst (λ (e : ℕ). IsBounded m f e w.steps) (sym drawn) (subst (IsBounded m f d) (sym steps) h))

      row_is_some : 1 ≤ steps_of_row m
      row_is_some = omega arith

      own_draw : (k : IsDraw problem v old w a x) → IsSettling problem (given_row problem old) old w → IsBounded m w.phase w.drawn w.steps
      own_draw k (goes_on within now current seen) =
          let before : v.steps ≤ v.drawn * steps_of_row m = was_at k.was in
          let same : (v.drawn + 1 - 1) * steps_of_row m ≡ v.drawn * steps_of_row m =
          ap (λ (d : ℕ). d * steps_of_row m) (let e : v.drawn + 1 - 1 ≡ v.drawn = omega arith in e) in
          now_at now k.later.drawn k.later.steps
          (omega arith, omega (arith, before, same))
      own_draw k (given_up past now current seen) =
          let before : v.steps ≤ v.drawn * steps_of_row m = was_at k.was in
          let more = one_row_more (v.drawn + 1) (steps_of_row m) (omega arith) in
          let same : (v.drawn + 1 - 1) * steps_of_row m ≡ v.drawn * steps_of_row m =
          ap (λ (d : ℕ). d * steps_of_row m) (let e : v.drawn + 1 - 1 ≡ v.drawn = omega arith in e) in
          now_at now k.later.drawn k.later.steps (omega (arith, before, same, more, row_is_some))

      own_won : IsWonClaim problem v old w a x → IsBounded m w.phase w.drawn w.steps
      own_won k =
          let numbers = numbers_at c ranges k.was in
          let before = was_at k.was in
          now_at k.now k.later.drawn k.later.steps
          (omega (
            arith,
            before.1,
            one_row_more v.drawn (steps_of_row m) before.0,
            column_steps m k.column numbers.1,
            steps_before-most m (k.column + 1) (omega (arith, numbers.1)),
            numbers.1,
          ))

      own_last : (k : IsLastRead problem v old w a x) → IsSettling problem (difference problem.modulus v.current (set v.seen k.at old))
          k.row w → IsBounded m w.phase w.drawn w.steps
      own_last k (goes_on within now current seen) =
          let numbers = numbers_at c ranges k.was in
          let before = was_at k.was in
          let y = difference problem.modulus v.current (set v.seen k.at old) in
          now_at now k.later.drawn k.later.steps (
            before.0,
            omega (
              arith,
              before.1,
              numbers.2,
              numbers.3,
              k.last,
              column_steps m k.column (omega (arith, numbers.2, numbers.3)),
              steps_before-rises m (k.column + 1) (lead_at y) (left_leads k) (omega (arith, within)),
            ),
          )
      own_last k (given_up past now current seen) =
          let numbers = numbers_at c ranges k.was in
          let before = was_at k.was in
          now_at now k.later.drawn k.later.steps
          (omega (
            arith,
            before.1,
            numbers.2,
            numbers.3,
            k.last,
            one_row_more v.drawn (steps_of_row m) before.0,
            column_steps m k.column (omega (arith, numbers.2, numbers.3)),
            steps_before-most m (k.column + 1) (omega (arith, numbers.2, numbers.3)),
          ))

      -- where a view has made at most so many steps for the rows that it has drawn, so it has after its move
      pub own_bounded : IsMove problem v old w a x → IsBounded m w.phase w.drawn w.steps
      own_bounded (draws k) = own_draw k k.settling
      own_bounded (ends k) =
          let before : v.steps ≤ v.drawn * steps_of_row m = was_at k.was in
          now_at k.now k.later.drawn k.later.steps (omega (arith, before))
      own_bounded (looks_free k) =
          let before = was_at k.was in
          now_at k.now k.later.drawn k.later.steps (before.0, omega (arith, before.1))
      own_bounded (looks_held k) =
          let before = was_at k.was in
          now_at k.now k.later.drawn k.later.steps
          (before.0, omega (arith, before.1))
      own_bounded (puts k) =
          let numbers = numbers_at c ranges k.was in
          let before = was_at k.was in
          elim k.now [
            | inl more ↦ now_at more.1 k.later.drawn k.later.steps
                (before.0, omega (arith, before.1, numbers.1))
            | inr last ↦ now_at last.1 k.later.drawn k.later.steps
                (before.0, omega (arith, before.1, numbers.1, numbers.2, last.0))
          ]
      own_bounded (wins k) = own_won k
      own_bounded (loses k) =
          let numbers = numbers_at c ranges k.was in
          let before = was_at k.was in
          now_at k.now k.later.drawn k.later.steps
          (before.0, omega (arith, before.1, numbers.1))
      own_bounded (reads_more k) =
          let numbers = numbers_at c ranges k.was in
          let before = was_at k.was in
          now_at k.now k.later.drawn k.later.steps
          (before.0, omega (arith, before.1, numbers.2))
      own_bounded (reads_last k) = own_last k k.settling
