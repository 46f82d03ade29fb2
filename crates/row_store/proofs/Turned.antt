-- Tables whose rows and columns are turned over, and lists that are dealt out so.
use Rattle.std.proofs.Common.{◌≡◌, ◌≢◌, ◌+◌, ◌*◌, ◌/◌, ◌%◌, ◌<◌, ◌≤◌, ℕ, zero, suc, List, get_or, set, sym, ap, ap₂, ◌∙◌, arith, subst, zero-add}
use Rattle.std.specs.List.{AllZip, range_with_len}
use Rattle.std.proofs.Math.Nat.{div-lt_iff_lt-mul, mul_comm}
use Rattle.std.proofs.lemmas.List.{get_or-set_other}
use Rattle.std.proofs.lemmas.List.FromFn.{get_or-range_with_len, length-range_with_len}
use Rattle.std.proofs.lemmas.Nat.{div-add-mod', div-mul-add, mod-mul-add, mul-le}
use Rattle.row_store.specs.Deals.{turned}
use Rattle.row_store.proofs.Zipped.{zip_at}

wide : (height width at : ℕ) → at < height * width → 0 < width
wide height zero at inside = absurd (omega (arith, inside))
wide height (suc width) at inside = omega arith

module _ (height width at : ℕ) (inside : at < height * width) where
  row_within : at / width < height
  row_within = (div-lt_iff_lt-mul (wide height width at inside)).1 inside

  -- it is a cell of the other table
  pub turned-within : turned width height at < height * width
  turned-within =
      let low : at % width + 1 ≤ width = omega (arith, wide height width at inside) in
      let below : (at % width + 1) * height ≤ width * height = mul-le (at % width + 1) height width height low (omega arith) in
      omega (arith, below, row_within, mul_comm width height)

  -- turned twice, it stands where it stood
  pub turned-turned : turned height width (turned width height at) ≡ at
  turned-turned =
      ap₂ (λ (m n : ℕ). m * width + n) (mod-mul-add (at % width) height (at / width) row_within) (div-mul-add (at % width) height (at / width) row_within)
      ∙ div-add-mod' at width

module _ {Y : Type 0} (hands turns : ℕ) (Q : ℕ → Y → Type 0) where
  turned_part : (part : ℕ) → part < hands * turns → turned turns hands (turned hands turns part) ≡ part
  turned_part part low = turned-turned turns hands part (omega (arith, low, mul_comm hands turns))

  -- what stands at each place, part by part
  pub part_by_part : (ys : List Y) → AllZip (λ place y. Q (turned turns hands place) y) (range_with_len 0 (hands * turns)) ys
      → (part : ℕ) (d : Y) → part < hands * turns → Q part (get_or ys (turned hands turns part) d)
  part_by_part ys h part d low =
      let place = turned hands turns part in
      let inside : place < hands * turns =
      omega (arith, turned-within turns hands part (omega (arith, low, mul_comm hands turns)), mul_comm hands turns) in
      subst (λ (n : ℕ). Q n (get_or ys place d))
      (ap (turned turns hands) (get_or-range_with_len 0 (hands * turns) place 0 inside ∙ zero-add place) ∙ turned_part part low)
      (zip_at (λ (n : ℕ) y. Q (turned turns hands n) y) (range_with_len 0 (hands * turns)) ys place 0 d h
      (omega (arith, inside, length-range_with_len 0 (hands * turns))))

  -- a part is taken, and no later one changes
  pub part_taken : (ys : List Y) (now : ℕ) (y : Y) → now < hands * turns
      → ((part : ℕ) (d : Y) → now ≤ part → part < hands * turns → Q part (get_or ys (turned hands turns part) d))
      → (part : ℕ) (d : Y) → now + 1 ≤ part → part < hands * turns → Q part (get_or (set ys (turned hands turns now) y) (turned hands turns part) d)
  part_taken ys now y low h part d later inside =
      let apart : turned hands turns part ≢ turned hands turns now = λ same. (
      let is : part ≡ now = sym (turned_part part inside) ∙ ap (turned turns hands) same ∙ turned_part now low in
      omega (arith, later, is)) in
      subst (Q part) (sym (get_or-set_other ys (turned hands turns now) (turned hands turns part) y d apart)) (h part d (omega (arith, later)) inside)
