-- The rows of the table of steps, one by one.
use Rattle.std.proofs.Common.{◌≡◌, ◌≢◌, ◌+◌, ◌<◌, ◌≤◌, ℕ, Some, None, max, set, refl, ap, ◌∙◌}
use Rattle.std.specs.Prelude.{slice_index}
use Rattle.std.proofs.lemmas.Bool.{cond-true, cond-false, eq-eqb, ne_eqb, lt-ltb, le-ltb}
use Rattle.ideal_laws.specs.declared.account.Answer.TheVariants as answer
use Rattle.back_reduce.specs.declared.problem.Problem.{Problem}
use Rattle.pivot_core.specs.declared.view.Phase.{Phase}
use Rattle.pivot_core.specs.declared.view.Phase.TheVariants as phase
use Rattle.pivot_core.specs.declared.sight.Sight.{Sight}
use Rattle.pivot_core.specs.declared.event.Reply.TheVariants as reply
use Rattle.pivot_core.specs.Words.{row_in, stamp_in}
use Rattle.pivot_core.specs.Views.{begin, difference, given_row, settle}
use Rattle.pivot_core.specs.Steps.{IsMet, Stepped, after_lost, after_won, by_phase}

module _ (problem : Problem) (v : Sight) (old : ℕ) where
  -- a step later
  abbrev pub counted : Sight
  counted = record v { steps = v.steps + 1 }

  -- what the row of a phase gives, with this branch of its test
  by_row : {A : Type 0} {f : Phase} {x y : A} (t : A → Stepped) → v.phase ≡ f → by_phase problem counted f old ≡ Some (t x) → x ≡ y
      → IsMet problem v old (t y).sight (t y).reply
  by_row t is row taken = record { word = _; gives = ap (λ (f : Phase). by_phase problem counted f old) is ∙ row ∙ ap (λ x. Some (t x)) taken }

  -- a fresh view that meets n or more in the counter draws no row, and ends
  pub meets_end : v.phase ≡ phase.Fresh → problem.n ≤ old → IsMet problem v old (record counted { phase = phase.Ended }) (reply.Drew None)
  meets_end is none = by_row (λ t. t) is refl (cond-false _ _ _ (le-ltb old problem.n none))

  -- a fresh view that meets a number below n in the counter draws the row of this number, and goes on with it
  pub meets_draw : v.phase ≡ phase.Fresh → old < problem.n → IsMet problem v old
      (settle problem (record counted { drawn = v.drawn + 1 }) (given_row problem old) old) (reply.Drew (Some old))
  meets_draw is some = by_row (λ t. t) is refl (cond-true _ _ _ (lt-ltb old problem.n some))

  -- a look that meets 0 finds the column free, and the view begins to put its row from this column on
  pub meets_free : {row column : ℕ} → v.phase ≡ phase.Looking row column → old ≡ 0 →
      IsMet problem v old (record counted { phase = phase.Putting row column column }) reply.Free
  meets_free is free = by_row (λ t. t) is refl (cond-true _ _ _ (eq-eqb old 0 free))

  -- a look that meets a claim word other than 0 tells its row and stamp, takes this into the clock, and the view begins to read that row
  pub meets_held : {row column : ℕ} → v.phase ≡ phase.Looking row column → old ≢ 0
      → IsMet problem v old (begin problem (record counted { clock = max v.clock (stamp_in old) }) row column (row_in old))
      (reply.Held (row_in old) (stamp_in old))
  meets_held is held = by_row (λ t. t) is refl (cond-false _ _ _ (ne_eqb old 0 held))

  -- a put goes on in a phase
  abbrev put_row : ℕ → Phase → Stepped
  put_row at f = record { sight = record counted { phase = f }; word = slice_index v.current at; reply = reply.Stored }

  -- a put before the last column is followed by one at the next column
  pub meets_put : {row column at : ℕ} → v.phase ≡ phase.Putting row column at → at + 1 < problem.m →
      IsMet problem v old (record counted { phase = phase.Putting row column (at + 1) }) reply.Stored
  meets_put {at = at} is more = by_row (put_row at) is refl (cond-true _ _ _ (lt-ltb (at + 1) problem.m more))

  -- a put at the last column is followed by a claim
  pub meets_last_put : {row column at : ℕ} → v.phase ≡ phase.Putting row column at → problem.m ≤ at + 1 →
      IsMet problem v old (record counted { phase = phase.Claiming row column }) reply.Stored
  meets_last_put {at = at} is last = by_row (put_row at) is refl (cond-false _ _ _ (le-ltb (at + 1) problem.m last))

  -- a claim that meets 0 is won
  pub meets_won : {row column : ℕ} → v.phase ≡ phase.Claiming row column → old ≡ 0 →
      IsMet problem v old (after_won problem counted row column) (reply.Claimed answer.Won)
  meets_won is free = by_row (λ t. t) is refl (cond-true _ _ _ (eq-eqb old 0 free))

  -- a claim that meets a word other than 0 is lost to the row and stamp in it
  pub meets_lost : {row column : ℕ} → v.phase ≡ phase.Claiming row column → old ≢ 0 →
      IsMet problem v old (after_lost problem counted row column old) (reply.Claimed (answer.Lost (row_in old) (stamp_in old)))
  meets_lost is held = by_row (λ t. t) is refl (cond-false _ _ _ (ne_eqb old 0 held))

  -- the view with one more word seen
  abbrev pub seen_one : ℕ → Sight
  seen_one at = record counted { seen = set v.seen at old }

  -- a read gives a view
  abbrev read_row : Sight → Stepped
  read_row w = record { sight = w; word = old; reply = reply.Got old }

  -- a read before the last column sees its word, and is followed by one at the next column
  pub meets_read : {row column holder at : ℕ} → v.phase ≡ phase.Reading row column holder at → at + 1 < problem.m
      → IsMet problem v old (record (seen_one at) { phase = phase.Reading row column holder (at + 1) }) (reply.Got old)
  meets_read {at = at} is more = by_row read_row is refl (cond-true _ _ _ (lt-ltb (at + 1) problem.m more))

  -- after a read at the last column the row goes on as its current entries less those that were seen
  pub meets_last_read : {row column holder at : ℕ} → v.phase ≡ phase.Reading row column holder at → problem.m ≤ at + 1
      → IsMet problem v old (settle problem (seen_one at) (difference problem.modulus v.current (set v.seen at old)) row) (reply.Got old)
  meets_last_read {at = at} is last = by_row read_row is refl (cond-false _ _ _ (le-ltb (at + 1) problem.m last))
