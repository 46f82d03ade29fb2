-- The word that a step leaves, row by row of the table.
use Rattle.std.proofs.Common.{◌≡◌, ◌≢◌, ◌+◌, ◌==◌, ℕ, ltb, Some, refl, ap, ◌∙◌}
use Rattle.std.specs.Prelude.{slice_index}
use Rattle.std.proofs.lemmas.Bool.{cond_both, cond-true, cond-false, eq-eqb, ne_eqb}
use Rattle.back_reduce.specs.declared.problem.Problem.{Problem}
use Rattle.pivot_core.specs.declared.view.Phase.{Phase}
use Rattle.pivot_core.specs.declared.view.Phase.TheVariants as phase
use Rattle.pivot_core.specs.declared.sight.Sight.{Sight}
use Rattle.pivot_core.specs.Words.{claim_word}
use Rattle.pivot_core.specs.Steps.{Stepped, by_phase}
use Rattle.pivot_core.specs.Meets.{LeavesWord}

module _ (problem : Problem) (v : Sight) (old : ℕ) where
  abbrev counted : Sight
  counted = record v { steps = v.steps + 1 }

  -- the word in the row of a phase
  by_row : {f : Phase} {t : Stepped} {x : ℕ} → v.phase ≡ f → by_phase problem counted f old ≡ Some t → t.word ≡ x → LeavesWord problem v old x
  by_row is row word = record { stepped = _; gives = ap (λ (f : Phase). by_phase problem counted f old) is ∙ row; word = word }

  -- the step of a fresh view leaves the counter one greater
  pub leaves_count : v.phase ≡ phase.Fresh → LeavesWord problem v old (old + 1)
  leaves_count is = by_row is refl (cond_both (ltb old problem.n) _ _ (λ (t : Stepped). t.word ≡ old + 1) (λ on. refl) (λ off. refl))

  -- a look leaves the word that it meets
  pub leaves_look : {row column : ℕ} → v.phase ≡ phase.Looking row column → LeavesWord problem v old old
  leaves_look is = by_row is refl (cond_both (old == 0) _ _ (λ (t : Stepped). t.word ≡ old) (λ on. refl) (λ off. refl))

  -- a put leaves the entry of the current row at its place
  pub leaves_put : {row column at : ℕ} → v.phase ≡ phase.Putting row column at → LeavesWord problem v old (slice_index v.current at)
  leaves_put is = by_row is refl refl

  -- a claim that is won leaves its claim word, with a stamp one above the clock
  pub leaves_won : {row column : ℕ} → v.phase ≡ phase.Claiming row column → old ≡ 0 → LeavesWord problem v old (claim_word (v.clock + 1) row)
  leaves_won is free = by_row is refl (ap (λ (t : Stepped). t.word) (cond-true _ _ _ (eq-eqb old 0 free)))

  -- a claim that is lost leaves the word that it meets
  pub leaves_lost : {row column : ℕ} → v.phase ≡ phase.Claiming row column → old ≢ 0 → LeavesWord problem v old old
  leaves_lost is held = by_row is refl (ap (λ (t : Stepped). t.word) (cond-false _ _ _ (ne_eqb old 0 held)))

  -- a read leaves the word that it meets
  pub leaves_read : {row column holder at : ℕ} → v.phase ≡ phase.Reading row column holder at → LeavesWord problem v old old
  leaves_read is = by_row is refl refl
