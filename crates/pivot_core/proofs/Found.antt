-- What words tell of a held row, by the claim word of its column.
use Rattle.std.proofs.Common.{◌≡◌, ◌+◌, ◌<◌, ◌≤◌, ℕ, List, Some, length, get_or, sym, ap, ◌∙◌, arith}
use Rattle.std.proofs.lemmas.List.{get_or_read}
use Rattle.back_reduce.specs.declared.problem.Problem.{Problem}
use Rattle.back_reduce.specs.Pivots.{ArePivots, IsHolder}
use Rattle.pivot_core.specs.Words.{holder_in, index_of, row_word, value_in}
use Rattle.pivot_core.specs.Runs.{published_at, values}
use Rattle.pivot_core.specs.Finished.{IsFinished, words_alone}
use Rattle.pivot_core.proofs.ClaimWords.{holder_in-row, value_in-from}
use Rattle.pivot_core.proofs.Spots.{spot_within}

-- a row of the problem, whose values from its column on are what it has published
pub record IsTold (problem : Problem) (published : ℕ → ℕ → ℕ) (value : ℕ → ℕ) (c row : ℕ) : Type 0 where
  pub holder : IsHolder problem.modulus problem.m problem.n value c row
  pub values : (j : ℕ) → c ≤ j → published row j ≡ value j

-- where words tell pivots, the holder in a claim word is one
pub holder_is : {problem : Problem} (words : List ℕ) (published : ℕ → ℕ → ℕ) {c word row : ℕ}
    → ArePivots problem (λ c. holder_in (get_or words (1 + c) 0)) (λ c j. value_in (get_or words (1 + c) 0) published c j)
    → c < problem.m → 1 + c < length words → word ≡ get_or words (1 + c) word → holder_in word ≡ Some row
    → IsTold problem published (value_in (get_or words (1 + c) 0) published c) c row
holder_is words published {c} {word} {row} pivots below there read some =
    let claim : word ≡ get_or words (1 + c) 0 = get_or_read words (1 + c) word there read 0 in
    let is = holder_in-row word row some in
    record {
      holder = pivots.each c row below (ap holder_in (sym claim) ∙ some);
      values = λ j from. sym (ap (λ (k : ℕ). value_in k published c j) (sym claim) ∙ value_in-from word published c j is.0 from
          ∙ ap (λ (r : ℕ). published r j) is.1);
    }

-- the words of the machine on one thread
module _ {problem : Problem} {words : List ℕ} (h : IsFinished problem words) {c word row : ℕ} (below : c < problem.m)
    (read : word ≡ get_or words (1 + c) word) (some : holder_in word ≡ Some row) (j : ℕ) (lt : j < problem.m) where
  told : IsTold problem (published_at problem (words_alone words)) (values problem (words_alone words) c) c row
  told = holder_is words (published_at problem (words_alone words)) h.pivots below (omega (arith, h.count, below)) read some

  -- the word of the holder is one of them
  pub index_within : index_of problem.m (row_word row j) < length words
  index_within = omega (arith, h.count, spot_within problem.m problem.n (row_word row j) (told.holder.row, lt))

  module _ {i found : ℕ} (at : i ≡ index_of problem.m (row_word row j)) (is : found ≡ get_or words i found) (from : c ≤ j) where
    -- and it is the value of the held row
    pub value_is : found ≡ values problem (words_alone words) c j
    value_is = get_or_read words i found (omega (arith, at, index_within)) is 0 ∙ ap (λ (k : ℕ). get_or words k 0) at ∙ told.values j from

    -- it is below the modulus
    pub value_small : found < problem.modulus
    value_small = omega (arith, value_is, told.holder.residues j lt)
