-- Where a factor stands in a word.
use Rattle.std.proofs.Common.{ap₂, ◌≡◌, ◌+◌, ◌≤◌, ℕ, List, ◌++◌, length, take, drop, sym, ap, ◌∙◌}
use Rattle.std.proofs.lemmas.List.{append_assoc, drop-drop, take-append-drop}
use Rattle.words.specs.Words.{OccursAt}

-- a word in which a factor stands is the letters before it, the factor, and the letters behind it
pub joined_at : (u w : List ℕ) (k : ℕ) → OccursAt u w k → w ≡ take k w ++ u ++ drop (k + length u) w
joined_at u w k o =
    sym (append_assoc (take k w) u (drop (k + length u) w) ∙ ap (λ (r : List ℕ). take k w ++ r)
    (ap₂ (λ (x z : List ℕ). x ++ z) (sym o.same) (sym (drop-drop (length u) k w)) ∙ take-append-drop (length u) (drop k w))
    ∙ take-append-drop k w)
