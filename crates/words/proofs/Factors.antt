-- A factor of a word, and a place at which it stands.
use Rattle.std.proofs.Common.{◌≡◌, ℕ, List, ◌++◌, length, take, drop, sym, ap, ◌∙◌, arith, append_assoc, length-append}
use Rattle.std.proofs.Math.Seq.{drop-append_seam, take-append_seam}
use Rattle.std.proofs.lemmas.List.{take-append-drop}
use Rattle.words.specs.Words.{IsFactor, OccursAt}

-- a factor of a word stands in it at the place behind the letters before it
pub factor_occurs : (v w : List ℕ) (f : IsFactor v w) → OccursAt v w (length f.before)
factor_occurs v w f =
    let split : w ≡ f.before ++ (v ++ f.after) = f.joined ∙ append_assoc f.before v f.after in
    record {
      within = omega (arith, ap length split, length-append f.before (v ++ f.after), length-append v f.after);
      same = ap (λ (x : List ℕ). take (length v) (drop (length f.before) x)) split
          ∙ ap (take (length v)) (drop-append_seam f.before (v ++ f.after)) ∙ take-append_seam v f.after;
    }

-- what stands in a word at a place is a factor of it
pub occurs_factor : (v w : List ℕ) (k : ℕ) → OccursAt v w k → IsFactor v w
occurs_factor v w k o = record {
  before = take k w;
  after = drop (length v) (drop k w);
  joined = sym (append_assoc (take k w) v (drop (length v) (drop k w)) ∙ ap (λ (x : List ℕ). take k w ++ (x ++ drop (length v) (drop k w))) (sym o.same)
      ∙ ap (λ (x : List ℕ). take k w ++ x) (take-append-drop (length v) (drop k w)) ∙ take-append-drop k w);
}
