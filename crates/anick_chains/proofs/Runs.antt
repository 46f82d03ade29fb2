-- The next pieces from the tips of a degree, place after place.
use Rattle.std.proofs.Common.{◌≡◌, ◌+◌, ◌<◌, ◌≤◌, ℕ, Bool, false, cond, List, [], ◌++◌, length, take, drop, sym, ap, ◌∙◌, inr, arith}
use Rattle.ideal_laws.specs.Engine.{Elements}
use Rattle.ideal_laws.specs.Kept.{IsKept, count_below, count_upto}
use Rattle.overlaps.specs.Walk.{IsAbove, lead_word}
use Rattle.anick_chains.specs.BasisTips.{leads_of}
use Rattle.anick_chains.specs.Walk.{end_of, ends_of, goes_on, unless_stands}
use Rattle.anick_chains.proofs.Fitting.{none_after, none_before, outside, there}
use Rattle.anick_chains.proofs.Members.{joined, joined-one, joined-same}

module _ (b : Elements) (kept : IsKept b) (q : List ℕ) (before d first end : ℕ) (is_first : first ≡ count_below b.weights d b.elements)
    (is_end : end ≡ count_upto b.weights d b.elements) (fits : end ≤ length b.elements) where
  abbrev shared : List ℕ
  shared = drop before q

  abbrev E : ℕ → List (List ℕ)
  E = end_of b.weights b.elements q before d

  nothing : (k : ℕ) → goes_on b.weights b.elements shared d k ≡ false → E k ≡ []
  nothing k e = ap (λ (t : Bool). cond t (unless_stands (leads_of b.elements) q (drop (length shared) (lead_word b.elements k))) []) e

  -- before the first place that does not stand above there is none
  pub run_begins : (start : ℕ) → start ≤ end → ((k : ℕ) → first ≤ k → k < start → IsAbove shared (lead_word b.elements k)) → joined E start ≡ []
  run_begins start le above =
      joined-same E 0 start (omega arith) (λ k from under. nothing k (none_before b kept shared d first end is_first is_end fits start le above k under))

  -- at the end of the degree all have been met
  pub run_ends : joined E end ≡ ends_of b.weights b.elements q before d
  run_ends = sym (joined-same E end (length b.elements) fits (λ k from within. nothing k
      (outside b kept shared d first end is_first is_end fits k within (inr from))))

  -- and also where the first tip stands that does not begin with what is shared
  pub run_stops : (right : ℕ) → first ≤ right → right < end → (IsAbove shared (lead_word b.elements right) → ⊥)
      → (take (length shared) (lead_word b.elements right) ≡ shared → ⊥) → joined E right ≡ ends_of b.weights b.elements q before d
  run_stops right from under low other =
      sym (joined-same E right (length b.elements) (omega (arith, under, fits))
      (λ k later within. nothing k (none_after b kept shared d first end is_first is_end fits right from under low other k later within)))

  -- a tip that begins with what is shared gives its end, unless a tip stands earlier
  pub run_goes_on : (k : ℕ) → first ≤ k → k < end → take (length shared) (lead_word b.elements k) ≡ shared
      → joined E (k + 1) ≡ joined E k ++ unless_stands (leads_of b.elements) q (drop (length shared) (lead_word b.elements k))
  run_goes_on k from under e =
      joined-one E k
      ∙ ap (λ (t : Bool). joined E k ++ cond t (unless_stands (leads_of b.elements) q (drop (length shared) (lead_word b.elements k))) [])
      (there b kept shared d first end is_first is_end fits k from under e)
