-- An event changes one word and one view.
use Rattle.std.proofs.Common.{◌≡◌, ◌≢◌, inl, inr, ℕ, ◌+◌, ◌<◌, length, set, sym, ap, ◌∙◌, arith, subst}
use Rattle.std.specs.List.{sum_by}
use Rattle.std.proofs.lemmas.Bool.{cases_eq}
use Rattle.std.proofs.lemmas.List.{get_or-set_same, get_or-set_other, length-set}
use Rattle.std.proofs.lemmas.List.Sums.{sum_by-set}
use Rattle.back_reduce.specs.declared.problem.Problem.{Problem}
use Rattle.pivot_core.specs.declared.view.Phase.{Phase}
use Rattle.pivot_core.specs.declared.sight.Sight.{Sight}
use Rattle.pivot_core.specs.Words.{Spot, index_of, IsSpot}
use Rattle.pivot_core.specs.Views.{fresh}
use Rattle.pivot_core.specs.Runs.{State, view_at, word_at}
use Rattle.pivot_core.specs.Phases.{IsPhase}
use Rattle.pivot_core.specs.Rule.{Ranges}
use Rattle.pivot_core.proofs.Spots.{same_spot, spot_within}

-- t is s with another view of a seat and another word at a spot
pub record IsChange (problem : Problem) (crew : ℕ) (s t : State) (seat : ℕ) (w : Sight) (a : Spot) (x : ℕ) : Type 0 where
  -- the seat is one of the crew
  pub below : seat < crew
  -- the spot is one of the problem
  pub there : IsSpot problem.m problem.n a
  -- the seat has its new view
  pub now : view_at problem t seat ≡ w
  -- each other seat has the view that it had
  pub others : (j : ℕ) → j ≢ seat → view_at problem t j ≡ view_at problem s j
  -- the spot has its new word
  pub word : word_at problem t a ≡ x
  -- each other spot has the word that it had
  pub words : (b : Spot) → IsSpot problem.m problem.n b → b ≢ a → word_at problem t b ≡ word_at problem s b
  -- a sum over all views changes by what it has of the one view
  pub sums : (f : Sight → ℕ) → sum_by f t.views + f (view_at problem s seat) ≡ sum_by f s.views + f w
  -- there are as many words as before
  pub word_count : length t.words ≡ length s.words
  -- there are as many views as before
  pub view_count : length t.views ≡ length s.views

-- where a state is in range, its words and views with one of each replaced are a change of it
pub changed : (problem : Problem) (crew : ℕ) (s : State) (seat : ℕ) (w : Sight) (a : Spot) (x : ℕ) → Ranges problem crew s → seat < crew →
    IsSpot problem.m problem.n a
    → IsChange problem crew s (record { words = set s.words (index_of problem.m a) x; views = set s.views seat w }) seat w a x
changed problem crew s seat w a x ranges below there = record {
  below = below;
  there = there;
  now = get_or-set_same s.views seat w (fresh problem.m seat) (omega (arith, below, ranges.count));
  others = λ j other. get_or-set_other s.views seat j w (fresh problem.m j) other;
  word = get_or-set_same s.words (index_of problem.m a) x 0 (omega (arith, ranges.words, spot_within problem.m problem.n a there));
  words = λ b hb other. get_or-set_other s.words (index_of problem.m a) (index_of problem.m b) x 0 (λ e. other (same_spot problem.m problem.n b a hb there e));
  sums = λ f. sum_by-set f s.views seat w (fresh problem.m seat) (omega (arith, below, ranges.count));
  word_count = length-set s.words (index_of problem.m a) x;
  view_count = length-set s.views seat w;
}

module _ {problem : Problem} {crew : ℕ} {s t : State} {seat : ℕ} {w : Sight} {a : Spot} {x : ℕ} (c : IsChange problem crew s t seat w a x) where
  -- the numbers of the view's phase are in range
  pub numbers_at : Ranges problem crew s → {f : Phase} → (view_at problem s seat).phase ≡ f → IsPhase problem.m problem.n f
  numbers_at ranges is = subst (IsPhase problem.m problem.n) is (ranges.views seat c.below).numbers

  -- the word that was met, and the one that was left
  pub word_met : {b : Spot} → a ≡ b → word_at problem s b ≡ word_at problem s a
  word_met spot = ap (word_at problem s) (sym spot)

  -- the spot has the word that was left
  pub word_left : {b : Spot} → a ≡ b → word_at problem t b ≡ x
  word_left spot = ap (word_at problem t) (sym spot) ∙ c.word

  -- what holds of the new view, and of each other view that stays, holds of all
  pub each_view : (Q : ℕ → Sight → Type 0) → Q seat w → ((i : ℕ) → i < crew → i ≢ seat → Q i (view_at problem s i)) → (i : ℕ) → i < crew →
      Q i (view_at problem t i)
  each_view Q own other i lt = elim (cases_eq i seat) [
    | inl is ↦ subst (λ (j : ℕ). Q j (view_at problem t j)) (sym is) (subst (Q seat) (sym c.now) own)
    | inr apart ↦ subst (Q i) (sym (c.others i apart)) (other i lt apart)
  ]

  -- where the word is the one that was met, all words stay
  pub quiet : x ≡ word_at problem s a → (b : Spot) → IsSpot problem.m problem.n b → word_at problem t b ≡ word_at problem s b
  quiet same b hb = elim (cases_eq (index_of problem.m b) (index_of problem.m a)) [
    | inl is ↦ (let e : b ≡ a = same_spot problem.m problem.n b a hb c.there is in ap (word_at problem t) e ∙ c.word ∙ same ∙ ap (word_at problem s) (sym e))
    | inr apart ↦ c.words b hb (λ e. apart (ap (index_of problem.m) e))
  ]
