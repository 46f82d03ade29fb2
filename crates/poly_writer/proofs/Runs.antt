-- Runs of equal letters, and the text of a word from its first run on.
use Rattle.std.proofs.Common.{ℕ, suc, zero, ◌≡◌, ◌≢◌, ◌+◌, ◌-◌, ◌<◌, ◌≤◌, List, [], ◌∷◌, ◌++◌, length, drop, replicate, get_or, eqb, codes, refl, sym}
use Rattle.std.proofs.Common.{ap, subst, ◌∙◌, inl, inr, add-one, append_assoc, arith}
use Rattle.std.specs.List.{flat_map, join_by}
use Rattle.std.proofs.Math.Seq.{drop-cons, drop-length}
use Rattle.std.proofs.lemmas.Bool.{cases_Bool, ne_eqb}
use Rattle.std.proofs.lemmas.List.{append-nil}
use Rattle.poly_writer.specs.Texts.{Run, run_text, runs_of, with_first, word_text}

-- no letter, or another one, stands in front
pub data StartsOtherwise (x : ℕ) : List ℕ → Type 0 where
  nothing : StartsOtherwise x []
  other : (y : ℕ) (w : List ℕ) → y ≢ x → StartsOtherwise x (y ∷ w)

abbrev pub run : ℕ → ℕ → Run
run x n = record { letter = x; times = n }

with_first-same : (x n : ℕ) (rs : List Run) → with_first x (run x n ∷ rs) ≡ run x (n + 1) ∷ rs
with_first-same x n rs = grind arith

with_first-other : (x y : ℕ) (rs : List Run) → y ≢ x → with_first x (with_first y rs) ≡ run x 1 ∷ with_first y rs
with_first-other x y [] h = rw (ne_eqb x y (λ e. h (sym e))) refl
with_first-other x y (r ∷ rs) h = elim (cases_Bool (eqb y r.letter)) [
  | inl e ↦ rw e (rw (ne_eqb x y (λ e. h (sym e))) refl)
  | inr e ↦ rw e (rw (ne_eqb x y (λ e. h (sym e))) refl)
]

-- the first run of a word is all of the equal letters in front
pub runs_of-run : (x n : ℕ) (w : List ℕ) → StartsOtherwise x w → runs_of (replicate (suc n) x ++ w) ≡ run x (suc n) ∷ runs_of w
runs_of-run x zero [] h = refl
runs_of-run x zero (y ∷ w) (other _ _ h) = with_first-other x y (runs_of w) h
runs_of-run x (suc n) w h = ap (with_first x) (runs_of-run x n w h) ∙ with_first-same x (suc n) (runs_of w) ∙ ap (λ k. run x k ∷ runs_of w) (add-one (suc n))

-- the text of some runs, the first of which is put in front
join_by-with_first : (f : Run → List ℕ) (sep : List ℕ) (r : Run) (x : ℕ) (rs : List Run) →
    join_by f sep (r ∷ with_first x rs) ≡ f r ++ (sep ++ join_by f sep (with_first x rs))
join_by-with_first f sep r x [] = ap (λ t. f r ++ t) (append_assoc sep (f (run x 1)) [])
join_by-with_first f sep r x (s ∷ rs) = elim (cases_Bool (eqb x s.letter)) [
  | inl e ↦ rw e (ap (λ t. f r ++ t) (append_assoc sep (f (run x (s.times + 1))) (flat_map (λ y. sep ++ f y) rs)))
  | inr e ↦ rw e (ap (λ t. f r ++ t) (append_assoc sep (f (run x 1)) (flat_map (λ y. sep ++ f y) (s ∷ rs))))
]

-- letters from one place to before another that are all one letter, which is not the next
pub record IsRun (w : List ℕ) (at end : ℕ) : Type 0 where
  pub more : at < end
  pub within : end ≤ length w
  pub equal : drop at w ≡ replicate (end - at) (get_or w at 0) ++ drop end w
  pub longest : end < length w → get_or w end 0 ≢ get_or w at 0

runs_of-drop : (w : List ℕ) (at end : ℕ) → IsRun w at end → StartsOtherwise (get_or w at 0) (drop end w) →
    runs_of (drop at w) ≡ run (get_or w at 0) (end - at) ∷ runs_of (drop end w)
runs_of-drop w at end h s =
    let e : end - at ≡ suc (end - at - 1) = omega (arith, h.more) in
    ap runs_of (h.equal) ∙ subst (λ n. runs_of (replicate n (get_or w at 0) ++ drop end w) ≡ run (get_or w at 0) n ∷ runs_of (drop end w))
    (sym e) (runs_of-run (get_or w at 0) (end - at - 1) (drop end w) s)

-- the text of a word whose first run is not its whole
pub word_text-more : (names : List (List ℕ)) (w : List ℕ) (at end : ℕ) → IsRun w at end → end < length w
    → word_text names (drop at w) ≡ run_text names (run (get_or w at 0) (end - at)) ++ (codes "*" ++ word_text names (drop end w))
word_text-more names w at end h below =
    let next = drop-cons w end 0 below in
    let s : StartsOtherwise (get_or w at 0) (drop end w) = subst (StartsOtherwise (get_or w at 0)) (sym next)
    (other (get_or w end 0) (drop (suc end) w) (h.longest below)) in
    let join : List Run → List ℕ = join_by (run_text names) (codes "*") in
    let first : Run = run (get_or w at 0) (end - at) in
    ap join (runs_of-drop w at end h s)
    ∙ ap (λ v. join (first ∷ runs_of v)) next
    ∙ join_by-with_first (run_text names) (codes "*") first (get_or w end 0) (runs_of (drop (suc end) w))
    ∙ ap (λ v. run_text names first ++ (codes "*" ++ word_text names v)) (sym next)

-- the text of a word that is one run
pub word_text-last : (names : List (List ℕ)) (w : List ℕ) (at end : ℕ) → IsRun w at end → end ≡ length w
    → word_text names (drop at w) ≡ run_text names (run (get_or w at 0) (end - at))
word_text-last names w at end h e =
    let none : drop end w ≡ [] = ap (λ n. drop n w) e ∙ drop-length w in
    let s : StartsOtherwise (get_or w at 0) (drop end w) = subst (StartsOtherwise (get_or w at 0)) (sym none) nothing in
    let join : List Run → List ℕ = join_by (run_text names) (codes "*") in
    let first : Run = run (get_or w at 0) (end - at) in
    ap join (runs_of-drop w at end h s)
    ∙ ap (λ v. join (first ∷ runs_of v)) none
    ∙ append-nil (run_text names first)

-- the text after one more run and `*`, with what is left of the word behind it
pub text-more : (names : List (List ℕ)) (w : List ℕ) (at end : ℕ) (text new whole : List ℕ) → IsRun w at end → end < length w →
    new ≡ text ++ run_text names (run (get_or w at 0) (end - at)) ++ codes "*"
    → text ++ word_text names (drop at w) ≡ whole → new ++ word_text names (drop end w) ≡ whole
text-more names w at end text new whole h below grown so_far =
    let r : List ℕ = run_text names (run (get_or w at 0) (end - at)) in
    ap (λ t. t ++ word_text names (drop end w)) grown
    ∙ append_assoc (text ++ r) (codes "*") (word_text names (drop end w))
    ∙ append_assoc text r (codes "*" ++ word_text names (drop end w))
    ∙ ap (λ t. text ++ t) (sym (word_text-more names w at end h below))
    ∙ so_far

-- the text after the last run
pub text-last : (names : List (List ℕ)) (w : List ℕ) (at end : ℕ) (text new whole : List ℕ) → IsRun w at end → end ≡ length w →
    new ≡ text ++ run_text names (run (get_or w at 0) (end - at))
    → text ++ word_text names (drop at w) ≡ whole → new ++ word_text names (drop end w) ≡ whole
text-last names w at end text new whole h e grown so_far =
    ap (λ v. new ++ word_text names v) (ap (λ n. drop n w) e ∙ drop-length w)
    ∙ append-nil new
    ∙ grown
    ∙ ap (λ t. text ++ t) (sym (word_text-last names w at end h e))
    ∙ so_far
