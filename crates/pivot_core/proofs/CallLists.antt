-- Lists of calls: sums, and how long they are.
use Rattle.std.proofs.lemmas.Bool.{eqb-true}
use Rattle.std.proofs.lemmas.Bool.Decides.{Decides-eqb}
use Rattle.std.proofs.lemmas.List.Folds.{Any-from_list_any}
use Rattle.std.proofs.lemmas.Map.Made.{IsDistinct-from_AllPairs}
use Rattle.std.proofs.lemmas.Map.Steps.{length-le_from_distinct_below}
use Rattle.std.proofs.lemmas.List.{get_or-map, length-map}
use Rattle.std.proofs.lemmas.List.Elements.{All-map}
use Rattle.std.proofs.Common.{◌≡◌, ◌≢◌, ℕ, ◌+◌, ◌*◌, ◌<◌, ◌≤◌, ◌==◌, All, AllPairs, List, [], ◌∷◌, ◌++◌, length, map, get_or, sym, ap, ◌∙◌, arith, subst}
use Rattle.std.specs.List.{sum_by}
use Rattle.std.proofs.lemmas.List.Elements.{All-weaker}
use Rattle.std.proofs.lemmas.List.Sums.{sum_by-le, sum_by-append, sum_by-cons}
use Rattle.ideal_laws.specs.declared.account.Answer.TheVariants as answer
use Rattle.ideal_laws.specs.declared.account.Call.{Call}

-- a sum of what is 0 for each
pub sum_by-none : {X : Type 0} (f : X → ℕ) (xs : List X) → All (λ x. f x ≡ 0) xs → sum_by f xs ≡ 0
sum_by-none f xs h =
    let le : sum_by f xs ≤ length xs * 0 = sum_by-le f 0 xs (All-weaker (λ x. f x ≡ 0) (λ x. f x ≤ 0) (λ x e. omega (arith, e)) xs h) in
    omega (arith, le)

-- one more
pub sum_by-one_more : {X : Type 0} (f : X → ℕ) (xs : List X) (x : X) → sum_by f (xs ++ x ∷ []) ≡ sum_by f xs + f x
sum_by-one_more f xs x = sum_by-append f xs (x ∷ []) ∙ ap (λ (k : ℕ). sum_by f xs + k) (sum_by-cons f x [] ∙ omega arith)

-- a call that stands for none
abbrev pub no_call : Call
no_call = record { seat = 0; stamp = 0; column = 0; row = 0; answer = answer.Won }

-- numbers below n that differ are at most n
pub few_distinct : (xs : List ℕ) (n : ℕ) → AllPairs (λ x y. x ≢ y) xs → All (λ x. x < n) xs → length xs ≤ n
few_distinct xs n apart below =
    length-le_from_distinct_below xs n (IsDistinct-from_AllPairs Decides-eqb xs apart)
    (λ q h. (let f = Any-from_list_any (λ (x : ℕ). q == x) xs h in
    let lt : f.1 < n = subst (λ (k : ℕ). k < n) f.3 (below f.0 f.1 f.2) in
    subst (λ (k : ℕ). k < n) (sym (eqb-true q f.1 f.4)) lt))

-- calls that differ in a number below n are at most n
pub few_by : (h : Call → ℕ) (n : ℕ) (calls : List Call) → All (λ k. h k < n) calls →
    ((i j : ℕ) → i < j → j < length calls → h (get_or calls i no_call) ≡ h (get_or calls j no_call) → ⊥) → length calls ≤ n
few_by h n calls below apart =
    let at : (i d : ℕ) → i < length calls → get_or (map h calls) i d ≡ h (get_or calls i no_call) =
    λ i d lt. get_or-map h calls i no_call d lt in
    let few = few_distinct (map h calls) n
    (λ i j d lt within e. apart i j lt (omega (arith, within, length-map calls h))
    (sym (at i d (omega (arith, lt, within, length-map calls h))) ∙ e ∙ at j d (omega (arith, within, length-map calls h))))
    (All-map (λ (x : ℕ). x < n) h calls below) in
    omega (arith, few, length-map calls h)
