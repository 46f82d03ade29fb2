-- The number of normal words of a degree is its Hilbert coefficient.
use Rattle.std.proofs.Common.{◌≡◌, ◌≢◌, ◌+◌, ◌≤◌, ℕ, List, [], ◌∷◌, ◌++◌, length, refl, ap, inl, inr}
use Rattle.std.proofs.Common.{arith, AllPairs, subst, length-append}
use Rattle.std.specs.List.{Contains}
use Rattle.std.proofs.lemmas.List.Elements.{All-contains, Contains-append_cases, Contains-append_left, Contains-append_right}
use Rattle.words.proofs.Members.{AllPairs-first, AllPairs-rest, Contains-cases, Contains-first, Contains-more, Contains-none}
use Rattle.free_poly.specs.declared.term.Term.{Term}
use Rattle.free_poly.proofs.Totals.{letterwise-apart}
use Rattle.ideal_laws.specs.Dimension.{IsHilbertCoefficient}
use Rattle.ideal_laws.specs.Engine.{Elements, IsReducedUpto}
use Rattle.ideal_laws.specs.Ideal.{ideal_over}
use Rattle.ideal_laws.specs.Kept.{IsKept}
use Rattle.ideal_laws.specs.Laws.{IsSetting}
use Rattle.ideal_laws.specs.Overlaps.{AreLower}
use Rattle.ideal_laws.proofs.Dimensions.{has_one_dimension}
use Rattle.ideal_laws.proofs.Lower.{lists_lower}
use Rattle.hilbert.specs.Series.{CountsCoefficients, IsCount}
use Rattle.ideal_laws.proofs.NormalLeads.{normal_from, normal_no_lead}

-- a list that has x, in the parts before and after it
record IsHad {X : Type 0} (x : X) (xs : List X) : Type 0 where
  before : List X
  after : List X
  is : xs ≡ before ++ x ∷ after

had : {X : Type 0} (x : X) (xs : List X) → Contains xs x → IsHad x xs
had x [] m = absurd (Contains-none x m)
had x (y ∷ xs) m = elim (Contains-cases y xs x m) [
  | inl e ↦ record { before = []; after = xs; is = λ i. e i ∷ xs }
  | inr n ↦ let h = had x xs n in record { before = y ∷ h.before; after = h.after; is = λ i. y ∷ h.is i }
]

-- of two lists without repeats the one whose members the other has is no longer
pub no_longer : {X : Type 0} (xs ys : List X) → AllPairs (λ a b. a ≢ b) xs → ((x : X) → Contains xs x → Contains ys x) → length xs ≤ length ys
no_longer [] ys p h = omega arith
no_longer (x ∷ xs) ys p h =
    let k = had x ys (h x (Contains-first x xs)) in
    let rest = no_longer xs (k.before ++ k.after) (AllPairs-rest (λ a b. a ≢ b) x xs p)
    (λ y m. elim (Contains-append_cases k.before (x ∷ k.after) y (subst (λ zs. Contains zs y) k.is (h y (Contains-more x xs y m)))) [
      | inl b ↦ Contains-append_left k.before k.after y b
      | inr a ↦ elim (Contains-cases x k.after y a) [
        | inl e ↦ absurd (All-contains (λ b. x ≢ b) xs y (AllPairs-first (λ a b. a ≢ b) x xs p) m e)
        | inr b ↦ Contains-append_right k.before k.after y b
      ]
    ]) in
    omega (arith, rest, length-append k.before k.after, length-append k.before (x ∷ k.after), ap length k.is)

module _ (p : ℕ) (relations : List (List Term)) (basis : Elements) (st : IsSetting (ideal_over p basis.weights relations)) (kept : IsKept basis)
    (upto : IsReducedUpto p relations basis) where
  lower : AreLower (ideal_over p basis.weights relations) (basis.done + 1) basis.elements
  lower = lists_lower (ideal_over p basis.weights relations) st (basis.done + 1) basis
      (record { kept = kept; next = refl; same_weights = refl; reduced = upto })

  -- up to the degree that is done, the number of normal words is the Hilbert coefficient
  pub count_coefficient : (d n : ℕ) → d ≤ basis.done → IsCount basis.weights basis.elements d n
      → IsHilbertCoefficient (ideal_over p basis.weights relations) d n
  count_coefficient d n le c =
      let H = has_one_dimension (ideal_over p basis.weights relations) st d in
      let there : length c.words ≤ length H.others =
      no_longer c.words H.others (λ i j x below within. letterwise-apart _ _ (c.are_normal.falling i j x below within))
      (λ w m.
      let s = (c.are_normal.exactly w).0 m in
      elim ((H.split w).0 s.0) [
        | inl l ↦ absurd (normal_no_lead (ideal_over p basis.weights relations) st (basis.done + 1) basis.elements lower d w (omega (arith, le)) s.0 s.1
            ((H.are_leading.exactly w).0 l))
        | inr o ↦ o
      ]) in
      let back : length H.others ≤ length c.words =
      no_longer H.others c.words H.apart
      (λ w m.
      let all = (H.split w).1 (inr m) in
      (c.are_normal.exactly w).1 (
        all,
        normal_from (ideal_over p basis.weights relations) st (basis.done + 1) basis.elements lower d w all
            (H.are_others w m),
      )) in
      (H.coefficient n).1 (omega (arith, there, back, c.count))

-- the same as a law of all reduced bases
pub counts_coefficients : CountsCoefficients
counts_coefficients p relations basis st kept upto d n le c = count_coefficient p relations basis st kept upto d n le c
