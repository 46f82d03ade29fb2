-- The overlaps with one left element and with all, by the letters before the right one and by the left one.
use Rattle.std.proofs.Common.{◌≡◌, ◌+◌, ◌-◌, ◌<◌, ◌≤◌, ℕ, zero, suc, List, [], ◌∷◌, ◌++◌, length, map, take, refl, sym, ap, ◌∙◌, arith}
use Rattle.std.proofs.Common.{length-append}
use Rattle.std.specs.List.{flat_map, range_with_len}
use Rattle.std.proofs.lemmas.Grind.{flat_map-append}
use Rattle.std.proofs.lemmas.List.{append-nil, append_assoc, map-append, map-id}
use Rattle.std.proofs.lemmas.List.FromFn.{map-range_with_len_more}
use Rattle.words.specs.Words.{degree_of}
use Rattle.free_poly.specs.declared.term.Term.{Term}
use Rattle.ideal_laws.specs.Closure.{Overlap}
use Rattle.overlaps.specs.declared.obstruction.Obstruction.{Obstruction}
use Rattle.overlaps.specs.Listed.{obstruction_of}
use Rattle.overlaps.specs.Walk.{block, blocks, lead_word}

range-more : (a n : ℕ) → range_with_len a (n + 1) ≡ range_with_len a n ++ (a + n) ∷ []
range-more a n = sym (map-id (range_with_len a (n + 1))) ∙ map-range_with_len_more (λ k. k) a n (a + n) refl
    ∙ ap (λ (r : List ℕ). r ++ (a + n) ∷ []) (map-id (range_with_len a n))

module _ {X : Type 0} (f : ℕ → List X) (a : ℕ) where
  abbrev joined : ℕ → List X
  joined n = flat_map f (range_with_len a n)

  -- one more number adds its list at the end
  pub joined-more : (n : ℕ) → joined (n + 1) ≡ joined n ++ f (a + n)
  joined-more n = ap (flat_map f) (range-more a n) ∙ flat_map-append f (range_with_len a n) ((a + n) ∷ [])
      ∙ ap (λ (r : List X). joined n ++ r) (append-nil (f (a + n)))

  -- with more numbers the joined list is no shorter
  pub joined-longer : (more n : ℕ) → length (joined n) ≤ length (joined (n + more))
  joined-longer zero n = omega (arith, ap (λ (k : ℕ). length (joined k)) (let z : n + 0 ≡ n = omega arith in z))
  joined-longer (suc more) n =
      let next : n + suc more ≡ (n + more) + 1 = omega arith in
      omega (
        arith,
        joined-longer more n,
        ap (λ (k : ℕ). length (joined k)) next,
        ap length (joined-more (n + more)),
        length-append (joined (n + more)) (f (a + (n + more))),
      )

  -- where one more makes the list longer than a number, the whole is
  pub joined-many : (n whole most size : ℕ) (k : ℕ) → n < whole → a + n ≡ k → size ≡ length (joined n) → most < size + length (f k) →
      most < length (joined whole)
  joined-many n whole most size k lt is so_far more =
      let whole_is : (n + 1) + (whole - (n + 1)) ≡ whole = omega (arith, lt) in
      omega (
        arith,
        so_far,
        more,
        ap (λ (j : ℕ). length (f j)) is,
        ap length (joined-more n),
        length-append (joined n) (f (a + n)),
        joined-longer (whole - (n + 1)) (n + 1),
        ap (λ (j : ℕ). length (joined j)) whole_is,
      )

-- what is appended to a list of obstructions
pub appended : (old found new : List Obstruction) (os qs rs : List Overlap) → found ≡ old ++ map obstruction_of os →
    new ≡ found ++ map obstruction_of qs → rs ≡ os ++ qs → new ≡ old ++ map obstruction_of rs
appended old found new os qs rs so_far grown joined =
    grown ∙ ap (λ (r : List Obstruction). r ++ map obstruction_of qs) so_far ∙ append_assoc old (map obstruction_of os) (map obstruction_of qs)
    ∙ ap (λ (r : List Obstruction). old ++ r) (sym (map-append obstruction_of os qs) ∙ ap (map obstruction_of) (sym joined))

module _ (weights : List ℕ) (G : List (List Term)) (d : ℕ) where
  -- those with one left element and fewer than so many letters before the right one
  abbrev pub blocks_upto : ℕ → ℕ → List Overlap
  blocks_upto left n = flat_map (λ before. block weights G left before (d - degree_of weights (take before (lead_word G left)))) (range_with_len 1 n)

  -- those with a left element before a place
  abbrev pub all_upto : ℕ → List Overlap
  all_upto n = flat_map (blocks weights G d) (range_with_len 0 n)
