-- A list of obstructions by falling word, and then by the left element.
use Rattle.std.proofs.Common.{◌≡◌, ◌⊎◌, ◌<◌, ℕ, Bool, false, List, map, refl, sym, ap, ◌∙◌, inl, inr, arith, subst}
use Rattle.std.specs.List.{Contains, IsDistinct}
use Rattle.std.specs.List.Sorted.{IsPermutation, IsSorted}
use Rattle.std.specs.Ordering.{eq_by_cmp, is_eq, nat_cmp, ordering_reverse, ordering_then}
use Rattle.std.specs.Cmp.{IsTotalOrder, back_total, on_total, then_total}
use Rattle.std.specs.declared.cmp.Ordering.{Ordering}
use Rattle.std.specs.declared.cmp.Ordering.TheVariants.{Less, Equal, Greater}
use Rattle.std.proofs.lemmas.Cmp.{by_ranked, nat_cmp_total, ranked}
use Rattle.std.proofs.lemmas.List.Sorted.{Contains-permutation, IsPermutation-sym}
use Rattle.std.proofs.lemmas.Map.Keys.{IsDistinct-IsPermutation, IsDistinct-from_apart}
use Rattle.words.specs.Order.{letterwise_cmp}
use Rattle.words.specs.OrderLaws.{letterwise_total}
use Rattle.words.proofs.Members.{AllPairs-map, Contains-map, Contains-map_cases}
use Rattle.ideal_laws.specs.Closure.{IsFactorFree, Overlap, OverlapsBefore, overlap_word}
use Rattle.ideal_laws.specs.Engine.{Elements}
use Rattle.ideal_laws.specs.Kept.{IsKept}
use Rattle.ideal_laws.proofs.Search.{same_lists}
use Rattle.overlaps.specs.declared.obstruction.Obstruction.{Obstruction}
use Rattle.overlaps.specs.Listed.{AreListed, obstruction_of}
use Rattle.overlaps.specs.Walk.{all_blocks, found_cmp}
use Rattle.overlaps.proofs.Strict.{strictly, tied_both}
use Rattle.overlaps.proofs.Apart.{all_compare, are_obstructions, in_order}

-- the order of a list of obstructions is total
pub found_total : IsTotalOrder found_cmp
found_total = then_total (on_total (λ (o : Obstruction). o.word) (back_total letterwise_total)) (on_total (λ (o : Obstruction). o.left) nat_cmp_total)

abbrev Precedes : Obstruction → Obstruction → Type 0
Precedes x y = found_cmp x y ≡ Less

precedes_itself : (x : Obstruction) → Precedes x x → ⊥
precedes_itself x e = let f : Less ≡ Greater = sym e ∙ found_total.antisymm x x ∙ ap ordering_reverse e in cc f

letters_equal : (w : List ℕ) → letterwise_cmp w w ≡ Equal
letters_equal w = self (letterwise_cmp w w) (letterwise_total.antisymm w w)
  where
    self : (r : Ordering) → r ≡ ordering_reverse r → r ≡ Equal
    self Less e = cc e
    self Equal e = e
    self Greater e = cc e

number_less : (m n : ℕ) → m < n → nat_cmp m n ≡ Less
number_less m n lt = by_ranked (m < n) (m ≡ n) (n < m) (nat_cmp m n) (ranked m n (nat_cmp m n) refl) (λ is below. is)
    (λ is same. absurd (omega (arith, lt, same))) (λ is above. absurd (omega (arith, lt, above)))

before_precedes : (o q : Overlap) → OverlapsBefore o q → Precedes (obstruction_of o) (obstruction_of q)
before_precedes o q (inl g) = ap (λ (r : Ordering). ordering_then r (nat_cmp o.left q.left))
    (letterwise_total.antisymm (overlap_word q) (overlap_word o) ∙ ap ordering_reverse g)
before_precedes o q (inr e) =
    ap (λ (w : List ℕ). ordering_then (letterwise_cmp (overlap_word q) w) (nat_cmp o.left q.left)) e.0
    ∙ ap (λ (r : Ordering). ordering_then r (nat_cmp o.left q.left)) (letters_equal (overlap_word q)) ∙ number_less o.left q.left e.1

abbrev AreTied : Obstruction → Obstruction → Bool
AreTied = eq_by_cmp found_cmp

module _ (b : Elements) (kept : IsKept b) (free : IsFactorFree b.elements) (d : ℕ) where
  abbrev walked : List Overlap
  walked = all_blocks b.weights b.elements d

  abbrev listed : List Overlap
  listed = (in_order b kept free d).list

  untied : (o q : Overlap) → OverlapsBefore o q ⊎ OverlapsBefore q o → AreTied (obstruction_of o) (obstruction_of q) ≡ false
  untied o q (inl h) = ap is_eq (before_precedes o q h)
  untied o q (inr h) = tied_both found_cmp found_total (obstruction_of o) (obstruction_of q) ∙ ap is_eq (before_precedes q o h)

  apart : IsDistinct AreTied (map obstruction_of walked)
  apart = IsDistinct-from_apart AreTied (map obstruction_of walked)
      (AllPairs-map obstruction_of (λ o q. OverlapsBefore o q ⊎ OverlapsBefore q o) (λ x y. AreTied x y ≡ false) untied walked
      (all_compare b kept free d))

  there : (found sorted : List Obstruction) → found ≡ map obstruction_of walked → IsPermutation found sorted → (x : Obstruction) →
      Contains sorted x → Contains (map obstruction_of listed) x
  there found sorted is moved x m =
      let r = Contains-map_cases obstruction_of walked x (subst (λ (xs : List Obstruction). Contains xs x) is
      (Contains-permutation sorted found x (IsPermutation-sym found sorted moved) m)) in
      subst (Contains (map obstruction_of listed)) r.2 (Contains-map obstruction_of listed r.0 ((in_order b kept free d).has r.0 r.1))

  back : (found sorted : List Obstruction) → found ≡ map obstruction_of walked → IsPermutation found sorted → (x : Obstruction) →
      Contains (map obstruction_of listed) x → Contains sorted x
  back found sorted is moved x m =
      let r = Contains-map_cases obstruction_of listed x m in
      Contains-permutation found sorted x moved (subst (λ (xs : List Obstruction). Contains xs x) (sym is)
      (subst (Contains (map obstruction_of walked)) r.2 (Contains-map obstruction_of walked r.0
      ((in_order b kept free d).says r.0 r.1))))

  -- the obstructions of the walk, sorted, are those of degree d in their order
  pub sorted_listed : (found sorted : List Obstruction) → found ≡ map obstruction_of walked → IsPermutation found sorted →
      IsSorted found_cmp sorted → AreListed b.weights b.elements d sorted
  sorted_listed found sorted is moved up = record {
    overlaps = listed;
    are_obstructions = are_obstructions b kept free d;
    shown =
        let distinct = IsDistinct-IsPermutation AreTied (tied_both found_cmp found_total) found sorted moved (subst (IsDistinct AreTied) (sym is) apart) in
        same_lists Precedes precedes_itself found_total.trans sorted (map obstruction_of listed) (strictly found_cmp found_total sorted up distinct)
        (AllPairs-map obstruction_of OverlapsBefore Precedes before_precedes listed (in_order b kept free d).ordered)
        (there found sorted is moved) (back found sorted is moved);
  }
