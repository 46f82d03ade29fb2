-- More vectors than columns are dependent.
use Rattle.std.proofs.Common.{◌≡◌, ◌<◌, suc, List, [], ◌∷◌, ◌++◌, map, refl, sym, ap, ◌∙◌, false, inl, inr, length, arith, subst, length-append}
use Rattle.std.proofs.lemmas.List.{length-map}
use Rattle.std.proofs.lemmas.Bool.{cases_Bool}
use Rattle.linear_algebra.specs.Fields.{Field}
use Rattle.linear_algebra.specs.Spans.{Vector}
pub use Rattle.linear_algebra.specs.Dependence.{HasNonzero, IsDependent, IsZeroOn, sum_zip}
use Rattle.linear_algebra.proofs.Algebra.{add_left_comm, mul_zero_add, zero_mul_add}
use Rattle.linear_algebra.proofs.Elimination.{cleared, cleared_here, cleared_sum, cleared_zero}

module _ (K : Field) (X : Type 0) where
  abbrev V : Type 0
  V = Vector K X

  IsZeroOn-map : (xs : List X) (v w : V) → ((y : X) → v y ≡ K.zero → w y ≡ K.zero) → IsZeroOn K X xs v → IsZeroOn K X xs w
  IsZeroOn-map [] v w h z = tt
  IsZeroOn-map (x ∷ xs) v w h z = (h x z.0, IsZeroOn-map xs v w h z.1)

  -- one more factor, at the place behind these
  abbrev insert_factor : List V → K.F → List K.F → List K.F
  insert_factor [] c cs = c ∷ cs
  insert_factor (a ∷ front) c [] = K.zero ∷ insert_factor front c []
  insert_factor (a ∷ front) c (d ∷ cs) = d ∷ insert_factor front c cs

  sum_zip-inserted : (front bs : List V) (p : V) (c : K.F) (cs : List K.F) (y : X) →
      sum_zip K X (insert_factor front c cs) (front ++ p ∷ bs) y ≡ K.add (K.mul c (p y)) (sum_zip K X cs (front ++ bs) y)
  sum_zip-inserted [] bs p c cs y = refl
  sum_zip-inserted (a ∷ front) bs p c [] y =
      zero_mul_add K (a y) _ ∙ sum_zip-inserted front bs p c [] y
  sum_zip-inserted (a ∷ front) bs p c (d ∷ cs) y =
      ap (K.add (K.mul d (a y))) (sum_zip-inserted front bs p c cs y) ∙ add_left_comm K (K.mul d (a y)) (K.mul c (p y)) (sum_zip K X cs (front ++ bs) y)

  length-inserted : (front bs : List V) (c : K.F) (cs : List K.F) → length cs ≡ length (front ++ bs) →
      length (insert_factor front c cs) ≡ suc (length (front ++ bs))
  length-inserted [] bs c cs e = ap suc e
  length-inserted (a ∷ front) bs c [] e = absurd (omega (arith, e))
  length-inserted (a ∷ front) bs c (d ∷ cs) e = ap suc (length-inserted front bs c cs (omega (arith, e)))

  nonzero-inserted : (front : List V) (c : K.F) (cs : List K.F) → HasNonzero K X cs → HasNonzero K X (insert_factor front c cs)
  nonzero-inserted [] c cs h = inr h
  nonzero-inserted (a ∷ front) c [] h = absurd h
  nonzero-inserted (a ∷ front) c (d ∷ cs) (inl h) = inl h
  nonzero-inserted (a ∷ front) c (d ∷ cs) (inr h) = inr (nonzero-inserted front c cs h)

  sum_zip-nil : (cs : List K.F) (x : X) → sum_zip K X cs [] x ≡ K.zero
  sum_zip-nil [] x = refl
  sum_zip-nil (c ∷ cs) x = refl

  sum_zip-zero_first : (f : V) (fs : List V) (x : X) → f x ≡ K.zero → ((cs : List K.F) → sum_zip K X cs fs x ≡ K.zero) → (cs : List K.F) →
      sum_zip K X cs (f ∷ fs) x ≡ K.zero
  sum_zip-zero_first f fs x z all [] = refl
  sum_zip-zero_first f fs x z all (c ∷ ds) =
      ap (λ (n : K.F). K.add (K.mul c n) (sum_zip K X ds fs x)) z ∙ mul_zero_add K c _ ∙ all ds

  -- sums of cleared vectors are cleared sums
  sum_zip-cleared : (x : X) (p : V) (cs : List K.F) (fs : List V) (y : X) → sum_zip K X cs (map (cleared K X x p) fs) y ≡ cleared K X x p (sum_zip K X cs fs) y
  sum_zip-cleared x p [] fs y = sym (cleared_zero K X (p y))
  sum_zip-cleared x p (c ∷ cs) [] y = sym (cleared_zero K X (p y))
  sum_zip-cleared x p (c ∷ cs) (f ∷ fs) y =
      ap (K.add (K.mul c (cleared K X x p f y))) (sum_zip-cleared x p cs fs y) ∙ cleared_sum K X c (f y) (sum_zip K X cs fs y) (f x) (sum_zip K X cs fs x) (p y)

  pub data IsSplit (x : X) (fs : List V) : Type 0 where
    zeros : ((cs : List K.F) → sum_zip K X cs fs x ≡ K.zero) → IsSplit x fs
    at : (front bs : List V) (p : V) → fs ≡ front ++ p ∷ bs → K.is_zero (p x) ≡ false → IsSplit x fs

  split_at : (x : X) (fs : List V) → IsSplit x fs
  split_at x [] = zeros (λ cs. sum_zip-nil cs x)
  split_at x (f ∷ fs) = elim (cases_Bool (K.is_zero (f x))) [
    | inr other ↦ at [] fs f refl other
    | inl none ↦ elim (split_at x fs) [
      | at front bs p is other ↦ at (f ∷ front) bs p (ap (λ (r : List V). f ∷ r) is) other
      | zeros all ↦ zeros (sum_zip-zero_first f fs x (K.zero_is (f x) none) all)
    ]
  ]

  -- more vectors than columns are dependent on these columns
  pub dependent : (xs : List X) (fs : List V) → length xs < length fs → IsDependent K X xs fs
  dependent [] [] more = absurd (omega (arith, more))
  dependent [] (f ∷ fs) more = record {
    factors = K.one ∷ map (λ g. K.zero) fs;
    count = ap suc (length-map fs (λ g. K.zero));
    other = inl K.one_other;
    sum = tt;
  }
  dependent (x ∷ xs) fs more = elim (split_at x fs) [
    | zeros all ↦
        let d = dependent xs fs (omega (arith, more)) in
        record { factors = d.factors; count = d.count; other = d.other; sum = (all d.factors, d.sum) }
    | at front bs p is other ↦
        let q : V = λ y. K.mul (K.inv (p x)) (p y) in
        let rest = map (cleared K X x q) (front ++ bs) in
        let fewer : length xs < length rest = omega (
          arith,
          more,
          ap length is,
          length-append front (p ∷ bs),
          length-append front bs,
          length-map (front ++ bs) (cleared K X x q),
        ) in
        let d = dependent xs rest fewer in
        let c = K.mul (K.neg (sum_zip K X d.factors (front ++ bs) x)) (K.inv (p x)) in
        let all = insert_factor front c d.factors in
        let sums : (y : X) → sum_zip K X all (front ++ p ∷ bs) y ≡ sum_zip K X d.factors rest y = λ y.
        sum_zip-inserted front bs p c d.factors y
        ∙ ap (λ (n : K.F). K.add n (sum_zip K X d.factors (front ++ bs) y)) (K.mul_assoc _ _ _) ∙ K.add_comm _ _
        ∙ sym (sum_zip-cleared x q d.factors (front ++ bs) y) in
        subst (IsDependent K X (x ∷ xs)) (sym is) (record {
          factors = all;
          count = length-inserted front bs c d.factors (d.count ∙ length-map (front ++ bs) (cleared K X x q))
              ∙ omega (arith, length-append front (p ∷ bs), length-append front bs);
          other = nonzero-inserted front c d.factors d.other;
          sum = (
            sums x ∙ sum_zip-cleared x q d.factors (front ++ bs) x ∙ cleared_here K X (sum_zip K X d.factors (front ++ bs) x) (q x) (K.mul_inv (p x) other),
            IsZeroOn-map xs _ _ (λ y z. sums y ∙ z) d.sum,
          );
        })
  ]
