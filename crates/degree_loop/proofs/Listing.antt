-- How many terms elements have, and the relations of a degree, one after another.
use Rattle.std.proofs.Common.{◌≡◌, ◌+◌, ◌<◌, ◌≤◌, ◌==◌, ℕ, suc, Bool, true, false, cond, List, [], ◌∷◌, ◌++◌, All, append-nil, get_or}
use Rattle.std.proofs.Common.{length, length-append, take, sym, ap, ◌∙◌, arith}
use Rattle.std.specs.List.{flat_map}
use Rattle.std.proofs.lemmas.List.{take_more}
use Rattle.std.proofs.lemmas.List.Elements.{All-head, All-tail}
use Rattle.words.specs.Words.{degree_of}
use Rattle.free_poly.specs.declared.term.Term.{Term}
use Rattle.free_poly.specs.Poly.{IsMonic}
use Rattle.ideal_laws.specs.Engine.{of_degree}
use Rattle.ideal_laws.specs.Quantities.{terms_in}
use Rattle.ideal_laws.proofs.Grown.{of_degree-append}

-- polynomials other than 0 are no more than their terms
pub few_elements : (fs : List (List Term)) → All IsMonic fs → length fs ≤ terms_in fs
few_elements [] h = omega arith
few_elements ([] ∷ fs) h = absurd (All-head IsMonic [] fs h)
few_elements ((t ∷ f) ∷ fs) h =
    let rest = few_elements fs (All-tail IsMonic (t ∷ f) fs h) in
    omega (arith, rest, length-append f (flat_map (λ g. g) fs))

-- one more relation, where it has the degree or not
module _ (weights : List ℕ) (d : ℕ) (fs : List (List Term)) (k : ℕ) (f : List Term) (b : Bool) (within : k < length fs) (is : f ≡ get_or fs k f)
    (has : of_degree weights d (f ∷ []) ≡ cond b (f ∷ []) []) where
  of_degree-more : of_degree weights d (take (k + 1) fs) ≡ of_degree weights d (take k fs) ++ cond b (f ∷ []) []
  of_degree-more =
      ap (of_degree weights d) (take_more fs k f within)
      ∙ of_degree-append weights d (take k fs) (get_or fs k f ∷ [])
      ∙ ap (λ (gs : List (List Term)). of_degree weights d (take k fs) ++ gs) (ap (λ (g : List Term). of_degree weights d (g ∷ [])) (sym is) ∙ has)

  -- if the next relation has the degree, it stands at the end of those of the degree
  pub of_degree-listed : b ≡ true → of_degree weights d (take (k + 1) fs) ≡ of_degree weights d (take k fs) ++ f ∷ []
  of_degree-listed e = of_degree-more ∙ ap (λ (c : Bool). of_degree weights d (take k fs) ++ cond c (f ∷ []) []) e

  -- if the next relation does not have the degree, those of the degree stay the same
  pub of_degree-left : b ≡ false → of_degree weights d (take (k + 1) fs) ≡ of_degree weights d (take k fs)
  of_degree-left e = of_degree-more ∙ ap (λ (c : Bool). of_degree weights d (take k fs) ++ cond c (f ∷ []) []) e
      ∙ append-nil (of_degree weights d (take k fs))

-- there are no more of the degree than of any
pub length-of_degree : (weights : List ℕ) (d : ℕ) (fs : List (List Term)) → length (of_degree weights d fs) ≤ length fs
length-of_degree weights d [] = omega arith
length-of_degree weights d ([] ∷ fs) = let rest = length-of_degree weights d fs in omega (arith, rest)
length-of_degree weights d ((t ∷ f) ∷ fs) = by_test (degree_of weights t.word == d) (length-of_degree weights d fs)
  where
    by_test : (b : Bool) → length (of_degree weights d fs) ≤ length fs →
        length (cond b ((t ∷ f) ∷ of_degree weights d fs) (of_degree weights d fs)) ≤ suc (length fs)
    by_test true rest = omega (arith, rest)
    by_test false rest = omega (arith, rest)
