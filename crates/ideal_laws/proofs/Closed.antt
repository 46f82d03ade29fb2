-- The ideal is closed under products by words.
use Rattle.std.proofs.Common.{◌≡◌, ◌+◌, ◌%◌, ◌<◌, ℕ, length, List, [], ◌∷◌, ◌++◌, map, refl, ap, ◌∙◌, subst, Some}
use Rattle.std.specs.List.{flat_map}
use Rattle.std.proofs.lemmas.List.Elements.{All-append, All-map}
use Rattle.words.specs.Words.{AreWeights, IsOver, degree_of}
use Rattle.free_poly.specs.declared.term.Term.{Term}
use Rattle.free_poly.specs.Terms.{HasDegree, product, scaled, total_at}
use Rattle.free_poly.specs.Poly.{lead_of}
use Rattle.free_poly.proofs.Products.{HasDegree-product, HasOneDegree-from, HasResidues-product, IsPolynomial-product, IsSame-product}
use Rattle.free_poly.proofs.Products.{UsesLetters-product, product-append, product-product, product-scaled}
use Rattle.ideal_laws.specs.Ideal.{IsElement, IsInIdeal, IsMultiple, Multiple, ideal_over, terms_of}

-- words put round a multiple
abbrev pub widened : List ℕ → List ℕ → Multiple → Multiple
widened u v m = record { factor = m.factor; left = u ++ m.left; relation = m.relation; right = m.right ++ v }

terms_of-widened : (u v : List ℕ) (m : Multiple) → product u (terms_of m) v ≡ terms_of (widened u v m)
terms_of-widened u v m = product-scaled u m.factor (product m.left m.relation m.right) v ∙ ap (scaled m.factor) (product-product u m.left m.relation m.right v)

multiples-widened : (u v : List ℕ) (ms : List Multiple) → product u (flat_map terms_of ms) v ≡ flat_map terms_of (map (widened u v) ms)
multiples-widened u v [] = refl
multiples-widened u v (m ∷ ms) =
    product-append u (terms_of m) (flat_map terms_of ms) v ∙ (λ i. terms_of-widened u v m i ++ multiples-widened u v ms i)

module _ (p : ℕ) (weights : List ℕ) (aw : AreWeights weights) where
  -- the product of an element by words over the letters is an element, of the degrees of the three together
  pub IsElement-product : (d : ℕ) (u : List ℕ) (f : List Term) (v : List ℕ) → IsOver (length weights) u → IsOver (length weights) v → IsElement p weights d f
      → IsElement p weights (degree_of weights u + d + degree_of weights v) (product u f v)
  IsElement-product d u f v hu hv e = record {
    form = IsPolynomial-product weights aw u f v (HasOneDegree-from weights d f e.degree) e.form;
    residues = HasResidues-product p u f v e.residues;
    letters = UsesLetters-product (length weights) u f v hu hv e.letters;
    degree = HasDegree-product weights d u f v e.degree;
  }

  -- the product of a member by words over the letters is a member, of the degrees of the three together
  pub inside_product : (relations : List (List Term)) (d : ℕ) (u : List ℕ) (f : List Term) (v : List ℕ) → IsOver (length weights) u →
      IsOver (length weights) v → IsInIdeal (ideal_over p weights relations) d f
      → IsInIdeal (ideal_over p weights relations) (degree_of weights u + d + degree_of weights v) (product u f v)
  inside_product relations d u f v hu hv i = record {
    element = IsElement-product d u f v hu hv i.element;
    multiples = map (widened u v) i.multiples;
    each = All-map (IsMultiple (ideal_over p weights relations) (degree_of weights u + d + degree_of weights v)) (widened u v) i.multiples
        (λ k m within. let h = i.each k m within in record {
          residue = h.residue;
          left_over = All-append (λ x. x < length weights) u _ hu h.left_over;
          right_over = All-append (λ x. x < length weights) _ v h.right_over hv;
          among = h.among;
          degree = subst (HasDegree weights (degree_of weights u + d + degree_of weights v)) (product-product u _ _ _ v)
              (HasDegree-product weights d u _ v h.degree);
        });
    sum = λ w. IsSame-product p u f (flat_map terms_of i.multiples) v i.sum w ∙ ap (λ (g : List Term). total_at g w % p) (multiples-widened u v i.multiples);
  }

-- where the leading word of f is w, that of u * f * v is u * w * v
pub lead-product : (u : List ℕ) (f : List Term) (v w : List ℕ) → lead_of f ≡ Some w → lead_of (product u f v) ≡ Some (u ++ w ++ v)
lead-product u [] v w e = cc e
lead-product u (t ∷ f) v w e = let is : t.word ≡ w = cc e in ap (λ (x : List ℕ). Some (u ++ x ++ v)) is
