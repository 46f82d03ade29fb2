-- Sums of terms as vectors over the residues, and the ideal as a span.
use Rattle.std.proofs.Common.{ap₂, ◌≡◌, ℕ, ◌%◌, ◌<◌, List, [], ◌∷◌, ◌++◌, map, refl, sym, ap, ◌∙◌, arith, All}
use Rattle.std.specs.List.{flat_map}
use Rattle.std.proofs.lemmas.List.Elements.{All-nil, All-cons, All-head, All-tail, All-map}
use Rattle.std.proofs.Math.Nat.{add-mod, mod-eq_of_lt}
use Rattle.std.proofs.lemmas.Nat.{mul-mod}
use Rattle.field_table.specs.Residues.{IsFieldModulus}
use Rattle.free_poly.specs.declared.term.Term.{Term}
use Rattle.free_poly.specs.Terms.{IsSame, product, scaled, total_at}
use Rattle.free_poly.proofs.Totals.{total_at-append, total_at-scaled}
use Rattle.linear_algebra.specs.Fields.{Field}
use Rattle.linear_algebra.specs.Spans.{sum_of, IsInSpan}
use Rattle.linear_algebra.specs.Mod.{Residue, residue}
use Rattle.linear_algebra.proofs.ModField.{residues, same_residue}
use Rattle.ideal_laws.specs.Ideal.{Ideal, IsElement, IsInIdeal, IsMultiple, Multiple, terms_of}

module _ (p : ℕ) (fm : IsFieldModulus p) where
  abbrev pub K : Field
  K = residues p fm.two_or_more fm.has_inverse

  -- a field modulus is greater than 0
  pub positive : 0 < p
  positive = omega (arith, fm.two_or_more)

  abbrev pub of : ℕ → Residue p
  of n = residue p positive n

  -- the coefficients of a sum of terms
  abbrev pub vector_of : List Term → List ℕ → Residue p
  vector_of f w = of (total_at f w)

  -- the vector of a sum is the sum of the vectors
  pub vector_of-append : (f g : List Term) (w : List ℕ) → vector_of (f ++ g) w ≡ K.add (vector_of f w) (vector_of g w)
  vector_of-append f g w = same_residue p _ _ (ap (λ (n : ℕ). n % p) (total_at-append f g w) ∙ add-mod (total_at f w) (total_at g w) p)

  -- the vector of a * f is a times the vector of f
  pub vector_of-scaled : (a : ℕ) (f : List Term) (w : List ℕ) → vector_of (scaled a f) w ≡ K.mul (of a) (vector_of f w)
  vector_of-scaled a f w = same_residue p _ _ (ap (λ (n : ℕ). n % p) (total_at-scaled a f w) ∙ mul-mod a (total_at f w) p)

  -- sums of terms that are one element modulo p have one vector
  pub same_vectors : (f g : List Term) → IsSame p f g → (w : List ℕ) → vector_of f w ≡ vector_of g w
  same_vectors f g s w = same_residue p _ _ (s w)

  abbrev pub part : Multiple → Residue p × (List ℕ → Residue p)
  part m = (of m.factor, vector_of (product m.left m.relation m.right))

  -- the vector of a sum of multiples a * u * r * v is the sum of the residues a times the vectors of u * r * v
  pub vector_of-multiples : (ms : List Multiple) (w : List ℕ) → vector_of (flat_map terms_of ms) w ≡ sum_of K (List ℕ) (map part ms) w
  vector_of-multiples [] w = same_residue p _ _ refl
  vector_of-multiples (m ∷ ms) w =
      vector_of-append (terms_of m) (flat_map terms_of ms) w
      ∙ ap₂ K.add (vector_of-scaled m.factor (product m.left m.relation m.right) w) (vector_of-multiples ms w)

module _ (ideal : Ideal) (fm : IsFieldModulus ideal.modulus) (d : ℕ) where
  -- the vector of u * r * v of this degree
  pub record IsProductVector (v : List ℕ → Residue ideal.modulus) : Type 0 where
    pub multiple : Multiple
    pub is_multiple : IsMultiple ideal d multiple
    pub is : v ≡ vector_of ideal.modulus fm (product multiple.left multiple.relation multiple.right)

  each_part : (ms : List Multiple) → All (IsMultiple ideal d) ms → All (λ c. IsProductVector c.1) (map (part ideal.modulus fm) ms)
  each_part ms each = All-map (λ c. IsProductVector c.1) (part ideal.modulus fm) ms
      (λ k m within. record { multiple = _; is_multiple = each k m within; is = refl })

  -- the vector of a member is in the span of the products of its degree
  pub span_from_ideal : (f : List Term) → IsInIdeal ideal d f → IsInSpan (K ideal.modulus fm) (List ℕ) IsProductVector (vector_of ideal.modulus fm f)
  span_from_ideal f i = record {
    parts = map (part ideal.modulus fm) i.multiples;
    each = each_part i.multiples i.each;
    sum = λ w. same_vectors ideal.modulus fm f (flat_map terms_of i.multiples) i.sum w ∙ vector_of-multiples ideal.modulus fm i.multiples w;
  }

  -- the multiples that parts stand for
  record HasMultiples (cs : List (Residue ideal.modulus × (List ℕ → Residue ideal.modulus))) : Type 0 where
    pub multiples : List Multiple
    pub each : All (IsMultiple ideal d) multiples
    pub sum : (w : List ℕ) → sum_of (K ideal.modulus fm) (List ℕ) cs w ≡ vector_of ideal.modulus fm (flat_map terms_of multiples) w

  multiples_from : (cs : List (Residue ideal.modulus × (List ℕ → Residue ideal.modulus))) → All (λ c. IsProductVector c.1) cs → HasMultiples cs
  multiples_from [] each = record { multiples = []; each = All-nil (IsMultiple ideal d); sum = λ w. same_residue ideal.modulus _ _ refl }
  multiples_from (c ∷ cs) each =
      let h = All-head (λ (e : Residue ideal.modulus × (List ℕ → Residue ideal.modulus)). IsProductVector e.1) c cs each in
      let r = multiples_from cs (All-tail (λ (e : Residue ideal.modulus × (List ℕ → Residue ideal.modulus)). IsProductVector e.1) c cs each) in
      let m : Multiple = record { factor = c.0.0; left = h.multiple.left; relation = h.multiple.relation; right = h.multiple.right } in
      record {
        multiples = m ∷ r.multiples;
        each = All-cons (IsMultiple ideal d) m r.multiples
            (record {
              residue = c.0.1;
              left_over = h.is_multiple.left_over;
              right_over = h.is_multiple.right_over;
              among = h.is_multiple.among;
              degree = h.is_multiple.degree;
            }) r.each;
        sum = λ w. ap₂ (K ideal.modulus fm).add (ap₂ (K ideal.modulus fm).mul (same_residue ideal.modulus c.0 (of ideal.modulus fm c.0.0)
            (sym (mod-eq_of_lt c.0.1))) (ap (λ (v : List ℕ → Residue ideal.modulus). v w) h.is)) (r.sum w)
            ∙ sym (vector_of-append ideal.modulus fm (terms_of m) (flat_map terms_of r.multiples) w
            ∙ ap (λ (n : Residue ideal.modulus). (K ideal.modulus fm).add n (vector_of ideal.modulus fm (flat_map terms_of r.multiples) w))
            (vector_of-scaled ideal.modulus fm c.0.0 (product m.left m.relation m.right) w));
      }

  -- an element of a degree whose vector is in the span of the products of the degree is a member
  pub ideal_from_span : (f : List Term) → IsElement ideal.modulus ideal.weights d f
      → IsInSpan (K ideal.modulus fm) (List ℕ) IsProductVector (vector_of ideal.modulus fm f) → IsInIdeal ideal d f
  ideal_from_span f e s =
      let r = multiples_from s.parts s.each in
      record { element = e; multiples = r.multiples; each = r.each; sum = λ w. ap (λ (n : Residue ideal.modulus). n.0) (s.sum w ∙ r.sum w) }
