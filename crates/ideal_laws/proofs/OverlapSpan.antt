-- The span of reducers, relations and obstruction rows, over the list of the reduced elements of lower degrees.
use Rattle.std.proofs.Common.{ap₂, ◌≡◌, ◌+◌, ◌<◌, ℕ, List, [], ◌∷◌, ◌++◌, map, length, take, drop, refl, sym, ap, ◌∙◌, arith, All, subst}
use Rattle.std.proofs.Common.{Some, length-append}
use Rattle.std.specs.List.{Contains, flat_map, slice_get}
use Rattle.std.proofs.Math.Nat.{mod-eq_of_lt}
use Rattle.std.proofs.Math.Seq.{drop-append_seam, take-append_seam}
use Rattle.std.proofs.lemmas.List.{append_assoc, drop-drop, length-take-le, take-append-drop}
use Rattle.std.proofs.lemmas.List.Elements.{All-cons, All-drop, All-head, All-map, All-nil, All-tail, All-take}
use Rattle.std.proofs.lemmas.Option.{get_or_from_slice_get, slice_get-get_or, slice_get_within}
use Rattle.words.specs.Words.{IsOver, OccursAt, degree_of}
use Rattle.words.proofs.Factors.{factor_occurs}
use Rattle.free_poly.specs.declared.term.Term.{Term}
use Rattle.free_poly.specs.Terms.{product}
use Rattle.free_poly.specs.Poly.{lead_of}
use Rattle.free_poly.proofs.Products.{degree_of-round}
use Rattle.linear_algebra.specs.Fields.{Field}
use Rattle.linear_algebra.specs.Spans.{sum_of}
use Rattle.linear_algebra.specs.Mod.{Residue}
use Rattle.linear_algebra.proofs.Elimination.{IsInSpan-trans}
use Rattle.linear_algebra.proofs.ModField.{same_residue}
use Rattle.ideal_laws.specs.Ideal.{Ideal, IsElement, IsInIdeal}
use Rattle.ideal_laws.specs.Closure.{obstruction_row}
use Rattle.ideal_laws.specs.Laws.{IsSetting, IsSpanned, Part, part_terms, relation}
use Rattle.ideal_laws.specs.Overlaps.{AreLower, IsGenerator, reducer, of_relation, obstruction, OverlapsSuffice}
use Rattle.ideal_laws.proofs.Differ.{lower_degree, lower_word, obstruction_member}
use Rattle.ideal_laws.proofs.Leads.{IsMemberVector}
use Rattle.ideal_laws.proofs.Neighbours.{neighbour_inside, vector_of-parts, vector_part}
use Rattle.ideal_laws.proofs.Represented.{IsLower, IsLowerProduct, lower_inside}
use Rattle.ideal_laws.proofs.Suffice.{ideal_spanned, lower_over}
use Rattle.ideal_laws.proofs.Suffice as vectors_of
use Rattle.ideal_laws.proofs.Vectors.{IsProductVector, ideal_from_span, same_vectors, span_from_ideal, vector_of-append, vector_of-scaled}
use Rattle.ideal_laws.proofs.Vectors as vectors

module _ (ideal : Ideal) (st : IsSetting ideal) (d : ℕ) (G : List (List Term)) (lower : AreLower ideal d G) where
  abbrev K : Field
  K = vectors.K ideal.modulus st.modulus

  abbrev V : Type 0
  V = List ℕ → Residue ideal.modulus

  abbrev vec : List Term → V
  vec f = vectors.vector_of ideal.modulus st.modulus f

  abbrev Gen : List Term → Type 0
  Gen = IsGenerator ideal G d

  abbrev Lower : List ℕ → V → Type 0
  Lower w v = IsLowerProduct ideal st d d w v

  lower_of : (g : List Term) → Contains G g → IsLower ideal st d g
  lower_of g m = let h = (lower g).0 m in record { degree = h.0; below = h.1; reduced = h.2 }

  listed_lower : (g : List Term) → IsLower ideal st d g → Contains G g
  listed_lower g l = (lower g).1 (l.degree, l.below, l.reduced)

  -- where a lead stands in a word of the degree there is a product
  record HasProduct (w : List ℕ) (g : List Term) (m : List ℕ) (k : ℕ) : Type 0 where
    pub vector : V
    pub product_of : Lower w vector
    pub place : length product_of.left ≡ k
    pub inside : IsInIdeal ideal d (product (take k w) g (drop (k + length m) w))

  occurring : (w : List ℕ) → IsOver (length ideal.weights) w → degree_of ideal.weights w ≡ d → (g : List Term) (m : List ℕ) (k : ℕ) → Contains G g →
      lead_of g ≡ Some m → OccursAt m w k → HasProduct w g m k
  occurring w over deg g m k among e o =
      let u = take k w in
      let v = drop (k + length m) w in
      let l = lower_of g among in
      let joined : w ≡ u ++ m ++ v =
      sym (append_assoc u m v ∙ ap (λ (r : List ℕ). u ++ r) (ap₂ (λ (x z : List ℕ). x ++ z) (sym o.same) (sym (drop-drop (length m) k w))
      ∙ take-append-drop (length m) (drop k w)) ∙ take-append-drop k w) in
      let h : Lower w (vec (product u g v)) = record {
        element = g;
        lower = l;
        lead = m;
        is_lead = e;
        left = u;
        right = v;
        left_over = All-take (λ n. n < length ideal.weights) k w over;
        right_over = All-drop (λ n. n < length ideal.weights) (k + length m) w over;
        word = joined;
        degree = ap (λ (n : ℕ). degree_of ideal.weights u + n + degree_of ideal.weights v) (sym (lower_degree ideal st d g m l e))
            ∙ sym (degree_of-round ideal.weights u m v) ∙ ap (degree_of ideal.weights) (sym joined) ∙ deg;
        is = refl;
      } in
      record {
        vector = vec (product u g v);
        product_of = h;
        place = length-take-le k w (omega (arith, o.within));
        inside = lower_inside ideal st d d w (vec (product u g v)) h;
      }

  -- the vector of a generator
  record IsVectorOf (v : V) : Type 0 where
    pub element : List Term
    pub generator : Gen element
    pub is : v ≡ vec element

  generator_listed : (v : V) → vectors_of.IsGenerator ideal st d v → IsVectorOf v
  generator_listed v (vectors_of.reducer w h least) =
      let whole : w ≡ h.left ++ (h.lead ++ h.right) = h.word ∙ append_assoc h.left h.lead h.right in
      let front : take (length h.left) w ≡ h.left = ap (take (length h.left)) whole ∙ take-append_seam h.left (h.lead ++ h.right) in
      let back : drop (length h.left + length h.lead) w ≡ h.right =
      ap₂ (λ (n : ℕ) (r : List ℕ). drop n r) (sym (length-append h.left h.lead)) h.word ∙ drop-append_seam (h.left ++ h.lead) h.right in
      let over = lower_over ideal st d w v h in
      let deg = lower_word ideal st d d w v h in
      record {
        element = product h.left h.element h.right;
        generator = reducer w (product h.left h.element h.right) over deg (record {
          element = h.element;
          lead = h.lead;
          at = length h.left;
          among = listed_lower h.element h.lower;
          is_lead = h.is_lead;
          here = factor_occurs h.lead w (record { before = h.left; after = h.right; joined = h.word });
          least = λ g m k among e o. let q = occurring w over deg g m k among e o in omega (arith, least q.vector q.product_of, q.place);
          is = ap₂ (λ (x z : List ℕ). product x h.element z) (sym front) (sym back);
        });
        is = h.is;
      }
  generator_listed v (vectors_of.of_relation r among h e) = record { element = r; generator = of_relation r among h; is = e }
  generator_listed v (vectors_of.obstruction q) =
      let i = listed_lower q.first q.first_lower in
      let j = listed_lower q.second q.second_lower in
      record {
        element = obstruction_row ideal.modulus q.first q.behind q.before q.second;
        generator = obstruction i.0 j.0 q.before q.shared q.behind (record {
          first = q.first;
          second = q.second;
          at_left = slice_get-get_or G i.0 q.first i.1 ∙ ap Some i.2;
          at_right = slice_get-get_or G j.0 q.second j.1 ∙ ap Some j.2;
          first_lead = q.first_lead;
          second_lead = q.second_lead;
          some_before = q.some_before;
          some_shared = q.some_shared;
          some_behind = q.some_behind;
          degree = q.degree;
        });
        is = q.is;
      }

  in_list : (i : ℕ) (g : List Term) → slice_get G i ≡ Some g → Contains G g
  in_list i g e = (i, slice_get_within G i g e, get_or_from_slice_get G i g g e)

  generator_member : (g : List Term) → Gen g → IsMemberVector ideal st.modulus st d (vec g)
  generator_member g (reducer w f over deg r) =
      span_from_ideal ideal st.modulus d g (subst (IsInIdeal ideal d) (sym r.is)
      (occurring w over deg r.element r.lead r.at r.among r.is_lead r.here).inside)
  generator_member g (of_relation r among h) = span_from_ideal ideal st.modulus d r
      (neighbour_inside ideal st d r (relation r among h))
  generator_member g (obstruction left right a c b o) =
      subst (λ (n : ℕ). IsMemberVector ideal st.modulus st n (vec (obstruction_row ideal.modulus o.first b a o.second))) o.degree
      (obstruction_member ideal st d o.first o.second (lower_of o.first (in_list left o.first o.at_left))
      (lower_of o.second (in_list right o.second o.at_right)) a c b o.first_lead o.second_lead o.some_before o.some_shared
      o.some_behind)

  -- the parts that vectors stand for
  record HasParts (cs : List (Residue ideal.modulus × V)) : Type 0 where
    -- a residue and an element in the place of each residue and vector
    pub parts : List Part
    -- the elements are generators
    pub each : All (λ c. (c.factor < ideal.modulus) × Gen c.element) parts
    -- the two sums have one vector
    pub sum : (w : List ℕ) → sum_of K (List ℕ) cs w ≡ vec (flat_map part_terms parts) w

  parts_from : (cs : List (Residue ideal.modulus × V)) → All (λ c. vectors_of.IsGenerator ideal st d c.1) cs → HasParts cs
  parts_from [] each = record {
    parts = [];
    each = All-nil (λ (c : Part). (c.factor < ideal.modulus) × Gen c.element);
    sum = λ w. same_residue ideal.modulus _ _
        refl;
  }
  parts_from (c ∷ cs) each =
      let h = generator_listed c.1 (All-head (λ (e : Residue ideal.modulus × V). vectors_of.IsGenerator ideal st d e.1) c cs each) in
      let r = parts_from cs (All-tail (λ (e : Residue ideal.modulus × V). vectors_of.IsGenerator ideal st d e.1) c cs each) in
      let part : Part = record { factor = c.0.0; element = h.element } in
      record {
        parts = part ∷ r.parts;
        each = All-cons (λ (c : Part). (c.factor < ideal.modulus) × Gen c.element) part r.parts (c.0.1, h.generator) r.each;
        sum = λ w. ap₂ K.add (ap₂ K.mul (same_residue ideal.modulus c.0 (vectors.of ideal.modulus st.modulus c.0.0) (sym (mod-eq_of_lt c.0.1)))
            (ap (λ (v : V). v w) h.is)) (r.sum w)
            ∙ sym (vector_of-append ideal.modulus st.modulus (part_terms part) (flat_map part_terms r.parts) w
            ∙ ap (λ (n : Residue ideal.modulus). K.add n (vec (flat_map part_terms r.parts) w)) (vector_of-scaled ideal.modulus st.modulus c.0.0 h.element w));
      }

  spanned_by : (f : List Term) → IsInIdeal ideal d f → IsSpanned ideal.modulus Gen f
  spanned_by f i =
      let s = ideal_spanned ideal st d f i in
      let r = parts_from s.parts s.each in
      record { parts = r.parts; each = r.each; sum = λ w. ap (λ (n : Residue ideal.modulus). n.0) (s.sum w ∙ r.sum w) }

  from_spanned : (f : List Term) → IsElement ideal.modulus ideal.weights d f → IsSpanned ideal.modulus Gen f → IsInIdeal ideal d f
  from_spanned f e s =
      ideal_from_span ideal st.modulus d f e
      (IsInSpan-trans K (List ℕ) (λ v. (g : List Term) × Gen g × (v ≡ vec g)) (IsProductVector ideal st.modulus d)
      (λ v h. subst (IsMemberVector ideal st.modulus st d) (sym h.2) (generator_member h.0 h.1)) (vec f)
      (record {
        parts = map (vector_part ideal st d) s.parts;
        each = All-map (λ c. (g : List Term) × Gen g × (c.1 ≡ vec g)) (vector_part ideal st d) s.parts
            (λ k c within. (_, (s.each k c within).1, refl));
        sum = λ w. same_vectors ideal.modulus st.modulus f _ s.sum w ∙ vector_of-parts ideal st d s.parts w;
      }))

-- an element of degree d is in the ideal exactly where reducers, relations and rows of obstructions of degree d span it
pub overlaps_suffice : OverlapsSuffice
overlaps_suffice ideal st d G lower f e = (spanned_by ideal st d G lower f, from_spanned ideal st d G lower f e)
