-- What the elimination leaves of an element is its normal form, and the negative factors are a product list.
use Rattle.std.proofs.Common.{◌≡◌, ◌-◌, ◌<◌, ◌≤◌, ◌%◌, ◌++◌, ◌∷◌, ℕ, List, [], length, map, get_or, sym, ap, ◌∙◌, arith, subst, append-nil, All, Some}
use Rattle.std.specs.List.{Contains, slice_get}
use Rattle.std.proofs.lemmas.List.{length-map}
use Rattle.std.proofs.lemmas.Option.{slice_get-get_or}
use Rattle.std.proofs.lemmas.List.Elements.{All-append, All-contains, All-head, All-nil, All-tail, Contains-get_or}
use Rattle.words.specs.Words.{IsOver, OccursAt, degree_of}
use Rattle.words.proofs.Members.{AllPairs-nil}
use Rattle.free_poly.specs.declared.term.Term.{Term}
use Rattle.free_poly.specs.Terms.{scaled, total_at}
use Rattle.free_poly.proofs.Elements.{words_of_scaled}
use Rattle.free_poly.proofs.Products.{UsesLetters-product}
use Rattle.free_poly.proofs.Sums.{HasDegree-from_same, UsesLetters-from_same}
use Rattle.ideal_laws.specs.Closure.{IsNormal}
use Rattle.ideal_laws.specs.Ideal.{Ideal, IsElement, IsLeadingWord, IsMultiple}
use Rattle.ideal_laws.specs.Laws.{IsRelation, IsSetting}
use Rattle.lead_index.specs.declared.lead.Lead.{Lead}
use Rattle.lead_index.specs.Leads.{IsFree, IsIndexOf}
use Rattle.cofactors.specs.declared.factors.Factor.{Factor}
use Rattle.cofactors.specs.declared.product.Product.{Product}
use Rattle.cofactors.specs.declared.row.Row.{Row}
use Rattle.cofactors.specs.Certificate.{IsCertificate}
use Rattle.cofactors.specs.ProductList.{IsProduct, StandsBefore, relation_at, triple, triple_terms, triples}
use Rattle.cofactors.specs.Rows.{AreLeaders, HasPlaces, IsPlusSpan, IsRow, IsTracked, IsZeroAtLeads, combined, negative_products}
use Rattle.cofactors.proofs.LeadingRows.{normal_at_leads, normal_from_products}
use Rattle.cofactors.proofs.Negatives.{element_at, negative_list, negative_sum_with, product_from_triple}

-- a word in which no word of the index stands has none of the leading words
pub normal_from_free : (G : List (List Term)) (leads : List Lead) (w : List ℕ) → IsIndexOf G leads → IsFree leads w → IsNormal G w
normal_from_free G leads w index free g v k among led o =
    let l : Lead = record { word = v; element = among.0 } in
    let stands : slice_get G among.0 ≡ Some g = slice_get-get_or G among.0 g among.1 ∙ ap Some among.2 in
    All-contains (λ (m : Lead). OccursAt m.word w k → ⊥) leads l (free k) ((index l).1 (g, stands, led)) o

module _ (ideal : Ideal) (st : IsSetting ideal) (d : ℕ) where
  abbrev all : List Product
  all = triples ideal.weights ideal.relations d

  abbrev fs : List (List Term)
  fs = map (triple_terms ideal.relations) all

  -- what holds of the words of the triples holds of those of a combination
  combined_words : (P : List ℕ → Type 0) → ((s : Product) → Contains all s → All (λ t. P t.word) (triple_terms ideal.relations s)) →
      (factors : List Factor) → HasPlaces (length all) factors → All (λ t. P t.word) (combined fs factors)
  combined_words P h [] k = All-nil (λ (t : Term). P t.word)
  combined_words P h (f ∷ factors) k =
      let within = All-head (λ x. x.place < length all) f factors k in
      let s = get_or all f.place (triple 0 [] []) in
      let own : All (λ (t : Term). P t.word) (get_or fs f.place []) =
      subst (All (λ (t : Term). P t.word)) (sym (element_at ideal.modulus ideal.relations all f within))
      (h s (Contains-get_or all f.place (triple 0 [] []) within)) in
      All-append (λ (t : Term). P t.word) (scaled f.residue (get_or fs f.place [])) (combined fs factors)
      (words_of_scaled P f.residue (get_or fs f.place []) own)
      (combined_words P h factors (All-tail (λ x. x.place < length all) f factors k))

  one_product : (s : Product) → Contains all s → IsProduct ideal d (record s { coefficient = 1 })
  one_product s m = product_from_triple ideal st d 1 s (omega arith) (omega (arith, st.modulus.two_or_more)) m

  -- the number of a triple is that of a relation
  pub numbered : (s : Product) → Contains all s → (0 < s.relation) × (s.relation ≤ length ideal.relations)
  numbered s m = let q = one_product s m in (q.from, q.upto)

  triple_letters : (s : Product) → Contains all s → All (λ t. IsOver (length ideal.weights) t.word) (triple_terms ideal.relations s)
  triple_letters s m =
      let q = one_product s m in
      let r = relation_at ideal.relations s.relation in
      let rel : IsRelation ideal.modulus ideal.weights r = All-contains (IsRelation ideal.modulus ideal.weights) ideal.relations r st.are_relations
      (Contains-get_or ideal.relations (s.relation - 1) [] (omega (arith, q.from, q.upto))) in
      UsesLetters-product (length ideal.weights) s.left r s.right q.left_over q.right_over rel.letters

  triple_degree : (s : Product) → Contains all s → All (λ t. degree_of ideal.weights t.word ≡ d) (triple_terms ideal.relations s)
  triple_degree s m = (one_product s m).degree

  module _ (f : List Term) (ef : IsElement ideal.modulus ideal.weights d f) where
    left_element : (t : Row) → IsRow ideal.modulus t → IsTracked ideal.modulus fs f t → HasPlaces (length all) t.factors
        → IsElement ideal.modulus ideal.weights d t.element
    left_element t row tracked places =
        let sum = f ++ combined fs t.factors in record {
          form = row.form;
          residues = row.residues;
          letters = UsesLetters-from_same ideal.modulus (length ideal.weights) t.element sum row.form row.residues tracked.sum
              (All-append (λ (u : Term). IsOver (length ideal.weights) u.word) f (combined fs t.factors) ef.letters
              (combined_words (IsOver (length ideal.weights)) triple_letters t.factors places));
          degree = HasDegree-from_same ideal.modulus ideal.weights d t.element sum row.form row.residues tracked.sum
              (All-append (λ (u : Term). degree_of ideal.weights u.word ≡ d) f (combined fs t.factors) ef.degree
              (combined_words (λ w. degree_of ideal.weights w ≡ d) triple_degree t.factors places));
        }

    -- the factors of a tracked row stand at places of the triples
    pub places_of : (t : Row) → IsTracked ideal.modulus fs f t → HasPlaces (length all) t.factors
    places_of t tracked = subst (λ (n : ℕ). HasPlaces n t.factors) (length-map all (triple_terms ideal.relations)) tracked.places

    -- what is left of f, without anything at the leaders' words
    pub certificate_from_row : (rows : List Row) → AreLeaders ideal.modulus rows → All (λ g. IsPlusSpan ideal.modulus rows g []) fs → (t : Row)
        → IsRow ideal.modulus t →
        IsTracked ideal.modulus fs f t → IsZeroAtLeads rows t.element
        → IsCertificate ideal d f (record { normal = t.element; products = negative_products ideal.modulus all t.factors })
    certificate_from_row rows leaders spanned t row tracked zero =
        let places = places_of t tracked in
        let element = left_element t row tracked places in
        let products = negative_products ideal.modulus all t.factors in
        let list = negative_list ideal st d t.factors row.factors places in
        let sum = negative_sum_with ideal.modulus ideal.relations all f t.element t.factors row.factors.residues places tracked.sum in record {
          is_normal = normal_from_products ideal st d f t.element products element list sum
              (normal_at_leads ideal st d rows leaders spanned t.element element zero);
          are_products = list;
          sum = sum;
        }

    -- f itself, where none of its words is a leading word
    pub certificate_of_normal : All (λ s. IsLeadingWord ideal d s.word → ⊥) f → IsCertificate ideal d f (record { normal = f; products = [] })
    certificate_of_normal none = record {
      is_normal = record {
        element = ef;
        multiples = [];
        each = All-nil (IsMultiple ideal d);
        sum = λ w. ap (λ (g : List Term). total_at g w % ideal.modulus) (sym (append-nil f));
        normal = none;
      };
      are_products = record { each = All-nil (IsProduct ideal d); ordered = AllPairs-nil (StandsBefore ideal.weights) };
      sum = λ w. ap (λ (g : List Term). total_at g w % ideal.modulus) (sym (append-nil f));
    }
