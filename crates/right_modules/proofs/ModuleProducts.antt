-- The products of a module, as relations of their own degree.
use Rattle.std.proofs.Common.{◌≡◌, ◌≢◌, ◌<◌, ◌&&◌, ℕ, Bool, true, false, List, [], ◌∷◌, ◌++◌, length, refl, sym, ap, ◌∙◌, inl, inr, arith, subst, All, filter}
use Rattle.std.specs.List.{Contains}
use Rattle.std.proofs.lemmas.List.Elements.{All-contains, All-head, All-map, All-tail, All-weaker}
use Rattle.std.proofs.lemmas.Bool.{and_from, and_parts}
use Rattle.words.specs.Words.{AreWeights, degree_of}
use Rattle.words.proofs.Members.{All-from_members, Contains-filter, Contains-filter_cases}
use Rattle.words.proofs.Weights.{degree_of-positive}
use Rattle.free_poly.specs.declared.term.Term.{Term}
use Rattle.free_poly.specs.Terms.{HasDegree, product}
use Rattle.free_poly.proofs.Products.{HasOneDegree-from, HasResidues-product, IsPolynomial-product, UsesLetters-product, degree_of-round}
use Rattle.ideal_laws.specs.Ideal.{Ideal, IsMultiple, Multiple}
use Rattle.ideal_laws.specs.Laws.{IsRelation, IsSetting}
use Rattle.ideal_laws.proofs.Products.{listed_product, product_listed, products}
use Rattle.right_modules.specs.Laws.{IsModuleSetting}
use Rattle.right_modules.specs.Module.{IsModuleMultiple, IsModuleWord, IsShaped, is_module_word}
use Rattle.right_modules.proofs.Shapes.{is_module_word-is, module_sorted, multiple_words}

-- whether all words are module words
abbrev has_module_words : ℕ → List Term → Bool
has_module_words free [] = true
has_module_words free (t ∷ f) = is_module_word free t.word && has_module_words free f

has_module_words-is : (free : ℕ) (f : List Term) → All (λ t. IsModuleWord free t.word) f → has_module_words free f ≡ true
has_module_words-is free [] h = refl
has_module_words-is free (t ∷ f) h =
    and_from _ _ (is_module_word-is free t.word (All-head (λ (s : Term). IsModuleWord free s.word) t f h))
    (has_module_words-is free f (All-tail (λ (s : Term). IsModuleWord free s.word) t f h))

first_passes : (free : ℕ) (f : List Term) → f ≢ [] → has_module_words free f ≡ true → All (λ t. is_module_word free t.word ≡ false) f → ⊥
first_passes free [] ne e h = ne refl
first_passes free (t ∷ f) ne e h =
    (let a : is_module_word free t.word ≡ true = (and_parts _ _ e).0 in
    let b = All-head (λ (s : Term). is_module_word free s.word ≡ false) t f h in differ _ a b)
  where
    differ : (b : Bool) → b ≡ true → b ≡ false → ⊥
    differ b e f = cc

-- a product of a polynomial other than 0 is not 0
pub some_product : (u : List ℕ) (r : List Term) (v : List ℕ) → r ≢ [] → product u r v ≢ []
some_product u [] v ne e = ne refl
some_product u (t ∷ r) v ne e = cc e

-- a product whose relation has the whole degree has no words round it
pub alone : (weights : List ℕ) → AreWeights weights → (d : ℕ) (u : List ℕ) (r : List Term) (v : List ℕ) → r ≢ [] → HasDegree weights d r
    → HasDegree weights d (product u r v) → (u ≡ []) × (v ≡ [])
alone weights aw d u [] v ne h k = absurd (ne refl)
alone weights aw d u (t ∷ r) v ne h k =
    let e = sym (degree_of-round weights u t.word v)
    ∙ All-head (λ (s : Term). degree_of weights s.word ≡ d) (record { word = u ++ t.word ++ v; coefficient = t.coefficient }) (product u r v) k in
    let f = All-head (λ (s : Term). degree_of weights s.word ≡ d) t r h in
    (none u (omega (arith, e, f)), none v (omega (arith, e, f)))
  where
    none : (w : List ℕ) → degree_of weights w ≡ 0 → w ≡ []
    none [] z = refl
    none (x ∷ w) z = absurd (omega (arith, z, degree_of-positive weights aw (x ∷ w) (λ is. cc is)))

module _ (ideal : Ideal) (free : ℕ) (ms : IsModuleSetting ideal free) (d : ℕ) where
  abbrev st : IsSetting ideal
  st = ms.setting

  positive : 0 < ideal.modulus
  positive = omega (arith, st.modulus.two_or_more)

  -- the products that are in the module
  abbrev pub module_products : List (List Term)
  module_products = filter (has_module_words free) (products ideal.weights ideal.relations d)

  -- a product of the module with the words round its relation
  pub record IsModuleProduct (g : List Term) : Type 0 where
    pub multiple : Multiple
    pub is_multiple : IsModuleMultiple ideal free d multiple
    pub is : g ≡ product multiple.left multiple.relation multiple.right

  -- the relation of a multiple is one
  pub relation_of : (m : Multiple) → IsMultiple ideal d m → IsRelation ideal.modulus ideal.weights m.relation
  relation_of m i = All-contains (IsRelation ideal.modulus ideal.weights) ideal.relations m.relation st.are_relations i.among

  -- a product that is listed is one of the module
  pub listed_module : (g : List Term) → Contains module_products g → IsModuleProduct g
  listed_module g m =
      let s = Contains-filter_cases (has_module_words free) (products ideal.weights ideal.relations d) g m in
      let q = listed_product ideal.weights st.are_weights ideal.modulus positive ideal.relations d g s.0 in
      let r = relation_of q.multiple q.is_multiple in
      elim (module_sorted ideal free d q.multiple q.is_multiple r
      (All-contains (IsShaped free) ideal.relations q.multiple.relation ms.shaped q.is_multiple.among)) [
        | inl k ↦ record { multiple = q.multiple; is_multiple = k.1; is = q.is }
        | inr none ↦ absurd (first_passes free _ (some_product q.multiple.left q.multiple.relation q.multiple.right r.other)
            (sym (ap (has_module_words free) q.is) ∙ s.1) none)
      ]

  -- and each of the module is listed
  pub module_listed : (m : Multiple) → IsModuleMultiple ideal free d m → Contains module_products (product m.left m.relation m.right)
  module_listed m i =
      Contains-filter (has_module_words free) (products ideal.weights ideal.relations d) (product m.left m.relation m.right)
      (product_listed ideal.weights st.are_weights ideal.modulus ideal.relations st.are_relations d m i.multiple)
      (has_module_words-is free _ (multiple_words ideal free d m (relation_of m i.multiple) i))

  words_some : (u : List ℕ) (r : List Term) (v : List ℕ) → All (λ t. t.word ≢ []) r → All (λ t. t.word ≢ []) (product u r v)
  words_some u r v h =
      All-map (λ t. t.word ≢ []) (λ t. record { word = u ++ t.word ++ v; coefficient = t.coefficient }) r
      (All-weaker (λ t. t.word ≢ []) (λ t. u ++ t.word ++ v ≢ []) (λ t some e. some (middle u t.word v e)) r h)
    where
      middle : (u w v : List ℕ) → u ++ w ++ v ≡ [] → w ≡ []
      middle [] [] v e = refl
      middle [] (x ∷ w) v e = cc e
      middle (x ∷ u) w v e = cc e

  -- the products as relations
  abbrev pub products_ideal : Ideal
  products_ideal = record ideal { relations = module_products }

  -- the ideal of the products is a setting
  pub product_setting : IsSetting products_ideal
  product_setting = record {
    modulus = st.modulus;
    are_weights = st.are_weights;
    are_relations = All-from_members (IsRelation ideal.modulus ideal.weights) module_products (λ g m.
        let q = listed_module g m in
        let u = q.multiple.left in let f = q.multiple.relation in let v = q.multiple.right in
        let i = q.is_multiple.multiple in
        let r = relation_of q.multiple i in
        subst (IsRelation ideal.modulus ideal.weights) (sym q.is) (record {
          form = IsPolynomial-product ideal.weights st.are_weights u f v r.one_degree r.form;
          residues = HasResidues-product ideal.modulus u f v r.residues;
          letters = UsesLetters-product (length ideal.weights) u f v i.left_over i.right_over r.letters;
          one_degree = HasOneDegree-from ideal.weights d (product u f v) i.degree;
          other = some_product u f v r.other;
          degree = words_some u f v r.degree;
        }));
  }
