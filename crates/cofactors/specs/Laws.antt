-- Laws of normal forms.
use Rattle.std.specs.Prelude.{ℕ, ◌≡◌, ◌↔◌, ◌<◌, List, [], Contains}
use Rattle.words.specs.Words.{words_of_degree}
use Rattle.free_poly.specs.declared.term.Term.{Term}
use Rattle.ideal_laws.specs.Closure.{IsNormal}
use Rattle.ideal_laws.specs.Ideal.{Ideal, IsElement, IsInIdeal, IsLeadingWord}
use Rattle.ideal_laws.specs.Laws.{IsOne, IsSetting}
use Rattle.ideal_laws.specs.Overlaps.{AreLower}
use Rattle.cofactors.specs.declared.product.Product.{Product}
use Rattle.cofactors.specs.NormalForm.{IsNormalForm}
use Rattle.cofactors.specs.ProductList.{IsProductList, IsSumWith}

-- each element has exactly one normal form
abbrev pub HasNormalForm : Type 0
HasNormalForm = (ideal : Ideal) → IsSetting ideal
    → (d : ℕ) (f : List Term) → IsElement ideal.modulus ideal.weights d f → IsOne (IsNormalForm ideal d f)

-- an element is in the ideal exactly where its normal form is 0
abbrev pub TellsMembers : Type 0
TellsMembers = (ideal : Ideal) → IsSetting ideal
    → (d : ℕ) (f t : List Term) → IsElement ideal.modulus ideal.weights d f → IsNormalForm ideal d f t
    → IsInIdeal ideal d f ↔ (t ≡ [])

-- a word of a degree below e is no leading word exactly where none of the reduced elements below e stands in it
abbrev pub IsNormalWhereFree : Type 0
IsNormalWhereFree = (ideal : Ideal) → IsSetting ideal → (e : ℕ) (G : List (List Term)) → AreLower ideal e G
    → (d : ℕ) (w : List ℕ) → d < e → Contains (words_of_degree ideal.weights d) w
    → (IsLeadingWord ideal d w → ⊥) ↔ IsNormal G w

-- an element and its normal form differ by the sum of a product list
abbrev pub HasProductList : Type 0
HasProductList = (ideal : Ideal) → IsSetting ideal → (d : ℕ) (f t : List Term) → IsNormalForm ideal d f t
    → (products : List Product) × IsProductList ideal d products × IsSumWith ideal.modulus ideal.relations f t products
