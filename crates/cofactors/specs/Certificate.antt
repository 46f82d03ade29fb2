-- What a call tells of an element: its normal form, and a product list.
use Rattle.std.specs.Prelude.{ℕ, List}
use Rattle.free_poly.specs.declared.term.Term.{Term}
use Rattle.cofactors.specs.declared.certificate.Certificate.{Certificate}
use Rattle.cofactors.specs.NormalForm.{IsNormalForm}
use Rattle.cofactors.specs.ProductList.{IsProductList, IsSumWith}
use Rattle.ideal_laws.specs.Ideal.{Ideal}

-- the normal form of f, and a product list with the sum f less this
pub record IsCertificate (ideal : Ideal) (d : ℕ) (f : List Term) (c : Certificate) : Type 0 where
  pub is_normal : IsNormalForm ideal d f c.normal
  pub are_products : IsProductList ideal d c.products
  pub sum : IsSumWith ideal.modulus ideal.relations f c.normal c.products
