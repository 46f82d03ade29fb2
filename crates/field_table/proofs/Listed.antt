-- Each listed modulus is a field modulus, by its divisors up to its square root.
use Rattle.std.proofs.Common.{refl, lit<, lit≤}
use Rattle.std.specs.List.{All}
use Rattle.std.proofs.lemmas.List.Elements.{All-from_recursion}
use Rattle.field_table.specs.Residues.{IsFieldModulus, listed_moduli}
use Rattle.field_table.proofs.Inverses.{field_modulus_from_test}

-- each listed modulus is a field modulus
pub listed_are_fields : All IsFieldModulus listed_moduli
listed_are_fields = All-from_recursion IsFieldModulus listed_moduli (
  field_modulus_from_test 2 1 (lit≤ tt) refl (lit< tt),
  (
    field_modulus_from_test 3 1 (lit≤ tt) refl (lit< tt),
    (
      field_modulus_from_test 5 2 (lit≤ tt) refl (lit< tt),
      (
        field_modulus_from_test 7 2 (lit≤ tt) refl (lit< tt),
        (
          field_modulus_from_test 11 3 (lit≤ tt) refl (lit< tt),
          (
            field_modulus_from_test 13 3 (lit≤ tt) refl (lit< tt),
            (
              field_modulus_from_test 101 10 (lit≤ tt) refl (lit< tt),
              (
                field_modulus_from_test 32003 178 (lit≤ tt) refl (lit< tt),
                (
                  field_modulus_from_test 65521 255 (lit≤ tt) refl (lit< tt),
                  (field_modulus_from_test 1000003 1000 (lit≤ tt) refl (lit< tt), tt),
                ),
              ),
            ),
          ),
        ),
      ),
    ),
  ),
)
