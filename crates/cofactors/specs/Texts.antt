-- The answer text: a normal form, and the products that it leaves out.
use Rattle.std.specs.Prelude.{ℕ, List, [], ◌∷◌, ◌++◌, if◌then◌else◌, codes, decimal}
use Rattle.std.specs.List.{flat_map}
use Rattle.free_poly.specs.declared.term.Term.{Term}
use Rattle.poly_writer.specs.Texts.{is_positive, line, size_of, size_text, term_text, word_text}
use Rattle.cofactors.specs.declared.certificate.Certificate.{Certificate}
use Rattle.cofactors.specs.declared.product.Product.{Product}

-- a word, and 1 for the empty one
abbrev pub factor_text : List (List ℕ) → List ℕ → List ℕ
factor_text names [] = codes "1"
factor_text names (x ∷ w) = word_text names (x ∷ w)

-- the sign before a balanced residue, where it is negative
abbrev pub minus_text : ℕ → ℕ → List ℕ
minus_text p a = if is_positive p a then [] else codes "-"

-- a balanced residue
abbrev pub residue_text : ℕ → ℕ → List ℕ
residue_text p a = minus_text p a ++ decimal (size_of p a)

-- the first term, without a sign where its balanced coefficient is positive
abbrev pub first_text : List (List ℕ) → ℕ → Term → List ℕ
first_text names p t = minus_text p t.coefficient ++ size_text (size_of p t.coefficient) ++ word_text names t.word

-- the terms in order, and 0 where there is none
abbrev pub normal_text : List (List ℕ) → ℕ → List Term → List ℕ
normal_text names p [] = codes "0"
normal_text names p (t ∷ ts) = first_text names p t ++ flat_map (term_text names p) ts

-- the line of a product
abbrev pub product_line : List (List ℕ) → ℕ → Product → List ℕ
product_line names p q =
    line (codes "from " ++ residue_text p q.coefficient ++ codes " " ++ factor_text names q.left ++ codes " "
    ++ decimal q.relation ++ codes " " ++ factor_text names q.right)

-- the answer to the question of this number
abbrev pub answer_text : List (List ℕ) → ℕ → ℕ → Certificate → List ℕ
answer_text names p number c =
    line (codes "% question " ++ decimal number) ++ line (codes "normal " ++ normal_text names p c.normal)
    ++ flat_map (product_line names p) c.products
