-- Products by words as maps of vectors, so that spans go through them.
use Rattle.std.proofs.Common.{◌≡◌, ◌%◌, ℕ, List, [], ◌∷◌, map, refl, sym, ap, ◌∙◌}
use Rattle.std.proofs.lemmas.List.Elements.{All-map, All-weaker}
use Rattle.field_table.specs.Residues.{IsFieldModulus}
use Rattle.free_poly.specs.declared.term.Term.{Term}
use Rattle.free_poly.specs.Terms.{product, total_at}
use Rattle.free_poly.proofs.Products.{IsRound, inside, outside, round, total_at-inside, total_at-outside}
use Rattle.linear_algebra.specs.Fields.{Field}
use Rattle.linear_algebra.specs.Spans.{sum_of, IsInSpan}
use Rattle.linear_algebra.specs.Mod.{Residue}
use Rattle.linear_algebra.proofs.Algebra.{mul_zero_add}
use Rattle.linear_algebra.proofs.ModField.{same_residue}
use Rattle.ideal_laws.proofs.Vectors as vectors

module _ (p : ℕ) (fm : IsFieldModulus p) (u v : List ℕ) where
  abbrev K : Field
  K = vectors.K p fm

  abbrev V : Type 0
  V = List ℕ → Residue p

  abbrev entry_at : (w : List ℕ) → IsRound u v w → V → Residue p
  entry_at w (inside x e) f = f x
  entry_at w (outside h) f = K.zero

  -- u * f * v, as a vector
  abbrev pub shifted : V → V
  shifted f w = entry_at w (round u v w) f

  -- the vector of u * f * v is that of f, shifted by u and v
  pub vector_of-product : (f : List Term) → vectors.vector_of p fm (product u f v) ≡ shifted (vectors.vector_of p fm f)
  vector_of-product f = λ i w. at w (round u v w) i
    where
      at : (w : List ℕ) (r : IsRound u v w) → vectors.vector_of p fm (product u f v) w ≡ entry_at w r (vectors.vector_of p fm f)
      at w (inside x e) = same_residue p _ _ (ap (λ (y : List ℕ). total_at (product u f v) y % p) (sym e) ∙ ap (λ (n : ℕ). n % p) (total_at-inside u f v x))
      at w (outside h) = same_residue p _ _ (ap (λ (n : ℕ). n % p) (total_at-outside u f v w h))

  -- a * f + g is shifted to a times f shifted and g shifted
  pub shifted-linear : (a : Residue p) (f g : V) (w : List ℕ) → shifted (λ x. K.add (K.mul a (f x)) (g x)) w ≡ K.add (K.mul a (shifted f w)) (shifted g w)
  shifted-linear a f g w = at (round u v w)
    where
      at : (r : IsRound u v w) → entry_at w r (λ x. K.add (K.mul a (f x)) (g x)) ≡ K.add (K.mul a (entry_at w r f)) (entry_at w r g)
      at (inside x e) = refl
      at (outside h) = sym (mul_zero_add K a K.zero)

  shifted-same : (f g : V) → ((x : List ℕ) → f x ≡ g x) → (w : List ℕ) → shifted f w ≡ shifted g w
  shifted-same f g e w = at (round u v w)
    where
      at : (r : IsRound u v w) → entry_at w r f ≡ entry_at w r g
      at (inside x is) = e x
      at (outside h) = refl

  shifted-zero : (w : List ℕ) → shifted (λ x. K.zero) w ≡ K.zero
  shifted-zero w = at (round u v w)
    where
      at : (r : IsRound u v w) → entry_at w r (λ x. K.zero) ≡ K.zero
      at (inside x is) = refl
      at (outside h) = refl

  abbrev shifted_part : Residue p × V → Residue p × V
  shifted_part c = (c.0, shifted c.1)

  shifted-sum : (cs : List (Residue p × V)) (w : List ℕ) → shifted (sum_of K (List ℕ) cs) w ≡ sum_of K (List ℕ) (map shifted_part cs) w
  shifted-sum [] w = shifted-zero w
  shifted-sum (c ∷ cs) w = shifted-linear c.0 c.1 (sum_of K (List ℕ) cs) w ∙ ap (K.add (K.mul c.0 (shifted c.1 w))) (shifted-sum cs w)

  -- where each vector with P goes, shifted, to one with Q, each vector of the span of P goes to one of the span of Q
  pub span_shifted : (P Q : V → Type 0) → ((f : V) → P f → Q (shifted f)) → (f : V) → IsInSpan K (List ℕ) P f → IsInSpan K (List ℕ) Q (shifted f)
  span_shifted P Q h f s = record {
    parts = map shifted_part s.parts;
    each = All-map (λ c. Q c.1) shifted_part s.parts (All-weaker (λ c. P c.1) (λ c. Q (shifted c.1)) (λ c. h c.1) s.parts s.each);
    sum = λ w. shifted-same f (sum_of K (List ℕ) s.parts) s.sum w ∙ shifted-sum s.parts w;
  }
