-- Sums in a field, and spans.
use Rattle.std.proofs.Common.{◌≡◌, List, [], ◌∷◌, ◌++◌, map, refl, sym, ap, ◌∙◌}
use Rattle.std.proofs.lemmas.List.Elements.{All-append, All-map, All-nil, All-cons}
use Rattle.linear_algebra.specs.Fields.{Field}
use Rattle.linear_algebra.specs.Spans.{Vector, sum_of, IsInSpan}

module _ (K : Field) where
  -- 0 + a is a
  pub zero_add : (a : K.F) → K.add K.zero a ≡ a
  zero_add a = K.add_comm K.zero a ∙ K.add_zero a

  -- a + (b + c) is b + (a + c)
  pub add_left_comm : (a b c : K.F) → K.add a (K.add b c) ≡ K.add b (K.add a c)
  add_left_comm a b c = sym (K.add_assoc a b c) ∙ ap (λ (s : K.F). K.add s c) (K.add_comm a b) ∙ K.add_assoc b a c

  -- (a + b) + (c + d) is (a + c) + (b + d)
  pub add_swap : (a b c d : K.F) → K.add (K.add a b) (K.add c d) ≡ K.add (K.add a c) (K.add b d)
  add_swap a b c d = K.add_assoc a b (K.add c d) ∙ ap (K.add a) (add_left_comm b c d) ∙ sym (K.add_assoc a c (K.add b d))

  -- where a + b is a + c, b is c
  pub add_cancel : (a b c : K.F) → K.add a b ≡ K.add a c → b ≡ c
  add_cancel a b c e =
      let left : K.add (K.neg a) (K.add a b) ≡ b = sym (K.add_assoc (K.neg a) a b)
      ∙ ap (λ (s : K.F). K.add s b) (K.add_comm (K.neg a) a ∙ K.add_neg a) ∙ zero_add b in
      let right : K.add (K.neg a) (K.add a c) ≡ c = sym (K.add_assoc (K.neg a) a c)
      ∙ ap (λ (s : K.F). K.add s c) (K.add_comm (K.neg a) a ∙ K.add_neg a) ∙ zero_add c in
      sym left ∙ ap (λ (s : K.F). K.add (K.neg a) s) e ∙ right

  -- a * 0 is 0
  pub mul_zero : (a : K.F) → K.mul a K.zero ≡ K.zero
  mul_zero a = add_cancel (K.mul a K.zero) (K.mul a K.zero) K.zero
      (sym (K.mul_add a K.zero K.zero) ∙ ap (K.mul a) (K.add_zero K.zero) ∙ sym (K.add_zero (K.mul a K.zero)))

  -- a * 0 + b is b
  pub mul_zero_add : (a b : K.F) → K.add (K.mul a K.zero) b ≡ b
  mul_zero_add a b = ap (λ (s : K.F). K.add s b) (mul_zero a) ∙ zero_add b

  -- 0 * a + b is b
  pub zero_mul_add : (a b : K.F) → K.add (K.mul K.zero a) b ≡ b
  zero_mul_add a b = ap (λ (s : K.F). K.add s b) (K.mul_comm K.zero a) ∙ mul_zero_add a b

  -- a * - b is - (a * b)
  pub mul_neg : (a b : K.F) → K.mul a (K.neg b) ≡ K.neg (K.mul a b)
  mul_neg a b = add_cancel (K.mul a b) (K.mul a (K.neg b)) (K.neg (K.mul a b))
      (sym (K.mul_add a b (K.neg b)) ∙ ap (K.mul a) (K.add_neg b) ∙ mul_zero a ∙ sym (K.add_neg (K.mul a b)))

  module _ (X : Type 0) where
    -- the sum over two lists joined is that of the one and that of the other together
    pub sum_of-append : (cs ds : List (K.F × Vector K X)) (x : X) → sum_of K X (cs ++ ds) x ≡ K.add (sum_of K X cs x) (sum_of K X ds x)
    sum_of-append [] ds x = sym (zero_add _)
    sum_of-append (c ∷ cs) ds x = ap (K.add (K.mul c.0 (c.1 x))) (sum_of-append cs ds x) ∙ sym (K.add_assoc _ _ _)

    abbrev pub scaled : K.F → List (K.F × Vector K X) → List (K.F × Vector K X)
    scaled a cs = map (λ c. (K.mul a c.0, c.1)) cs

    -- the sum over a list with each factor multiplied by a is a times the sum over the list
    pub sum_of-scaled : (a : K.F) (cs : List (K.F × Vector K X)) (x : X) → sum_of K X (scaled a cs) x ≡ K.mul a (sum_of K X cs x)
    sum_of-scaled a [] x = sym (mul_zero a)
    sum_of-scaled a (c ∷ cs) x = simp (K.mul_add, K.mul_assoc) (ap (K.add (K.mul a (K.mul c.0 (c.1 x)))) (sum_of-scaled a cs x))

    module _ (P : Vector K X → Type 0) where
      -- 0 is in each span
      pub IsInSpan-zero : IsInSpan K X P (λ x. K.zero)
      IsInSpan-zero = record { parts = []; each = All-nil (λ c. P c.1); sum = λ x. refl }

      -- the sum of two vectors of a span is in it
      pub IsInSpan-add : (v w : Vector K X) → IsInSpan K X P v → IsInSpan K X P w → IsInSpan K X P (λ x. K.add (v x) (w x))
      IsInSpan-add v w s t = record {
        parts = s.parts ++ t.parts;
        each = All-append (λ c. P c.1) s.parts t.parts s.each t.each;
        sum = λ x. rw (s.sum x, t.sum x) (sym (sum_of-append s.parts t.parts x));
      }

      -- a multiple of a vector of a span is in it
      pub IsInSpan-scaled : (a : K.F) (v : Vector K X) → IsInSpan K X P v → IsInSpan K X P (λ x. K.mul a (v x))
      IsInSpan-scaled a v s = record {
        parts = scaled a s.parts;
        each = All-map (λ c. P c.1) (λ c. (K.mul a c.0, c.1)) s.parts s.each;
        sum = λ x. rw (s.sum x) (sym (sum_of-scaled a s.parts x));
      }

      -- each vector with P is in the span of the vectors with P
      pub IsInSpan-one : (v : Vector K X) → P v → IsInSpan K X P v
      IsInSpan-one v p = record {
        parts = (K.one, v) ∷ [];
        each = All-cons (λ c. P c.1) (K.one, v) [] p (All-nil (λ c. P c.1));
        sum = λ x. sym (K.add_zero _ ∙ K.mul_comm K.one (v x) ∙ K.mul_one (v x));
      }
