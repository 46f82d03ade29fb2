-- Sums of multiples of rows.
use Rattle.std.proofs.Common.{◌+◌, ◌%◌, ◌++◌, ℕ, List, [], sym, ap, ◌∙◌}
use Rattle.std.specs.List.{Contains, flat_map}
use Rattle.std.proofs.Math.Nat.{add-mod}
use Rattle.std.proofs.lemmas.List.Concat.{flat_map-append}
use Rattle.std.proofs.lemmas.List.Elements.{All-append, All-weaker}
use Rattle.free_poly.specs.declared.term.Term.{Term}
use Rattle.free_poly.specs.Terms.{IsSame, scaled, total_at}
use Rattle.free_poly.proofs.Totals.{total_at-append}
use Rattle.cofactors.specs.declared.row.Row.{Row}
use Rattle.cofactors.specs.Rows.{IsPlusSpan}

-- a part of a sum in another form
pub same_more : (p : ℕ) (f g h k : List Term) → IsSame p f (g ++ h) → IsSame p g k → IsSame p f (k ++ h)
same_more p f g h k s t w =
    s w ∙ ap (λ (n : ℕ). n % p) (total_at-append g h w) ∙ add-mod (total_at g w) (total_at h w) p ∙ ap (λ (n : ℕ). (n + total_at h w % p) % p) (t w)
    ∙ sym (ap (λ (n : ℕ). n % p) (total_at-append k h w) ∙ add-mod (total_at k w) (total_at h w) p)

module _ (p : ℕ) (rows : List Row) where
  abbrev sum : List (ℕ × Row) → List Term
  sum parts = flat_map (λ (c : ℕ × Row). scaled c.0 c.1.element) parts

  -- more rows
  pub span-more : (more : List Row) → ((r : Row) → Contains rows r → Contains more r) → (f g : List Term) → IsPlusSpan p rows f g → IsPlusSpan p more f g
  span-more more h f g s = record {
    parts = s.parts;
    among = All-weaker (λ (c : ℕ × Row). Contains rows c.1)
        (λ (c : ℕ × Row). Contains more c.1) (λ c m. h c.1 m) s.parts s.among;
    sum = s.sum;
  }

  -- where f and g differ by a sum of multiples, and g is one, f is one
  pub span-trans : (f g : List Term) → IsPlusSpan p rows f g → IsPlusSpan p rows g [] → IsPlusSpan p rows f []
  span-trans f g s t = record {
    parts = t.parts ++ s.parts;
    among = All-append (λ (c : ℕ × Row). Contains rows c.1) t.parts s.parts t.among s.among;
    sum = λ w. same_more p f g (sum s.parts) (sum t.parts) s.sum t.sum w
        ∙ ap (λ (h : List Term). total_at h w % p) (sym (flat_map-append (λ (c : ℕ × Row). scaled c.0 c.1.element) t.parts s.parts));
  }
