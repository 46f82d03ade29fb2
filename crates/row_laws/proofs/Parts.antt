-- Sums of multiples of reducers as the parts that they are made of.
use Rattle.std.proofs.Common.{ap₂, ◌≡◌, ◌<◌, ℕ, List, [], ◌∷◌, refl, sym, ap, ◌∙◌, All, Option}
use Rattle.std.specs.List.{Contains, flat_map}
use Rattle.std.proofs.Math.Nat.{mod-eq_of_lt}
use Rattle.std.proofs.lemmas.List.Elements.{All-cons, All-head, All-nil, All-tail}
use Rattle.field_table.specs.Residues.{IsFieldModulus}
use Rattle.free_poly.specs.declared.term.Term.{Term}
use Rattle.linear_algebra.specs.Fields.{Field}
use Rattle.linear_algebra.specs.Spans.{sum_of, IsInSpan}
use Rattle.linear_algebra.specs.Mod.{Residue}
use Rattle.linear_algebra.proofs.ModField.{same_residue}
use Rattle.ideal_laws.specs.Laws.{Part, part_terms}
use Rattle.ideal_laws.specs.Quantities.{reducers_in}
use Rattle.ideal_laws.proofs.Vectors.{vector_of-append, vector_of-scaled}
use Rattle.ideal_laws.proofs.Vectors as vectors

module _ (p : ℕ) (fm : IsFieldModulus p) where
  abbrev K : Field
  K = vectors.K p fm

  abbrev V : Type 0
  V = List ℕ → Residue p

  abbrev vec : List Term → V
  vec f = vectors.vector_of p fm f

  -- the vector of one of the reducers
  abbrev pub IsListedReducer : List (Option (List Term)) → V → Type 0
  IsListedReducer rs v = (g : List Term) × Contains (reducers_in rs) g × (v ≡ vec g)

  -- the parts that a sum of multiples of reducers stands for
  pub record HasParts (rs : List (Option (List Term))) (v : V) : Type 0 where
    -- factors with elements
    pub parts : List Part
    -- each factor is a residue, and each element is one of the reducers
    pub each : All (λ c. (c.factor < p) × Contains (reducers_in rs) c.element) parts
    -- v is the vector of the sum of the parts
    pub sum : (w : List ℕ) → v w ≡ vec (flat_map part_terms parts) w

  parts_from : (rs : List (Option (List Term))) (cs : List (Residue p × V)) → All (λ c. IsListedReducer rs c.1) cs → HasParts rs (sum_of K (List ℕ) cs)
  parts_from rs [] each = record {
    parts = [];
    each = All-nil (λ (c : Part). (c.factor < p) × Contains (reducers_in rs) c.element);
    sum = λ w. same_residue p _ _ refl;
  }
  parts_from rs (c ∷ cs) each =
      let h = All-head (λ (e : Residue p × V). IsListedReducer rs e.1) c cs each in
      let r = parts_from rs cs (All-tail (λ (e : Residue p × V). IsListedReducer rs e.1) c cs each) in
      let part : Part = record { factor = c.0.0; element = h.0 } in
      record {
        parts = part ∷ r.parts;
        each = All-cons (λ (c : Part). (c.factor < p) × Contains (reducers_in rs) c.element) part r.parts (c.0.1, h.1) r.each;
        sum = λ w. ap₂ K.add (ap₂ K.mul (same_residue p c.0 (vectors.of p fm c.0.0) (sym (mod-eq_of_lt c.0.1))) (ap (λ (v : V). v w) h.2)) (r.sum w)
            ∙ sym (vector_of-append p fm (part_terms part) (flat_map part_terms r.parts) w
            ∙ ap (λ (n : Residue p). K.add n (vec (flat_map part_terms r.parts) w)) (vector_of-scaled p fm c.0.0 h.0 w));
      }

  -- each sum of multiples of vectors of reducers has such parts
  pub has_parts : (rs : List (Option (List Term))) (v : V) → IsInSpan K (List ℕ) (IsListedReducer rs) v → HasParts rs v
  has_parts rs v s = let r = parts_from rs s.parts s.each in record { parts = r.parts; each = r.each; sum = λ w. s.sum w ∙ r.sum w }
