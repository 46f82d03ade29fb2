use Rattle.std.proofs.Common.{◌≡◌, ◌≤◌, ◌%◌, ℕ, List, [], ◌∷◌, All, refl, ap, ◌∙◌, arith, length, subst, sym}
use Rattle.std.specs.List.{flat_map}
use Rattle.std.proofs.Math.Nat.{mod-eq_of_lt, zero-mod}
use Rattle.std.proofs.lemmas.List.Elements.{All-head}
use Rattle.std.proofs.lemmas.List.{nil_from_length}
use Rattle.words.proofs.Members.{AllPairs-nil, Contains-none}
use Rattle.free_poly.specs.declared.term.Term.{Term}
use Rattle.free_poly.specs.Terms.{total_at}
use Rattle.ideal_laws.specs.Ideal.{IsMultiple, Multiple, ideal_over, terms_of}
use Rattle.ideal_laws.specs.Basis.{HasGreaterLead, IsReduced, IsReducedBasis}
use Rattle.ideal_laws.proofs.OneBasis.{monic-led, monic_total}
use Rattle.ideal_laws.proofs.tests.FreeEngineDegreeEngine.degree.Goals as goal

no_multiples : (p : ℕ) (weights : List ℕ) (d : ℕ) (ms : List Multiple) → All (IsMultiple (ideal_over p weights []) d) ms → ms ≡ []
no_multiples p weights d [] h = refl
no_multiples p weights d (m ∷ ms) h = absurd (Contains-none m.relation (All-head (IsMultiple (ideal_over p weights []) d) m ms h).among)

none_reduced : (p : ℕ) (weights : List ℕ) (d : ℕ) → 2 ≤ p → (f : List Term) → IsReduced (ideal_over p weights []) d f → ⊥
none_reduced p weights d two f h =
    let w = monic-led f h.monic in
    let one = monic_total f w.0 w.1 h.inside.element.form h.monic in
    let sum = h.inside.sum w.0 ∙ ap (λ (ms : List Multiple). total_at (flat_map terms_of ms) w.0 % p)
    (no_multiples p weights d h.inside.multiples h.inside.each) in
    omega (arith, ap (λ (n : ℕ). n % p) one, sum, mod-eq_of_lt {n = 1} {m = p} (omega (arith, two)), zero-mod p)

-- without relations nothing is reduced
empty_basis : (p : ℕ) (weights : List ℕ) (d : ℕ) → 2 ≤ p → IsReducedBasis (ideal_over p weights []) d []
empty_basis p weights d two = record {
  exactly = λ f. (λ m. absurd (Contains-none f m), λ h. absurd (none_reduced p weights d two f h));
  falling = AllPairs-nil HasGreaterLead;
}

pub returns-clause-elements : goal.returns-clause-elements
returns-clause-elements g c =
    let p = c.args.field.now in
    let weights = c.args.presentation.now.alphabet.weights in
    let none : c.args.presentation.now.relations ≡ [] = nil_from_length c.args.presentation.now.relations
    (omega (arith, ap length c.as_slice-relations.ensures)) in
    subst (λ (rs : List (List Term)). IsReducedBasis (ideal_over p weights rs) c.args._d c.from_vec.result) (sym none)
    (subst (IsReducedBasis (ideal_over p weights []) c.args._d) (sym (c.from_vec.ensures ∙ c.new.ensures.items))
    (empty_basis p weights c.args._d c.modulus-modulus.ensures.field.two_or_more))
