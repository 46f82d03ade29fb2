-- Whether a letter is listed as a first piece of a degree.
use Rattle.std.proofs.Common.{◌≡◌, ◌≢◌, ◌&&◌, ◌==◌, ℕ, Bool, true, false, not, cond, List, [], ◌∷◌, refl, ap, eq-eqb}
use Rattle.words.specs.Words.{weight_of}
use Rattle.free_poly.specs.declared.term.Term.{Term}
use Rattle.anick_chains.specs.BasisTips.{leads_of}
use Rattle.anick_chains.specs.Walk.{free_letter, stands}
use Rattle.std.proofs.lemmas.Bool.{ne_eqb}

module _ (weights : List ℕ) (G : List (List Term)) (d x : ℕ) where
  -- a letter of another degree is not listed
  pub free_letter-other : weight_of weights x ≢ d → free_letter weights G d x ≡ []
  free_letter-other ne = ap (λ (a : Bool). cond (a && not (stands (leads_of G) (x ∷ []))) ((x ∷ []) ∷ []) []) (ne_eqb (weight_of weights x) d ne)

  -- a tip is not listed
  pub free_letter-tip : stands (leads_of G) (x ∷ []) ≡ true → free_letter weights G d x ≡ []
  free_letter-tip e = by_degree (weight_of weights x == d) (stands (leads_of G) (x ∷ [])) e
    where
      by_degree : (a s : Bool) → s ≡ true → cond (a && not s) ((x ∷ []) ∷ []) [] ≡ []
      by_degree true true e = refl
      by_degree false s e = refl
      by_degree true false e = cc e

  -- any other one is
  pub free_letter-free : weight_of weights x ≡ d → stands (leads_of G) (x ∷ []) ≡ false → free_letter weights G d x ≡ (x ∷ []) ∷ []
  free_letter-free e f = by_tests (weight_of weights x == d) (eq-eqb _ _ e) (stands (leads_of G) (x ∷ [])) f
    where
      by_tests : (a : Bool) → a ≡ true → (s : Bool) → s ≡ false → cond (a && not s) ((x ∷ []) ∷ []) [] ≡ (x ∷ []) ∷ []
      by_tests true e false f = refl
      by_tests false e s f = cc e
      by_tests true e true f = cc f
