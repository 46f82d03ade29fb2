-- A word is normal exactly where it is no leading word.
use Rattle.std.proofs.Common.{◌<◌, ℕ, List, length, sym, ap, arith, subst}
use Rattle.std.specs.List.{Contains}
use Rattle.words.specs.Words.{degree_of, words_of_degree}
use Rattle.words.proofs.Degrees.{words_of_degree-says}
use Rattle.words.proofs.Factors.{factor_occurs, occurs_factor}
use Rattle.free_poly.specs.declared.term.Term.{Term}
use Rattle.free_poly.proofs.Products.{degree_of-round}
use Rattle.ideal_laws.specs.Closure.{IsNormal}
use Rattle.ideal_laws.specs.Ideal.{Ideal, IsLeadingWord}
use Rattle.ideal_laws.specs.Laws.{IsSetting}
use Rattle.ideal_laws.specs.Overlaps.{AreLower}
use Rattle.ideal_laws.proofs.Factors.{factor_law}
use Rattle.ideal_laws.proofs.OneBasis.{minimal_led}

module _ (ideal : Ideal) (st : IsSetting ideal) (e : ℕ) (G : List (List Term)) (lower : AreLower ideal e G) (d : ℕ) (w : List ℕ) where
  -- a word of degree d that is no leading word is normal
  pub normal_from : Contains (words_of_degree ideal.weights d) w → (IsLeadingWord ideal d w → ⊥) → IsNormal G w
  normal_from m not g v k among led o =
      let s = words_of_degree-says ideal.weights st.are_weights d w m in
      let r = (lower g).0 among in
      not (subst (λ (n : ℕ). IsLeadingWord ideal n w) s.1
      ((factor_law ideal st w s.0).1 (v, occurs_factor v w k o, r.2.minimal v led)))

  -- a normal word of a degree below e is no leading word
  pub normal_no_lead : d < e → Contains (words_of_degree ideal.weights d) w → IsNormal G w → IsLeadingWord ideal d w → ⊥
  normal_no_lead below m normal l =
      let s = words_of_degree-says ideal.weights st.are_weights d w m in
      let own = subst (λ (n : ℕ). IsLeadingWord ideal n w) (sym s.1) l in
      let f = (factor_law ideal st w s.0).0 own in
      let g = minimal_led ideal st f.0 f.2 in
      let within : degree_of ideal.weights f.0 < e = omega
      (arith, below, s.1, ap (degree_of ideal.weights) f.1.joined, degree_of-round ideal.weights f.1.before f.0 f.1.after) in
      normal g.0 f.0 (length f.1.before) ((lower g.0).1 (degree_of ideal.weights f.0, within, g.1)) g.2 (factor_occurs f.0 w f.1)
