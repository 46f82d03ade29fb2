-- The answer texts of questions, one behind the other.
use Rattle.std.proofs.Common.{◌≡◌, ◌+◌, ℕ, List, [], ◌∷◌, ◌++◌, suc, length, refl, sym, ap, ◌∙◌, arith, append-nil, append_assoc}
use Rattle.words.specs.Names.{Letters}
use Rattle.free_poly.specs.declared.term.Term.{Term}
use Rattle.ideal_laws.specs.Ideal.{ideal_over}
use Rattle.ideal_laws.specs.Kept.{lead_degree}
use Rattle.cofactors.specs.declared.certificate.Certificate.{Certificate}
use Rattle.cofactors.specs.Certificate.{IsCertificate}
use Rattle.cofactors.specs.Texts.{answer_text}
use Rattle.bergman_cli.specs.Normal.{AreAnswers}

module _ (p : ℕ) (letters : Letters) (relations : List (List Term)) where
  -- the answer to one more question stands behind those to the others
  pub AreAnswers-append : (k : ℕ) (fs : List (List Term)) (text : List ℕ) (f : List Term) (c : Certificate) (n : ℕ) → n ≡ k + length fs →
      AreAnswers p letters relations k fs text
      → IsCertificate (ideal_over p letters.weights relations) (lead_degree letters.weights f) f c →
      AreAnswers p letters relations k (fs ++ f ∷ []) (text ++ answer_text letters.names p n c)
  AreAnswers-append k [] text f c n at h is =
      let same : n ≡ k = omega (arith, at) in (
        c,
        is,
        (
          [],
          refl,
          ap (λ (t : List ℕ). t ++ answer_text letters.names p n c) h ∙ ap (λ (m : ℕ). answer_text letters.names p m c) same
              ∙ sym (append-nil (answer_text letters.names p k c)),
        ),
      )
  AreAnswers-append k (g ∷ gs) text f c n at h is =
      let later = AreAnswers-append (suc k) gs h.2.0 f c n (omega (arith, at)) h.2.1 is in (
        h.0,
        h.1,
        (
          h.2.0 ++ answer_text letters.names p n c,
          later,
          ap (λ (t : List ℕ). t ++ answer_text letters.names p n c) h.2.2
              ∙ append_assoc (answer_text letters.names p k h.0) h.2.0 (answer_text letters.names p n c),
        ),
      )
