-- A sum of multiples of reducers that is 0 at the reducible words above a normal word is 0 from this word on upwards.
use Rattle.std.proofs.Common.{◌≡◌, ◌⊎◌, ℕ, List, length, sym, ap, ◌∙◌}
use Rattle.std.specs.List.{Contains}
use Rattle.words.specs.Words.{IsOver, degree_of, words_of_degree}
use Rattle.words.specs.Order.{IsLetterwiseGreater}
use Rattle.words.proofs.Degrees.{words_of_degree-falling}
use Rattle.free_poly.specs.declared.term.Term.{Term}
use Rattle.free_poly.proofs.NormalForms.{letterwise-trans}
use Rattle.linear_algebra.specs.Fields.{Field}
use Rattle.linear_algebra.specs.Spans.{IsInSpan}
use Rattle.linear_algebra.specs.Mod.{Residue}
use Rattle.ideal_laws.specs.Closure.{IsNormal, IsReducer}
use Rattle.ideal_laws.specs.Ideal.{Ideal}
use Rattle.ideal_laws.specs.Laws.{IsSetting}
use Rattle.ideal_laws.specs.Overlaps.{AreLower}
use Rattle.ideal_laws.proofs.Vectors as vectors
use Rattle.row_laws.proofs.Leading.{IsLeader, zero_up_to}
use Rattle.row_laws.proofs.Reducers.{reducer_above, reducer_one, reducer_there}

module _ (ideal : Ideal) (st : IsSetting ideal) (d : ℕ) (G : List (List Term)) (lower : AreLower ideal d G) where
  abbrev K : Field
  K = vectors.K ideal.modulus st.modulus

  abbrev V : Type 0
  V = List ℕ → Residue ideal.modulus

  abbrev vec : List Term → V
  vec f = vectors.vector_of ideal.modulus st.modulus f

  -- the vector of the reducer of a word of degree d
  pub record IsReducerAt (word : List ℕ) (v : V) : Type 0 where
    pub over : IsOver (length ideal.weights) word
    pub degree : degree_of ideal.weights word ≡ d
    pub reducer : List Term
    pub is_reducer : IsReducer G word reducer
    pub is : v ≡ vec reducer

  one_there : (x : List ℕ) (v : V) → IsReducerAt x v → v x ≡ K.one
  one_there x v h = ap (λ (u : V). u x) h.is ∙ reducer_there ideal st d G lower x h.reducer h.over h.degree h.is_reducer

  none_above : (x y : List ℕ) (v : V) → IsReducerAt x v → IsLetterwiseGreater y x → v y ≡ K.zero
  none_above x y v h g = ap (λ (u : V). u y) h.is ∙ reducer_above ideal st d G lower x h.reducer h.over h.degree h.is_reducer y g

  only_one : (x : List ℕ) (u v : V) → IsReducerAt x u → IsReducerAt x v → u ≡ v
  only_one x u v h k = h.is ∙ ap vec (reducer_one ideal st d G lower x h.reducer k.reducer h.is_reducer k.is_reducer) ∙ sym k.is

  -- that of a word in the list of the words of the degree
  abbrev pub IsReducerVector : V → Type 0
  IsReducerVector = IsLeader K (List ℕ) IsReducerAt (words_of_degree ideal.weights d)

  -- a sum of multiples of reducers that is 0 at the reducible words above a normal word of degree d is 0 at it and at all greater words
  pub zero_from_normal : (v : V) → IsInSpan K (List ℕ) IsReducerVector v → (w : List ℕ) → Contains (words_of_degree ideal.weights d) w → IsNormal G w
      → ((x : List ℕ) (g : List Term) → IsReducer G x g → IsLetterwiseGreater x w → v x ≡ K.zero) → (y : List ℕ) →
      ((y ≡ w) ⊎ IsLetterwiseGreater y w) → v y ≡ K.zero
  zero_from_normal v s w m normal none = zero_up_to K (List ℕ) IsReducerAt IsLetterwiseGreater letterwise-trans one_there none_above only_one
      (words_of_degree ideal.weights d) (words_of_degree-falling ideal.weights st.are_weights d) v s w m
      (λ u h. let r = h.is_reducer in normal r.element r.lead r.at r.among r.is_lead r.here)
      (λ x u h greater. none x h.reducer h.is_reducer greater)
