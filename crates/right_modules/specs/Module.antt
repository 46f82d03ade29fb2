-- Right modules. The letters below `free` are those of the algebra, and the others are the generators.
use Rattle.std.specs.Prelude.{ℕ, ◌≡◌, ◌⊎◌, ◌≤◌, ◌&&◌, Bool, true, false, leb, ltb, List, [], ◌∷◌, All, Some, filter}
use Rattle.std.specs.List.{flat_map}
use Rattle.words.specs.Words.{IsFactor, IsOver, IsProperPrefix, degree_of}
use Rattle.free_poly.specs.declared.term.Term.{Term}
use Rattle.free_poly.specs.Terms.{IsSame, UsesLetters}
use Rattle.free_poly.specs.Poly.{lead_of}
use Rattle.ideal_laws.specs.Ideal.{Ideal, IsElement, IsLeadingWord, IsMultiple, Multiple, terms_of}

-- a generator, and then letters that are none
abbrev pub IsModuleWord : ℕ → List ℕ → Type 0
IsModuleWord free [] = ⊥
IsModuleWord free (x ∷ w) = (free ≤ x) × IsOver free w

-- no generator stands in its words
abbrev pub IsIdealRelation : ℕ → List Term → Type 0
IsIdealRelation free r = UsesLetters free r

-- each of its words is a module word
abbrev pub IsModuleRelation : ℕ → List Term → Type 0
IsModuleRelation free r = All (λ t. IsModuleWord free t.word) r

-- a relation of the one kind or the other
abbrev pub IsShaped : ℕ → List Term → Type 0
IsShaped free r = IsIdealRelation free r ⊎ IsModuleRelation free r

-- whether no generator stands in the word
abbrev pub is_free : ℕ → List ℕ → Bool
is_free free [] = true
is_free free (x ∷ w) = ltb x free && is_free free w

-- whether a word is a module word
abbrev pub is_module_word : ℕ → List ℕ → Bool
is_module_word free [] = false
is_module_word free (x ∷ w) = leb free x && is_free free w

-- whether no generator stands in the words of a polynomial
abbrev pub has_free_words : ℕ → List Term → Bool
has_free_words free [] = true
has_free_words free (t ∷ f) = is_free free t.word && has_free_words free f

-- the relations of the algebra
abbrev pub ideal_relations : ℕ → List (List Term) → List (List Term)
ideal_relations free relations = filter (has_free_words free) relations

-- and the ideal of these
abbrev pub algebra_ideal : ℕ → Ideal → Ideal
algebra_ideal free ideal = record ideal { relations = ideal_relations free ideal.relations }

-- of degree d: a module relation with a free word behind it, or an ideal relation between a module word and a free word
pub record IsModuleMultiple (ideal : Ideal) (free d : ℕ) (m : Multiple) : Type 0 where
  pub multiple : IsMultiple ideal d m
  pub before : ((m.left ≡ []) × IsModuleRelation free m.relation)
      ⊎ (IsModuleWord free m.left × IsIdealRelation free m.relation)
  pub behind : IsOver free m.right

-- K(d): f is the sum of some of these
pub record IsInModule (ideal : Ideal) (free d : ℕ) (f : List Term) : Type 0 where
  pub element : IsElement ideal.modulus ideal.weights d f
  pub multiples : List Multiple
  pub each : All (IsModuleMultiple ideal free d) multiples
  pub sum : IsSame ideal.modulus f (flat_map terms_of multiples)

-- LK(d): the leading word of a member other than 0
pub record IsModuleLead (ideal : Ideal) (free d : ℕ) (w : List ℕ) : Type 0 where
  pub member : List Term
  pub inside : IsInModule ideal free d member
  pub lead : lead_of member ≡ Some w

-- a leading word of the module, no proper prefix of which is one; and no factor behind its generator is a leading word
-- of the ideal of the ideal relations
pub record IsModuleMinimal (ideal : Ideal) (free : ℕ) (w : List ℕ) : Type 0 where
  pub leading : IsModuleLead ideal free (degree_of ideal.weights w) w
  pub no_prefix : (v : List ℕ) → IsProperPrefix v w → IsModuleLead ideal free (degree_of ideal.weights v) v → ⊥
  pub no_factor : (x : ℕ) (u v : List ℕ) → w ≡ x ∷ u → IsFactor v u
      → IsLeadingWord (algebra_ideal free ideal) (degree_of ideal.weights v) v → ⊥
