-- Whether a word of an index stands in a word, and the words in which none does.
use Rattle.std.proofs.Common.{◌≡◌, ◌++◌, ◌∙◌, ℕ, zero, suc, Bool, true, false, cond, List, [], ◌∷◌, ap, arith, inl}
use Rattle.std.proofs.Common.{inr, subst, sym}
use Rattle.std.specs.List.{Contains}
use Rattle.std.proofs.lemmas.Bool.{cases_Bool}
use Rattle.std.proofs.lemmas.List.Elements.{All-contains}
use Rattle.words.specs.Words.{OccursAt}
use Rattle.words.proofs.Members.{All-from_members, Contains-first, Contains-flat_map, Contains-flat_map_cases}
use Rattle.lead_index.specs.declared.lead.Lead.{Lead}
use Rattle.lead_index.specs.Leads.{IsFirstReducer, IsFree}
use Rattle.normal_words.specs.Block.{begins}
use Rattle.normal_words.proofs.Blocks.{IsFree-cons, IsFree-tail, begins_free, free_of_begins, unless-says}
use Rattle.right_modules.specs.Extended.{extended, stands, unless_stands}

-- in a free word no word of the index stands
pub stands-free : (leads : List Lead) (w : List ℕ) → IsFree leads w → stands leads w ≡ false
stands-free leads [] h = begins_free leads [] (h 0)
stands-free leads (x ∷ w) h = ap (λ (b : Bool). cond b true (stands leads w)) (begins_free leads (x ∷ w) (h 0)) ∙ stands-free leads w (IsFree-tail leads x w h)

none-free : (leads : List Lead) → begins leads [] ≡ false → IsFree leads []
none-free leads e zero = free_of_begins leads [] e
none-free leads e (suc k) = All-from_members (λ l. OccursAt l.word [] (suc k) → ⊥) leads (λ l m o. omega (arith, o.within))

-- and a word in which none stands is free
pub free_from_stands : (leads : List Lead) (w : List ℕ) → stands leads w ≡ false → IsFree leads w
free_from_stands leads [] e = none-free leads e
free_from_stands leads (x ∷ w) e = elim (cases_Bool (begins leads (x ∷ w))) [
  | inl is ↦ let no : true ≡ false = sym (ap (λ (b : Bool). cond b true (stands leads w)) is) ∙ e in cc no
  | inr other ↦
      IsFree-cons leads x w (free_of_begins leads (x ∷ w) other) (free_from_stands leads w (sym (ap (λ (b : Bool). cond b true (stands leads w)) other) ∙ e))
]

-- a free word is kept
pub unless_stands-free : (leads : List Lead) (w : List ℕ) → IsFree leads w → unless_stands leads w ≡ w ∷ []
unless_stands-free leads w h = ap (λ (b : Bool). cond b [] (w ∷ [])) (stands-free leads w h)

-- in a word with a reducer one stands
pub stands-met : (leads : List Lead) (w : List ℕ) (at element : ℕ) → IsFirstReducer leads w at element → stands leads w ≡ true
stands-met leads w at element r = elim (cases_Bool (stands leads w)) [
  | inl is ↦ is
  | inr other ↦ absurd (All-contains (λ l. OccursAt l.word w at → ⊥) leads r.starts.lead (free_from_stands leads w other at) r.starts.among r.starts.here)
]

-- what is kept is free
pub unless_stands-says : (leads : List Lead) (v w : List ℕ) → Contains (unless_stands leads v) w → IsFree leads v × (v ≡ w)
unless_stands-says leads v w m = let r = unless-says (stands leads v) v w m in (free_from_stands leads v r.0, r.1)

-- what is free is kept
pub unless_stands-has : (leads : List Lead) (w : List ℕ) → IsFree leads w → Contains (unless_stands leads w) w
unless_stands-has leads w h = subst (λ (ws : List (List ℕ)). Contains ws w) (sym (unless_stands-free leads w h)) (Contains-first w [])

module _ (leads : List Lead) (x : ℕ) where
  -- a word that is extended by the letter
  pub record IsExtended (fronts : List (List ℕ)) (w : List ℕ) : Type 0 where
    pub front : List ℕ
    pub among : Contains fronts front
    pub is : front ++ x ∷ [] ≡ w
    pub free : IsFree leads w

  -- what the extended words are
  pub extended-says : (fronts : List (List ℕ)) (w : List ℕ) → Contains (extended leads x fronts) w → IsExtended fronts w
  extended-says fronts w m =
      let r = Contains-flat_map_cases (λ v. unless_stands leads (v ++ x ∷ [])) fronts w m in
      let s = unless_stands-says leads (r.0 ++ x ∷ []) w r.2 in
      record { front = r.0; among = r.1; is = s.1; free = subst (IsFree leads) s.1 s.0 }

  -- and which words they have
  pub extended-has : (fronts : List (List ℕ)) (v : List ℕ) → Contains fronts v → IsFree leads (v ++ x ∷ []) → Contains (extended leads x fronts) (v ++ x ∷ [])
  extended-has fronts v m h =
      Contains-flat_map (λ u. unless_stands leads (u ++ x ∷ [])) fronts v (v ++ x ∷ []) m (unless_stands-has leads (v ++ x ∷ []) h)
