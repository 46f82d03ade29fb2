-- The words that one letter begins, and where words of an index stand in them.
use Rattle.std.proofs.Common.{◌≡◌, ℕ, zero, suc, Bool, true, false, cond, List, [], ◌∷◌, length, take, refl}
use Rattle.std.proofs.Common.{Option, Some, None, MatchOption, is_some, sym, ap, ◌∙◌, inl, inr, arith, AllPairs, subst, bytes_eq}
use Rattle.std.specs.List.{Contains}
use Rattle.std.proofs.lemmas.Bool.{cases_Bool, cases_lt}
use Rattle.std.proofs.lemmas.List.{take_all}
use Rattle.std.proofs.lemmas.List.Elements.{All-contains, All-head, All-nil, All-tail}
use Rattle.std.proofs.lemmas.List.Kept.{AllPairs-cons}
use Rattle.std.proofs.lemmas.Slice.Eq.{bytes_eq-Decides}
use Rattle.words.specs.Order.{IsLetterwiseGreater}
use Rattle.words.specs.Words.{AreWeights, OccursAt}
use Rattle.words.proofs.Degrees.{letterwise_later}
use Rattle.words.proofs.Members.{AllPairs-flat_map, AllPairs-nil, All-from_members, Contains-cases, Contains-first, Contains-flat_map}
use Rattle.words.proofs.Members.{Contains-flat_map_cases, Contains-none}
use Rattle.lead_index.specs.declared.lead.Lead.{Lead}
use Rattle.lead_index.specs.Leads.{IsFree, IsFreeAt, Starts}
use Rattle.normal_words.specs.Block.{begins, block, unless, unless_begins}

-- equal first letters stand at the front
occurs_at_front : (u w : List ℕ) → take (length u) w ≡ u → OccursAt u w 0
occurs_at_front u w e = elim (cases_lt (length w) (length u)) [
  | inl lt ↦ let same : w ≡ u = sym (take_all (length u) w (omega (arith, lt))) ∙ e in absurd (omega (arith, lt, ap length same))
  | inr le ↦ record { within = omega (arith, le); same = e }
]

-- a word of the index that stands at the front begins the word
pub begins_of : (leads : List Lead) (w : List ℕ) (l : Lead) → Contains leads l → OccursAt l.word w 0 → begins leads w ≡ true
begins_of [] w l m o = absurd (Contains-none l m)
begins_of (k ∷ leads) w l m o = elim (Contains-cases k leads l m) [
  | inl e ↦
      let here : OccursAt k.word w 0 = subst (λ (x : Lead). OccursAt x.word w 0) (sym e) o in
      let same : bytes_eq (take (length k.word) w) k.word ≡ true = (bytes_eq-Decides (take (length k.word) w) k.word).1 here.same in
      rw same refl
  | inr n ↦ by_test (bytes_eq (take (length k.word) w) k.word) (begins_of leads w l n o)
]
  where
    by_test : (b : Bool) → begins leads w ≡ true → cond b true (begins leads w) ≡ true
    by_test true e = refl
    by_test false e = e

-- where no word of the index stands at the front, the word begins with none
pub begins_free : (leads : List Lead) (w : List ℕ) → IsFreeAt leads w 0 → begins leads w ≡ false
begins_free [] w h = refl
begins_free (k ∷ leads) w h = elim (cases_Bool (bytes_eq (take (length k.word) w) k.word)) [
  | inl is ↦
      absurd (All-head (λ (m : Lead). OccursAt m.word w 0 → ⊥) k leads h (occurs_at_front k.word w ((bytes_eq-Decides (take (length k.word) w) k.word).0 is)))
  | inr other ↦ rw other (begins_free leads w (All-tail (λ (m : Lead). OccursAt m.word w 0 → ⊥) k leads h))
]

-- and where it begins with none, none stands at the front
pub free_of_begins : (leads : List Lead) (w : List ℕ) → begins leads w ≡ false → IsFreeAt leads w 0
free_of_begins leads w e = All-from_members (λ (m : Lead). OccursAt m.word w 0 → ⊥) leads
    (λ l m o. let t : begins leads w ≡ true = begins_of leads w l m o in cc)

-- where this element's word of the index starts at the front, the word begins with one
pub begins_started : (leads : List Lead) (w : List ℕ) (element : ℕ) → Starts leads w 0 element → begins leads w ≡ true
begins_started leads w element h = begins_of leads w h.lead h.among h.here

-- an answer that tells which of two facts holds decides a test of them
pub is_some-tells : {T : Type 0} (r : Option T) (P : Type 0) (Q : T → Type 0) (b : Bool) → MatchOption r P Q
    → (P → b ≡ false) → ((x : T) → Q x → b ≡ true) → is_some r ≡ b
is_some-tells None P Q b h none some = sym (none h)
is_some-tells (Some x) P Q b h none some = sym (some x h)

-- a word that is not left out
pub unless-says : (b : Bool) (v w : List ℕ) → Contains (unless b v) w → (b ≡ false) × (v ≡ w)
unless-says true v w m = absurd (Contains-none w m)
unless-says false v w m = elim (Contains-cases v [] w m) [
  | inl e ↦ (refl, e)
  | inr n ↦ absurd (Contains-none w n)
]

-- one word or none has no pairs
pub unless-pairs : (R : List ℕ → List ℕ → Type 0) (b : Bool) (v : List ℕ) → AllPairs R (unless b v)
unless-pairs R true v = AllPairs-nil R
unless-pairs R false v = AllPairs-cons R v [] (All-nil (R v)) (AllPairs-nil R)

-- no word of the index stands in a word where none stands at its front and none in the rest
pub IsFree-cons : (leads : List Lead) (x : ℕ) (w : List ℕ) → IsFreeAt leads (x ∷ w) 0 → IsFree leads w → IsFree leads (x ∷ w)
IsFree-cons leads x w h r zero = h
IsFree-cons leads x w h r (suc k) =
    All-from_members (λ (m : Lead). OccursAt m.word (x ∷ w) (suc k) → ⊥) leads
    (λ l c o. All-contains (λ (m : Lead). OccursAt m.word w k → ⊥) leads l (r k) c (record { within = omega (arith, o.within); same = o.same }))

-- where none stands in a word, none stands in it without its first letter
pub IsFree-tail : (leads : List Lead) (x : ℕ) (w : List ℕ) → IsFree leads (x ∷ w) → IsFree leads w
IsFree-tail leads x w h k =
    All-from_members (λ (m : Lead). OccursAt m.word w k → ⊥) leads
    (λ l c o. All-contains (λ (m : Lead). OccursAt m.word (x ∷ w) (suc k) → ⊥) leads l (h (suc k)) c
    (record { within = omega (arith, o.within); same = o.same }))

module _ (leads : List Lead) (x : ℕ) where
  -- a word of the block
  pub record IsInBlock (tails : List (List ℕ)) (w : List ℕ) : Type 0 where
    pub tail : List ℕ
    pub among : Contains tails tail
    pub is : (x ∷ tail) ≡ w
    pub free : begins leads (x ∷ tail) ≡ false

  -- each word of a block is the letter before a tail, and begins with no word of the index
  pub block-says : (tails : List (List ℕ)) (w : List ℕ) → Contains (block leads x tails) w → IsInBlock tails w
  block-says tails w m =
      let r = Contains-flat_map_cases (λ v. unless_begins leads (x ∷ v)) tails w m in
      let e = unless-says (begins leads (x ∷ r.0)) (x ∷ r.0) w r.2 in
      record { tail = r.0; among = r.1; is = e.1; free = e.0 }

  -- each such word is in the block
  pub in_block : (tails : List (List ℕ)) (v : List ℕ) → Contains tails v → begins leads (x ∷ v) ≡ false → Contains (block leads x tails) (x ∷ v)
  in_block tails v m e =
      let here : Contains (unless_begins leads (x ∷ v)) (x ∷ v) = subst (λ (b : Bool). Contains (cond b [] ((x ∷ v) ∷ [])) (x ∷ v)) (sym e)
      (Contains-first (x ∷ v) []) in
      Contains-flat_map (λ u. unless_begins leads (x ∷ u)) tails v (x ∷ v) m here

  -- where the tails fall, the words of the block fall
  pub block-falling : (weights : List ℕ) → AreWeights weights → (tails : List (List ℕ)) → AllPairs IsLetterwiseGreater tails →
      AllPairs IsLetterwiseGreater (block leads x tails)
  block-falling weights aw tails h =
      AllPairs-flat_map (λ v. unless_begins leads (x ∷ v)) IsLetterwiseGreater IsLetterwiseGreater
      (λ v. unless-pairs IsLetterwiseGreater (begins leads (x ∷ v)) (x ∷ v))
      (λ a b u v g m n.
      let e = unless-says (begins leads (x ∷ a)) (x ∷ a) u m in
      let f = unless-says (begins leads (x ∷ b)) (x ∷ b) v n in
      subst (λ (w : List ℕ). IsLetterwiseGreater w v) e.1 (subst (λ (w : List ℕ). IsLetterwiseGreater (x ∷ a) w) f.1 (letterwise_later weights aw x a b g)))
      tails h
