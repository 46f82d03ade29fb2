-- A word is a leading word exactly where some factor of it is minimal.
use Rattle.std.proofs.Common.{ap₂, ◌≡◌, ◌≢◌, ◌⊎◌, ◌<◌, ◌≤◌, ℕ, zero, suc, true, false, List, [], ◌∷◌, ◌++◌, map, length, take, drop, refl, sym, ap}
use Rattle.std.proofs.Common.{◌∙◌, inl, inr, arith, All, subst, bytes_eq, length-append, append-nil, Some}
use Rattle.std.specs.List.{Contains, flat_map, range_with_len}
use Rattle.std.proofs.lemmas.Bool.{cases_Bool, cases_lt}
use Rattle.std.proofs.lemmas.List.{append_assoc, nil_from_length, take-append-drop}
use Rattle.std.proofs.lemmas.List.Elements.{All-cons, All-head, All-nil, All-tail}
use Rattle.std.proofs.lemmas.Slice.Eq.{bytes_eq-Decides}
use Rattle.words.specs.Words.{IsFactor, IsOver, IsProperFactor, degree_of}
use Rattle.words.proofs.Degrees.{Contains-range}
use Rattle.words.proofs.Factors.{factor_occurs}
use Rattle.words.proofs.Members.{Contains-flat_map, Contains-flat_map_cases, Contains-map, Contains-map_cases}
use Rattle.free_poly.specs.Terms.{product}
use Rattle.free_poly.proofs.Products.{degree_of-round}
use Rattle.free_poly.proofs.Totals.{here}
use Rattle.ideal_laws.specs.Ideal.{Ideal, IsInIdeal, IsLeadingWord, IsMinimal}
use Rattle.ideal_laws.specs.Laws.{IsFactorLaw, IsSetting}
use Rattle.ideal_laws.proofs.Closed.{inside_product, lead-product}
use Rattle.ideal_laws.proofs.Leads.{is_leading}
use Rattle.ideal_laws.proofs.Search.{found, none, search_list}

-- a proper factor has fewer letters
pub shorter : (v w : List ℕ) → IsProperFactor v w → length v < length w
shorter v w h = elim (cases_lt (length v) (length w)) [
  | inl lt ↦ lt
  | inr le ↦
      let i = h.inside in
      let sizes = ap length i.joined ∙ length-append (i.before ++ v) i.after in
      let none_before : i.before ≡ [] = nil_from_length i.before (omega (arith, le, sizes, length-append i.before v)) in
      let none_after : i.after ≡ [] = nil_from_length i.after (omega (arith, le, sizes, length-append i.before v)) in
      absurd (h.other (sym (i.joined ∙ ap₂ (λ (a b : List ℕ). a ++ v ++ b) none_before none_after ∙ append-nil v)))
]

-- all factors of a word
abbrev pub factors_from : List ℕ → ℕ → List (List ℕ)
factors_from w i = map (λ n. take n (drop i w)) (range_with_len 0 (suc (length w)))

abbrev pub factors : List ℕ → List (List ℕ)
factors w = flat_map (factors_from w) (range_with_len 0 (suc (length w)))

-- each factor of a word is in the list of its factors
pub factor_listed : (v w : List ℕ) → IsFactor v w → Contains (factors w) v
factor_listed v w i =
    let o = factor_occurs v w i in
    Contains-flat_map (factors_from w) (range_with_len 0 (suc (length w))) (length i.before) v
    (Contains-range 0 (suc (length w)) (length i.before) (omega arith) (omega (arith, o.within)))
    (subst (Contains (factors_from w (length i.before))) o.same
    (Contains-map (λ n. take n (drop (length i.before) w)) (range_with_len 0 (suc (length w))) (length v)
    (Contains-range 0 (suc (length w)) (length v) (omega arith) (omega (arith, o.within)))))

-- the list of the factors of a word has factors of it alone
pub listed_factor : (v w : List ℕ) → Contains (factors w) v → IsFactor v w
listed_factor v w h =
    let i = Contains-flat_map_cases (factors_from w) (range_with_len 0 (suc (length w))) v h in
    let n = Contains-map_cases (λ n. take n (drop i.0 w)) (range_with_len 0 (suc (length w))) v i.2 in
    record {
      before = take i.0 w;
      after = drop n.0 (drop i.0 w);
      joined = sym (append_assoc (take i.0 w) v (drop n.0 (drop i.0 w)) ∙ ap (λ (x : List ℕ). take i.0 w ++ (x ++ drop n.0 (drop i.0 w))) (sym n.2)
          ∙ ap (λ (r : List ℕ). take i.0 w ++ r) (take-append-drop n.0 (drop i.0 w)) ∙ take-append-drop i.0 w);
    }

-- a word is a factor of itself
pub factor_itself : (w : List ℕ) → IsFactor w w
factor_itself w = record { before = []; after = []; joined = sym (append-nil w) }

-- a factor of a factor of a word is a factor of the word
pub factor_trans : (u v w : List ℕ) → IsFactor u v → IsFactor v w → IsFactor u w
factor_trans u v w i j = record {
  before = j.before ++ i.before;
  after = i.after ++ j.after;
  joined = j.joined ∙ ap (λ (x : List ℕ). j.before ++ x ++ j.after) i.joined ∙ simp append_assoc refl;
}

-- what holds of each letter of a * b holds of each letter of a
pub All-front : (P : ℕ → Type 0) (a b : List ℕ) → All P (a ++ b) → All P a
All-front P [] b h = All-nil P
All-front P (x ∷ a) b h = All-cons P x a (All-head P x (a ++ b) h) (All-front P a b (All-tail P x (a ++ b) h))

-- what holds of each letter of a * b holds of each letter of b
pub All-back : (P : ℕ → Type 0) (a b : List ℕ) → All P (a ++ b) → All P b
All-back P [] b h = h
All-back P (x ∷ a) b h = All-back P a b (All-tail P x (a ++ b) h)

module _ (ideal : Ideal) (st : IsSetting ideal) where
  -- a leading word other than w
  abbrev IsOther : List ℕ → List ℕ → Type 0
  IsOther w v = (v ≢ w) × IsLeadingWord ideal (degree_of ideal.weights v) v

  is_other : (w v : List ℕ) → IsOther w v ⊎ (IsOther w v → ⊥)
  is_other w v = elim (cases_Bool (bytes_eq v w)) [
    | inl is ↦ inr (λ h. h.0 ((bytes_eq-Decides v w).0 is))
    | inr other ↦ elim (is_leading ideal st.modulus st (degree_of ideal.weights v) v) [
      | inl l ↦ inl (apart other, l)
      | inr not ↦ inr (λ h. not h.1)
    ]
  ]
    where
      apart : bytes_eq v w ≡ false → v ≢ w
      apart f e = let t : bytes_eq v w ≡ true = here v w e in cc

  -- w is minimal, or has a proper factor that is a leading word
  pub data IsMinimalOr (w : List ℕ) : Type 0 where
    minimal : IsMinimal ideal w → IsMinimalOr w
    inside : (v : List ℕ) → IsProperFactor v w → IsLeadingWord ideal (degree_of ideal.weights v) v → IsMinimalOr w

  -- a leading word is minimal, or has a proper factor that is a leading word
  pub minimal_or : (w : List ℕ) → IsLeadingWord ideal (degree_of ideal.weights w) w → IsMinimalOr w
  minimal_or w l = elim (search_list (IsOther w) (is_other w) (factors w)) [
    | found v m h ↦ inside v (record { inside = listed_factor v w m; other = h.0 }) h.1
    | none all ↦ minimal (record { leading = l; none_inside = λ v proper k. all v (factor_listed v w proper.inside) (proper.other, k) })
  ]

  -- a word is minimal or not
  pub is_minimal : (w : List ℕ) → IsMinimal ideal w ⊎ (IsMinimal ideal w → ⊥)
  is_minimal w = elim (is_leading ideal st.modulus st (degree_of ideal.weights w) w) [
    | inr not ↦ inr (λ m. not m.leading)
    | inl l ↦ elim (minimal_or w l) [
      | minimal m ↦ inl m
      | inside v proper k ↦ inr (λ m. m.none_inside v proper k)
    ]
  ]

  minimal_inside : (n : ℕ) (w : List ℕ) → length w ≤ n → IsLeadingWord ideal (degree_of ideal.weights w) w → (v : List ℕ) × IsFactor v w × IsMinimal ideal v
  minimal_inside zero w le l = elim (minimal_or w l) [
    | minimal m ↦ (w, factor_itself w, m)
    | inside v proper k ↦ absurd (omega (arith, le, shorter v w proper))
  ]
  minimal_inside (suc n) w le l = elim (minimal_or w l) [
    | minimal m ↦ (w, factor_itself w, m)
    | inside v proper k ↦
        let r = minimal_inside n v (omega (arith, le, shorter v w proper)) k in
        (r.0, factor_trans r.0 v w r.1 proper.inside, r.2)
  ]

  leading_round : (w v : List ℕ) → IsOver (length ideal.weights) w → IsFactor v w → IsLeadingWord ideal (degree_of ideal.weights v) v →
      IsLeadingWord ideal (degree_of ideal.weights w) w
  leading_round w v over i l =
      let whole = subst (IsOver (length ideal.weights)) i.joined over in
      let front = All-front (λ x. x < length ideal.weights) i.before v (All-front (λ x. x < length ideal.weights) (i.before ++ v) i.after whole) in
      let back = All-back (λ x. x < length ideal.weights) (i.before ++ v) i.after whole in
      let degree = sym (ap (degree_of ideal.weights) i.joined ∙ degree_of-round ideal.weights i.before v i.after) in
      record {
        member = product i.before l.member i.after;
        inside = subst (λ (n : ℕ). IsInIdeal ideal n (product i.before l.member i.after)) degree
            (inside_product ideal.modulus ideal.weights st.are_weights ideal.relations (degree_of ideal.weights v) i.before l.member i.after front back
            l.inside);
        lead = lead-product i.before l.member i.after v l.lead ∙ ap Some (sym i.joined);
      }

-- a word over the letters is a leading word exactly where some factor of it is minimal
pub factor_law : IsFactorLaw
factor_law ideal st w over = (
  minimal_inside ideal st (length w) w (omega arith),
  λ h. leading_round ideal st w h.0 over h.1 h.2.leading,
)
