-- An index of the leading words of a basis, element after element.
use Rattle.std.proofs.Common.{◌≡◌, ◌≢◌, ◌↔◌, ◌+◌, ◌<◌, ◌≤◌, ℕ, List, [], ◌∷◌, ◌++◌, length, get_or, sym, ap, ◌∙◌, inl, inr, arith, subst, Some, None}
use Rattle.std.specs.List.{Contains}
use Rattle.std.proofs.lemmas.Bool.{cases_lt}
use Rattle.std.proofs.lemmas.List.Elements.{Contains-append_left, Contains-append_right, Contains-push_cases}
use Rattle.std.proofs.lemmas.Option.{get_or_from_slice_get, slice_get-get_or, slice_get_within, same_Some}
use Rattle.words.specs.Words.{AreWeights, degree_of}
use Rattle.words.proofs.Members.{All-from_members, Contains-first, Contains-none}
use Rattle.words.proofs.Weights.{length-le-degree_of}
use Rattle.free_poly.specs.declared.term.Term.{Term}
use Rattle.free_poly.specs.Poly.{lead_of}
use Rattle.ideal_laws.specs.Closure.{IsFactorFree}
use Rattle.ideal_laws.specs.Kept.{IsKeptElement}
use Rattle.lead_index.specs.declared.lead.Lead.{Lead}
use Rattle.lead_index.specs.Leads.{AreApart, IsFresh, IsIndexOf, with_lead}

-- a leading word of a kept element is not empty, and has at most 64 letters
pub record IsFit (w : List ℕ) : Type 0 where
  pub some : w ≢ []
  pub small : length w ≤ 64

-- the leading word of a kept element is not empty and has at most 64 letters, if weights are at least 1 and degrees go up to 64 at most
pub kept_fit : (weights : List ℕ) (done : ℕ) → AreWeights weights → done ≤ 64 → (f : List Term) → IsKeptElement weights done f →
    (w : List ℕ) → lead_of f ≡ Some w → IsFit w
kept_fit weights done aw le [] k w e = cc e
kept_fit weights done aw le (t ∷ f) k w e =
    let is : t.word ≡ w = same_Some t.word w e in
    record {
      some = λ n. omega (arith, k.from, ap (degree_of weights) (is ∙ n));
      small = omega (arith, length-le-degree_of weights aw t.word, k.upto, le, ap length is);
    }

module _ (G : List (List Term)) where
  -- exactly the leading words of the first n elements
  abbrev pub IsIndexUpto : ℕ → List Lead → Type 0
  IsIndexUpto n leads = (l : Lead) → Contains leads l ↔ ((l.element < n) × (lead_of (get_or G l.element []) ≡ Some l.word))

  -- the empty list has exactly the leading words of the first 0 elements
  pub none_indexed : IsIndexUpto 0 []
  none_indexed l = (λ m. absurd (Contains-none l m), λ h. absurd (omega (arith, h.0)))

  -- if no leading word is a factor of another, an index of those of the first n elements can take that of the next one,
  -- where it is not empty and has at most 64 letters
  pub fresh_lead : IsFactorFree G → (n : ℕ) → n < length G → (leads : List Lead) → IsIndexUpto n leads → (w : List ℕ) →
      lead_of (get_or G n []) ≡ Some w → IsFit w → IsFresh leads w
  fresh_lead free n within leads h w e fit = record {
    some = fit.some;
    small = fit.small;
    apart = All-from_members (λ l. AreApart l.word w) leads
        (λ l m.
        let f = (h l).0 m in
        let at_l = slice_get-get_or G l.element [] (omega (arith, f.0, within)) in
        let at_n = slice_get-get_or G n [] within in (
          λ factor. omega (arith, f.0, free l.element n (get_or G l.element []) (get_or G n []) l.word w at_l at_n f.1 e factor),
          λ factor. omega (arith, f.0, free n l.element (get_or G n []) (get_or G l.element []) w l.word at_n at_l e f.1 factor),
        ));
  }

  -- one more element
  pub indexed_more : (n : ℕ) (leads : List Lead) → IsIndexUpto n leads → (f : List Term) → get_or G n [] ≡ f → IsIndexUpto (n + 1) (with_lead leads f n)
  indexed_more n leads h [] e l = (
    λ m. let r = (h l).0 m in (omega (arith, r.0), r.1),
    λ r. elim (cases_lt l.element n) [
      | inl lower ↦ (h l).1 (lower, r.1)
      | inr from ↦
          let same : l.element ≡ n = omega (arith, from, r.0) in
          let both : None ≡ Some l.word = sym (ap lead_of e) ∙ sym (ap (λ (i : ℕ). lead_of (get_or G i [])) same) ∙ r.1 in
          cc both
    ],
  )
  indexed_more n leads h (t ∷ f) e l =
      let own : Lead = record { word = t.word; element = n } in (
        λ m. elim (Contains-push_cases leads own l m) [
          | inl old ↦ let r = (h l).0 old in (omega (arith, r.0), r.1)
          | inr is ↦
              let at : n ≡ l.element = ap (λ (x : Lead). x.element) is in
              (omega (arith, at), sym (ap (λ (i : ℕ). lead_of (get_or G i [])) at) ∙ ap lead_of e ∙ ap (λ (x : Lead). Some x.word) is)
        ],
        λ r. elim (cases_lt l.element n) [
          | inl lower ↦ Contains-append_left leads (own ∷ []) l ((h l).1 (lower, r.1))
          | inr from ↦
              let same : n ≡ l.element = omega (arith, from, r.0) in
              let word : t.word ≡ l.word = same_Some t.word l.word (sym (ap lead_of e) ∙ ap (λ (i : ℕ). lead_of (get_or G i [])) same ∙ r.1) in
              subst (Contains (leads ++ own ∷ [])) (λ i. record { word = word i; element = same i })
              (Contains-append_right leads (own ∷ []) own (Contains-first own []))
        ],
      )

  -- all elements
  pub indexed_all : (n : ℕ) (leads : List Lead) → n ≡ length G → IsIndexUpto n leads → IsIndexOf G leads
  indexed_all n leads is h l = (
    λ m. let r = (h l).0 m in (get_or G l.element [], slice_get-get_or G l.element [] (omega (arith, r.0, is)), r.1),
    λ r. (h l).1 (omega (arith, slice_get_within G l.element r.0 r.1, is), ap lead_of (get_or_from_slice_get G l.element r.0 [] r.1) ∙ r.2),
  )
