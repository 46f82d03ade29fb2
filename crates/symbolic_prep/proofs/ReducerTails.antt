-- The reducers of words in a row, before their own words have numbers.
use Rattle.std.proofs.Common.{◌≡◌, ◌+◌, ◌<◌, ℕ, List, [], ◌∷◌, ◌++◌, length, map, get_or, sym, ap, ◌∙◌, arith, Option, Some, None, subst}
use Rattle.std.proofs.Common.{inl, inr, length-append}
use Rattle.std.specs.List.{slice_range}
use Rattle.std.proofs.Math.Seq.{get_or-append_seam}
use Rattle.std.proofs.lemmas.Bool.{cases_lt}
use Rattle.std.proofs.lemmas.List.{get_or_append_left, length-map}
use Rattle.free_poly.specs.declared.term.Term.{Term}
use Rattle.free_poly.specs.Poly.{lead_of}
use Rattle.ideal_laws.specs.Basis.{below_lead}
use Rattle.ideal_laws.specs.Closure.{HasReducer, IsReducer}
use Rattle.symbolic_prep.specs.declared.lists.Span.{Span}
use Rattle.symbolic_prep.specs.declared.packing.PackedWord.{PackedWord}
use Rattle.symbolic_prep.specs.Numbers.{IsLonger}
use Rattle.symbolic_prep.specs.PackedWords.{letters_in}
use Rattle.symbolic_prep.specs.Tails.{HasTail, IsTailAt, IsTailOf}
use Rattle.symbolic_prep.proofs.Parts.{part_longer, range_is}

module _ (G : List (List Term)) (bits room : ℕ) where
  -- where there is a reducer
  pub record HasOwn (tails : List PackedWord) (w : List ℕ) (s : Span) : Type 0 where
    pub reducer : List Term
    pub is : IsReducer G w reducer
    pub tail : IsTailAt G bits room tails w s reducer
    pub words : map (letters_in bits room) (slice_range tails s.start s.end) ≡ map (λ t. t.word) (below_lead reducer)
    pub count : length (slice_range tails s.start s.end) + 1 ≡ length reducer

  -- a word with a span has a reducer that stands there
  pub has_own : (tails : List PackedWord) (w : List ℕ) (span : Option Span) (s : Span) → span ≡ Some s → HasTail G bits room tails w span → HasOwn tails w s
  has_own tails w span s e h = by_reducer h.reducer h.is (subst (λ (o : Option Span). IsTailOf G bits room tails w o h.reducer) e h.tail)
    where
      terms_are : (f : List Term) → lead_of f ≡ Some w → length (below_lead f) + 1 ≡ length f
      terms_are [] none = cc none
      terms_are (t ∷ f) some = omega arith

      by_reducer : (o : Option (List Term)) → HasReducer G w o → IsTailOf G bits room tails w (Some s) o → HasOwn tails w s
      by_reducer None is t = absurd t
      by_reducer (Some f) is t =
          let own : slice_range tails s.start s.end ≡ t.own = range_is tails t.own s.start s.end t.place in
          record {
            reducer = f;
            is = is;
            tail = t;
            words = ap (map (letters_in bits room)) own ∙ t.words;
            count = omega (
              arith,
              ap length own,
              length-map t.own (letters_in bits room),
              ap length t.words,
              length-map (below_lead f) (λ (x : Term). x.word),
              terms_are f t.lead,
            );
          }

  -- the words stand where they stood
  tail_longer : (tails more : List PackedWord) (w : List ℕ) (span : Option Span) → IsLonger tails more → HasTail G bits room tails w span →
      HasTail G bits room more w span
  tail_longer tails more w span l h = record { reducer = h.reducer; is = h.is; tail = still span h.reducer h.tail }
    where
      still : (s : Option Span) (o : Option (List Term)) → IsTailOf G bits room tails w s o → IsTailOf G bits room more w s o
      still None None t = tt
      still None (Some f) t = absurd t
      still (Some s) None t = absurd t
      still (Some s) (Some f) t = record {
        lead = t.lead;
        own = t.own;
        place = part_longer tails t.own s.start s.end more l t.place;
        words = t.words;
        residues_are = t.residues_are;
      }

  -- one more word
  pub tails_more : (words : List (List ℕ)) (from : ℕ) (spans new : List (Option Span)) (tails more : List PackedWord) (w : List ℕ) (span : Option Span) →
      ((i : ℕ) → i < length spans → HasTail G bits room tails (get_or words (from + i) []) (get_or spans i None)) → IsLonger tails more →
      HasTail G bits room more w span → w ≡ get_or words (from + length spans) [] → new ≡ spans ++ span ∷ [] →
      (i : ℕ) → i < length new → HasTail G bits room more (get_or words (from + i) []) (get_or new i None)
  tails_more words from spans new tails more w span h l own is pushed i lt = elim (cases_lt i (length spans)) [
    | inl before ↦ subst (HasTail G bits room more (get_or words (from + i) []))
        (sym (ap (λ (xs : List (Option Span)). get_or xs i None) pushed ∙ get_or_append_left spans (span ∷ []) None i before))
        (tail_longer tails more (get_or words (from + i) []) (get_or spans i None) l (h i before))
    | inr past ↦
        let here : length spans ≡ i = omega (arith, past, lt, ap length pushed, length-append spans (span ∷ [])) in
        subst (λ (k : ℕ). HasTail G bits room more (get_or words (from + k) []) (get_or new k None)) here
        (subst (HasTail G bits room more (get_or words (from + length spans) []))
        (sym (ap (λ (xs : List (Option Span)). get_or xs (length spans) None) pushed ∙ get_or-append_seam spans span [] None))
        (subst (λ (x : List ℕ). HasTail G bits room more x span) is own))
  ]

-- the same of how words are packed
pub same_packing : (P : ℕ → ℕ → Type 0) (a b c d : ℕ) → a ≡ b → c ≡ d → P a c → P b d
same_packing P a b c d e g h = subst (λ (n : ℕ). P n d) e (subst (P a) g h)
