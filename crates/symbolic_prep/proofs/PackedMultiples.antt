-- The multiple of an element that is the reducer of a word, packed.
use Rattle.std.proofs.Common.{◌≡◌, ◌+◌, ◌<◌, ◌≤◌, ℕ, List, [], ◌∷◌, ◌++◌, All, length, map, take, drop, get_or, refl, sym, ap, ◌∙◌, arith}
use Rattle.std.proofs.Common.{Some, subst, append_assoc}
use Rattle.std.specs.List.{AllZip, slice_get}
use Rattle.std.specs.Option.{option_map}
use Rattle.std.proofs.lemmas.List.{append-nil, get_or-map, get_or_default, map-append, take_more}
use Rattle.std.proofs.lemmas.List.Elements.{All-drop}
use Rattle.std.proofs.lemmas.Option.{slice_get-get_or, slice_get-map}
use Rattle.words.specs.Words.{IsOver, degree_of}
use Rattle.free_poly.specs.declared.term.Term.{Term}
use Rattle.free_poly.specs.Poly.{IsPolynomial, lead_or_none}
use Rattle.free_poly.specs.Terms.{product}
use Rattle.ideal_laws.specs.Basis.{below_lead}
use Rattle.ideal_laws.specs.Closure.{IsReducer}
use Rattle.ideal_laws.specs.Engine.{Elements}
use Rattle.ideal_laws.specs.Kept.{IsKept}
use Rattle.lead_index.specs.declared.lead.Lead.{Lead}
use Rattle.lead_index.specs.Leads.{IsFirstReducer, IsIndexOf}
use Rattle.symbolic_prep.specs.declared.lists.Span.{Span}
use Rattle.symbolic_prep.specs.declared.packing.PackedWord.{PackedWord}
use Rattle.symbolic_prep.specs.Numbers.{residues_of}
use Rattle.symbolic_prep.specs.PackedWords.{ArePacked, ArePackedWithin, HasMultiple, IsPackedAs, IsPackedWord, first_len, letters_in}
use Rattle.symbolic_prep.specs.Tails.{HasTail}
use Rattle.symbolic_prep.proofs.Ending.{AllZip-length}
use Rattle.symbolic_prep.proofs.Listings.{AllZip-at}
use Rattle.symbolic_prep.proofs.PackedWords.{first_len-is, length-packed, multiple_words, packed_tail}
use Rattle.symbolic_prep.proofs.Parts.{part_last}
use Rattle.symbolic_prep.proofs.Reduced.{parts_fit, residues_of-product, tail_product}
use Rattle.symbolic_prep.proofs.Reducing.{IsElementAt, element_at, element_within}
use Rattle.symbolic_prep.proofs.Stays.{words_of_reducer}

-- words with one before and one behind each, one after another
module _ (bits room : ℕ) (before : List ℕ) (words : List PackedWord) (rest : List ℕ) (old : List PackedWord) where
  -- no word is there yet
  pub multiple_none : HasMultiple bits room before (take 0 words) rest old old
  multiple_none = record { more = []; joined = sym (append-nil old); letters = refl }

  -- one more word with the two around it
  pub multiple_more : (i : ℕ) (p q : PackedWord) (so_far new : List PackedWord) → HasMultiple bits room before (take i words) rest old so_far →
      i < length words → letters_in bits room q ≡ before ++ letters_in bits room (get_or words i p) ++ rest → new ≡ so_far ++ q ∷ [] →
      HasMultiple bits room before (take (i + 1) words) rest old new
  multiple_more i p q so_far new h lt is pushed =
      let f : PackedWord → List ℕ = λ (s : PackedWord). before ++ letters_in bits room s ++ rest in
      record {
        more = h.more ++ q ∷ [];
        joined = pushed ∙ ap (λ (xs : List PackedWord). xs ++ q ∷ []) h.joined ∙ append_assoc old h.more (q ∷ []);
        letters = map-append (letters_in bits room) h.more (q ∷ []) ∙ (λ j. h.letters j ++ is j ∷ [])
            ∙ sym (map-append f (take i words) (get_or words i p ∷ [])) ∙ ap (map f) (sym (take_more words i p lt));
      }

module _ (b : Elements) (kept : IsKept b) (forms : All IsPolynomial b.elements) (leads : List Lead) (indexed : IsIndexOf b.elements leads)
    (w : List ℕ) (letters : IsOver (length b.weights) w) (bits room : ℕ) (fits : degree_of b.weights w ≤ room) (lists : List (List PackedWord))
    (zipped : AllZip (ArePackedWithin bits room) b.elements lists) (at element : ℕ) (first : IsFirstReducer leads w at element) where
  within : element < length b.elements
  within = element_within b.elements leads indexed w at element first

  -- the element has a list
  pub listed : element < length lists
  listed = omega (arith, within, AllZip-length (ArePackedWithin bits room) b.elements lists zipped)

  module _ (p : PackedWord) (own : IsPackedAs bits room w p) (ps qs : List PackedWord) (list_is : ps ≡ get_or lists element []) (tail_is : qs ≡ drop 1 ps) where
    abbrev f : List Term
    f = get_or b.elements element []

    abbrev rest : List ℕ
    rest = drop (at + first_len ps) w

    e : IsElementAt b.elements leads indexed w at element (get_or b.elements element [])
    e = element_at b.elements leads indexed w at element first f (get_or_default b.elements element [] f within)

    packed : ArePacked bits room (get_or b.elements element []) ps
    packed = AllZip-at (ArePackedWithin bits room) b.elements lists element f ps zipped e.place
        (slice_get-get_or lists element [] listed ∙ ap Some (sym list_is))
        (λ i t lt. omega (arith, parts_fit b kept forms w letters (take at w) (drop (at + length (lead_or_none f)) w) f e.reducer room fits i t lt))

    -- the leading word stands in the word
    pub lead_within : at + first_len ps ≤ p.len
    lead_within = omega (arith, e.fits, first_len-is bits room f ps packed, own.is.len, ap length own.letters)

    is_reducer : IsReducer b.elements w (product (take at w) (get_or b.elements element []) (drop (at + first_len ps) w))
    is_reducer = subst (λ (n : ℕ). IsReducer b.elements w (product (take at w) f (drop (at + n) w))) (sym (first_len-is bits room f ps packed)) e.reducer

    tail_packed : ArePacked bits room (below_lead (get_or b.elements element [])) qs
    tail_packed = subst (ArePacked bits room (below_lead f)) (sym tail_is) (packed_tail bits room f ps packed)

    -- the words behind the leading one are packed words
    pub tail_each : All (IsPackedWord bits room) qs
    tail_each = tail_packed.each

    module _ (u v : PackedWord) (n : ℕ) (is_first : n ≡ first_len ps) (front : IsPackedAs bits room (take at (letters_in bits room p)) u)
        (back : IsPackedAs bits room (drop (at + n) (letters_in bits room p)) v) where
      before_is : letters_in bits room u ≡ take at w
      before_is = front.letters ∙ ap (take at) own.letters

      behind_is : letters_in bits room v ≡ drop (at + first_len ps) w
      behind_is = back.letters ∙ (λ i. drop (at + is_first i) (own.letters i))

      -- the words behind the leading one have room in the word
      pub tail_fits : All (λ q. u.len + q.len + v.len ≤ room) qs
      tail_fits = subst (All (λ (q : PackedWord). u.len + q.len + v.len ≤ room)) (sym tail_is)
          (All-drop (λ (q : PackedWord). u.len + q.len + v.len ≤ room) 1 ps (λ i d lt.
          let inside : i < length f = omega (arith, lt, length-packed bits room f ps packed) in
          let none : Term = record { word = []; coefficient = 0 } in
          let same : letters_in bits room (get_or ps i d) ≡ (get_or f i none).word = sym (get_or-map (letters_in bits room) ps i d [] lt)
          ∙ ap (λ (ws : List (List ℕ)). get_or ws i []) packed.words ∙ get_or-map (λ (t : Term). t.word) f i none [] inside in
          omega (
            arith,
            front.is.len,
            ap length before_is,
            back.is.len,
            ap length behind_is,
            (packed.each i d lt).len,
            ap length same,
            parts_fit b kept forms w letters (take at w) rest f is_reducer room fits i none inside,
          )))

      -- and are those of the reducer
      pub multiple_is : (old new : List PackedWord) (s : Span) → HasMultiple bits room (letters_in bits room u) qs (letters_in bits room v) old new →
          length old ≡ s.start → length new ≡ s.end → s.element ≡ element → HasTail b.elements bits room new w (Some s)
      multiple_is old new s m starts ends is =
          let r = product (take at w) f rest in
          record {
            reducer = Some r;
            is = is_reducer;
            tail = record {
              lead = (words_of_reducer b kept forms (degree_of b.weights w) w (letters, refl) r is_reducer).lead;
              own = m.more;
              place = part_last old new m.more s.start s.end m.joined starts ends;
              words = m.letters ∙ (λ i. map (λ (q : PackedWord). before_is i ++ letters_in bits room q ++ behind_is i) qs)
                  ∙ multiple_words bits room (take at w) rest (below_lead f) qs tail_packed.words ∙ tail_product (take at w) rest f;
              residues_are = ap (slice_get (map residues_of b.elements)) is ∙ slice_get-map residues_of b.elements element
                  ∙ ap (option_map residues_of) e.place ∙ ap Some (sym (residues_of-product (take at w) rest f));
            };
          }
