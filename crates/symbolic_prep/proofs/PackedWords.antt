-- Packed words with their letters counted: their parts, and the multiples of lists of them.
use Rattle.std.proofs.Common.{◌≡◌, ◌+◌, ◌-◌, ◌*◌, ◌/◌, ◌%◌, ◌^◌, ◌<◌, ◌≤◌, ℕ, suc, List, [], ◌∷◌, ◌++◌, All, length, map, take, drop, get_or}
use Rattle.std.proofs.Common.{Some, true, nat_eq, refl, sym, ap, ◌∙◌, arith, subst, length-drop}
use Rattle.std.proofs.lemmas.List.{length-map, length-take-le, map-append, take_more}
use Rattle.std.proofs.lemmas.List.Elements.{All-append, All-cons, All-drop, All-nil, All-take}
use Rattle.std.proofs.lemmas.Nat.{mul-le}
use Rattle.std.specs.List.{AllZip, slice_get}
use Rattle.indexmap.specs.IndexSet.{insert_key}
use Rattle.free_poly.specs.declared.term.Term.{Term}
use Rattle.free_poly.specs.Poly.{lead_or_none}
use Rattle.free_poly.specs.Terms.{product}
use Rattle.ideal_laws.specs.Basis.{below_lead}
use Rattle.symbolic_prep.specs.declared.packing.PackedWord.{PackedWord}
use Rattle.symbolic_prep.specs.Packing.{HasDigits, IsKey, IsTable, Table, packed, unpacked}
use Rattle.symbolic_prep.specs.Numbers.{IsGrown}
use Rattle.symbolic_prep.specs.PackedWords.{ArePacked, IsPackedAs, IsPackedWord, first_len, letters_in}
use Rattle.symbolic_prep.proofs.Digits.{front_is, joined_is, packed_fits}
use Rattle.symbolic_prep.proofs.Keys.{key_below, key_is, table_grown, table_more, table_number, three_digits, three_long, word_of_key}
use Rattle.symbolic_prep.proofs.Walks.{AllZip-push}

module _ (bits room : ℕ) where
  -- the key and the count of a word
  pub packed_as : (w : List ℕ) (p : PackedWord) → HasDigits bits w → length w ≤ room → p.key ≡ packed (2 ^ bits) room w → p.len ≡ length w →
      IsPackedAs bits room w p
  packed_as w p over fits key len =
      let same : letters_in bits room p ≡ w = ap (unpacked (2 ^ bits) room) key ∙ key_is bits room w over fits in
      record {
        is = record {
          over = subst (HasDigits bits) (sym same) over;
          fits = omega (arith, fits, ap length same);
          key = key ∙ ap (packed (2 ^ bits) room) (sym same);
          len = len ∙ ap length (sym same);
        };
        letters = same;
      }

  -- the letters before a place
  pub front_as : (p q : PackedWord) → IsPackedWord bits room p → q.len ≤ p.len → q.key ≡ p.key - p.key % 2 ^ (bits * (room - q.len)) →
      IsPackedAs bits room (take q.len (letters_in bits room p)) q
  front_as p q h within is =
      let w = letters_in bits room p in
      let inside : q.len ≤ length w = omega (arith, within, h.len) in
      let size = length-take-le q.len w inside in
      packed_as (take q.len w) q (All-take (λ x. suc x < 2 ^ bits) q.len w h.over) (omega (arith, size, inside, h.fits))
      (omega (arith, is, h.key, ap (λ (n : ℕ). n % 2 ^ (bits * (room - q.len))) h.key, front_is bits room q.len w h.over h.fits inside)) (sym size)

  -- and those behind it
  pub back_as : (p q : PackedWord) (at : ℕ) → IsPackedWord bits room p → at ≤ p.len → q.len ≡ p.len - at →
      q.key ≡ packed (2 ^ bits) room (drop at (letters_in bits room p)) → IsPackedAs bits room (drop at (letters_in bits room p)) q
  back_as p q at h within len key =
      let w = letters_in bits room p in
      packed_as (drop at w) q (All-drop (λ x. suc x < 2 ^ bits) at w h.over) (omega (arith, length-drop at w, h.fits)) key
      (omega (arith, len, h.len, length-drop at w))

  -- three words in one
  module _ (u t v : PackedWord) (h : IsPackedWord bits room u) (k : IsPackedWord bits room t) (l : IsPackedWord bits room v)
      (whole : bits * room ≤ 64) (fits : u.len + t.len + v.len ≤ room) (second third : ℕ) (second_is : second ≡ t.key / 2 ^ (bits * u.len))
      (third_is : third ≡ v.key / 2 ^ (bits * (u.len + t.len))) where
    abbrev three : List ℕ
    three = letters_in bits room u ++ letters_in bits room t ++ letters_in bits room v

    over_three : HasDigits bits three
    over_three = three_digits bits (letters_in bits room u) (letters_in bits room t) (letters_in bits room v) h.over k.over l.over

    long_three : length three ≡ u.len + t.len + v.len
    long_three = omega (arith, three_long (letters_in bits room u) (letters_in bits room t) (letters_in bits room v), h.len, k.len, l.len)

    sum_is : u.key + second + third ≡ packed (2 ^ bits) room three
    sum_is = omega (
      arith,
      h.key,
      second_is ∙ (λ i. k.key i / 2 ^ (bits * h.len i)),
      third_is ∙ (λ i. l.key i / 2 ^ (bits * (h.len i + k.len i))),
      joined_is bits room (letters_in bits room u) (letters_in bits room t) (letters_in bits room v) (omega (arith, fits, h.len, k.len, l.len)),
    )

    -- their keys, moved behind each other, add up within 64 bits
    pub sum_fits : u.key + second + third < 2 ^ 64
    sum_fits = omega (arith, sum_is, packed_fits bits room three whole over_three (omega (arith, long_three, fits)))

    -- this sum is the key of their product
    pub joined_as : (q : PackedWord) → q.key ≡ u.key + second + third → q.len ≡ u.len + t.len + v.len →
        IsPackedAs bits room (letters_in bits room u ++ letters_in bits room t ++ letters_in bits room v) q
    joined_as q key len = packed_as three q over_three (omega (arith, long_three, fits)) (key ∙ sum_is) (len ∙ sym long_three)

  -- a table with one word more
  module _ (keys new : List ℕ) (t : IsTable bits room keys) (view : Table)
      (view_is : record { bits = bits; room = room; words = map (unpacked (2 ^ bits) room) keys } ≡ view) (p : PackedWord)
      (h : IsPackedWord view.bits view.room p) (made : new ≡ insert_key nat_eq keys p.key) where
    own_key : IsKey bits room p.key
    own_key = subst (λ (v : Table). IsKey v.bits v.room p.key) (sym view_is)
        (record { word = letters_in view.bits view.room p; over = h.over; fits = h.fits; is = h.key })

    -- it is a table
    pub added_table : IsTable bits room new
    added_table = table_more bits room keys t p.key own_key new made

    -- its words are those that were there and the word
    pub added_grown : IsGrown view.words (map (unpacked (2 ^ bits) room) new) (letters_in view.bits view.room p ∷ [])
    added_grown = subst (λ (v : Table). IsGrown v.words (map (unpacked (2 ^ bits) room) new) (letters_in v.bits v.room p ∷ [])) view_is
        (table_grown bits room keys t p.key own_key new made)

    -- the place of the key is the place of the word
    pub added_number : (n x : ℕ) → slice_get new n ≡ Some x → nat_eq p.key x ≡ true →
        slice_get (map (unpacked (2 ^ bits) room) new) n ≡ Some (letters_in view.bits view.room p)
    added_number n x at same = subst (λ (v : Table). slice_get (map (unpacked (2 ^ bits) room) new) n ≡ Some (letters_in v.bits v.room p)) view_is
        (table_number bits room keys t p.key own_key new made n x at same)

  -- the words of an element are its leading one and those behind it
  pub first_len-is : (f : List Term) (ps : List PackedWord) → ArePacked bits room f ps → first_len ps ≡ length (lead_or_none f)
  first_len-is [] [] h = refl
  first_len-is [] (p ∷ ps) h = absurd (omega (arith, ap length h.words))
  first_len-is (t ∷ f) [] h = absurd (omega (arith, ap length h.words))
  first_len-is (t ∷ f) (p ∷ ps) h = let same : letters_in bits room p ≡ t.word = ap (λ (ws : List (List ℕ)). get_or ws 0 []) h.words in
      (h.each 0 p (omega arith)).len ∙ ap length same

  -- as many packed words as terms
  pub length-packed : (f : List Term) (ps : List PackedWord) → ArePacked bits room f ps → length ps ≡ length f
  length-packed f ps h = sym (length-map ps (letters_in bits room)) ∙ ap length h.words ∙ length-map f (λ (t : Term). t.word)

  -- the packed words behind the first are those of the terms below the leading one
  pub packed_tail : (f : List Term) (ps : List PackedWord) → ArePacked bits room f ps → ArePacked bits room (below_lead f) (drop 1 ps)
  packed_tail [] [] h = h
  packed_tail [] (p ∷ ps) h = absurd (omega (arith, ap length h.words))
  packed_tail (t ∷ f) [] h = absurd (omega (arith, ap length h.words))
  packed_tail (t ∷ f) (p ∷ ps) h = record { each = All-drop (IsPackedWord bits room) 1 (p ∷ ps) h.each; words = ap (drop 1) h.words }

  -- the words of a multiple
  pub multiple_words : (u v : List ℕ) (f : List Term) (ps : List PackedWord) → map (letters_in bits room) ps ≡ map (λ t. t.word) f →
      map (λ p. u ++ letters_in bits room p ++ v) ps ≡ map (λ t. t.word) (product u f v)
  multiple_words u v [] [] e = refl
  multiple_words u v [] (p ∷ ps) e = absurd (omega (arith, ap length e))
  multiple_words u v (t ∷ f) [] e = absurd (omega (arith, ap length e))
  multiple_words u v (t ∷ f) (p ∷ ps) e =
      let first : letters_in bits room p ≡ t.word = ap (λ (ws : List (List ℕ)). get_or ws 0 []) e in
      let rest : map (letters_in bits room) ps ≡ map (λ t. t.word) f = ap (drop 1) e in
      (λ i. (u ++ first i ++ v) ∷ multiple_words u v f ps rest i)

  -- one more term
  pub packed_push : (f g : List Term) (ps qs : List PackedWord) (p : PackedWord) (t : Term) → ArePacked bits room f ps → IsPackedWord bits room p →
      letters_in bits room p ≡ t.word → g ≡ f ++ t ∷ [] → qs ≡ ps ++ p ∷ [] → ArePacked bits room g qs
  packed_push f g ps qs p t h is same e pushed = record {
    each = subst (All (IsPackedWord bits room)) (sym pushed) (All-append (IsPackedWord bits room) ps (p ∷ []) h.each
        (All-cons (IsPackedWord bits room) p [] is (All-nil (IsPackedWord bits room))));
    words = ap (map (letters_in bits room)) pushed ∙ map-append (letters_in bits room) ps (p ∷ []) ∙ (λ i. h.words i ++ same i ∷ [])
        ∙ sym (map-append (λ (s : Term). s.word) f (t ∷ [])) ∙ ap (map (λ (s : Term). s.word)) (sym e);
  }

-- one more item of each list
pub AllZip-next : {X Y Z : Type 0} (R : X → Y → Type 0) (g : Z → Y) (xs : List X) (zs new : List Z) (i : ℕ) (x : X) (z : Z) →
    AllZip R (take i xs) (map g zs) → i < length xs → x ≡ get_or xs i x → R x (g z) → new ≡ zs ++ z ∷ [] → AllZip R (take (i + 1) xs) (map g new)
AllZip-next R g xs zs new i x z h lt is r pushed =
    subst (λ ys. AllZip R ys (map g new)) (sym (take_more xs i x lt ∙ ap (λ y. take i xs ++ y ∷ []) (sym is)))
    (subst (AllZip R (take i xs ++ x ∷ [])) (sym (ap (map g) pushed ∙ map-append g zs (z ∷ []))) (AllZip-push R (take i xs) (map g zs) x (g z) h r))

-- a word of a table
module _ (bits room : ℕ) (keys : List ℕ) (t : IsTable bits room keys) (view : Table)
    (view_is : record { bits = bits; room = room; words = map (unpacked (2 ^ bits) room) keys } ≡ view) (n : ℕ) (within : n < length view.words) where
  key_within : n < length keys
  key_within = omega (arith, within, ap (λ (v : Table). length v.words) view_is, length-map keys (unpacked (2 ^ bits) room))

  is_key : IsKey bits room (get_or keys n 0)
  is_key = t.each n 0 key_within

  -- its key is below the power
  pub key_fits : get_or keys n 0 < (2 ^ bits) ^ room
  key_fits = key_below bits room (get_or keys n 0) is_key

  word_is : unpacked (2 ^ bits) room (get_or keys n 0) ≡ is_key.word
  word_is = word_of_key bits room (get_or keys n 0) is_key

  letters_fit : length (unpacked (2 ^ bits) room (get_or keys n 0)) ≤ room
  letters_fit = omega (arith, is_key.fits, ap length word_is)

  -- it has at most 64 letters
  pub letters_small : length (unpacked (2 ^ bits) room (get_or keys n 0)) ≤ 64
  letters_small = omega (arith, letters_fit, t.packing.whole, mul-le 1 room bits room (omega (arith, t.packing.some)) (omega arith))

  -- its key with the count of its letters is the word, packed
  pub key_as : (p : PackedWord) → p.key ≡ get_or keys n 0 → p.len ≡ length (unpacked (2 ^ bits) room (get_or keys n 0)) →
      IsPackedAs view.bits view.room (unpacked (2 ^ bits) room (get_or keys n 0)) p
  key_as p key len = subst (λ (v : Table). IsPackedAs v.bits v.room (unpacked (2 ^ bits) room (get_or keys n 0)) p) view_is
      (packed_as bits room (unpacked (2 ^ bits) room (get_or keys n 0)) p (subst (HasDigits bits) (sym word_is) is_key.over) letters_fit
      (key ∙ is_key.is ∙ ap (packed (2 ^ bits) room) (sym word_is)) len)
