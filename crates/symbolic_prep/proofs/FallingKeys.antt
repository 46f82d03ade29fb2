-- Packed words by rising key, which is falling word.
use Rattle.std.proofs.Common.{◌≡◌, ◌<◌, ◌≤◌, ◌^◌, ℕ, List, [], length, map, get_or, sym, ap, ◌∙◌, arith, All, AllPairs, Some, subst}
use Rattle.std.specs.List.{Contains, range_with_len, slice_get}
use Rattle.std.specs.List.Sorted.{IsPermutation}
use Rattle.std.proofs.lemmas.List.{get_or-map, length-map}
use Rattle.std.proofs.lemmas.List.Elements.{All-contains, All-map}
use Rattle.std.proofs.lemmas.Nat.{pow_pos}
use Rattle.std.proofs.lemmas.Option.{get_or_from_slice_get, slice_get-get_or, slice_get_within}
use Rattle.words.specs.Order.{IsLetterwiseGreater}
use Rattle.words.specs.Words.{degree_of}
use Rattle.words.proofs.Members.{Contains-map}
use Rattle.symbolic_prep.specs.Orders.{ArePackedWords, HaveOneDegree, IsOrder, IsRising}
use Rattle.symbolic_prep.specs.Packing.{HasDigits, IsKey, IsTable, packed, unpacked}
use Rattle.symbolic_prep.proofs.Digits.{HasRoom, falls_packed}
use Rattle.symbolic_prep.proofs.Keys.{word_of_key}

module _ (bits room : ℕ) (keys : List ℕ) (t : IsTable bits room keys) (pairs : List (ℕ × ℕ)) (r : IsRising keys pairs) where
  abbrev word : ℕ → List ℕ
  word key = unpacked (2 ^ bits) room key

  abbrev sorted : List ℕ
  sorted = map (λ p. p.0) pairs

  among : All (Contains keys) (map (λ p. p.0) pairs)
  among = All-map (Contains keys) (λ (p : ℕ × ℕ). p.0) pairs (λ i d within.
      let p = get_or pairs i d in
      let here = r.each i d within in
      (p.1, slice_get_within keys p.1 p.0 here, get_or_from_slice_get keys p.1 p.0 p.0 here))

  keys_each : All (IsKey bits room) (map (λ p. p.0) pairs)
  keys_each i d within = All-contains (IsKey bits room) keys (get_or sorted i d) t.each (among i d within)

  keys_rise : AllPairs (λ a b. a < b) (map (λ p. p.0) pairs)
  keys_rise i j d before within =
      let inside : j < length pairs = omega (arith, within, length-map pairs (λ p. p.0)) in
      let first = get_or-map (λ (p : ℕ × ℕ). p.0) pairs i (d, 0) d (omega (arith, before, inside)) in
      let second = get_or-map (λ (p : ℕ × ℕ). p.0) pairs j (d, 0) d inside in
      omega (arith, first, second, r.rising i j (d, 0) before inside)

  keys_order : IsOrder (map (unpacked (2 ^ bits) room) keys) (map (λ p. p.1) pairs) (map (unpacked (2 ^ bits) room) (map (λ p. p.0) pairs))
  keys_order = record {
    numbers = subst (λ (n : ℕ). IsPermutation (range_with_len 0 n) (map (λ p. p.1) pairs)) (sym (length-map keys word)) r.numbers;
    size = omega (arith, length-map sorted word, length-map pairs (λ p. p.0), length-map pairs (λ p. p.1));
    each = λ c lt.
        let inside : c < length pairs = omega (arith, lt, length-map pairs (λ p. p.1)) in
        let among_sorted : c < length sorted = omega (arith, inside, length-map pairs (λ p. p.0)) in
        let p = get_or pairs c (0, 0) in
        let here : slice_get keys p.1 ≡ Some p.0 = r.each c (0, 0) inside in
        let within = slice_get_within keys p.1 p.0 here in
        let number : get_or (map (λ p. p.1) pairs) c 0 ≡ p.1 = get_or-map (λ (p : ℕ × ℕ). p.1) pairs c (0, 0) 0 inside in
        let first : slice_get (map word keys) p.1 ≡ Some (word p.0) = slice_get-get_or (map word keys) p.1 [] (omega (arith, within, length-map keys word))
        ∙ ap Some (get_or-map word keys p.1 0 [] within ∙ ap word (get_or_from_slice_get keys p.1 p.0 0 here)) in
        let second : slice_get (map word sorted) c ≡ Some (word p.0) =
        slice_get-get_or (map word sorted) c [] (omega (arith, among_sorted, length-map sorted word))
        ∙ ap Some (get_or-map word sorted c 0 [] among_sorted ∙ ap word (get_or-map (λ (p : ℕ × ℕ). p.0) pairs c (0, 0) 0 inside)) in
        ap (slice_get (map word keys)) number ∙ first ∙ sym second;
  }

  module _ (one : HaveOneDegree (map (unpacked (2 ^ bits) room) keys)) where
    has_room : (key : ℕ) → Contains keys key → IsKey bits room key → HasRoom one.weights (2 ^ bits) room one.d (unpacked (2 ^ bits) room key)
    has_room key m h =
        let same : h.word ≡ word key = sym (word_of_key bits room key h) in
        record {
          over = subst (HasDigits bits) same h.over;
          fits = subst (λ (w : List ℕ). length w ≤ room) same h.fits;
          degree = All-contains (λ w. degree_of one.weights w ≡ one.d) (map word keys) (word key) one.each (Contains-map word keys key m);
        }

    key_of : (key : ℕ) → IsKey bits room key → packed (2 ^ bits) room (unpacked (2 ^ bits) room key) ≡ key
    key_of key h = ap (packed (2 ^ bits) room) (word_of_key bits room key h) ∙ sym h.is

    words_fall : AllPairs IsLetterwiseGreater (map (unpacked (2 ^ bits) room) (map (λ p. p.0) pairs))
    words_fall i j d before within =
        let inside : j < length sorted = omega (arith, within, length-map sorted word) in
        let a = get_or sorted i 0 in
        let b = get_or sorted j 0 in
        let low : i < length sorted = omega (arith, before, inside) in
        let lt : packed (2 ^ bits) room (word a) < packed (2 ^ bits) room (word b) =
        omega (arith, key_of a (keys_each i 0 low), key_of b (keys_each j 0 inside), keys_rise i j 0 before inside) in
        let falls = falls_packed one.weights one.are (2 ^ bits) room one.d (pow_pos bits) (word a) (word b)
        (has_room a (among i 0 low) (keys_each i 0 low)) (has_room b (among j 0 inside) (keys_each j 0 inside)) lt in
        subst (IsLetterwiseGreater (get_or (map word sorted) i d)) (sym (get_or-map word sorted j 0 d inside))
        (subst (λ (x : List ℕ). IsLetterwiseGreater x (word b)) (sym (get_or-map word sorted i 0 d low)) falls)

    -- the keys in rising order are a table whose words fall
    pub packed_words : ArePackedWords bits room (map (λ p. p.0) pairs)
    packed_words = record {
      table = record { packing = t.packing; each = keys_each; apart = λ i j d before within same. omega (arith, same, keys_rise i j d before within) };
      rising = keys_rise;
      falling = words_fall;
    }

  -- the words of the sorted keys are the words of the table in another order
  pub words_in_order : (order columns : List ℕ) (columns_words : List (List ℕ)) → order ≡ map (λ p. p.1) pairs →
      columns ≡ map (λ p. p.0) pairs → columns_words ≡ map (unpacked (2 ^ bits) room) columns →
      IsOrder (map (unpacked (2 ^ bits) room) keys) order columns_words
  words_in_order order columns columns_words orders sorts are = subst (λ (ns : List ℕ). IsOrder (map word keys) ns columns_words)
      (sym orders) (subst (IsOrder (map word keys) (map (λ p. p.1) pairs)) (sym (are ∙ ap (map word) sorts)) keys_order)
