-- One more piece of a transfer.
use Rattle.std.proofs.Common.{◌≡◌, ℕ, ◌+◌, ◌<◌, ◌≤◌, List, ◌++◌, ◌-◌, length, take, drop, sym, ap, ◌∙◌, arith, length-append, length-drop, length-take}
use Rattle.std.proofs.Math.Seq.{take-add}
use Rattle.std.proofs.lemmas.List.{drop-drop, take-append-drop, take-append-le, take-take, take_all}
use Rattle.std.specs.declared.option.Option.{Option}
use Rattle.std.specs.declared.option.Option.TheVariants.{None, Some}
use Rattle.std.specs.Io.KnownBytes.{Appends, Consumes, Keeps}
use Rattle.std.proofs.KnownBytes.{Appends-trans, Appends-kept, Consumes-trans}
use Rattle.bg_io.specs.Ends.{CountsAtMost, CountsGained, CountsTaken, IsCutShort, Loses, LosesAtMost, RoomFalls}

-- where the first m bytes of a text were appended, and then the first n of the rest, the first m + n of it were
pub Appends-more : (a b c : Option (List ℕ)) (m n : ℕ) (xs : List ℕ) → Appends a b (take m xs) → Appends b c (take n (drop m xs)) →
    Appends a c (take (m + n) xs)
Appends-more a b c m n xs p q = rw take-add (Appends-trans a b c (take m xs) (take n (drop m xs)) p q)

-- a told room that falls by m and then by n falls by m + n
pub RoomFalls-more : (a b c : Option ℕ) (m n : ℕ) → RoomFalls a b m → RoomFalls b c n → RoomFalls a c (m + n)
RoomFalls-more None b c m n p q = tt
RoomFalls-more (Some r) None c m n p q = absurd p
RoomFalls-more (Some r) (Some s) None m n p q = absurd q
RoomFalls-more (Some r) (Some s) (Some t) m n p q = omega (arith, p, q)

-- a number of calls that stays the same is greater by at most 0
pub CountsAtMost-none : (a : Option ℕ) → CountsAtMost a a 0
CountsAtMost-none None = tt
CountsAtMost-none (Some n) = (omega arith, omega arith)

-- a told number of calls that grows by at most m and then by at most n grows by at most any number that is not below m + n
pub CountsAtMost-more : (a b c : Option ℕ) (m n most : ℕ) → CountsAtMost a b m → CountsAtMost b c n → m + n ≤ most → CountsAtMost a c most
CountsAtMost-more None b c m n most p q le = tt
CountsAtMost-more (Some x) None c m n most p q le = absurd p
CountsAtMost-more (Some x) (Some y) None m n most p q le = absurd q
CountsAtMost-more (Some x) (Some y) (Some z) m n most p q le = (omega (arith, p.0, q.0), omega (arith, p.1, q.1, le))

-- where not all of a text was appended, and then nothing, what was gained is the text cut short
pub cut_short : (a b c : Option (List ℕ)) (m : ℕ) (xs : List ℕ) → m < length xs → Appends a b (take m xs) → Keeps b c →
    (gained : List ℕ) × IsCutShort gained xs × Appends a c gained
cut_short a b c m xs within p k = (
  take m xs,
  record {
    rest = drop m xs;
    more = λ e. omega (arith, within, length-drop m xs, ap length e);
    joined = sym (take-append-drop m xs);
  },
  Appends-kept a b c (take m xs) p k,
)

-- where some of a text was appended by at most a call a byte, and one call more appended nothing, it is at most one call more than bytes
pub counts_failed : (a b c : Option (List ℕ)) (x y z : Option ℕ) (m : ℕ) (xs : List ℕ) → m < length xs → Appends a b (take m xs) → Keeps b c →
    CountsAtMost x y m → CountsAtMost y z 1 → CountsGained a c x z 1
counts_failed a b c x y z m xs within p k q r = record {
  gained = take m xs;
  appended = Appends-kept a b c (take m xs) p k;
  counted = CountsAtMost-more x y z m 1 (length (take m xs) + 1) q r (omega (arith, within, length-take m xs));
}

-- the rest of a text behind place m, cut to as many bytes as are left, has the same first n bytes
pub whole_rest : (n m : ℕ) (xs : List ℕ) → n ≤ length xs - m → take n (take (length xs - m) (drop m xs)) ≡ take n (drop m xs)
whole_rest n m xs le = take-take n (length xs - m) (drop m xs) le

-- what a source had left is what it gave into the front of a piece, and then what it has left now
pub given_front : (given count : ℕ) (bytes front tail : List ℕ) → front ≡ take count (drop given bytes) → length front ≡ count →
    drop given bytes ≡ take count (front ++ tail) ++ drop (given + count) bytes
given_front given count bytes front tail same long =
    let all : take count (front ++ tail) ≡ take count (drop given bytes) =
    take-append-le count front tail (omega (arith, long)) ∙ take_all count front (omega (arith, long)) ∙ same in
    sym (take-append-drop count (drop given bytes)) ∙ ap (λ (l : List ℕ). take count (drop given bytes) ++ l) (drop-drop count given bytes)
    ∙ ap (λ (l : List ℕ). l ++ drop (given + count) bytes) (sym all)

-- where a text and n bytes of a piece were taken, which pass the limit, and the whole piece would pass it by one, limit + 1 bytes are gone
pub Loses-more : (a b c : Option (List ℕ)) (n limit : ℕ) (text piece : List ℕ) → Consumes a b text → Consumes b c (take n piece) →
    n ≤ length piece → length piece ≤ limit + 1 - length text → length text ≤ limit → limit < length text + n → Loses a c (limit + 1)
Loses-more a b c n limit text piece p q fits short before above = record {
  taken = text ++ take n piece;
  long = omega (arith, length-append text (take n piece), length-take n piece, fits, short, before, above);
  gone = Consumes-trans a b c text (take n piece) p q;
}

-- where a text was taken, and then n bytes of a piece, within the limit together, at most as many bytes as the limit are gone
pub LosesAtMost-more : (a b c : Option (List ℕ)) (n limit : ℕ) (text piece : List ℕ) → Consumes a b text → Consumes b c (take n piece) →
    length text + n ≤ limit → LosesAtMost a c limit
LosesAtMost-more a b c n limit text piece p q within = record {
  taken = text ++ take n piece;
  long = omega (arith, length-append text (take n piece), length-take n piece, within);
  gone = Consumes-trans a b c text (take n piece) p q;
}

-- where a text was taken by at most a call a byte, and n bytes of a piece by at most one call, it is at most one call more than bytes
pub CountsTaken-more : (a b c : Option (List ℕ)) (x y z : Option ℕ) (n : ℕ) (text piece : List ℕ) → Consumes a b text →
    Consumes b c (take n piece) → CountsAtMost x y (length text) → CountsAtMost y z 1 → CountsTaken a c x z
CountsTaken-more a b c x y z n text piece p q r s = record {
  taken = text ++ take n piece;
  gone = Consumes-trans a b c text (take n piece) p q;
  counted = CountsAtMost-more x y z (length text) 1 (length (text ++ take n piece) + 1) r s (omega (arith, length-append text (take n piece)));
}
