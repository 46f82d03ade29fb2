-- A block of places to which a multiple is added.
use Rattle.std.proofs.Common.{◌≡◌, ◌+◌, ◌-◌, ◌*◌, ◌%◌, ◌<◌, ◌≤◌, ℕ, List, [], ◌∷◌, ◌++◌, All, drop, map, length, get_or, take}
use Rattle.std.proofs.Common.{length-append, sym, ap, ap₂, ◌∙◌, inl, inr, arith, subst}
use Rattle.std.proofs.Math.Nat.{add-mod-mod}
use Rattle.std.proofs.lemmas.Bool.{cases_lt}
use Rattle.std.proofs.lemmas.List.{append-nil, drop_all, get_or_append_left, get_or-append_right, get_or-drop, get_or-map, get_or-take, length-drop}
use Rattle.std.proofs.lemmas.List.{length-map, length-take-le, take_all}
use Rattle.std.proofs.lemmas.Simd.{Each1-from_get_or, get_or-chunk, get_or-put_chunk_above, get_or-put_chunk_at, get_or-put_chunk_below, get_or-zip2}
use Rattle.std.proofs.lemmas.Simd.{length-chunk, length-put_chunk, length-zip2}
use Rattle.field_table.specs.Residues.{plus_multiple}
use Rattle.field_table.proofs.Multiples.{plus_multiple_by_places, length-plus_multiple, plus_multiple-at}
use Rattle.lane_kernel.specs.Lanes.{IsAddedUpto}
use borrow.Rule.Slice.PartMut.{put_mid}
use lib.Lanes.{chunk, put_chunk, zip2, Each1}

-- eight places of a list of residues, one after another, hold residues
pub residue_chunk : (p at : ℕ) (xs : List ℕ) → All (λ r. r < p) xs → at + 8 ≤ length xs → Each1 (λ r. r < p) (chunk at 8 xs)
residue_chunk p at xs h room = Each1-from_get_or (λ r. r < p) (chunk at 8 xs) 0 (λ i within. (
    let low : i < 8 = omega (arith, within, length-chunk at 8 xs room) in
    subst (λ (n : ℕ). n < p) (sym (get_or-chunk at 8 xs i 0 low)) (h (at + i) 0 (omega (arith, low, room)))))

-- the eight places from the first one on to which nothing is added yet hold residues
pub rest_chunk : (p a at : ℕ) (y x now : List ℕ) → All (λ r. r < p) y → IsAddedUpto p a y x at now → at + 8 ≤ length y → Each1 (λ r. r < p) (chunk at 8 now)
rest_chunk p a at y x now h done room = Each1-from_get_or (λ r. r < p) (chunk at 8 now) 0 (λ i within. (
    let low : i < 8 = omega (arith, within, length-chunk at 8 now (omega (arith, room, done.size))) in
    subst (λ (n : ℕ). n < p) (sym (get_or-chunk at 8 now i 0 low ∙ done.others (at + i) (omega arith))) (h (at + i) 0 (omega (arith, low, room)))))

-- where the multiple is added up to a place, the eight sums with it that are written from there on add it up to the place behind them
pub block_added : (p a at next : ℕ) (y x now v : List ℕ) → length y ≡ length x → IsAddedUpto p a y x at now → at + 8 ≤ length y → next ≡ at + 8
    → v ≡ zip2 (λ r s. (r + s) % p) (chunk at 8 now) (map (λ s. (a * s) % p) (chunk at 8 x)) → IsAddedUpto p a y x next (put_chunk at now v)
block_added p a at next y x now v l done room is sum =
    let sums = zip2 (λ r s. (r + s) % p) (chunk at 8 now) (map (λ s. (a * s) % p) (chunk at 8 x)) in
    let now_long : length (chunk at 8 now) ≡ 8 = length-chunk at 8 now (omega (arith, room, done.size)) in
    let x_long : length (chunk at 8 x) ≡ 8 = length-chunk at 8 x (omega (arith, room, l)) in
    let times_long : length (map (λ s. (a * s) % p) (chunk at 8 x)) ≡ 8 = length-map (chunk at 8 x) (λ s. (a * s) % p) ∙ x_long in
    let long : length v ≡ 8 = ap length sum ∙ length-zip2 (λ r s. (r + s) % p) (chunk at 8 now) (map (λ s. (a * s) % p) (chunk at 8 x))
    (omega (arith, now_long, times_long)) ∙ now_long in
    let here : (i : ℕ) → i < 8 → get_or (put_chunk at now v) (at + i) 0 ≡ (get_or y (at + i) 0 + a * get_or x (at + i) 0) % p =
    λ i low. get_or-put_chunk_at at now v i 0 (omega (arith, low, long)) (omega (arith, long, room, done.size)) ∙ ap (λ (w : List ℕ). get_or w i 0) sum
    ∙ get_or-zip2 (λ r s. (r + s) % p) (chunk at 8 now) (map (λ s. (a * s) % p) (chunk at 8 x)) i 0 0 0 (omega (arith, low, now_long))
    (omega (arith, low, times_long))
    ∙ ap₂ (λ (r s : ℕ). (r + s) % p) (get_or-chunk at 8 now i 0 low ∙ done.others (at + i) (omega arith))
    (get_or-map (λ s. (a * s) % p) (chunk at 8 x) i 0 0 (omega (arith, low, x_long))
    ∙ ap (λ (s : ℕ). (a * s) % p) (get_or-chunk at 8 x i 0 low))
    ∙ add-mod-mod (get_or y (at + i) 0) (a * get_or x (at + i) 0) p in
    record {
      size = length-put_chunk at now v ∙ done.size;
      added = λ k lt. elim (cases_lt k at) [
        | inl before ↦ get_or-put_chunk_below at now v k 0 before ∙ done.added k before
        | inr from ↦ (
            let shown : at + (k - at) ≡ k = omega (arith, from) in
            let P : ℕ → Type 0 = λ n. get_or (put_chunk at now v) n 0 ≡ (get_or y n 0 + a * get_or x n 0) % p in
            subst P shown (here (k - at) (omega (arith, from, lt, is))))
      ];
      others = λ k past. get_or-put_chunk_above at now v k 0 (omega (arith, long, past, is)) ∙ done.others k (omega (arith, past, is));
    }

-- what is added to the first places and to the rest is added to the whole
pub whole_added : (p a done : ℕ) (y x mid rest : List ℕ) → length y ≡ length x → done ≤ length y → IsAddedUpto p a y x done mid →
    rest ≡ plus_multiple p a (drop done mid) (drop done x)
    → take done mid ++ rest ≡ plus_multiple p a y x
whole_added p a done y x mid rest l le h is =
    let left : length (drop done mid) ≡ length y - done = length-drop done mid ∙ ap (λ (n : ℕ). n - done) h.size in
    let right : length (drop done x) ≡ length y - done = length-drop done x ∙ ap (λ (n : ℕ). n - done) (sym l) in
    let rest_long : length rest ≡ length y - done = ap length is ∙ length-plus_multiple p a (drop done mid) (drop done x) ∙ left in
    let front_long : length (take done mid) ≡ done = length-take-le done mid (omega (arith, le, h.size)) in
    let long : length (take done mid ++ rest) ≡ length y = omega (arith, length-append (take done mid) rest, front_long, rest_long, le) in
    plus_multiple_by_places p a y x (take done mid ++ rest) long l (λ k within. elim (cases_lt k done) [
      | inl before ↦ get_or_append_left (take done mid) rest 0 k (omega (arith, before, front_long)) ∙ get_or-take done mid k 0 before ∙ h.added k before
      | inr from ↦ (
          let i = k - done in
          let shown : done + i ≡ k = omega (arith, from) in
          let inside : i < length (drop done mid) = omega (arith, from, within, left) in
          get_or-append_right (take done mid) rest done k 0 front_long from ∙ ap (λ (r : List ℕ). get_or r i 0) is
          ∙ plus_multiple-at p a (drop done mid) (drop done x) i (left ∙ sym right) inside
          ∙ ap₂ (λ (r s : ℕ). (r + a * s) % p) (get_or-drop done mid i 0 ∙ h.others (done + i) (omega arith)
          ∙ ap (λ (n : ℕ). get_or y n 0) shown) (get_or-drop done x i 0 ∙ ap (λ (n : ℕ). get_or x n 0) shown))
    ])

-- the places to which the multiple is added, and the sum of the rest of y with that multiple of the rest of x, are y + a * x
pub parts_added : (p q a done k j n : ℕ) (y x mid rest : List ℕ) → length y ≡ length x → done ≤ length y → q ≡ p → IsAddedUpto q a y x n mid
    → n ≡ done → k ≡ length mid - done → j ≡ length x - done
    → rest ≡ plus_multiple p a (take k (drop done mid)) (take j (drop done x)) → put_mid done k mid rest ≡ plus_multiple p a y x
parts_added p q a done k j n y x mid rest l le same h upto left right is =
    let left_whole : take k (drop done mid) ≡ drop done mid = take_all k (drop done mid) (omega (arith, length-drop done mid, left)) in
    let right_whole : take j (drop done x) ≡ drop done x = take_all j (drop done x) (omega (arith, length-drop done x, right)) in
    let none : drop k (drop done mid) ≡ [] = drop_all k (drop done mid) (omega (arith, length-drop done mid, left)) in
    let here : IsAddedUpto p a y x done mid = subst (λ (i : ℕ). IsAddedUpto p a y x i mid) upto (subst (λ (i : ℕ). IsAddedUpto i a y x n mid) same h) in
    ap (λ (z : List ℕ). take done mid ++ (rest ++ z)) none ∙ ap (λ (z : List ℕ). take done mid ++ z) (append-nil rest)
    ∙ whole_added p a done y x mid rest l le here (is ∙ ap₂ (plus_multiple p a) left_whole right_whole)
