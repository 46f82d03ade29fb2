-- What is read off residues at listed columns, and how these are listed.
use Rattle.std.proofs.Common.{◌≡◌, ◌≢◌, ◌+◌, ◌*◌, ◌%◌, ◌<◌, ◌≤◌, ℕ, zero, suc, List, [], ◌∷◌, ◌++◌, All, AllPairs, length, get_or, replicate, set, take}
use Rattle.std.proofs.Common.{refl, sym, ap, ap₂, ◌∙◌, inl, inr, arith, subst, add-zero, mul-zero}
use Rattle.std.proofs.Math.Nat.{mod-eq_of_lt}
use Rattle.std.proofs.lemmas.Bool.{cases_eq, cases_lt}
use Rattle.std.proofs.lemmas.List.{ext_get_or, get_or_default, get_or-set_other, get_or-set_same, get_or-take, length-take-le, length_push}
use Rattle.std.proofs.lemmas.List.Elements.{All-push}
use Rattle.std.proofs.lemmas.List.Quantifiers.{all_pairs_push}
use Rattle.field_table.specs.Residues.{plus_multiple}
use Rattle.field_table.proofs.Multiples.{plus_multiple-residues}
use Rattle.back_reduce.specs.Entries.{entries_row, with_entries, AreEntries, IsLead}
use Rattle.back_reduce.proofs.EntryRows.{entries_row-at, entries_row-other, entries_row_zero, length-entries_row, with_entries_more, with_entries_push}
use Rattle.field_table.proofs.Multiples.{length-plus_multiple}

-- where the first residue other than 0 is listed, the row leads at its column
pub lead_listed : (m : ℕ) (columns residues : List ℕ) (i : ℕ) → AreEntries m columns residues → i < length columns → get_or residues i 0 ≢ 0 →
    ((j : ℕ) → j < i → get_or residues j 0 ≡ 0) → IsLead (entries_row m columns residues) (get_or columns i 0)
lead_listed m columns residues i h within other zeros = record {
  within = omega (arith, h.below i 0 within, length-entries_row m columns residues);
  other = λ is. other (sym (entries_row-at m columns residues i h within) ∙ is);
  before = λ k lt. entries_row_zero m columns residues k (λ j inside is. elim (cases_lt j i) [
    | inl less ↦ zeros j less
    | inr from ↦ elim (cases_eq j i) [
      | inl same ↦ absurd (omega (arith, lt, sym is, ap (λ (n : ℕ). get_or columns n 0) same))
      | inr apart ↦ absurd (omega (arith, lt, is, h.rising i j 0 (omega (arith, from, apart)) inside))
    ]
  ]);
}

zero_everywhere : (row : List ℕ) → ((k : ℕ) → get_or row k 0 ≡ 0) → All (λ r. r ≡ 0) row
zero_everywhere row none k d within = get_or_default row k d 0 within ∙ none k

-- a row is 0 where all its listed residues are
pub none_listed : (m : ℕ) (columns residues : List ℕ) → ((i : ℕ) → i < length columns → get_or residues i 0 ≡ 0) →
    All (λ r. r ≡ 0) (entries_row m columns residues)
none_listed m columns residues zeros =
    zero_everywhere (entries_row m columns residues) (λ k. entries_row_zero m columns residues k (λ i within is. zeros i within))

-- the residues at the first columns of a row are listed, but for zeros
pub record IsListedUpto (row : List ℕ) (at : ℕ) (columns residues : List ℕ) : Type 0 where
  -- a residue for each listed column
  pub same : length residues ≡ length columns
  -- the listed columns rise
  pub rising : AllPairs (λ c d. c < d) columns
  -- they are below the next column
  pub below : All (λ c. c < at) columns
  -- the row that is told by them is the given one at all columns before that
  pub done : (k : ℕ) → k < at → get_or (entries_row (length row) columns residues) k 0 ≡ get_or row k 0

not_yet : (at k : ℕ) (columns : List ℕ) → All (λ c. c < at) columns → at ≤ k → (i : ℕ) → i < length columns → get_or columns i 0 ≢ k
not_yet at k columns below from i within is = omega (arith, below i 0 within, from, is)

-- a residue that is listed with its column counts as done
pub listed_more : (row : List ℕ) (at : ℕ) (columns residues : List ℕ) → at < length row → IsListedUpto row at columns residues →
    IsListedUpto row (at + 1) (columns ++ at ∷ []) (residues ++ get_or row at 0 ∷ [])
listed_more row at columns residues within h =
    let m = length row in
    let r = get_or row at 0 in
    let grown : entries_row m (columns ++ at ∷ []) (residues ++ r ∷ []) ≡ set (entries_row m columns residues) at r =
    with_entries_push (replicate m 0) columns residues at r h.same in
    record {
      same = omega (arith, h.same, length_push columns at, length_push residues r);
      rising = all_pairs_push (λ c d. c < d) columns at h.rising h.below;
      below = All-push (λ c. c < at + 1) columns at (λ k d inside. omega (arith, h.below k d inside)) (omega arith);
      done = λ k lt. ap (λ (l : List ℕ). get_or l k 0) grown ∙ elim (cases_eq k at) [
        | inl is ↦ ap (λ (i : ℕ). get_or (set (entries_row m columns residues) at r) i 0) is
            ∙ get_or-set_same (entries_row m columns residues) at r 0 (omega (arith, within, length-entries_row m columns residues))
            ∙ ap (λ (i : ℕ). get_or row i 0) (sym is)
        | inr other ↦ get_or-set_other (entries_row m columns residues) at k r 0 other ∙ h.done k (omega (arith, lt, other))
      ];
    }

-- a residue 0 is done without being listed
pub listed_same : (row : List ℕ) (at : ℕ) (columns residues : List ℕ) → get_or row at 0 ≡ 0 → IsListedUpto row at columns residues →
    IsListedUpto row (at + 1) columns residues
listed_same row at columns residues none h = record {
  same = h.same;
  rising = h.rising;
  below = λ k d inside. omega (arith, h.below k d inside);
  done = λ k lt. elim (cases_eq k at) [
    | inl is ↦ entries_row-other (length row) columns residues k (not_yet at k columns h.below (omega (arith, is)))
        ∙ sym (ap (λ (i : ℕ). get_or row i 0) is ∙ none)
    | inr other ↦ h.done k (omega (arith, lt, other))
  ];
}

-- once all columns are done, the row that is told by the listed ones is the row itself
pub listed_all : (row : List ℕ) (columns residues : List ℕ) → IsListedUpto row (length row) columns residues → entries_row (length row) columns residues ≡ row
listed_all row columns residues h = ext_get_or 0 (entries_row (length row) columns residues) row (length-entries_row (length row) columns residues)
    (λ i within. h.done i (omega (arith, within, length-entries_row (length row) columns residues)))

-- a multiple of a row with a residue set where it was 0 is the multiple of the row with a times the residue added there
pub plus_multiple-set : (p a : ℕ) (y x : List ℕ) (c r : ℕ) → length y ≡ length x → c < length y → get_or x c 0 ≡ 0 → get_or y c 0 < p →
    plus_multiple p a y (set x c r) ≡ set (plus_multiple p a y x) c ((get_or (plus_multiple p a y x) c 0 + a * r) % p)
plus_multiple-set p a [] x c r l within none lt = absurd (omega (arith, within))
plus_multiple-set p a (t ∷ y) [] c r l within none lt = absurd (omega (arith, l))
plus_multiple-set p a (t ∷ y) (s ∷ x) zero r l within none lt =
    let kept : (t + a * s) % p ≡ t = ap (λ (n : ℕ). (t + a * n) % p) none ∙ ap (λ (n : ℕ). (t + n) % p) (mul-zero a)
    ∙ ap (λ (n : ℕ). n % p) (add-zero t) ∙ mod-eq_of_lt lt in
    ap (λ (n : ℕ). (n + a * r) % p ∷ plus_multiple p a y x) (sym kept)
plus_multiple-set p a (t ∷ y) (s ∷ x) (suc c) r l within none lt =
    ap (λ (rest : List ℕ). (t + a * s) % p ∷ rest) (plus_multiple-set p a y x c r (omega (arith, l)) (omega (arith, within)) none lt)

-- a multiple of the row of zeros leaves a row of residues as it is
pub plus_multiple-zeros : (p a : ℕ) (y : List ℕ) → All (λ r. r < p) y → plus_multiple p a y (replicate (length y) 0) ≡ y
plus_multiple-zeros p a [] residues = refl
plus_multiple-zeros p a (t ∷ y) residues =
    ap₂ ◌∷◌ (ap (λ (n : ℕ). (t + n) % p) (mul-zero a) ∙ ap (λ (n : ℕ). n % p) (add-zero t) ∙ mod-eq_of_lt (residues zero 0 (omega arith)))
    (plus_multiple-zeros p a y (λ k d within. residues (suc k) d (omega (arith, within))))

-- a multiple of a row of which the first residues alone are listed
module _ (p a m i : ℕ) (into first columns residues : List ℕ) where
  abbrev part : List ℕ
  part = with_entries (replicate m 0) (take i columns) (take i residues)

  -- a row with a multiple of the part added has residues below p
  pub plus_multiple-part_residues : 0 < p → length first ≡ m → into ≡ plus_multiple p a first part → (k d : ℕ) → k < length first → get_or into k d < p
  plus_multiple-part_residues pos size is k d within =
      subst (λ (l : List ℕ). get_or l k d < p) (sym is)
      (plus_multiple-residues p a first part pos (size ∙ sym (length-entries_row m (take i columns) (take i residues))) k d
      (omega (arith, within, length-plus_multiple p a first part)))

  -- a multiple of the part with one more of its residues is that of the part with a times this residue added at its column
  pub plus_multiple-part : AreEntries m columns residues → i < length columns → length first ≡ m → All (λ r. r < p) first →
      into ≡ plus_multiple p a first part →
      set into (get_or columns i 0) ((get_or into (get_or columns i 0) 0 + a * get_or residues i 0) % p)
      ≡ plus_multiple p a first (with_entries (replicate m 0) (take (i + 1) columns) (take (i + 1) residues))
  plus_multiple-part h within size all is =
      let c = get_or columns i 0 in
      let r = get_or residues i 0 in
      let below : c < m = h.below i 0 within in
      let short : length (take i columns) ≡ i = length-take-le i columns (omega (arith, within)) in
      let none : get_or part c 0 ≡ 0 = entries_row-other m (take i columns) (take i residues) c (λ j inside same.
      omega (arith, same, h.rising j i 0 (omega (arith, inside, short)) within, get_or-take i columns j 0 (omega (arith, inside, short)))) in
      ap (λ (l : List ℕ). set l c ((get_or l c 0 + a * r) % p)) is
      ∙ sym (plus_multiple-set p a first part c r (size ∙ sym (length-entries_row m (take i columns) (take i residues)))
      (omega (arith, below, size)) none (all c 0 (omega (arith, below, size))))
      ∙ ap (plus_multiple p a first) (sym (with_entries_more (replicate m 0) columns residues i h.same within))
