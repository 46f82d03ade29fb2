-- Rows that are told by residues at listed columns.
use Rattle.std.proofs.Common.{◌≡◌, ◌≢◌, ◌+◌, ◌<◌, ℕ, zero, suc, List, [], ◌∷◌, ◌++◌, All, AllPairs, length, get_or, map, replicate, set, take, refl}
use Rattle.std.proofs.Common.{sym, ap, ap₂, ◌∙◌, inl, inr, arith, subst}
use Rattle.std.proofs.lemmas.Bool.{cases_eq, cases_lt}
use Rattle.std.proofs.lemmas.List.{get_or_default, get_or-replicate, get_or-set_other, get_or-set_same, get_or_past, length-replicate, length-set}
use Rattle.std.proofs.lemmas.List.{map-set, take_more}
use Rattle.back_reduce.specs.declared.form.Form.{Form}
use Rattle.back_reduce.specs.declared.form.Form.TheVariants as form
use Rattle.back_reduce.specs.declared.form.Listed.{Listed}
use Rattle.back_reduce.specs.Entries.{entries_row, with_entries, AreEntries}
use Rattle.back_reduce.specs.Forms.{row_in}

-- residues that are put into a row leave its length as it is
pub length-with_entries : (row columns residues : List ℕ) → length (with_entries row columns residues) ≡ length row
length-with_entries row [] residues = refl
length-with_entries row (c ∷ columns) [] = refl
length-with_entries row (c ∷ columns) (r ∷ residues) = length-with_entries (set row c r) columns residues ∙ length-set row c r

-- the row of m residues that is told by listed columns has length m
pub length-entries_row : (m : ℕ) (columns residues : List ℕ) → length (entries_row m columns residues) ≡ m
length-entries_row m columns residues = length-with_entries (replicate m 0) columns residues ∙ length-replicate {A = ℕ} m 0

-- to put in one more residue behind the others is to set it last
pub with_entries_push : (row columns residues : List ℕ) (c r : ℕ) → length residues ≡ length columns →
    with_entries row (columns ++ c ∷ []) (residues ++ r ∷ []) ≡ set (with_entries row columns residues) c r
with_entries_push row [] [] c r l = refl
with_entries_push row [] (s ∷ residues) c r l = absurd (omega (arith, l))
with_entries_push row (d ∷ columns) [] c r l = absurd (omega (arith, l))
with_entries_push row (d ∷ columns) (s ∷ residues) c r l = with_entries_push (set row d s) columns residues c r (omega (arith, l))

length-take_same : (xs ys : List ℕ) (k : ℕ) → length xs ≡ length ys → length (take k xs) ≡ length (take k ys)
length-take_same xs ys zero l = refl
length-take_same [] [] (suc k) l = refl
length-take_same [] (y ∷ ys) (suc k) l = absurd (omega (arith, l))
length-take_same (x ∷ xs) [] (suc k) l = absurd (omega (arith, l))
length-take_same (x ∷ xs) (y ∷ ys) (suc k) l = ap suc (length-take_same xs ys k (omega (arith, l)))

-- to put in the first k + 1 residues is to put in the first k and to set the next
pub with_entries_more : (row columns residues : List ℕ) (k : ℕ) → length residues ≡ length columns → k < length columns →
    with_entries row (take (k + 1) columns) (take (k + 1) residues)
    ≡ set (with_entries row (take k columns) (take k residues)) (get_or columns k 0) (get_or residues k 0)
with_entries_more row columns residues k l within =
    ap₂ (with_entries row) (take_more columns k 0 within) (take_more residues k 0 (omega (arith, l, within)))
    ∙ with_entries_push row (take k columns) (take k residues) (get_or columns k 0) (get_or residues k 0) (length-take_same residues columns k l)

-- a column that is not listed keeps what it has
pub with_entries-other : (row columns residues : List ℕ) (k : ℕ) → ((i : ℕ) → i < length columns → get_or columns i 0 ≢ k) →
    get_or (with_entries row columns residues) k 0 ≡ get_or row k 0
with_entries-other row [] residues k other = refl
with_entries-other row (c ∷ columns) [] k other = refl
with_entries-other row (c ∷ columns) (r ∷ residues) k other =
    with_entries-other (set row c r) columns residues k (λ i within. other (suc i) (omega (arith, within)))
    ∙ get_or-set_other row c k r 0 (λ is. other zero (omega arith) (sym is))

get_or-zeros : (m k : ℕ) → get_or {A = ℕ} (replicate m 0) k 0 ≡ 0
get_or-zeros m k = elim (cases_lt k m) [
  | inl within ↦ get_or-replicate {A = ℕ} m k 0 0 within
  | inr past ↦ get_or_past {X = ℕ} (replicate m 0) k 0 (omega (arith, past, length-replicate {A = ℕ} m 0))
]

-- a column that is not listed has 0
pub entries_row-other : (m : ℕ) (columns residues : List ℕ) (k : ℕ) → ((i : ℕ) → i < length columns → get_or columns i 0 ≢ k) →
    get_or (entries_row m columns residues) k 0 ≡ 0
entries_row-other m columns residues k other = with_entries-other (replicate m 0) columns residues k other ∙ get_or-zeros m k

-- a column where only 0 is listed has 0
with_entries_zero : (row columns residues : List ℕ) (k : ℕ) → get_or row k 0 ≡ 0 →
    ((i : ℕ) → i < length columns → get_or columns i 0 ≡ k → get_or residues i 0 ≡ 0) → get_or (with_entries row columns residues) k 0 ≡ 0
with_entries_zero row [] residues k none zeros = none
with_entries_zero row (c ∷ columns) [] k none zeros = none
with_entries_zero row (c ∷ columns) (r ∷ residues) k none zeros =
    with_entries_zero (set row c r) columns residues k
    (elim (cases_eq k c) [
      | inl is ↦ elim (cases_lt c (length row)) [
        | inl within ↦ ap (λ (i : ℕ). get_or (set row c r) i 0) is ∙ get_or-set_same row c r 0 within ∙ zeros zero (omega arith) (sym is)
        | inr past ↦ get_or_past (set row c r) k 0 (omega (arith, past, is, length-set row c r))
      ]
      | inr other ↦ get_or-set_other row c k r 0 other ∙ none
    ])
    (λ i within is. zeros (suc i) (omega (arith, within)) is)

-- a column has 0 where no residue but 0 is listed for it
pub entries_row_zero : (m : ℕ) (columns residues : List ℕ) (k : ℕ) →
    ((i : ℕ) → i < length columns → get_or columns i 0 ≡ k → get_or residues i 0 ≡ 0) → get_or (entries_row m columns residues) k 0 ≡ 0
entries_row_zero m columns residues k zeros = with_entries_zero (replicate m 0) columns residues k (get_or-zeros m k) zeros

-- a listed column has its residue
with_entries-at : (row columns residues : List ℕ) (i : ℕ) → length residues ≡ length columns → AllPairs (λ c d. c < d) columns →
    All (λ c. c < length row) columns → i < length columns → get_or (with_entries row columns residues) (get_or columns i 0) 0 ≡ get_or residues i 0
with_entries-at row [] residues i l rising below within = absurd (omega (arith, within))
with_entries-at row (c ∷ columns) [] i l rising below within = absurd (omega (arith, l))
with_entries-at row (c ∷ columns) (r ∷ residues) zero l rising below within =
    with_entries-other (set row c r) columns residues c (λ i inside is.
    omega (arith, rising zero (suc i) 0 (omega arith) (omega (arith, inside)), is))
    ∙ get_or-set_same row c r 0 (below zero 0 (omega arith))
with_entries-at row (c ∷ columns) (r ∷ residues) (suc i) l rising below within =
    with_entries-at (set row c r) columns residues i (omega (arith, l))
    (λ j k d less inside. rising (suc j) (suc k) d (omega (arith, less)) (omega (arith, inside)))
    (λ k d inside. subst (λ (n : ℕ). get_or columns k d < n) (sym (length-set row c r)) (below (suc k) d (omega (arith, inside))))
    (omega (arith, within))

-- a listed column has its residue, where the columns rise and are below m
pub entries_row-at : (m : ℕ) (columns residues : List ℕ) (i : ℕ) → AreEntries m columns residues → i < length columns →
    get_or (entries_row m columns residues) (get_or columns i 0) 0 ≡ get_or residues i 0
entries_row-at m columns residues i h within =
    with_entries-at (replicate m 0) columns residues i h.same h.rising
    (λ k d inside. omega (arith, h.below k d inside, length-replicate {A = ℕ} m 0)) within

-- listed residues are below p where those of the row that is told by them are
pub entries-residues : (p m : ℕ) (columns residues : List ℕ) → AreEntries m columns residues → All (λ r. r < p) (entries_row m columns residues)
    → All (λ r. r < p) residues
entries-residues p m columns residues h all i d within =
    let listed : i < length columns = omega (arith, within, h.same) in
    subst (λ (n : ℕ). n < p) (entries_row-at m columns residues i h listed ∙ get_or_default residues i 0 d within)
    (all (get_or columns i 0) 0 (omega (arith, h.below i 0 listed, length-entries_row m columns residues)))

map-with_entries : (f : ℕ → ℕ) (row columns residues : List ℕ) → map f (with_entries row columns residues) ≡ with_entries (map f row) columns (map f residues)
map-with_entries f row [] residues = refl
map-with_entries f row (c ∷ columns) [] = refl
map-with_entries f row (c ∷ columns) (r ∷ residues) = map-with_entries f (set row c r) columns residues
    ∙ ap (λ (x : List ℕ). with_entries x columns (map f residues)) (map-set f row c r)

map-zeros : (f : ℕ → ℕ) (m : ℕ) → f 0 ≡ 0 → map f (replicate m 0) ≡ replicate m 0
map-zeros f zero none = refl
map-zeros f (suc m) none = ap₂ ◌∷◌ none (map-zeros f m none)

-- a function that keeps 0 goes to the listed residues alone
pub map-entries_row : (f : ℕ → ℕ) (m : ℕ) (columns residues : List ℕ) → f 0 ≡ 0 →
    map f (entries_row m columns residues) ≡ entries_row m columns (map f residues)
map-entries_row f m columns residues none = map-with_entries f (replicate m 0) columns residues
    ∙ ap (λ (x : List ℕ). with_entries x columns (map f residues)) (map-zeros f m none)

-- a row that is held by listed residues has the width of the list as its length
pub listed_width : (held : Form) (listed : Listed) (row : List ℕ) → row_in held ≡ row → held ≡ form.Listed listed → length row ≡ listed.width
listed_width held listed row view is =
    ap length (sym view ∙ ap row_in is) ∙ length-entries_row listed.width listed.columns.items listed.residues.items
