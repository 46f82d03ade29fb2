-- The residues of a row that are not 0, as it grows.
use Rattle.std.proofs.Common.{◌≡◌, ◌≢◌, ◌+◌, ◌<◌, ◌≤◌, ℕ, zero, suc, List, [], ◌∷◌, ◌++◌, length, get_or, replicate, set, take, refl, sym, ap, ap₂, ◌∙◌, arith}
use Rattle.std.proofs.lemmas.List.{append-nil, append_assoc, get_or-take, length-take-le, take_more}
use Rattle.back_reduce.specs.declared.entry.Entry.{Entry}
use Rattle.back_reduce.specs.Entries.{entries_row, with_entries, AreEntries}
use Rattle.back_reduce.specs.Listings.{entries_from, entries_of, entry_at}
use Rattle.back_reduce.proofs.EntryRows.{entries_row-other, length-entries_row, with_entries_more}

-- a residue 0 has no entry
pub entry_at-zero : (k r : ℕ) → r ≡ 0 → entry_at k r ≡ []
entry_at-zero k r none = ap (entry_at k) none

-- a residue other than 0 has one entry, with its column and itself
pub entry_at-other : (k r : ℕ) (e : Entry) → r ≢ 0 → e.column ≡ k → e.residue ≡ r → entry_at k r ≡ e ∷ []
entry_at-other k zero e other column residue = absurd (other refl)
entry_at-other k (suc r) e other column residue = ap₂ (λ (c s : ℕ). record { column = c; residue = s } ∷ []) (sym column) (sym residue)

-- the entries of a list that follows another stand behind those of the other, at columns counted on from its end
pub entries_from-append : (k : ℕ) (xs ys : List ℕ) → entries_from k (xs ++ ys) ≡ entries_from k xs ++ entries_from (k + length xs) ys
entries_from-append k [] ys = ap (λ (n : ℕ). entries_from n ys) (omega arith)
entries_from-append k (x ∷ xs) ys = ap (λ (l : List Entry). entry_at k x ++ l) (entries_from-append (suc k) xs ys
    ∙ ap (λ (n : ℕ). entries_from (suc k) xs ++ entries_from n ys) (omega arith))
    ∙ sym (append_assoc (entry_at k x) (entries_from (suc k) xs) (entries_from (k + length (x ∷ xs)) ys))

entries_from-zeros : (k : ℕ) (xs : List ℕ) → ((j : ℕ) → get_or xs j 0 ≡ 0) → entries_from k xs ≡ []
entries_from-zeros k [] none = refl
entries_from-zeros k (x ∷ xs) none = ap₂ ◌++◌ (entry_at-zero k x (none zero)) (entries_from-zeros (suc k) xs (λ j. none (suc j)))

-- one more residue, where the row is 0 from its column on
entries_from-set : (k : ℕ) (xs : List ℕ) (c r : ℕ) → c < length xs → ((j : ℕ) → c ≤ j → get_or xs j 0 ≡ 0) →
    entries_from k (set xs c r) ≡ entries_from k xs ++ entry_at (k + c) r
entries_from-set k [] c r within none = absurd (omega (arith, within))
entries_from-set k (x ∷ xs) zero r within none =
    let rest : entries_from (suc k) xs ≡ [] = entries_from-zeros (suc k) xs (λ j. none (suc j) (omega arith)) in
    ap (λ (l : List Entry). entry_at k r ++ l) rest ∙ append-nil (entry_at k r) ∙ ap (λ (n : ℕ). entry_at n r) (omega arith)
    ∙ sym (ap (λ (l : List Entry). l ++ entry_at (k + 0) r) (ap₂ ◌++◌ (entry_at-zero k x (none zero (omega arith))) rest))
entries_from-set k (x ∷ xs) (suc c) r within none =
    ap (λ (l : List Entry). entry_at k x ++ l) (entries_from-set (suc k) xs c r (omega (arith, within)) (λ j from. none (suc j) (omega (arith, from)))
    ∙ ap (λ (n : ℕ). entries_from (suc k) xs ++ entry_at n r) (omega arith))
    ∙ sym (append_assoc (entry_at k x) (entries_from (suc k) xs) (entry_at (k + suc c) r))

-- the row of zeros has no entries
pub entries_of-zeros : (m : ℕ) → entries_of (replicate m 0) ≡ []
entries_of-zeros m = entries_from-zeros 0 (replicate m 0) (λ j. entries_row-other m [] [] j (λ i within. absurd (omega (arith, within))))

-- one more listed residue of a row adds its entry behind the others, if it is not 0
pub entries_of-more : (m : ℕ) (columns residues : List ℕ) (i : ℕ) → AreEntries m columns residues → i < length columns →
    entries_of (with_entries (replicate m 0) (take (i + 1) columns) (take (i + 1) residues))
    ≡ entries_of (with_entries (replicate m 0) (take i columns) (take i residues)) ++ entry_at (get_or columns i 0) (get_or residues i 0)
entries_of-more m columns residues i h within =
    let part = entries_row m (take i columns) (take i residues) in
    let c = get_or columns i 0 in
    let short : length (take i columns) ≡ i = length-take-le i columns (omega (arith, within)) in
    ap entries_of (with_entries_more (replicate m 0) columns residues i h.same within)
    ∙ entries_from-set 0 part c (get_or residues i 0)
    (omega (arith, h.below i 0 within, length-entries_row m (take i columns) (take i residues)))
    (λ j from. entries_row-other m (take i columns) (take i residues) j (λ k inside is.
    omega (arith, is, from, h.rising k i 0 (omega (arith, inside, short)) within, get_or-take i columns k 0 (omega (arith, inside, short)))))
    ∙ ap (λ (n : ℕ). entries_of part ++ entry_at n (get_or residues i 0)) (omega arith)

-- one more column of a row adds its entry behind the others, if it is not 0
pub entries_of-take_more : (row : List ℕ) (at : ℕ) → at < length row →
    entries_of (take (at + 1) row) ≡ entries_of (take at row) ++ entry_at at (get_or row at 0)
entries_of-take_more row at within =
    ap entries_of (take_more row at 0 within) ∙ entries_from-append 0 (take at row) (get_or row at 0 ∷ [])
    ∙ ap (λ (l : List Entry). entries_of (take at row) ++ l) (append-nil (entry_at (0 + length (take at row)) (get_or row at 0)))
    ∙ ap (λ (n : ℕ). entries_of (take at row) ++ entry_at n (get_or row at 0)) (omega (arith, length-take-le at row (omega (arith, within))))
