-- What is held beside rising places, as cells.
use Rattle.std.proofs.Common.{◌≡◌, ◌+◌, ◌<◌, ◌≤◌, ℕ, List, [], ◌∷◌, ◌++◌, length, length-append, get_or, refl, replicate, set, sym, ap, ap₂, ◌∙◌, arith}
use Rattle.std.proofs.lemmas.List.Elements.{All-append, All-cons, All-nil}
use Rattle.std.proofs.lemmas.List.Quantifiers.{all_pairs_push}
use Rattle.words.proofs.Members.{AllPairs-nil}
use Rattle.row_store.specs.declared.left.Left.{Left}
use Rattle.back_reduce.specs.Entries.{entries_row, AreEntries}
use Rattle.back_reduce.proofs.EntryRows.{entries_row-other, length-entries_row, with_entries_push}
use Rattle.row_store.specs.Sums.{cells_of}

-- nothing is held at first
pub held_none : (bound : ℕ) (left : Left) → left.places.items ≡ [] → left.residues.items ≡ [] → AreEntries bound left.places.items left.residues.items
held_none bound left places residues = rw (places, residues) nothing
  where
    nothing : AreEntries bound [] []
    nothing = record { same = refl; rising = AllPairs-nil (λ (c d : ℕ). c < d); below = All-nil (λ c. c < bound) }

-- what is held below a bound is held below a greater one
pub held_later : (low high : ℕ) (places residues : List ℕ) → low ≤ high → AreEntries low places residues → AreEntries high places residues
held_later low high places residues le h = record {
  same = h.same;
  rising = h.rising;
  below = λ k d lt. (let own = h.below k d lt in omega (arith, own, le));
}

-- there are as many cells as places
pub length-cells_of : (m : ℕ) (left : Left) → length (cells_of m left) ≡ m
length-cells_of m left = length-entries_row m left.places.items left.residues.items

module _ (place : ℕ) (left : Left) (h : AreEntries place left.places.items left.residues.items) where
  -- no place behind has a residue
  pub cells_of-past : (m k : ℕ) → place ≤ k → get_or (cells_of m left) k 0 ≡ 0
  cells_of-past m k past = entries_row-other m left.places.items left.residues.items k
      (λ i lt. (let own = h.below i 0 lt in λ same. omega (arith, own, same, past)))

  -- one more residue is held, at a later place
  module _ (next : Left) (a : ℕ) (places : next.places.items ≡ left.places.items ++ place ∷ [])
      (residues : next.residues.items ≡ left.residues.items ++ a ∷ []) where
    -- what is held then lies below the next place
    pub held_push : AreEntries (place + 1) next.places.items next.residues.items
    held_push = rw (places, residues) grown
      where
        grown : AreEntries (place + 1) (left.places.items ++ place ∷ []) (left.residues.items ++ a ∷ [])
        grown = record {
          same = length-append left.residues.items (a ∷ []) ∙ ap (λ (n : ℕ). n + 1) h.same ∙ sym (length-append left.places.items (place ∷ []));
          rising = all_pairs_push (λ (c d : ℕ). c < d) left.places.items place h.rising h.below;
          below = All-append (λ c. c < place + 1) left.places.items (place ∷ []) (λ k d lt. (let own = h.below k d lt in omega (arith, own)))
              (All-cons (λ c. c < place + 1) place [] (omega arith) (All-nil (λ c. c < place + 1)));
        }

    -- its cell is written
    pub cells_of-push : (m : ℕ) → cells_of m next ≡ set (cells_of m left) place a
    cells_of-push m = ap₂ (λ (cs rs : List ℕ). entries_row m cs rs) places residues
        ∙ with_entries_push (replicate m 0) left.places.items left.residues.items place a h.same
