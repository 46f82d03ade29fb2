-- Columns beside residues that are read one after another, as entries.
use Rattle.std.proofs.Common.{◌≡◌, ◌<◌, ◌≤◌, ℕ, List, get_or, length, take, sym, arith}
use Rattle.std.proofs.lemmas.List.{take_all}
use Rattle.row_store.specs.Entries.{entries_on, AreEntries, Entry}
use Rattle.row_store.proofs.Residues.{seen_within}
use Rattle.row_store.proofs.Tails.{entries_size, entry_at}

module _ (i : ℕ) (ns rs : List ℕ) (same : length ns ≡ length rs) where
  -- past the last one all entries are seen
  pub all_seen : length ns ≤ i → take i (entries_on ns rs) ≡ entries_on ns rs
  all_seen le = take_all i (entries_on ns rs) (omega (arith, le, entries_size ns rs same))

  module _ (lt : i < length ns) where
    -- the entry that is read next
    abbrev pub entry_now : Entry
    entry_now = record { column = get_or ns i 0; residue = get_or rs i 0 }

    -- there is one
    pub now_within : i < length (entries_on ns rs)
    now_within = omega (arith, lt, entries_size ns rs same)

    -- it stands at this place among the entries
    pub now_is : entry_now ≡ get_or (entries_on ns rs) i entry_now
    now_is = sym (entry_at i ns rs entry_now lt same)

    -- its column is one of all
    pub now_column : (p n : ℕ) → AreEntries p n (entries_on ns rs) → get_or ns i 0 < n
    now_column p n h = seen_within p n i (entries_on ns rs) entry_now h now_within now_is
