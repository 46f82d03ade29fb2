-- Reducers as entries, and their tails by the numbers of their columns.
use Rattle.std.proofs.Common.{◌≡◌, ◌≢◌, ◌<◌, ℕ, zero, suc, Bool, cond, List, [], ◌∷◌, AllPairs, Option, None, Some, length, drop, get_or, map}
use Rattle.std.proofs.Common.{refl, sym, ap, ap₂, ◌∙◌, arith}
use Rattle.std.specs.List.{AllZip, Contains}
use Rattle.std.proofs.lemmas.List.{get_or_default, get_or-map}
use Rattle.std.proofs.lemmas.List.Elements.{All-head, All-tail}
use Rattle.std.proofs.lemmas.Option.{get_or_from_slice_get, slice_get_within}
use Rattle.words.specs.Order.{IsLetterwiseGreater}
use Rattle.words.proofs.Members.{AllPairs-first, AllPairs-rest}
use Rattle.free_poly.specs.declared.term.Term.{Term}
use Rattle.free_poly.proofs.Totals.{here, letterwise-apart, not_here}
use Rattle.ideal_laws.specs.Basis.{below_lead}
use Rattle.symbolic_prep.specs.Closed.{ClosedColumns}
use Rattle.symbolic_prep.specs.Numbers.{AreTerms}
use Rattle.row_store.specs.Contested.{IsOnColumns, IsReducing, MayReduce}
use Rattle.row_store.specs.Entries.{entries_on, entry_of, place_in, reducer_at, reducer_over, reducers_over, Entry, IsEntryOf, IsReducerOf}

-- as many columns as coefficients
pub tail_sizes : (columns : List (List ℕ)) (ns rs : List ℕ) (ts : List Term) → AreTerms columns ns rs ts → length ns ≡ length rs
tail_sizes columns [] [] [] h = refl
tail_sizes columns [] [] (t ∷ ts) h = absurd h
tail_sizes columns [] (r ∷ rs) ts h = absurd h
tail_sizes columns (n ∷ ns) [] ts h = absurd h
tail_sizes columns (n ∷ ns) (r ∷ rs) [] h = absurd h
tail_sizes columns (n ∷ ns) (r ∷ rs) (t ∷ ts) h = ap suc (tail_sizes columns ns rs ts h.2)

-- as many entries as columns
pub entries_size : (ns rs : List ℕ) → length ns ≡ length rs → length (entries_on ns rs) ≡ length ns
entries_size [] rs same = refl
entries_size (n ∷ ns) [] same = absurd (omega (arith, same))
entries_size (n ∷ ns) (r ∷ rs) same = ap suc (entries_size ns rs (omega (arith, same)))

-- each entry has its column and its residue
pub entry_at : (i : ℕ) (ns rs : List ℕ) (d : Entry) → i < length ns → length ns ≡ length rs →
    get_or (entries_on ns rs) i d ≡ record { column = get_or ns i 0; residue = get_or rs i 0 }
entry_at i [] rs d lt same = absurd (omega (arith, lt))
entry_at i (n ∷ ns) [] d lt same = absurd (omega (arith, same))
entry_at zero (n ∷ ns) (r ∷ rs) d lt same = refl
entry_at (suc i) (n ∷ ns) (r ∷ rs) d lt same = entry_at i ns rs d (omega (arith, lt)) (omega (arith, same))

-- of falling words each stands at one place
place_in-own : (columns : List (List ℕ)) (k : ℕ) → AllPairs IsLetterwiseGreater columns → k < length columns → place_in columns (get_or columns k []) ≡ k
place_in-own [] k falling lt = absurd (omega (arith, lt))
place_in-own (v ∷ vs) zero falling lt = ap (λ (b : Bool). cond b 0 (suc (place_in vs v))) (here v v refl)
place_in-own (v ∷ vs) (suc k) falling lt =
    let w = get_or vs k [] in
    let low : k < length vs = omega (arith, lt) in
    let apart : v ≢ w = letterwise-apart v w (AllPairs-first IsLetterwiseGreater v vs falling k [] low) in
    ap (λ (b : Bool). cond b 0 (suc (place_in vs w))) (not_here v w apart) ∙ ap suc (place_in-own vs k (AllPairs-rest IsLetterwiseGreater v vs falling) low)

module _ (columns : List (List ℕ)) (falling : AllPairs IsLetterwiseGreater columns) where
  place_of_word : (k : ℕ) (w : List ℕ) → k < length columns → get_or columns k [] ≡ w → place_in columns w ≡ k
  place_of_word k w lt is = ap (place_in columns) (sym is) ∙ place_in-own columns k falling lt

  entry_is : (t : Term) → Contains columns t.word → IsEntryOf columns (entry_of columns t) t
  entry_is t there =
      let k = there.0 in
      let is : get_or columns k [] ≡ t.word = get_or_default columns k [] t.word there.1 ∙ there.2 in
      let place : place_in columns t.word ≡ k = place_of_word k t.word there.1 is in
      record { within = omega (arith, place, there.1); word = ap (λ (n : ℕ). get_or columns n []) place ∙ is; residue = refl }

  entries_are : (f : List Term) → IsOnColumns columns f → AllZip (IsEntryOf columns) (map (entry_of columns) f) f
  entries_are [] on = tt
  entries_are (t ∷ f) on = (
    entry_is t (All-head (λ (s : Term). Contains columns s.word) t f on),
    entries_are f (All-tail (λ (s : Term). Contains columns s.word) t f on),
  )

  reducers_zip : (p : ℕ) (ws : List (List ℕ)) (gs : List (Option (List Term))) → AllZip (MayReduce p columns) ws gs →
      AllZip (IsReducerOf columns) (map (reducer_over columns) gs) gs
  reducers_zip p [] [] h = tt
  reducers_zip p [] (g ∷ gs) h = absurd h
  reducers_zip p (w ∷ ws) [] h = absurd h
  reducers_zip p (w ∷ ws) (None ∷ gs) h = (tt, reducers_zip p ws gs h.1)
  reducers_zip p (w ∷ ws) (Some f ∷ gs) h = (entries_are f h.0.on_columns, reducers_zip p ws gs h.1)

  tail_map : (ns rs : List ℕ) (ts : List Term) → AreTerms columns ns rs ts → entries_on ns rs ≡ map (entry_of columns) ts
  tail_map [] [] [] h = refl
  tail_map [] [] (t ∷ ts) h = absurd h
  tail_map [] (r ∷ rs) ts h = absurd h
  tail_map (n ∷ ns) [] ts h = absurd h
  tail_map (n ∷ ns) (r ∷ rs) [] h = absurd h
  tail_map (n ∷ ns) (r ∷ rs) (t ∷ ts) h =
      let place : place_in columns t.word ≡ n = place_of_word n t.word (slice_get_within columns n t.word h.0)
      (get_or_from_slice_get columns n t.word [] h.0) in
      let own : record { column = n; residue = r } ≡ entry_of columns t =
      ap₂ (λ (c x : ℕ). let e : Entry = record { column = c; residue = x } in e) (sym place) h.1 in
      ap₂ (λ (e : Entry) (es : List Entry). e ∷ es) own (tail_map ns rs ts h.2)

  -- the tail is what the reducer has behind its first entry
  pub tail_same : (f : List Term) (ns rs : List ℕ) → AreTerms columns ns rs (below_lead f) → entries_on ns rs ≡ drop 1 (map (entry_of columns) f)
  tail_same [] ns rs h = tail_map ns rs [] h
  tail_same (t ∷ f) ns rs h = tail_map ns rs f h

-- each column has its reducer as entries, or none where it has none
pub reducers_are : (p : ℕ) (closed : ClosedColumns) → IsReducing p closed → AllZip (IsReducerOf closed.columns) (reducers_over closed) closed.reducers
reducers_are p closed h = reducers_zip closed.columns h.falling p closed.columns closed.reducers h.reducers

-- a column with a reducer has its terms as entries
pub reducer_some : (closed : ClosedColumns) (k : ℕ) (f : List Term) → k < length closed.reducers → get_or closed.reducers k None ≡ Some f →
    reducer_at (reducers_over closed) k ≡ Some (record { entries = map (entry_of closed.columns) f })
reducer_some closed k f lt is = get_or-map (reducer_over closed.columns) closed.reducers k None None lt ∙ ap (reducer_over closed.columns) is

-- a column without a reducer has no entries
pub reducer_none : (closed : ClosedColumns) (k : ℕ) → k < length closed.reducers → get_or closed.reducers k None ≡ None →
    reducer_at (reducers_over closed) k ≡ None
reducer_none closed k lt is = get_or-map (reducer_over closed.columns) closed.reducers k None None lt ∙ ap (reducer_over closed.columns) is
