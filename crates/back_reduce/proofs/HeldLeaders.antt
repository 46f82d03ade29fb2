-- The held columns and rows of pivots as leaders.
use Rattle.std.proofs.Common.{◌≡◌, ◌↔◌, true, false, ◌+◌, ◌<◌, ◌≤◌, ℕ, zero, suc, List, [], ◌∷◌, ◌++◌, All, AllPairs, Option, None, Some, map, length}
use Rattle.std.proofs.Common.{get_or, refl, sym, ap, ◌∙◌, arith, subst}
use Rattle.std.specs.Option.{is_some}
use Rattle.std.specs.List.{flat_map, range_with_len}
use Rattle.std.proofs.lemmas.List.{append-nil, get_or-map, length-map, map-id, map_push}
use Rattle.std.proofs.lemmas.List.Concat.{flat_map-append}
use Rattle.std.proofs.lemmas.List.Elements.{All-cons, All-nil, All-weaker}
use Rattle.std.proofs.lemmas.List.FromFn.{get_or-map-range_with_len, length-map-range_with_len, map-range_with_len_more}
use Rattle.std.proofs.lemmas.List.Kept.{AllPairs-cons}
use Rattle.back_reduce.specs.declared.echelon.Leader.{Leader}
use Rattle.back_reduce.specs.declared.problem.Problem.{Problem}
use Rattle.back_reduce.specs.Leaders.{AreLeaders, AreLeadersOf}
use Rattle.back_reduce.specs.Pivots.{held_columns, held_row, held_rows, where_held, ArePivots, IsHolder}
use Rattle.back_reduce.specs.Problems.{rows_of}
use Rattle.back_reduce.specs.Rows.{IsInRowSpan}
use Rattle.back_reduce.specs.Table.{IsLeader}

module _ (holder : ℕ → Option ℕ) where
  -- a held column from a on, below the end
  abbrev pub IsHeldFrom : ℕ → ℕ → ℕ → Type 0
  IsHeldFrom a end c = (a ≤ c) × (c < end) × ((r : ℕ) × (holder c ≡ Some r))

  -- held columns, rising
  record AreRising (a end : ℕ) (columns : List ℕ) : Type 0 where
    each : All (IsHeldFrom a end) columns
    pairs : AllPairs (λ c d. c < d) columns

  rising_later : (a end : ℕ) (columns : List ℕ) → AreRising (a + 1) end columns → AreRising a end columns
  rising_later a end columns h = record {
    each = All-weaker (IsHeldFrom (a + 1) end) (IsHeldFrom a end)
        (λ c k. (omega (arith, k.0), k.1, k.2)) columns h.each;
    pairs = h.pairs;
  }

  rising_step : (a end : ℕ) (x : Option ℕ) (columns : List ℕ) → holder a ≡ x → a < end → AreRising (a + 1) end columns →
      AreRising a end (where_held x a ++ columns)
  rising_step a end None columns e lt h = rising_later a end columns h
  rising_step a end (Some r) columns e lt h = (
      let later = rising_later a end columns h in
      record {
        each = All-cons (IsHeldFrom a end) a columns (omega arith, lt, (r, e)) later.each;
        pairs = AllPairs-cons (λ c d. c < d) a columns (λ k d within. omega (arith, (h.each k d within).0)) h.pairs;
      })

  rising : (a n end : ℕ) → a + n ≤ end → AreRising a end (flat_map (λ c. where_held (holder c) c) (range_with_len a n))
  rising a zero end le = record { each = All-nil (IsHeldFrom a end); pairs = λ i j d below within. absurd (omega (arith, within)) }
  rising a (suc n) end le = rising_step a end (holder a) (flat_map (λ c. where_held (holder c) c) (range_with_len (a + 1) n)) refl
      (omega (arith, le)) (rising (a + 1) n end (omega (arith, le)))

  -- each of the held columns is below m and has a holder
  pub held_each : (m : ℕ) → All (IsHeldFrom 0 m) (held_columns m holder)
  held_each m = (rising 0 m m (omega arith)).each

  -- the held columns rise
  pub held_rising : (m : ℕ) → AllPairs (λ c d. c < d) (held_columns m holder)
  held_rising m = (rising 0 m m (omega arith)).pairs

-- the row of a held column leads there
pub holder_leader : (p m n : ℕ) (value : ℕ → ℕ → ℕ) (c r : ℕ) → c < m → IsHolder p m n (value c) c r → IsLeader p m c (held_row m value c)
holder_leader p m n value c r lt h = record {
  size = length-map-range_with_len (value c) 0 m;
  residues = λ k d within. (let inside : k < m = omega (arith, within, length-map-range_with_len (value c) 0 m) in
      subst (λ (i : ℕ). i < p) (sym (get_or-map-range_with_len (value c) 0 m k k d inside (omega arith))) (h.residues k inside));
  one = get_or-map-range_with_len (value c) 0 m c c 0 lt (omega arith) ∙ h.one;
  before = λ k below. get_or-map-range_with_len (value c) 0 m k k 0 (omega (arith, below, lt)) (omega arith) ∙ h.before k below;
}

-- leaders with the held columns and rows of pivots are rows that lead at rising columns
pub leaders_are : (problem : Problem) (holder : ℕ → Option ℕ) (value : ℕ → ℕ → ℕ) (leaders : List Leader) → ArePivots problem holder value
    → map (λ l. l.column) leaders ≡ held_columns problem.m holder → map (λ l. l.row) leaders ≡ held_rows problem.m holder value →
    AreLeaders problem.modulus problem.m leaders
leaders_are problem holder value leaders h columns rows =
    let m = problem.m in
    let count : length (held_columns m holder) ≡ length leaders = ap length (sym columns) ∙ length-map leaders (λ l. l.column) in
    let column : (k : ℕ) (d : Leader) → k < length leaders → (get_or leaders k d).column ≡ get_or (held_columns m holder) k 0 =
    λ k d within. sym (get_or-map (λ (l : Leader). l.column) leaders k d 0 within) ∙ ap (λ (l : List ℕ). get_or l k 0) columns in
    let row : (k : ℕ) (d : Leader) → k < length leaders → (get_or leaders k d).row ≡ held_row m value (get_or (held_columns m holder) k 0) =
    λ k d within. sym (get_or-map (λ (l : Leader). l.row) leaders k d [] within) ∙ ap (λ (l : List (List ℕ)). get_or l k []) rows
    ∙ get_or-map (held_row m value) (held_columns m holder) k 0 [] (omega (arith, within, count)) in
    record {
      each = λ k d within. (
          let c = get_or (held_columns m holder) k 0 in
          let held = held_each holder m k 0 (omega (arith, within, count)) in
          let leader : IsLeader problem.modulus m c (held_row m value c) =
          holder_leader problem.modulus m problem.n value c held.2.0 held.1 (h.each c held.2.0 held.1 held.2.1) in
          subst (λ (i : ℕ). IsLeader problem.modulus m i (get_or leaders k d).row) (sym (column k d within))
          (subst (IsLeader problem.modulus m c) (sym (row k d within)) leader));
      rising = λ i j d below within. omega (
        arith,
        column i d (omega (arith, below, within)),
        column j d within,
        held_rising holder m i j 0 below (omega (arith, within, count)),
      );
    }

-- leaders with the held columns and rows of pivots are all that leads in the span of the problem's rows
pub leaders_of_pivots : (problem : Problem) (holder : ℕ → Option ℕ) (value : ℕ → ℕ → ℕ) (leaders : List Leader) → ArePivots problem holder value
    → map (λ l. l.column) leaders ≡ held_columns problem.m holder → map (λ l. l.row) leaders ≡ held_rows problem.m holder value →
    AreLeadersOf problem leaders
leaders_of_pivots problem holder value leaders h columns rows = record {
  are = leaders_are problem holder value leaders h columns rows;
  span = λ modulus v. subst (λ (l : List (List ℕ)). IsInRowSpan problem.modulus modulus l v ↔ IsInRowSpan problem.modulus modulus
      (rows_of problem) v) (sym rows) (h.span modulus v);
}

-- one more column of those below a bound
held_more : (holder : ℕ → Option ℕ) (n : ℕ) → held_columns (n + 1) holder ≡ held_columns n holder ++ where_held (holder n) n
held_more holder n =
    let more : range_with_len 0 (n + 1) ≡ range_with_len 0 n ++ n ∷ [] =
    sym (map-id (range_with_len 0 (n + 1))) ∙ map-range_with_len_more (λ (c : ℕ). c) 0 n n (omega arith)
    ∙ ap (λ (l : List ℕ). l ++ n ∷ []) (map-id (range_with_len 0 n)) in
    let g : ℕ → List ℕ = λ c. where_held (holder c) c in
    ap (flat_map g) more ∙ flat_map-append g (range_with_len 0 n) (n ∷ [])
    ∙ ap (λ (l : List ℕ). held_columns n holder ++ l) (append-nil (where_held (holder n) n))

held_pushed : (n : ℕ) (x : Option ℕ) → is_some x ≡ true → where_held x n ≡ n ∷ []
held_pushed n None e = cc e
held_pushed n (Some r) e = refl

held_kept : (n : ℕ) (x : Option ℕ) → is_some x ≡ false → where_held x n ≡ []
held_kept n None e = refl
held_kept n (Some r) e = cc e

-- what lists the held columns below n lists those below n + 1 with an entry for column n behind it, where this is held
pub listed_more : {A X : Type 0} (holder : ℕ → Option ℕ) (f : ℕ → A) (g : X → A) (n : ℕ) (zs ys xs : List X) (x : X) (found : Option ℕ) →
    zs ≡ ys → ys ≡ xs ++ x ∷ [] → found ≡ holder n → is_some found ≡ true → g x ≡ f n
    → map g xs ≡ map f (held_columns n holder) → map g zs ≡ map f (held_columns (n + 1) holder)
listed_more holder f g n zs ys xs x found shown grown is some own e =
    ap (map g) shown ∙ ap (map g) grown ∙ map_push g xs x ∙ ap (λ (l : List _). l ++ g x ∷ []) e ∙ ap (λ (a : _). map f (held_columns n holder) ++ a ∷ []) own
    ∙ sym (ap (map f) (held_more holder n ∙ ap (λ (l : List ℕ). held_columns n holder ++ l)
    (held_pushed n (holder n) (ap is_some (sym is) ∙ some))) ∙ map_push f (held_columns n holder) n)

-- what lists the held columns below n lists those below n + 1 too, where column n is not held
pub listed_same : {A X : Type 0} (holder : ℕ → Option ℕ) (f : ℕ → A) (g : X → A) (n : ℕ) (ys xs : List X) (found : Option ℕ) → ys ≡ xs →
    found ≡ holder n → is_some found ≡ false
    → map g xs ≡ map f (held_columns n holder) → map g ys ≡ map f (held_columns (n + 1) holder)
listed_same holder f g n ys xs found kept is not e =
    ap (map g) kept ∙ e ∙ sym (ap (map f) (held_more holder n ∙ ap (λ (l : List ℕ). held_columns n holder ++ l)
    (held_kept n (holder n) (ap is_some (sym is) ∙ not)) ∙ append-nil (held_columns n holder)))

-- what lists the values of a function below n lists those below n + 1 with its value at n behind it
pub values_more : (f : ℕ → ℕ) (n v : ℕ) (ys xs : List ℕ) → ys ≡ xs ++ v ∷ [] → xs ≡ map f (range_with_len 0 n) → v ≡ f n → ys ≡ map f (range_with_len 0 (n + 1))
values_more f n v ys xs grown is own =
    grown ∙ ap (λ (l : List ℕ). l ++ v ∷ []) is ∙ ap (λ (a : ℕ). map f (range_with_len 0 n) ++ a ∷ []) own ∙ sym (map-range_with_len_more f 0 n n (omega arith))
