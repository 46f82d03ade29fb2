-- The obstructions of degree d have one list, and it is as long as the walk's.
use Rattle.std.proofs.Common.{ap₂, ◌≡◌, ◌≢◌, ◌⊎◌, ◌-◌, ◌<◌, ◌≤◌, ℕ, List, [], ◌∷◌, ◌++◌, length, map, take, drop, sym, ap, ◌∙◌, inl, inr, arith, All}
use Rattle.std.proofs.Common.{AllPairs, length-append, append_assoc}
use Rattle.std.specs.List.{Contains, range_with_len}
use Rattle.std.proofs.lemmas.Bool.{cases_lt}
use Rattle.std.proofs.lemmas.List.{append-nil, append_cancel_left, length-take-le}
use Rattle.std.proofs.lemmas.List.FromFn.{get_or-range_with_len, length-range_with_len}
use Rattle.std.proofs.lemmas.List.Kept.{AllPairs-filter}
use Rattle.std.proofs.Math.Seq.{drop-append_seam, take-append_seam}
use Rattle.words.proofs.Degrees.{range-rising}
use Rattle.words.proofs.Members.{AllPairs-flat_map, AllPairs-map, All-from_members, Contains-flat_map_cases}
use Rattle.free_poly.specs.declared.term.Term.{Term}
use Rattle.free_poly.proofs.NormalForms.{greater, same, smaller, compared}
use Rattle.ideal_laws.specs.Closure.{AreObstructions, IsFactorFree, Overlap, OverlapsBefore, overlap_word}
use Rattle.ideal_laws.specs.Engine.{Elements}
use Rattle.ideal_laws.specs.Kept.{IsKept}
use Rattle.overlaps.specs.Walk.{all_blocks, block, blocks, lead_word, meets, overlap_at}
use Rattle.overlaps.proofs.Exactly.{Obs, complete, factor_free, leads_of, of_block, rest_of, sound}
use Rattle.overlaps.proofs.Ordered.{IsOrdered, order}
use Rattle.ideal_laws.proofs.OneQuantity.{before_trans}

module _ (b : Elements) (kept : IsKept b) (free : IsFactorFree b.elements) (d : ℕ) where
  abbrev G : List (List Term)
  G = b.elements

  abbrev Is : Overlap → Type 0
  Is o = Obs b kept free d o

  -- of two obstructions with one word the right elements stand at one place
  right_later : (o q : Overlap) → Is o → Is q → overlap_word o ≡ overlap_word q → length o.before < length q.before → ⊥
  right_later o q h k word lt =
      let lo = leads_of b kept free d o h in
      let lq = leads_of b kept free d q k in
      let v = lead_word G o.right in
      let w = lead_word G q.right in
      let whole_o : overlap_word o ≡ o.before ++ v = append_assoc o.before o.shared o.behind ∙ ap (λ (r : List ℕ). o.before ++ r) (sym lo.right_lead) in
      let whole_q : overlap_word q ≡ q.before ++ w = append_assoc q.before q.shared q.behind ∙ ap (λ (r : List ℕ). q.before ++ r) (sym lq.right_lead) in
      let joined : o.before ++ v ≡ q.before ++ w = sym whole_o ∙ word ∙ whole_q in
      let r = suffix o.before v q.before w joined lt in
      let place = factor_free b kept free q.right o.right lq.right_within lo.right_within
      (record { before = r.0; after = []; joined = r.1 ∙ sym (append-nil (r.0 ++ w)) }) in
      omega (arith, r.2, ap length r.1, length-append r.0 w, ap (λ (n : ℕ). length (lead_word G n)) place)
    where
      suffix : (a v c w : List ℕ) → a ++ v ≡ c ++ w → length a < length c → (x : List ℕ) × (v ≡ x ++ w) × (0 < length x)
      suffix [] v c w e lt = (c, e, omega (arith, lt))
      suffix (x ∷ a) v [] w e lt = absurd (omega (arith, lt))
      suffix (x ∷ a) v (y ∷ c) w e lt = suffix a v c w (ap (drop 1) e) (omega (arith, lt))

  -- and with one left element they are one
  pub unique : (o q : Overlap) → Is o → Is q → overlap_word o ≡ overlap_word q → o.left ≡ q.left → o ≡ q
  unique o q h k word left =
      let lo = leads_of b kept free d o h in
      let lq = leads_of b kept free d q k in
      let size : length o.before ≡ length q.before = elim (cases_lt (length o.before) (length q.before)) [
        | inl lt ↦ absurd (right_later o q h k word lt)
        | inr le ↦ elim (cases_lt (length q.before) (length o.before)) [
          | inl lt ↦ absurd (right_later q o k h (sym word) lt)
          | inr other ↦ omega (arith, le, other)
        ]
      ] in
      let lead : o.before ++ o.shared ≡ q.before ++ q.shared = sym lo.left_lead ∙ ap (lead_word G) left ∙ lq.left_lead in
      let before : o.before ≡ q.before = sym (take-append_seam o.before o.shared) ∙ ap₂ (λ (n : ℕ) (w : List ℕ). take n w) size lead
      ∙ take-append_seam q.before q.shared in
      let shared : o.shared ≡ q.shared = sym (drop-append_seam o.before o.shared) ∙ ap₂ (λ (n : ℕ) (w : List ℕ). drop n w) size lead
      ∙ drop-append_seam q.before q.shared in
      let behind : o.behind ≡ q.behind = append_cancel_left (q.before ++ q.shared) o.behind q.behind (ap (λ (w : List ℕ). w ++ o.behind) (sym lead) ∙ word) in
      let right_word : lead_word G o.right ≡ lead_word G q.right = lo.right_lead ∙ ap₂ (λ (u v : List ℕ). u ++ v) shared behind ∙ sym lq.right_lead in
      let right : o.right ≡ q.right = factor_free b kept free o.right q.right lo.right_within lq.right_within
      (record { before = []; after = []; joined = sym right_word ∙ sym (append-nil (lead_word G o.right)) }) in
      λ i. record { left = left i; right = right i; before = before i; shared = shared i; behind = behind i }

  abbrev Differ : Overlap → Overlap → Type 0
  Differ o q = o ≢ q

  block_apart : (left before : ℕ) → AllPairs Differ (block b.weights G left before (rest_of b kept free d left before))
  block_apart left before =
      AllPairs-filter Differ (meets b.weights G (rest_of b kept free d left before)) (map (overlap_at G left before) (range_with_len 0 (length G)))
      (AllPairs-map (overlap_at G left before) (λ x y. x < y) Differ (λ x y lt e. omega (arith, lt, ap (λ (o : Overlap). o.right) e))
      (range_with_len 0 (length G)) (range-rising 0 (length G)))

  blocks_apart : (left : ℕ) → AllPairs Differ (blocks b.weights G d left)
  blocks_apart left =
      AllPairs-flat_map (λ before. block b.weights G left before (rest_of b kept free d left before)) Under Differ (block_apart left) across
      (range_with_len 1 (length (lead_word G left) - 1)) rises
    where
      Under : ℕ → ℕ → Type 0
      Under x y = (x < y) × (y ≤ length (lead_word G left))

      rises : AllPairs Under (range_with_len 1 (length (lead_word G left) - 1))
      rises i j e before within =
          let n = length (lead_word G left) - 1 in
          let size = length-range_with_len 1 n in
          let first = get_or-range_with_len 1 n i e (omega (arith, before, within, size)) in
          let second = get_or-range_with_len 1 n j e (omega (arith, within, size)) in
          (omega (arith, before, first, second), omega (arith, within, size, second))

      across : (x y : ℕ) (o q : Overlap) → Under x y → Contains (block b.weights G left x (rest_of b kept free d left x)) o →
          Contains (block b.weights G left y (rest_of b kept free d left y)) q → Differ o q
      across x y o q u m n e =
          let r = of_block b kept free d left x o m in
          let s = of_block b kept free d left y q n in
          omega (
            arith,
            u.0,
            u.1,
            ap (λ (p : Overlap). length p.before) (r.is ∙ e ∙ sym s.is),
            length-take-le x (lead_word G left) (omega (arith, u.0, u.1)),
            length-take-le y (lead_word G left) u.1,
          )

  all_apart : AllPairs Differ (all_blocks b.weights G d)
  all_apart = AllPairs-flat_map (blocks b.weights G d) (λ x y. x < y) Differ blocks_apart across (range_with_len 0 (length G)) (range-rising 0 (length G))
    where
      left_of : (left : ℕ) (o : Overlap) → Contains (blocks b.weights G d left) o → left ≡ o.left
      left_of left o m =
          let k = Contains-flat_map_cases (λ before. block b.weights G left before (rest_of b kept free d left before))
          (range_with_len 1 (length (lead_word G left) - 1)) o m in
          ap (λ (p : Overlap). p.left) (of_block b kept free d left k.0 o k.2).is

      across : (x y : ℕ) (o q : Overlap) → x < y → Contains (blocks b.weights G d x) o → Contains (blocks b.weights G d y) q → Differ o q
      across x y o q lt m n e = omega (arith, lt, left_of x o m, left_of y q n, ap (λ (p : Overlap). p.left) e)

  abbrev Compares : Overlap → Overlap → Type 0
  Compares o q = OverlapsBefore o q ⊎ OverlapsBefore q o

  compares : (o q : Overlap) → Is o → Is q → Differ o q → Compares o q
  compares o q h k ne = elim (compared (overlap_word o) (overlap_word q)) [
    | greater g ↦ inl (inl g)
    | smaller g ↦ inr (inl g)
    | same e ↦ elim (cases_lt o.left q.left) [
      | inl lt ↦ inl (inr (e, lt))
      | inr le ↦ elim (cases_lt q.left o.left) [
        | inl lt ↦ inr (inr (sym e, lt))
        | inr other ↦ absurd (ne (unique o q h k e (omega (arith, le, other))))
      ]
    ]
  ]

  -- of each two overlaps of the walk one comes before the other
  pub all_compare : AllPairs Compares (all_blocks b.weights G d)
  all_compare = λ i j e before within.
      let is : All Is (all_blocks b.weights G d) = All-from_members Is (all_blocks b.weights G d) (sound b kept free d) in
      compares _ _ (is i e (omega (arith, before, within))) (is j e within) (all_apart i j e before within)

  -- the overlaps of the walk, in order
  pub in_order : IsOrdered OverlapsBefore before_trans (all_blocks b.weights G d)
  in_order = order OverlapsBefore before_trans (all_blocks b.weights G d) all_compare

  -- they are the obstructions of degree d
  pub are_obstructions : AreObstructions b.weights G d in_order.list
  are_obstructions = record {
    exactly = λ o. (λ m. sound b kept free d o (in_order.says o m), λ h. in_order.has o (complete b kept free d o h));
    ordered = in_order.ordered;
  }
