-- The walk through the tips lists exactly the pieces that may follow a piece, each once.
use Rattle.std.proofs.Common.{◌≡◌, ◌≢◌, ◌+◌, ◌-◌, ◌<◌, ◌≤◌, ℕ, Bool, true, false, cond, List, [], ◌∷◌, ◌++◌, length, take, drop, map, get_or, refl}
use Rattle.std.proofs.Common.{sym, ap, ◌∙◌, inl, inr, arith, subst, AllPairs, length-append, length-drop, length-take, append-nil}
use Rattle.std.specs.List.{Contains, range_with_len}
use Rattle.std.proofs.lemmas.List.{length_push, append_assoc, get_or_default, take-append-drop}
use Rattle.std.proofs.lemmas.List.Elements.{All-nil}
use Rattle.std.proofs.lemmas.List.Kept.{AllPairs-cons}
use Rattle.std.proofs.Math.Seq.{drop-append_seam, take-append_seam}
use Rattle.words.specs.Words.{degree_of}
use Rattle.words.proofs.Degrees.{Contains-range, range-bounds, range-rising}
use Rattle.words.proofs.Members.{AllPairs-nil, Contains-cases, Contains-first, Contains-flat_map, Contains-flat_map_cases, Contains-map}
use Rattle.words.proofs.Members.{Contains-map_cases, Contains-none}
use Rattle.words.proofs.Weights.{degree_of-append}
use Rattle.free_poly.specs.declared.term.Term.{Term}
use Rattle.free_poly.specs.Poly.{lead_or_none}
use Rattle.ideal_laws.proofs.Meeting.{split}
use Rattle.overlaps.specs.Walk.{lead_word}
use Rattle.anick_chains.specs.BasisTips.{leads_of}
use Rattle.anick_chains.specs.Chains.{HasTip}
use Rattle.anick_chains.specs.Laws.{AreListedTips, IsExtension}
use Rattle.anick_chains.specs.Walk.{end_of, ends_of, goes_on, next_pieces, stands, unless_stands}
use Rattle.anick_chains.proofs.Ends.{ended}
use Rattle.anick_chains.proofs.Fitting.{goes_on-both, goes_on-says}
use Rattle.anick_chains.proofs.Members.{AllPairs-joined}
use Rattle.anick_chains.proofs.Stands.{stands-free, stands-not}

-- all letters but the last
but_last-is : (f : List ℕ) (x : ℕ) → take (length (f ++ x ∷ []) - 1) (f ++ x ∷ []) ≡ f
but_last-is f x = ap (λ (n : ℕ). take n (f ++ x ∷ [])) (let size : length (f ++ x ∷ []) - 1 ≡ length f = omega (arith, length_push f x) in
    size) ∙ take-append_seam f (x ∷ [])

some_behind : (w : List ℕ) (n : ℕ) → n < length w → drop n w ≢ []
some_behind w n lt e = omega (arith, lt, length-drop n w, ap length e)

module _ (weights : List ℕ) (G : List (List Term)) (q : List ℕ) where
  -- what a tip gives: the tip begins with the end of the piece, has the degree, and no tip stands before its end
  pub record IsEnd (before d k : ℕ) (r : List ℕ) : Type 0 where
    pub tip_is : lead_word G k ≡ drop before q ++ r
    pub degree : degree_of weights (lead_word G k) ≡ d
    pub free : stands (leads_of G) (q ++ take (length r - 1) r) ≡ false

  unless-says : (r s : List ℕ) → Contains (unless_stands (leads_of G) q r) s → (r ≡ s) × (stands (leads_of G) (q ++ take (length r - 1) r) ≡ false)
  unless-says r s m = by_test (stands (leads_of G) (q ++ take (length r - 1) r)) refl m
    where
      by_test : (b : Bool) → stands (leads_of G) (q ++ take (length r - 1) r) ≡ b → Contains (cond b [] (r ∷ [])) s →
          (r ≡ s) × (stands (leads_of G) (q ++ take (length r - 1) r) ≡ false)
      by_test true e n = absurd (Contains-none s n)
      by_test false e n = elim (Contains-cases r [] s n) [
        | inl is ↦ (is, e)
        | inr none ↦ absurd (Contains-none s none)
      ]

  -- what the walk lists is what a tip gives
  pub end_of-says : (before d k : ℕ) (r : List ℕ) → Contains (end_of weights G q before d k) r → IsEnd before d k r
  end_of-says before d k r m = by_test (goes_on weights G (drop before q) d k) refl m
    where
      c : List ℕ
      c = drop before q

      by_test : (b : Bool) → goes_on weights G (drop before q) d k ≡ b →
          Contains (cond b (unless_stands (leads_of G) q (drop (length (drop before q)) (lead_word G k))) []) r → IsEnd before d k r
      by_test false e n = absurd (Contains-none r n)
      by_test true e n =
          let both = goes_on-says weights G (drop before q) d k e in
          let u = unless-says (drop (length (drop before q)) (lead_word G k)) r n in
          record {
            tip_is =
                sym (take-append-drop (length (drop before q)) (lead_word G k))
                ∙ ap (λ (x : List ℕ). x ++ drop (length (drop before q)) (lead_word G k)) both.0 ∙ ap (λ (x : List ℕ). drop before q ++ x) u.0;
            degree = both.1;
            free = subst (λ (x : List ℕ). stands (leads_of G) (q ++ take (length x - 1) x) ≡ false) u.0 u.1;
          }

  -- what a tip gives is listed
  pub end_of-is : (before d k : ℕ) (r : List ℕ) → IsEnd before d k r → Contains (end_of weights G q before d k) r
  end_of-is before d k r h =
      let front : take (length (drop before q)) (lead_word G k) ≡ drop before q =
      ap (take (length (drop before q))) h.tip_is ∙ take-append_seam (drop before q) r in
      let rest : drop (length (drop before q)) (lead_word G k) ≡ r = ap (drop (length (drop before q))) h.tip_is ∙ drop-append_seam (drop before q) r in
      let on = goes_on-both weights G (drop before q) d k front h.degree in
      subst (λ (b : Bool). Contains (cond b (unless_stands (leads_of G) q (drop (length (drop before q)) (lead_word G k))) []) r) (sym on)
      (subst (λ (x : List ℕ). Contains (unless_stands (leads_of G) q x) r) (sym rest)
      (subst (λ (b : Bool). Contains (cond b [] (r ∷ [])) r) (sym h.free) (Contains-first r [])))

  -- a tip gives one piece at most
  pub end_of-apart : (before d k : ℕ) → AllPairs (λ r s. r ≢ s) (end_of weights G q before d k)
  end_of-apart before d k = by_test (goes_on weights G (drop before q) d k)
    where
      by_stands : (b : Bool) (r : List ℕ) → AllPairs (λ r s. r ≢ s) (cond b [] (r ∷ []))
      by_stands true r = AllPairs-nil (λ r s. r ≢ s)
      by_stands false r = AllPairs-cons (λ r s. r ≢ s) r [] (All-nil (λ s. r ≢ s)) (AllPairs-nil (λ r s. r ≢ s))

      by_test : (b : Bool) → AllPairs (λ r s. r ≢ s) (cond b (unless_stands (leads_of G) q (drop (length (drop before q)) (lead_word G k))) [])
      by_test true = by_stands (stands (leads_of G) (q ++ take (length (drop (length (drop before q)) (lead_word G k)) - 1)
          (drop (length (drop before q)) (lead_word G k)))) (drop (length (drop before q)) (lead_word G k))
      by_test false = AllPairs-nil (λ r s. r ≢ s)

module _ (G : List (List Term)) where
  -- the leading words stand at the places of the elements
  pub lead_listed : (k : ℕ) → k < length G → Contains (leads_of G) (lead_word G k)
  lead_listed k lt = Contains-at G k lt
    where
      Contains-at : (xs : List (List Term)) (k : ℕ) → k < length xs → Contains (map lead_or_none xs) (lead_or_none (get_or xs k []))
      Contains-at xs k lt = Contains-map lead_or_none xs (get_or xs k []) (k, lt, get_or_default xs k (get_or xs k []) [] lt)

  -- each of them stands at the place of an element
  pub listed_lead : (t : List ℕ) → Contains (leads_of G) t → (k : ℕ) × (k < length G) × (lead_word G k ≡ t)
  listed_lead t m =
      let g = Contains-map_cases lead_or_none G t m in
      (g.1.0, g.1.1, ap lead_or_none (get_or_default G g.1.0 [] g.0 g.1.1 ∙ g.1.2) ∙ g.2)

module _ (weights : List ℕ) (G : List (List Term)) (tips : AreListedTips (length weights) (leads_of G)) (q : List ℕ) where
  T : List ℕ → Type 0
  T = Contains (leads_of G)

  -- a tip that the end of a piece begins goes on with the rest of it
  extension_from : (before d k : ℕ) (r : List ℕ) → before < length q → k < length G → IsEnd weights G q before d k r → IsExtension (Contains (leads_of G)) q r
  extension_from before d k r lt within h =
      let is_tip : Contains (leads_of G) (drop before q ++ r) = subst (Contains (leads_of G)) h.tip_is (lead_listed G k within) in
      let piece_is : q ≡ take before q ++ drop before q = sym (take-append-drop before q) in
      let e = ended r (λ none. stands-free (leads_of G) (q ++ take (length r - 1) r) h.free (record {
        tip = drop before q ++ r;
        is_tip = is_tip;
        inside = record { before = take before q; after = []; joined = whole none piece_is };
      })) in
      record {
        before = take before q;
        shared = drop before q;
        front = e.front;
        last = e.last;
        piece_is = piece_is;
        some_shared = some_behind q before lt;
        next_is = e.is;
        is_tip = is_tip;
        free = stands-free (leads_of G) (q ++ e.front)
            (ap (λ (x : List ℕ). stands (leads_of G) (q ++ x)) (sym (but_last-is e.front e.last)
            ∙ ap (λ (x : List ℕ). take (length x - 1) x) (sym e.is)) ∙ h.free);
      }
    where
      whole : r ≡ [] → q ≡ take before q ++ drop before q → q ++ take (length r - 1) r ≡ take before q ++ (drop before q ++ r) ++ []
      whole none piece_is =
          ap (λ (x : List ℕ). q ++ take (length x - 1) x) none ∙ append-nil q ∙ piece_is
          ∙ ap (λ (x : List ℕ). take before q ++ x) (sym (append-nil (drop before q)) ∙ ap (λ (x : List ℕ). drop before q ++ x) (sym none))
          ∙ sym (append-nil (take before q ++ (drop before q ++ r)))

  module _ (d : ℕ) (fits : degree_of weights q ≤ d) where
    -- a piece of the walk goes on from the piece, and the two have the degree
    pub next_pieces-says : (r : List ℕ) → Contains (next_pieces weights G q d) r →
        IsExtension (Contains (leads_of G)) q r × (degree_of weights q + degree_of weights r ≡ d)
    next_pieces-says r m =
        let b = Contains-flat_map_cases (λ before. ends_of weights G q before (d - degree_of weights (take before q))) (range_with_len 0 (length q)) r m in
        let k = Contains-flat_map_cases (end_of weights G q b.0 (d - degree_of weights (take b.0 q))) (range_with_len 0 (length G)) r b.2 in
        let lt : b.0 < length q = omega (arith, (range-bounds 0 (length q) b.0 b.1).1) in
        let within : k.0 < length G = omega (arith, (range-bounds 0 (length G) k.0 k.1).1) in
        let h = end_of-says weights G q b.0 (d - degree_of weights (take b.0 q)) k.0 r k.2 in (
          extension_from b.0 (d - degree_of weights (take b.0 q)) k.0 r lt within h,
          omega (
            arith,
            fits,
            h.degree,
            ap (degree_of weights) h.tip_is,
            degree_of-append weights (drop b.0 q) r,
            ap (degree_of weights) (take-append-drop b.0 q),
            degree_of-append weights (take b.0 q) (drop b.0 q),
          ),
        )

    -- and each piece that goes on with this degree is one of the walk
    pub next_pieces-is : (r : List ℕ) → IsExtension (Contains (leads_of G)) q r → degree_of weights q + degree_of weights r ≡ d →
        Contains (next_pieces weights G q d) r
    next_pieces-is r x e =
        let k = listed_lead G (x.shared ++ r) x.is_tip in
        let n = length x.before in
        let front : take (length x.before) q ≡ x.before = ap (take (length x.before)) x.piece_is ∙ take-append_seam x.before x.shared in
        let behind : drop (length x.before) q ≡ x.shared = ap (drop (length x.before)) x.piece_is ∙ drop-append_seam x.before x.shared in
        let lt : n < length q = some_letters x.shared x.some_shared (ap length x.piece_is ∙ length-append x.before x.shared) in
        Contains-flat_map (λ before. ends_of weights G q before (d - degree_of weights (take before q))) (range_with_len 0 (length q)) n r
        (Contains-range 0 (length q) n (omega arith) (omega (arith, lt)))
        (Contains-flat_map (end_of weights G q n (d - degree_of weights (take n q))) (range_with_len 0 (length G)) k.0 r
        (Contains-range 0 (length G) k.0 (omega arith) (omega (arith, k.1)))
        (end_of-is weights G q n (d - degree_of weights (take n q)) k.0 r (record {
          tip_is = k.2 ∙ ap (λ (y : List ℕ). y ++ r) (sym behind);
          degree = omega (
            arith,
            e,
            ap (degree_of weights) k.2,
            degree_of-append weights x.shared r,
            ap (degree_of weights) x.piece_is,
            degree_of-append weights x.before x.shared,
            ap (degree_of weights) front,
          );
          free = stands-not (leads_of G) (q ++ take (length r - 1) r)
              (λ h. x.free (subst (λ (y : List ℕ). HasTip (Contains (leads_of G)) (q ++ y))
              (ap (λ (y : List ℕ). take (length y - 1) y) x.next_is ∙ but_last-is x.front x.last) h));
        })))
      where
        some_letters : (s : List ℕ) → s ≢ [] → length q ≡ length x.before + length s → length x.before < length q
        some_letters [] ne size = absurd (ne refl)
        some_letters (y ∷ s) ne size = omega (arith, size)

  -- two tips that give one piece are one, after as many letters
  one_before : (b c : ℕ) (r : List ℕ) → b ≤ c → c < length q → Contains (leads_of G) (drop b q ++ r) → Contains (leads_of G) (drop c q ++ r) → b ≡ c
  one_before b c r le lt s t =
      let p = split (take b q) (drop b q) (take c q) (drop c q) (take-append-drop b q ∙ sym (take-append-drop c q))
      (omega (arith, length-take b q, length-take c q, le)) in
      let same : drop c q ++ r ≡ drop b q ++ r = tips.apart (drop c q ++ r) (drop b q ++ r) t s (record {
        before = p.between;
        after = [];
        joined = ap (λ (z : List ℕ). z ++ r) p.rest ∙ append_assoc p.between (drop c q) r ∙ sym (append-nil (p.between ++ (drop c q ++ r)));
      }) in
      omega (arith, le, lt, ap length same, length-append (drop c q) r, length-append (drop b q) r, length-drop b q, length-drop c q)

  module _ (distinct : (i j : ℕ) → i < length G → j < length G → lead_word G i ≡ lead_word G j → i ≡ j) (d : ℕ) where
    -- each piece of the walk is listed once
    pub next_pieces-apart : AllPairs (λ r s. r ≢ s) (next_pieces weights G q d)
    next_pieces-apart =
        AllPairs-joined (λ before. ends_of weights G q before (d - degree_of weights (take before q))) (λ b c. b < c) (λ r s. r ≢ s)
        (range_with_len 0 (length q)) (range-rising 0 (length q))
        (λ b m. AllPairs-joined (end_of weights G q b (d - degree_of weights (take b q))) (λ i j. i < j) (λ r s. r ≢ s)
        (range_with_len 0 (length G)) (range-rising 0 (length G))
        (λ k n. end_of-apart weights G q b (d - degree_of weights (take b q)) k)
        (λ i j r s m n lt u v e.
        let h = end_of-says weights G q b (d - degree_of weights (take b q)) i r u in
        let k = end_of-says weights G q b (d - degree_of weights (take b q)) j s v in
        let at : i ≡ j = distinct i j (omega (arith, (range-bounds 0 (length G) i m).1)) (omega (arith, (range-bounds 0 (length G) j n).1))
        (h.tip_is ∙ ap (λ (x : List ℕ). drop b q ++ x) e ∙ sym k.tip_is) in
        omega (arith, lt, at)))
        (λ b c r s m n lt u v e.
        let i = Contains-flat_map_cases (end_of weights G q b (d - degree_of weights (take b q))) (range_with_len 0 (length G)) r u in
        let j = Contains-flat_map_cases (end_of weights G q c (d - degree_of weights (take c q))) (range_with_len 0 (length G)) s v in
        let h = end_of-says weights G q b (d - degree_of weights (take b q)) i.0 r i.2 in
        let k = end_of-says weights G q c (d - degree_of weights (take c q)) j.0 s j.2 in
        let at : b ≡ c = one_before b c r (omega (arith, lt)) (omega (arith, (range-bounds 0 (length q) c n).1))
        (subst (Contains (leads_of G)) h.tip_is (lead_listed G i.0 (omega (arith, (range-bounds 0 (length G) i.0 i.1).1))))
        (subst (Contains (leads_of G)) (k.tip_is ∙ ap (λ (x : List ℕ). drop c q ++ x) (sym e))
        (lead_listed G j.0 (omega (arith, (range-bounds 0 (length G) j.0 j.1).1)))) in
        omega (arith, lt, at))
