-- The tallies of the chains of a degree come of those of the lower degrees.
use Rattle.std.proofs.Common.{◌≡◌, ◌+◌, ◌-◌, ◌*◌, ◌<◌, ◌≤◌, ◌==◌, ℕ, Bool, true, false, cond, List, [], ◌∷◌, ◌++◌, All, length, refl, sym, ap, ◌∙◌, arith}
use Rattle.std.proofs.Common.{subst, length-append, bytes_eq, eq-eqb}
use Rattle.std.specs.List.{Contains, flat_map, sum_by}
use Rattle.std.specs.List.Sorted.{IsPermutation}
use Rattle.std.proofs.lemmas.Bool.{eqb-true}
use Rattle.std.proofs.lemmas.Slice.Eq.{bytes_eq-Decides}
use Rattle.std.proofs.lemmas.List.Elements.{All-append, All-contains, All-map}
use Rattle.std.proofs.lemmas.List.Sorted.{sum_by-IsPermutation}
use Rattle.std.proofs.lemmas.List.Sums.{sum_by-append}
use Rattle.words.specs.Words.{AreWeights, IsOver, degree_of}
use Rattle.words.proofs.Members.{All-from_members, Contains-flat_map_cases, Contains-map}
use Rattle.words.proofs.Weights.{degree_of-positive}
use Rattle.free_poly.specs.declared.term.Term.{Term}
use Rattle.ideal_laws.specs.Closure.{IsFactorFree}
use Rattle.ideal_laws.specs.Engine.{Elements}
use Rattle.ideal_laws.specs.Kept.{IsKept}
use Rattle.anick_chains.specs.declared.chain.Chain.{Chain}
use Rattle.anick_chains.specs.declared.tally.Tally.{Tally}
use Rattle.anick_chains.specs.BasisTips.{leads_of}
use Rattle.anick_chains.specs.Chains.{AreNext, IsChain, chain_degree}
use Rattle.anick_chains.specs.Listed.{AreListedOf, pieces_of, with_degree}
use Rattle.anick_chains.specs.Tallies.{IsTallyBelow, Tells, TellsSame, chain_weight, longer_tallies, tallies_at, tallies_with, tally_total, tally_weight}
use Rattle.anick_chains.specs.Walk.{chains_at, continued, free_letters, last_piece, next_of, next_pieces, onward}
use Rattle.anick_chains.proofs.BasisTips.{listed_tips}
use Rattle.anick_chains.proofs.Extensions.{are_tips}
use Rattle.anick_chains.proofs.LastPieces.{chain_ended, last_piece-degree, last_piece-is}
use Rattle.anick_chains.proofs.Mates.{last_of_chain, last_over}
use Rattle.anick_chains.proofs.Sums.{sum_by-flat_map, sum_by-has, sum_by-length, sum_by-map, sum_by-member, sum_by-same, sum_by-times}

module _ (weights : List ℕ) (G : List (List Term)) (d : ℕ) (f : ℕ → ℕ → List ℕ → ℕ) where
  -- so many chains with each of these last pieces
  tallies_with-weight : (size count : ℕ) (pieces : List (List ℕ)) →
      sum_by (tally_weight f) (tallies_with d size count pieces) ≡ count * sum_by (λ r. f d size r) pieces
  tallies_with-weight size count pieces =
      sum_by-map (tally_weight f) (λ (r : List ℕ). record { degree = d; size = size; last = r; count = count }) pieces
      ∙ sum_by-times count (λ (r : List ℕ). f d size r) pieces

  -- lists of pieces as chains
  with_degree-weight : (cs : List (List (List ℕ))) →
      sum_by (chain_weight f) (with_degree d cs) ≡ sum_by (λ c. f d (length c) (last_piece c)) cs
  with_degree-weight cs = sum_by-map (chain_weight f) (λ (c : List (List ℕ)). record { degree = d; pieces = c }) cs

  -- a list of pieces with one more
  continued-weight : (front next : List (List ℕ)) →
      sum_by (λ c. f d (length c) (last_piece c)) (continued front next) ≡ sum_by (λ r. f d (length front + 1) r) next
  continued-weight front next =
      sum_by-map (λ (c : List (List ℕ)). f d (length c) (last_piece c)) (λ (r : List ℕ). front ++ r ∷ []) next
      ∙ sum_by-same (λ (r : List ℕ). f d (length (front ++ r ∷ [])) (last_piece (front ++ r ∷ []))) (λ (r : List ℕ). f d (length front + 1) r) next
      (λ r m. let n : length (front ++ r ∷ []) ≡ length front + 1 = length-append front (r ∷ []) ∙ omega arith in
      ap (λ (k : ℕ). f d k (last_piece (front ++ r ∷ []))) n ∙ ap (f d (length front + 1)) (last_piece-is front r))

  -- what may follow a chain, by its degree, its length and its last piece
  abbrev ahead : ℕ → ℕ → List ℕ → ℕ
  ahead e n q = sum_by (λ r. f d (n + 1) r) (next_pieces weights G q (degree_of weights q + (d - e)))

  longer-weight : (t : Tally) → sum_by (tally_weight f) (longer_tallies weights G d t) ≡ tally_weight ahead t
  longer-weight t = tallies_with-weight (t.size + 1) t.count (next_pieces weights G t.last (degree_of weights t.last + (d - t.degree)))

  onward-weight : (x : Chain) → x.degree ≡ chain_degree weights x.pieces →
      sum_by (λ c. f d (length c) (last_piece c)) (onward weights G d x.pieces) ≡ chain_weight ahead x
  onward-weight x e =
      continued-weight x.pieces (next_of weights G d x.pieces)
      ∙ ap (λ (k : ℕ). sum_by (λ (r : List ℕ). f d (length x.pieces + 1) r) (next_pieces weights G (last_piece x.pieces)
      (degree_of weights (last_piece x.pieces) + (d - k)))) (sym e)

  module _ (tallies : List Tally) (found : List Chain) (degrees : All (λ x. x.degree ≡ chain_degree weights x.pieces) found)
      (tells : Tells tallies found) where
    tallies_at-weight : sum_by (tally_weight f) (tallies_at weights G d tallies)
        ≡ 1 * sum_by (λ r. f d 1 r) (free_letters weights G d) + sum_by (tally_weight ahead) tallies
    tallies_at-weight =
        sum_by-append (tally_weight f) (tallies_with d 1 1 (free_letters weights G d)) (flat_map (longer_tallies weights G d) tallies)
        ∙ ap (λ (n : ℕ). n + sum_by (tally_weight f) (flat_map (longer_tallies weights G d) tallies)) (tallies_with-weight 1 1 (free_letters weights G d))
        ∙ ap (λ (n : ℕ). 1 * sum_by (λ (r : List ℕ). f d 1 r) (free_letters weights G d) + n)
        (sum_by-flat_map (tally_weight f) (longer_tallies weights G d) tallies
        ∙ sum_by-same (λ (t : Tally). sum_by (tally_weight f) (longer_tallies weights G d t)) (tally_weight ahead) tallies (λ t m. longer-weight t))

    chains_at-weight : sum_by (chain_weight f) (with_degree d (chains_at weights G d (pieces_of found)))
        ≡ sum_by (λ r. f d 1 r) (free_letters weights G d) + sum_by (chain_weight ahead) found
    chains_at-weight =
        let w = λ (c : List (List ℕ)). f d (length c) (last_piece c) in
        with_degree-weight (chains_at weights G d (pieces_of found))
        ∙ sum_by-append w (continued [] (free_letters weights G d)) (flat_map (onward weights G d) (pieces_of found))
        ∙ ap (λ (n : ℕ). n + sum_by w (flat_map (onward weights G d) (pieces_of found))) (continued-weight [] (free_letters weights G d))
        ∙ ap (λ (n : ℕ). sum_by (λ (r : List ℕ). f d 1 r) (free_letters weights G d) + n)
        (sum_by-flat_map w (onward weights G d) (pieces_of found)
        ∙ sum_by-map (λ (c : List (List ℕ)). sum_by w (onward weights G d c)) (λ (x : Chain). x.pieces) found
        ∙ sum_by-same (λ (x : Chain). sum_by w (onward weights G d x.pieces)) (chain_weight ahead) found
        (λ x m. onward-weight x (All-contains (λ (y : Chain). y.degree ≡ chain_degree weights y.pieces) found x degrees m)))

    step_weight : sum_by (tally_weight f) (tallies_at weights G d tallies) ≡ sum_by (chain_weight f) (with_degree d (chains_at weights G d (pieces_of found)))
    step_weight = omega (arith, tallies_at-weight, chains_at-weight, tells ahead)

-- the tallies of a degree tell of its chains
pub tells_at : (weights : List ℕ) (G : List (List Term)) (d : ℕ) (tallies : List Tally) (found : List Chain) →
    All (λ x. x.degree ≡ chain_degree weights x.pieces) found → Tells tallies found
    → Tells (tallies_at weights G d tallies) (with_degree d (chains_at weights G d (pieces_of found)))
tells_at weights G d tallies found degrees tells f = step_weight weights G d f tallies found degrees tells

-- so do lists with the same sums
pub tells_same : (a b : List Tally) (found : List Chain) → TellsSame a b → Tells b found → Tells a found
tells_same a b found same tells f = same f ∙ tells f

-- the order of the chains is nothing to them
pub tells_moved : (tallies : List Tally) (found sorted : List Chain) → IsPermutation found sorted → Tells tallies found → Tells tallies sorted
tells_moved tallies found sorted moved tells f = tells f ∙ sym (sum_by-IsPermutation (chain_weight f) found sorted moved)

-- of two lists one after the other
pub tells_both : (a b : List Tally) (xs ys : List Chain) → Tells a xs → Tells b ys → Tells (a ++ b) (xs ++ ys)
tells_both a b xs ys left right f =
    omega (arith, left f, right f, sum_by-append (tally_weight f) a b, sum_by-append (chain_weight f) xs ys)

-- none of them is of no chain
pub tallies_some : (weights : List ℕ) (G : List (List Term)) (d : ℕ) (below : List Tally) → All (IsTallyBelow weights d) below →
    All (λ t. 0 < t.count) (tallies_at weights G d below)
tallies_some weights G d below h =
    let some = λ (t : Tally). 0 < t.count in
    let made = λ (size count : ℕ) (more : 0 < count) (pieces : List (List ℕ)).
    All-map some (λ (r : List ℕ). record { degree = d; size = size; last = r; count = count }) pieces (λ k x lt. more) in
    All-append some (tallies_with d 1 1 (free_letters weights G d)) (flat_map (longer_tallies weights G d) below)
    (made 1 1 (omega arith) (free_letters weights G d))
    (All-from_members some (flat_map (longer_tallies weights G d) below) (λ t m.
    let r = Contains-flat_map_cases (longer_tallies weights G d) below t m in
    All-contains some (longer_tallies weights G d r.0) t
    (made (r.0.size + 1) r.0.count (All-contains (IsTallyBelow weights d) below r.0 h r.1).some
    (next_pieces weights G r.0.last (degree_of weights r.0.last + (d - r.0.degree))))
    r.2))

-- the total is the sum of the tallies, where each of their chains has the weight 1
pub tally_total-is : (tallies : List Tally) → tally_total tallies ≡ sum_by (tally_weight (λ _ _ _. 1)) tallies
tally_total-is tallies = sum_by-same (λ (t : Tally). t.count) (tally_weight (λ _ _ _. 1)) tallies (λ t m. omega arith)

-- the total of tallies that tell of some chains is the number of these chains
pub total_tells : (tallies : List Tally) (found : List Chain) → Tells tallies found → tally_total tallies ≡ length found
total_tells tallies found tells = tally_total-is tallies ∙ tells (λ _ _ _. 1) ∙ sum_by-length found

-- tallies that tell the same have the same total
pub total_same : (a b : List Tally) → TellsSame a b → tally_total a ≡ tally_total b
total_same a b same = tally_total-is a ∙ same (λ _ _ _. 1) ∙ sym (tally_total-is b)

-- 1 for this degree, length and last piece, and else 0
abbrev one_at : ℕ → ℕ → List ℕ → ℕ → ℕ → List ℕ → ℕ
one_at d n q e m r = cond (d == e) (cond (n == m) (cond (bytes_eq q r) 1 0) 0) 0

one_at-itself : (d n : ℕ) (q : List ℕ) → one_at d n q d n q ≡ 1
one_at-itself d n q = rw (eq-eqb d d refl, eq-eqb n n refl, (bytes_eq-Decides q q).1 refl) refl

one_at-says : (d n : ℕ) (q : List ℕ) (e m : ℕ) (r : List ℕ) → 0 < one_at d n q e m r → (d ≡ e) × (n ≡ m) × (q ≡ r)
one_at-says d n q e m r some = by_tests (d == e) refl (n == m) refl (bytes_eq q r) refl some
  where
    by_tests : (a : Bool) → (d == e) ≡ a → (b : Bool) → (n == m) ≡ b → (c : Bool) → bytes_eq q r ≡ c → 0 < cond a (cond b (cond c 1 0) 0) 0
        → (d ≡ e) × (n ≡ m) × (q ≡ r)
    by_tests true f true g true h s = (eqb-true d e f, eqb-true n m g, (bytes_eq-Decides q r).0 h)
    by_tests false f b g c h s = absurd (omega (arith, s))
    by_tests true f false g c h s = absurd (omega (arith, s))
    by_tests true f true g false h s = absurd (omega (arith, s))

-- a tally of more than no chain tells of a chain
tally_chain : (tallies : List Tally) (found : List Chain) → Tells tallies found → (t : Tally) → Contains tallies t → 0 < t.count
    → (x : Chain) × Contains found x × (t.degree ≡ x.degree) × (t.size ≡ length x.pieces) × (t.last ≡ last_piece x.pieces)
tally_chain tallies found tells t m some =
    let f = one_at t.degree t.size t.last in
    let own : tally_weight f t ≡ t.count = ap (λ (n : ℕ). t.count * n) (one_at-itself t.degree t.size t.last) ∙ omega arith in
    let r = sum_by-has (chain_weight f) found (omega (arith, own, some, tells f, sum_by-member (tally_weight f) tallies t m)) in
    let s = one_at-says t.degree t.size t.last r.0.degree (length r.0.pieces) (last_piece r.0.pieces) r.2 in
    (r.0, r.1, s.0, s.1, s.2)

-- a chain has no more pieces than its degree, and one at least
pub chain_length : (weights : List ℕ) → AreWeights weights → (T : List ℕ → Type 0) (names : ℕ) (c : List (List ℕ)) → IsChain T names c →
    (0 < length c) × (length c ≤ chain_degree weights c)
chain_length weights aw T names [] h = absurd h
chain_length weights aw T names (q ∷ qs) h = (omega arith, omega (arith, first, rest q qs h.1))
  where
    first : 0 < degree_of weights q
    first = degree_of-positive weights aw q (λ e. let n = sym h.0.is ∙ e in cc n)

    rest : (p : List ℕ) (rs : List (List ℕ)) → AreNext T names p rs → length rs ≤ chain_degree weights rs
    rest p [] k = omega arith
    rest p (r ∷ rs) k = omega (arith, rest r rs k.1, degree_of-positive weights aw r k.0.some)

module _ (b : Elements) (kept : IsKept b) (free : IsFactorFree b.elements) (e : ℕ) (found : List Chain)
    (h : AreListedOf b e found) where
  abbrev T : List ℕ → Type 0
  T = Contains (leads_of b.elements)

  over : (c : List (List ℕ)) → IsChain T (length b.weights) c → IsOver (length b.weights) (last_piece c)
  over c chain =
      let l = chain_ended T (length b.weights) c chain in
      let last : last_piece c ≡ l.last = ap last_piece l.is ∙ last_piece-is l.front l.last in
      subst (IsOver (length b.weights)) (sym last)
      (last_over T (length b.weights) (are_tips (length b.weights) (leads_of b.elements) (listed_tips b kept free)) l.front l.last
      (last_of_chain T (length b.weights) l.front l.last (subst (IsChain T (length b.weights)) l.is chain)))

  -- tallies of listed chains
  pub tallies_below : (d : ℕ) → d ≡ e + 1 → (tallies : List Tally) → Tells tallies found → All (λ t. 0 < t.count) tallies →
      All (IsTallyBelow b.weights d) tallies
  tallies_below d next tallies tells some = All-from_members (IsTallyBelow b.weights d) tallies (λ t m.
      let more = All-contains (λ (s : Tally). 0 < s.count) tallies t some m in
      let r = tally_chain tallies found tells t m more in
      let chain = (h.chains.exactly r.0.pieces).0 (Contains-map (λ (y : Chain). y.pieces) found r.0 r.1) in
      let degree : r.0.degree ≡ chain_degree b.weights r.0.pieces =
      All-contains (λ (y : Chain). y.degree ≡ chain_degree b.weights y.pieces) found r.0 h.degrees r.1 in
      let size = chain_length b.weights kept.weights T (length b.weights) r.0.pieces chain.0 in
      let tail : degree_of b.weights (last_piece r.0.pieces) ≤ chain_degree b.weights r.0.pieces = last_piece-degree b.weights r.0.pieces in
      record {
        over = subst (IsOver (length b.weights)) (sym r.4) (over r.0.pieces chain.0);
        part = omega (arith, tail, degree, r.2, ap (degree_of b.weights) r.4);
        short = omega (arith, size.1, r.2, r.3, degree);
        below = omega (arith, chain.1, r.2, degree, next);
        some = more;
      })
