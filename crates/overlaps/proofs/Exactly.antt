-- The overlaps of degree d, walked by left elements, letters before the right one and right elements, are exactly its
-- obstructions.
use Rattle.std.proofs.Common.{ap₂, ◌≡◌, ◌≢◌, ◌⊎◌, ◌-◌, ◌<◌, ◌≤◌, ℕ, List, [], ◌∷◌, ◌++◌, length, map, take, drop, get_or}
use Rattle.std.proofs.Common.{refl, sym, ap, ◌∙◌, arith, Some, subst, length-append, length-drop}
use Rattle.std.specs.List.{Contains, range_with_len, slice_get}
use Rattle.std.proofs.lemmas.List.{append-nil, length-take-le, take-append-drop}
use Rattle.std.proofs.lemmas.Option.{get_or_from_slice_get, slice_get-get_or, slice_get_within}
use Rattle.std.proofs.Math.Seq.{drop-append_seam, take-append_seam}
use Rattle.words.specs.Words.{IsFactor, degree_of}
use Rattle.words.proofs.Degrees.{Contains-range, range-bounds}
use Rattle.words.proofs.Members.{Contains-flat_map, Contains-flat_map_cases, Contains-map, Contains-map_cases, Contains-filter}
use Rattle.words.proofs.Members.{Contains-filter_cases}
use Rattle.words.proofs.Weights.{degree_of-append}
use Rattle.free_poly.specs.declared.term.Term.{Term}
use Rattle.free_poly.specs.Poly.{lead_of, lead_or_none}
use Rattle.ideal_laws.specs.Closure.{IsFactorFree, IsObstruction, Overlap}
use Rattle.ideal_laws.specs.Engine.{Elements}
use Rattle.ideal_laws.specs.Kept.{IsKept}
use Rattle.overlaps.specs.Walk.{all_blocks, block, blocks, lead_word, meets, overlap_at, shared_at}
use Rattle.overlaps.proofs.Blocks.{meets-both, meets-says}
use Rattle.overlaps.proofs.Places.{element_kept, lead_word-bounds, monic-lead}
use Rattle.free_poly.proofs.Leads.{lead-is}

-- a word other than the empty one has a letter
pub some-longer : (w : List ℕ) → w ≢ [] → 0 < length w
some-longer [] h = absurd (h refl)
some-longer (x ∷ w) h = omega arith

longer-some : (w : List ℕ) → 0 < length w → w ≢ []
longer-some w h e = omega (arith, h, ap length e)

module _ (b : Elements) (kept : IsKept b) (free : IsFactorFree b.elements) where
  abbrev G : List (List Term)
  G = b.elements

  place_of : (i : ℕ) → i < length G → slice_get G i ≡ Some (get_or G i [])
  place_of i lt = slice_get-get_or G i [] lt

  lead_at : (i : ℕ) → i < length G → lead_of (get_or G i []) ≡ Some (lead_word G i)
  lead_at i lt = monic-lead (get_or G i []) (element_kept b kept i lt).monic

  -- of two leading words none is a factor of the other
  pub factor_free : (i j : ℕ) → i < length G → j < length G → IsFactor (lead_word G i) (lead_word G j) → i ≡ j
  factor_free i j li lj f = free i j (get_or G i []) (get_or G j []) (lead_word G i) (lead_word G j) (place_of i li) (place_of j lj)
      (lead_at i li) (lead_at j lj) f

  module _ (d : ℕ) where
    -- an overlap that is an obstruction of degree d
    abbrev pub Obs : Overlap → Type 0
    Obs o = IsObstruction b.weights G d o.left o.right o.before o.shared o.behind

    -- the degree that is left for the right element, behind so many letters of the left one
    abbrev pub rest_of : ℕ → ℕ → ℕ
    rest_of left before = d - degree_of b.weights (take before (lead_word G left))

    -- two elements that meet are an obstruction
    met_is : (left before right : ℕ) → left < length G → right < length G → 1 ≤ before → before < length (lead_word G left)
        → take (length (shared_at G left before)) (lead_word G right) ≡ shared_at G left before →
        degree_of b.weights (lead_word G right) ≡ rest_of left before → Obs (overlap_at G left before right)
    met_is left before right ll lr from under begins deg =
        let v = lead_word G left in
        let w = lead_word G right in
        let a = take before v in
        let c = shared_at G left before in
        let z = drop (length c) w in
        let whole : v ≡ a ++ c = sym (take-append-drop before v) in
        let second : w ≡ c ++ z = sym (ap (λ (u : List ℕ). u ++ z) (sym begins) ∙ take-append-drop (length c) w) in
        let size_a : length a ≡ before = length-take-le before v (omega (arith, under)) in
        let size_c = length-drop before v in
        record {
          first = get_or G left [];
          second = get_or G right [];
          at_left = place_of left ll;
          at_right = place_of right lr;
          first_lead = lead_at left ll ∙ ap Some whole;
          second_lead = lead_at right lr ∙ ap Some second;
          some_before = longer-some a (omega (arith, size_a, from));
          some_shared = longer-some c (omega (arith, size_c, under));
          some_behind = λ none.
              let same : w ≡ c = second ∙ ap (λ (u : List ℕ). c ++ u) none ∙ append-nil c in
              let place : right ≡ left = factor_free right left lr ll (record
              { before = a; after = []; joined = whole ∙ ap (λ (u : List ℕ). a ++ u) (sym same) ∙ sym (append-nil (a ++ w)) }) in
              omega (arith, ap length same, ap (λ (n : ℕ). length (lead_word G n)) place, size_c, from, under);
          degree =
              let total = degree_of-append b.weights (a ++ c) z in
              let front = degree_of-append b.weights a c in
              let behind = degree_of-append b.weights c z in
              omega (arith, total, front, behind, ap (degree_of b.weights) second, deg, (lead_word-bounds b kept right lr).0);
        }

    -- where a member of a block comes from
    pub record IsFrom (left before : ℕ) (o : Overlap) : Type 0 where
      pub right : ℕ
      pub within : right < length G
      pub is : overlap_at G left before right ≡ o
      pub begins : take (length (shared_at G left before)) (lead_word G right) ≡ shared_at G left before
      pub degree : degree_of b.weights (lead_word G right) ≡ rest_of left before

    -- an overlap of a block comes from a right element that meets
    pub of_block : (left before : ℕ) (o : Overlap) → Contains (block b.weights G left before (rest_of left before)) o → IsFrom left before o
    of_block left before o m =
        let f = Contains-filter_cases (meets b.weights G (rest_of left before)) (map (overlap_at G left before) (range_with_len 0 (length G))) o m in
        let r = Contains-map_cases (overlap_at G left before) (range_with_len 0 (length G)) o f.0 in
        let says = meets-says b.weights G left before (rest_of left before) r.0 (ap (meets b.weights G (rest_of left before)) r.2 ∙ f.1) in
        record { right = r.0; within = omega (arith, (range-bounds 0 (length G) r.0 r.1).1); is = r.2; begins = says.0; degree = says.1 }

    -- each overlap of the walk is an obstruction of degree d
    pub sound : (o : Overlap) → Contains (all_blocks b.weights G d) o → Obs o
    sound o m =
        let l = Contains-flat_map_cases (blocks b.weights G d) (range_with_len 0 (length G)) o m in
        let k = Contains-flat_map_cases (λ before. block b.weights G l.0 before (rest_of l.0 before)) (range_with_len 1 (length (lead_word G l.0) - 1)) o l.2 in
        let r = of_block l.0 k.0 o k.2 in
        let within = range-bounds 1 (length (lead_word G l.0) - 1) k.0 k.1 in
        subst Obs r.is (met_is l.0 k.0 r.right (omega (arith, (range-bounds 0 (length G) l.0 l.1).1)) r.within within.0
        (omega (arith, within.0, within.1)) r.begins r.degree)

    -- the two leading words of an obstruction
    pub record HasLeads (o : Overlap) : Type 0 where
      -- the left element is one of the basis
      pub left_within : o.left < length G
      -- so is the right element
      pub right_within : o.right < length G
      -- the leading word of the left element is the letters before the shared ones, and these
      pub left_lead : lead_word G o.left ≡ o.before ++ o.shared
      -- that of the right element is the shared letters, and those behind them
      pub right_lead : lead_word G o.right ≡ o.shared ++ o.behind

    -- the parts of an obstruction make up the leading words of its two elements
    pub leads_of : (o : Overlap) → Obs o → HasLeads o
    leads_of o h = record {
      left_within = slice_get_within G o.left h.first h.at_left;
      right_within = slice_get_within G o.right h.second h.at_right;
      left_lead = ap lead_or_none (get_or_from_slice_get G o.left h.first [] h.at_left) ∙ lead-is h.first (o.before ++ o.shared) h.first_lead;
      right_lead = ap lead_or_none (get_or_from_slice_get G o.right h.second [] h.at_right) ∙ lead-is h.second (o.shared ++ o.behind) h.second_lead;
    }

    -- each obstruction of degree d is in the walk
    pub complete : (o : Overlap) → Obs o → Contains (all_blocks b.weights G d) o
    complete o h =
        let l = leads_of o h in
        let k = length o.before in
        let cut : take k (lead_word G o.left) ≡ o.before = ap (take k) l.left_lead ∙ take-append_seam o.before o.shared in
        let shared : shared_at G o.left k ≡ o.shared = ap (drop k) l.left_lead ∙ drop-append_seam o.before o.shared in
        let begins : take (length (shared_at G o.left k)) (lead_word G o.right) ≡ shared_at G o.left k =
        ap₂ (λ (n : ℕ) (w : List ℕ). take n w) (ap length shared) l.right_lead ∙ take-append_seam o.shared o.behind ∙ sym shared in
        let behind : drop (length (shared_at G o.left k)) (lead_word G o.right) ≡ o.behind =
        ap₂ (λ (n : ℕ) (w : List ℕ). drop n w) (ap length shared) l.right_lead ∙ drop-append_seam o.shared o.behind in
        let is : overlap_at G o.left k o.right ≡ o = λ i. record { left = o.left; right = o.right; before = cut i; shared = shared i; behind = behind i } in
        let degree : degree_of b.weights (lead_word G o.right) ≡ rest_of o.left k =
        omega (
          arith,
          h.degree,
          degree_of-append b.weights (o.before ++ o.shared) o.behind,
          degree_of-append b.weights o.before o.shared,
          degree_of-append b.weights o.shared o.behind,
          ap (degree_of b.weights) l.right_lead,
          ap (degree_of b.weights) cut,
        ) in
        let met = meets-both b.weights G o.left k (rest_of o.left k) o.right begins degree in
        let all = range_with_len 0 (length G) in
        let in_block : Contains (block b.weights G o.left k (rest_of o.left k)) (overlap_at G o.left k o.right) =
        Contains-filter (meets b.weights G (rest_of o.left k)) (map (overlap_at G o.left k) all) (overlap_at G o.left k o.right)
        (Contains-map (overlap_at G o.left k) all o.right (Contains-range 0 (length G) o.right (omega arith) (omega (arith, l.right_within)))) met in
        let sizes = ap length l.left_lead ∙ length-append o.before o.shared in
        let in_blocks = Contains-flat_map (λ before. block b.weights G o.left before (rest_of o.left before))
        (range_with_len 1 (length (lead_word G o.left) - 1)) k (overlap_at G o.left k o.right)
        (Contains-range 1 (length (lead_word G o.left) - 1) k (omega (arith, some-longer o.before h.some_before))
        (omega (arith, sizes, some-longer o.shared h.some_shared, some-longer o.before h.some_before))) in_block in
        subst (Contains (all_blocks b.weights G d)) is
        (Contains-flat_map (blocks b.weights G d) all o.left (overlap_at G o.left k o.right)
        (Contains-range 0 (length G) o.left (omega arith) (omega (arith, l.left_within))) in_blocks)
