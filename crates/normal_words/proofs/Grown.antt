-- The words of a degree, letter after letter, are the normal words of the degree.
use Rattle.std.proofs.Common.{◌≡◌, ◌≢◌, ◌+◌, ◌-◌, ◌<◌, ◌≤◌, ℕ, Bool, true, false, cond, leb, min, List, [], ◌∷◌, ◌++◌, length, get_or}
use Rattle.std.proofs.Common.{refl, sym, ap, inl, inr, arith, length-append, All, AllPairs, subst}
use Rattle.std.specs.List.{Contains, flat_map, range_with_len}
use Rattle.std.proofs.lemmas.Bool.{cases_Bool, cases_lt, le-leb, leb-true}
use Rattle.std.proofs.lemmas.List.{get_or_append_left, get_or_push, nil_from_length}
use Rattle.std.proofs.lemmas.List.Elements.{All-push, All-cons, All-contains, All-head, All-nil, All-tail}
use Rattle.std.proofs.lemmas.List.Kept.{AllPairs-cons}
use Rattle.words.specs.Order.{HasSmallerFirst, IsLetterwiseGreater}
use Rattle.words.specs.Words.{AreWeights, IsOver, OccursAt, degree_of, weight_of, words_of_degree}
use Rattle.words.proofs.Degrees.{Contains-range, listed_word, range-bounds, range-rising, words_of_degree-says}
use Rattle.words.proofs.Members.{AllPairs-flat_map, AllPairs-nil, All-from_members, Contains-cases, Contains-flat_map, Contains-flat_map_cases, Contains-none}
use Rattle.words.proofs.OrderFacts.{letterwise_from_difference}
use Rattle.words.proofs.Weights.{length-le-degree_of, weight_of-bounds}
use Rattle.lead_index.specs.declared.lead.Lead.{Lead}
use Rattle.lead_index.specs.Leads.{IsFree}
use Rattle.normal_words.specs.Normal.{AreBefore, AreConsecutive, AreNormal, WordsOfDegree, next_of}
use Rattle.normal_words.specs.Block.{block, block_at, words_at}
use Rattle.normal_words.proofs.Blocks.{IsFree-cons, IsFree-tail, IsInBlock, begins_free, block-falling, block-says, free_of_begins, in_block}

-- the block of a letter
abbrev pub block_of : List ℕ → List Lead → List WordsOfDegree → ℕ → List (List ℕ)
block_of weights leads before x = block_at leads before x (weight_of weights x)

-- the blocks of all letters
abbrev pub grown : List ℕ → List Lead → List WordsOfDegree → List (List ℕ)
grown weights leads before = flat_map (block_of weights leads before) (range_with_len 0 (length weights))

abbrev nothing : WordsOfDegree
nothing = record { degree = 0; words = [] }

module _ (weights : List ℕ) (leads : List Lead) (before : List WordsOfDegree) where
  block_at-says : (x weight : ℕ) (w : List ℕ) → Contains (block_at leads before x weight) w →
      (weight ≤ length before) × IsInBlock leads x (words_at before (length before - weight)) w
  block_at-says x weight w m = elim (cases_Bool (leb weight (length before))) [
    | inl is ↦ (
      leb-true _ _ is,
      block-says leads x (words_at before (length before - weight)) w
          (subst (λ (b : Bool). Contains (cond b (block leads x (words_at before (length before - weight))) []) w) is m),
    )
    | inr other ↦ absurd (Contains-none w (subst (λ (b : Bool). Contains (cond b (block leads x (words_at before (length before - weight))) []) w) other m))
  ]

  module _ (aw : AreWeights weights) (h : AreBefore weights leads before) where
    next-positive : (ns : List WordsOfDegree) → 0 < length ns → 0 < next_of ns
    next-positive [] some = absurd (omega (arith, some))
    next-positive (n ∷ ns) some = omega arith

    -- where the degree is that a letter leaves
    record IsLeft (x : ℕ) : Type 0 where
      within : length before - weight_of weights x < length before
      degree : (get_or before (length before - weight_of weights x) nothing).degree + weight_of weights x ≡ next_of before

    left : (x : ℕ) → weight_of weights x ≤ length before → IsLeft x
    left x le =
        let lt : length before - weight_of weights x < length before = omega (arith, h.some, (weight_of-bounds weights aw x).0) in
        record { within = lt; degree = omega (arith, h.consecutive (length before - weight_of weights x) nothing lt, le) }

    tails_normal : (x : ℕ) → weight_of weights x ≤ length before
        → AreNormal weights leads (get_or before (length before - weight_of weights x) nothing).degree (words_at before (length before - weight_of weights x))
    tails_normal x le = h.each (length before - weight_of weights x) nothing ((left x le).within)

    says : (w : List ℕ) → Contains (grown weights leads before) w → Contains (words_of_degree weights (next_of before)) w × IsFree leads w
    says w m =
        let r = Contains-flat_map_cases (block_of weights leads before) (range_with_len 0 (length weights)) w m in
        let s = block_at-says r.0 (weight_of weights r.0) w r.2 in
        let tail = ((tails_normal r.0 s.0).exactly s.1.tail).0 s.1.among in
        let of_tail = words_of_degree-says weights aw _ s.1.tail tail.0 in
        let over : IsOver (length weights) (r.0 ∷ s.1.tail) = All-cons (λ y. y < length weights) r.0 s.1.tail
        (omega (arith, (range-bounds 0 (length weights) r.0 r.1).1)) of_tail.0 in
        let e : degree_of weights (r.0 ∷ s.1.tail) ≡ next_of before = omega (arith, of_tail.1, (left r.0 s.0).degree) in (
          subst (Contains (words_of_degree weights (next_of before))) s.1.is
              (subst (λ (d : ℕ). Contains (words_of_degree weights d) (r.0 ∷ s.1.tail)) e (listed_word weights aw (r.0 ∷ s.1.tail) over)),
          subst (IsFree leads) s.1.is (IsFree-cons leads r.0 s.1.tail (free_of_begins leads (r.0 ∷ s.1.tail) s.1.free) tail.1),
        )

    has : min 8 (next_of before) ≤ length before → (w : List ℕ) → IsOver (length weights) w → degree_of weights w ≡ next_of before →
        IsFree leads w → Contains (grown weights leads before) w
    has enough [] over e f = absurd (omega (arith, e, next-positive before h.some))
    has enough (x ∷ v) over e f =
        let le : weight_of weights x ≤ length before = omega (arith, enough, e, (weight_of-bounds weights aw x).1) in
        let dv : degree_of weights v ≡ (get_or before (length before - weight_of weights x) nothing).degree = omega (arith, e, (left x le).degree) in
        let tails = words_at before (length before - weight_of weights x) in
        let listed = subst (λ (d : ℕ). Contains (words_of_degree weights d) v) dv (listed_word weights aw v (All-tail (λ y. y < length weights) x v over)) in
        let among = ((tails_normal x le).exactly v).1 (listed, IsFree-tail leads x v f) in
        let here : Contains (block_of weights leads before x) (x ∷ v) =
        subst (λ (b : Bool). Contains (cond b (block leads x tails) []) (x ∷ v)) (sym (le-leb _ _ le))
        (in_block leads x tails v among (begins_free leads (x ∷ v) (f 0))) in
        Contains-flat_map (block_of weights leads before) (range_with_len 0 (length weights)) x (x ∷ v)
        (Contains-range 0 (length weights) x (omega arith) (omega (arith, All-head (λ y. y < length weights) x v over))) here

    block_at-falling : (x : ℕ) → AllPairs IsLetterwiseGreater (block_of weights leads before x)
    block_at-falling x = by_test (leb (weight_of weights x) (length before)) refl
      where
        by_test : (b : Bool) → leb (weight_of weights x) (length before) ≡ b →
            AllPairs IsLetterwiseGreater (cond b (block leads x (words_at before (length before - weight_of weights x))) [])
        by_test true e = block-falling leads x weights aw (words_at before (length before - weight_of weights x)) (tails_normal x (leb-true _ _ e)).falling
        by_test false e = AllPairs-nil IsLetterwiseGreater

    across : (x y : ℕ) (u v : List ℕ) → x < y → Contains (block_of weights leads before x) u →
        Contains (block_of weights leads before y) v → IsLetterwiseGreater u v
    across x y u v lt m n =
        let a = (block_at-says x (weight_of weights x) u m).1 in
        let b = (block_at-says y (weight_of weights y) v n).1 in
        let first : HasSmallerFirst (x ∷ a.tail) (y ∷ b.tail) = record
        { at = 0; in_first = omega arith; in_second = omega arith; same_before = refl; smaller = lt } in
        subst (λ (w : List ℕ). IsLetterwiseGreater w v) a.is (subst (λ (w : List ℕ). IsLetterwiseGreater (x ∷ a.tail) w) b.is
        (letterwise_from_difference _ _ first))

    -- the blocks of all letters are the normal words of the next degree
    pub grown_normal : min 8 (next_of before) ≤ length before → AreNormal weights leads (next_of before) (grown weights leads before)
    grown_normal enough = record {
      exactly = λ w. (says w, λ (m, f). let s = words_of_degree-says weights aw (next_of before) w m in has enough w s.0 s.1 f);
      falling = AllPairs-flat_map (block_of weights leads before) (λ x y. x < y) IsLetterwiseGreater block_at-falling
          across (range_with_len 0 (length weights))
          (range-rising 0 (length weights));
    }

    -- in degrees below 64 no word has 64 letters
    pub words_short : next_of before ≤ 64 → All (λ n. All (λ v. length v < 64) n.words) before
    words_short room i n within =
        let normal = h.each i n within in
        All-from_members (λ v. length v < 64) _
        (λ v m. omega (
          arith,
          room,
          within,
          h.consecutive i n within,
          (words_of_degree-says weights aw _ v ((normal.exactly v).0 m).0).1,
          length-le-degree_of weights aw v,
        ))

-- degree 0 has the empty word, where no word of the index is empty
pub start_normal : (weights : List ℕ) (leads : List Lead) → All (λ l. l.word ≢ []) leads → AreNormal weights leads 0 ([] ∷ [])
start_normal weights leads some = record {
  exactly = λ w. (
    λ m. elim (Contains-cases [] [] w m) [
      | inl e ↦ (m, subst (IsFree leads) e free)
      | inr n ↦ absurd (Contains-none w n)
    ],
    λ (m, f). m,
  );
  falling = AllPairs-cons IsLetterwiseGreater [] [] (All-nil (IsLetterwiseGreater [])) (AllPairs-nil IsLetterwiseGreater);
}
  where
    free : IsFree leads []
    free at = All-from_members (λ l. OccursAt l.word [] at → ⊥) leads
        (λ l m o. All-contains (λ k. k.word ≢ []) leads l some m (nil_from_length l.word (omega (arith, o.within))))

-- the degree after one more
pub next_of-push : (before : List WordsOfDegree) (n : WordsOfDegree) → n.degree ≡ next_of before → next_of (before ++ n ∷ []) ≡ next_of before + 1
next_of-push [] n same = omega (arith, same)
next_of-push (m ∷ before) n same = omega (arith, length-append before (n ∷ []))

-- the degree that follows consecutive ones goes behind them
pub consecutive-push : (before : List WordsOfDegree) (n : WordsOfDegree) → AreConsecutive before → n.degree ≡ next_of before
    → AreConsecutive (before ++ n ∷ [])
consecutive-push before n h same i m lt =
    let size = length-append before (n ∷ []) in
    let next = next_of-push before n same in
    elim (cases_lt i (length before)) [
      | inl below ↦ omega (arith, size, next, h i m below, ap (λ (x : WordsOfDegree). x.degree) (get_or_append_left before (n ∷ []) m i below))
      | inr from ↦
          let last : length before ≡ i = omega (arith, size, lt, from) in
          omega (arith, size, next, last, same, ap (λ (x : WordsOfDegree). x.degree) (get_or_push before n m i last))
    ]

-- the list with the degree that follows
pub before-push : (weights : List ℕ) (leads : List Lead) (before : List WordsOfDegree) (n : WordsOfDegree) → AreBefore weights leads before
    → n.degree ≡ next_of before → AreNormal weights leads n.degree n.words
    → AreBefore weights leads (before ++ n ∷ [])
before-push weights leads before n h same normal = record {
  some = omega (arith, length-append before (n ∷ []));
  consecutive = consecutive-push before n h.consecutive same;
  each = All-push (λ k. AreNormal weights leads k.degree k.words) before n h.each normal;
}

-- degree 0 alone
pub before-start : (weights : List ℕ) (leads : List Lead) (n : WordsOfDegree) → n.degree ≡ 0 → n.words ≡ [] ∷ [] →
    All (λ l. l.word ≢ []) leads → AreBefore weights leads (n ∷ [])
before-start weights leads n none words some =
    let normal = subst (λ (d : ℕ). AreNormal weights leads d n.words) (sym none)
    (subst (AreNormal weights leads 0) (sym words) (start_normal weights leads some)) in
    record {
      some = omega arith;
      consecutive = λ i m lt. let first : i ≡ 0 = omega (arith, lt) in omega (arith, first, ap (λ (k : ℕ). (get_or (n ∷ []) k m).degree) first);
      each = All-cons (λ k. AreNormal weights leads k.degree k.words) n [] normal (All-nil (λ k. AreNormal weights leads k.degree k.words));
    }
