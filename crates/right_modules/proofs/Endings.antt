-- The words of all last letters are the normal module words of the degree.
use Rattle.std.proofs.Common.{All, ◌≡◌, ◌≢◌, ◌+◌, ◌-◌, ◌==◌, ◌++◌, ◌<◌, ◌≤◌, ◌∙◌, ℕ, Bool, true, false, cond, ltb, List, [], ◌∷◌, AllPairs, ap, arith}
use Rattle.std.proofs.Common.{eq-eqb, get_or, inl, inr, length, refl, subst, sym}
use Rattle.std.specs.List.{Contains, flat_map, range_with_len}
use Rattle.std.proofs.lemmas.Bool.{cases_lt, eqb-true, le-ltb, lt-ltb, ltb-false, ltb-true}
use Rattle.std.proofs.lemmas.List.{get_or_default, get_or_past, same_from_push}
use Rattle.std.proofs.lemmas.List.Elements.{All-push, All-cons, All-head, All-nil}
use Rattle.words.specs.Words.{AreWeights, IsOver, degree_of, weight_of}
use Rattle.words.proofs.Degrees.{Contains-range, range-bounds, range-rising}
use Rattle.words.proofs.Members.{AllPairs-flat_map, AllPairs-nil, All-from_members, Contains-flat_map, Contains-flat_map_cases, Contains-none}
use Rattle.words.proofs.Weights.{degree_of-append, degree_of-positive, length-le-degree_of, weight_of-bounds}
use Rattle.ideal_laws.proofs.Factors.{All-back, All-front}
use Rattle.ideal_laws.proofs.Neighbours.{ended}
use Rattle.lead_index.specs.declared.lead.Lead.{Lead}
use Rattle.lead_index.specs.Leads.{IsFree}
use Rattle.normal_words.proofs.Blocks.{unless-pairs}
use Rattle.right_modules.specs.Extended.{AreHeld, AreNormal, ending, extended, stands, unless_stands}
use Rattle.right_modules.specs.Module.{IsModuleWord}
use Rattle.right_modules.specs.ModuleDimension.{module_words}
use Rattle.right_modules.proofs.ModuleWords.{IsFree-front, IsModuleWord-push, module_words-has, module_words-says}
use Rattle.right_modules.proofs.Standing.{extended-has, extended-says, unless_stands-has, unless_stands-says}

-- the words that end with each letter in turn
abbrev pub endings : List ℕ → ℕ → List Lead → ℕ → List (List (List ℕ)) → List (List ℕ)
endings weights free leads d held = flat_map (ending weights free leads d held) (range_with_len 0 (length weights))

module _ (weights : List ℕ) (aw : AreWeights weights) (free : ℕ) where
  module _ (leads : List Lead) (d : ℕ) (held : List (List (List ℕ))) (h : AreHeld weights free leads d held) where
    abbrev Apart : List ℕ → List ℕ → Type 0
    Apart v w = v ≢ w

    abbrev fronts : ℕ → List (List ℕ)
    fronts x = get_or held (weight_of weights x - 1) []

    -- the degree that a letter leaves, where it is held
    record IsLeft (x e : ℕ) : Type 0 where
      pub degree : e + weight_of weights x ≡ d
      pub normal : AreNormal weights free leads e (fronts x)

    left : (x : ℕ) → weight_of weights x - 1 < length held → IsLeft x (d - weight_of weights x)
    left x lt =
        let pos = (weight_of-bounds weights aw x).0 in
        let at : d - weight_of weights x + (weight_of weights x - 1) + 1 ≡ d = omega (arith, lt, pos, h.count) in
        record { degree = omega (arith, at, pos, lt, h.count); normal = h.each (weight_of weights x - 1) (d - weight_of weights x) lt at }

    -- a front of a letter has a degree that is held
    front_held : (x : ℕ) (u : List ℕ) → Contains (fronts x) u → weight_of weights x - 1 < length held
    front_held x u m = elim (cases_lt (weight_of weights x - 1) (length held)) [
      | inl lt ↦ lt
      | inr le ↦ absurd (Contains-none u (subst (λ (ws : List (List ℕ)). Contains ws u) (get_or_past held (weight_of weights x - 1) [] le) m))
    ]

    -- a word that ends with a free letter
    free_says : (x : ℕ) (w : List ℕ) → x < free → x < length weights → Contains (extended leads x (fronts x)) w
        → Contains (module_words weights free d) w × IsFree leads w
    free_says x w lt within m =
        let s = extended-says leads x (fronts x) w m in
        let l = left x (front_held x s.front s.among) in
        let a = (l.normal.exactly s.front).0 s.among in
        let b = module_words-says weights aw free (d - weight_of weights x) s.front a.0 in
        let over = All-push (λ y. y < length weights) s.front x b.1.0 within in
        let degree : degree_of weights (s.front ++ x ∷ []) ≡ d = omega (arith, degree_of-append weights s.front (x ∷ []), b.1.1, l.degree) in (
          subst (Contains (module_words weights free d)) s.is (module_words-has weights aw free d (s.front ++ x ∷ [])
              (IsModuleWord-push free s.front x b.0 lt) over degree),
          s.free,
        )

    -- a word that ends with a generator
    generator_says : (x : ℕ) (w : List ℕ) → free ≤ x → x < length weights → weight_of weights x ≡ d → Contains (unless_stands leads (x ∷ [])) w
        → Contains (module_words weights free d) w × IsFree leads w
    generator_says x w le within e m =
        let s = unless_stands-says leads (x ∷ []) w m in
        let word = module_words-has weights aw free d (x ∷ []) (le, All-nil (λ y. y < free))
        (All-cons (λ y. y < length weights) x [] within (All-nil (λ y. y < length weights))) (omega (arith, e)) in
        (subst (Contains (module_words weights free d)) s.1 word, subst (IsFree leads) s.1 s.0)

    ending-says : (x : ℕ) (w : List ℕ) → x < length weights → Contains (ending weights free leads d held x) w
        → Contains (module_words weights free d) w × IsFree leads w
    ending-says x w within m = by_letter (ltb x free) refl m
      where
        by_weight : (b : Bool) → (weight_of weights x == d) ≡ b → free ≤ x → Contains (cond b (unless_stands leads (x ∷ [])) []) w
            → Contains (module_words weights free d) w × IsFree leads w
        by_weight true e le n = generator_says x w le within (eqb-true (weight_of weights x) d e) n
        by_weight false e le n = absurd (Contains-none w n)

        by_letter : (b : Bool) → ltb x free ≡ b
            → Contains (cond b (extended leads x (fronts x)) (cond (weight_of weights x == d) (unless_stands leads (x ∷ [])) [])) w
            → Contains (module_words weights free d) w × IsFree leads w
        by_letter true e n = free_says x w (ltb-true x free e) within n
        by_letter false e n = by_weight (weight_of weights x == d) refl (ltb-false x free e) n

    ending-generator : (x : ℕ) → free ≤ x → weight_of weights x ≡ d → IsFree leads (x ∷ []) → Contains (ending weights free leads d held x) (x ∷ [])
    ending-generator x le e f =
        let no : ltb x free ≡ false = le-ltb x free le in
        subst (λ (b : Bool). Contains (cond b (extended leads x (fronts x)) (cond (weight_of weights x == d) (unless_stands leads (x ∷ [])) [])) (x ∷ []))
        (sym no)
        (subst (λ (b : Bool). Contains (cond b (unless_stands leads (x ∷ [])) []) (x ∷ [])) (sym (eq-eqb (weight_of weights x) d e))
        (unless_stands-has leads (x ∷ []) f))

    ending-free : (x : ℕ) (u : List ℕ) → x < free → Contains (fronts x) u → IsFree leads (u ++ x ∷ [])
        → Contains (ending weights free leads d held x) (u ++ x ∷ [])
    ending-free x u lt m f =
        subst (λ (b : Bool). Contains (cond b (extended leads x (fronts x)) (cond (weight_of weights x == d) (unless_stands leads (x ∷ [])) [])) (u ++ x ∷ []))
        (sym (lt-ltb x free lt))
        (extended-has leads x (fronts x) u m f)

    in_endings : (x : ℕ) (w : List ℕ) → x < length weights → Contains (ending weights free leads d held x) w → Contains (endings weights free leads d held) w
    in_endings x w within m =
        Contains-flat_map (ending weights free leads d held) (range_with_len 0 (length weights)) x w
        (Contains-range 0 (length weights) x (omega arith) (omega (arith, within))) m

    says : (w : List ℕ) → Contains (endings weights free leads d held) w → Contains (module_words weights free d) w × IsFree leads w
    says w m =
        let r = Contains-flat_map_cases (ending weights free leads d held) (range_with_len 0 (length weights)) w m in
        ending-says r.0 w (omega (arith, (range-bounds 0 (length weights) r.0 r.1).1)) r.2

    -- a generator and a word with a letter behind it
    has_longer : (g : ℕ) (v : List ℕ) (x : ℕ) → IsModuleWord free (g ∷ (v ++ x ∷ [])) → IsOver (length weights) (g ∷ (v ++ x ∷ []))
        → degree_of weights (g ∷ (v ++ x ∷ [])) ≡ d → IsFree leads (g ∷ (v ++ x ∷ []))
        → Contains (endings weights free leads d held) (g ∷ (v ++ x ∷ []))
    has_longer g v x mw over e f =
        let lt : x < free = All-head (λ y. y < free) x [] (All-back (λ y. y < free) v (x ∷ []) mw.1) in
        let over_u = All-front (λ y. y < length weights) (g ∷ v) (x ∷ []) over in
        let over_x : x < length weights = All-head (λ y. y < length weights) x [] (All-back (λ y. y < length weights) (g ∷ v) (x ∷ []) over) in
        let sum = degree_of-append weights (g ∷ v) (x ∷ []) in
        let some : 0 < degree_of weights (g ∷ v) = degree_of-positive weights aw (g ∷ v) (λ n. cc n) in
        let w = weight_of-bounds weights aw x in
        let l = left x (omega (arith, h.count, e, sum, some, w.0, w.1)) in
        let front : Contains (fronts x) (g ∷ v) =
        (l.normal.exactly (g ∷ v)).1 (
          module_words-has weights aw free (d - weight_of weights x) (g ∷ v)
              (mw.0, All-front (λ y. y < free) v (x ∷ []) mw.1) over_u (omega (arith, sum, e, l.degree)),
          IsFree-front leads (g ∷ v) (x ∷ []) f,
        ) in
        in_endings x (g ∷ (v ++ x ∷ [])) over_x (ending-free x (g ∷ v) lt front f)

    has : (w : List ℕ) → IsModuleWord free w → IsOver (length weights) w → degree_of weights w ≡ d → IsFree leads w
        → Contains (endings weights free leads d held) w
    has [] mw over e f = absurd mw
    has (g ∷ []) mw over e f =
        in_endings g (g ∷ []) (All-head (λ y. y < length weights) g [] over) (ending-generator g mw.0 (omega (arith, e)) f)
    has (g ∷ y ∷ v) mw over e f =
        let r = ended (y ∷ v) (λ n. cc n) in
        let is : g ∷ y ∷ v ≡ g ∷ (r.front ++ r.last ∷ []) = ap (λ (u : List ℕ). g ∷ u) r.is in
        subst (Contains (endings weights free leads d held)) (sym is)
        (has_longer g r.front r.last (subst (IsModuleWord free) is mw) (subst (IsOver (length weights)) is over)
        (ap (degree_of weights) (sym is) ∙ e) (subst (IsFree leads) is f))

    fronts-apart : (x : ℕ) → AllPairs Apart (fronts x)
    fronts-apart x = elim (cases_lt (weight_of weights x - 1) (length held)) [
      | inl lt ↦ (left x lt).normal.apart
      | inr le ↦ subst (AllPairs Apart) (sym (get_or_past held (weight_of weights x - 1) [] le)) (AllPairs-nil Apart)
    ]

    extended-apart : (x : ℕ) → AllPairs Apart (extended leads x (fronts x))
    extended-apart x =
        AllPairs-flat_map (λ u. unless_stands leads (u ++ x ∷ [])) Apart Apart (λ u. unless-pairs Apart (stands leads (u ++ x ∷ [])) (u ++ x ∷ []))
        (λ a b u v other m n e.
        let s = unless_stands-says leads (a ++ x ∷ []) u m in
        let t = unless_stands-says leads (b ++ x ∷ []) v n in
        other (same_from_push a b x x (s.1 ∙ e ∙ sym t.1)).0)
        (fronts x) (fronts-apart x)

    ending-apart : (x : ℕ) → AllPairs Apart (ending weights free leads d held x)
    ending-apart x = by_tests (ltb x free) (weight_of weights x == d)
      where
        by_tests : (b c : Bool) → AllPairs Apart (cond b (extended leads x (fronts x)) (cond c (unless_stands leads (x ∷ [])) []))
        by_tests true c = extended-apart x
        by_tests false true = unless-pairs Apart (stands leads (x ∷ [])) (x ∷ [])
        by_tests false false = AllPairs-nil Apart

    -- each word of a letter ends with it
    ends_with : (x : ℕ) (w : List ℕ) → Contains (ending weights free leads d held x) w → (front : List ℕ) × (front ++ x ∷ [] ≡ w)
    ends_with x w m = by_tests (ltb x free) (weight_of weights x == d) m
      where
        by_tests : (b c : Bool) → Contains (cond b (extended leads x (fronts x)) (cond c (unless_stands leads (x ∷ [])) [])) w
            → (front : List ℕ) × (front ++ x ∷ [] ≡ w)
        by_tests true c n = let s = extended-says leads x (fronts x) w n in (s.front, s.is)
        by_tests false true n = ([], (unless_stands-says leads (x ∷ []) w n).1)
        by_tests false false n = absurd (Contains-none w n)

    -- the words of all last letters
    pub endings_normal : AreNormal weights free leads d (endings weights free leads d held)
    endings_normal = record {
      exactly = λ w. (says w, λ (m, f). let s = module_words-says weights aw free d w m in has w s.0 s.1.0 s.1.1 f);
      apart = AllPairs-flat_map (ending weights free leads d held) (λ x y. x < y) Apart ending-apart
          (λ x y u v lt m n e.
          let a = ends_with x u m in
          let b = ends_with y v n in
          let same = (same_from_push a.0 b.0 x y (a.1 ∙ e ∙ sym b.1)).1 in
          omega (arith, lt, same))
          (range_with_len 0 (length weights)) (range-rising 0 (length weights));
    }

    -- in degrees below 64 no word has 64 letters
    pub held_short : d ≤ 64 → All (All (λ v. length v < 64)) held
    held_short room k ds within =
        let e : d - (k + 1) + k + 1 ≡ d = omega (arith, within, h.count) in
        let normal = h.each k (d - (k + 1)) within e in
        subst (All (λ v. length v < 64)) (get_or_default held k [] ds within)
        (All-from_members (λ v. length v < 64) (get_or held k []) (λ v m.
        let degree = (module_words-says weights aw free (d - (k + 1)) v ((normal.exactly v).0 m).0).1.1 in
        omega (arith, room, e, degree, length-le-degree_of weights aw v)))
