-- The numbers of chains of each degree and length.
use Rattle.std.proofs.Common.{add-mul, ap₂, ◌≡◌, ◌+◌, ◌*◌, ◌<◌, ◌≤◌, ◌==◌, ℕ, Bool, true, false, cond, zero, suc, List, [], ◌∷◌, ◌++◌, All, length, refl, sym}
use Rattle.std.proofs.Common.{ap, ◌∙◌, inl, inr, arith}
use Rattle.std.proofs.Common.{AllPairs, append-nil, eq-eqb}
use Rattle.std.specs.List.{Contains, range_with_len, sum_by}
use Rattle.std.proofs.lemmas.Bool.{cases_lt, ne_eqb}
use Rattle.std.proofs.lemmas.List.Elements.{All-append, All-contains, All-head, All-nil, All-tail, All-weaker}
use Rattle.std.proofs.lemmas.List.Kept.{AllPairs-cons}
use Rattle.std.proofs.lemmas.List.Sums.{sum_by-append, sum_by-cons}
use Rattle.words.proofs.Degrees.{range-bounds, range-rising}
use Rattle.words.proofs.Members.{AllPairs-append, AllPairs-nil, All-from_members, Contains-cases, Contains-flat_map_cases, Contains-none}
use Rattle.anick_chains.specs.declared.chain.Chain.{Chain}
use Rattle.anick_chains.specs.declared.tally.ChainCount.{ChainCount}
use Rattle.anick_chains.specs.declared.tally.Tally.{Tally}
use Rattle.anick_chains.specs.Tallies.{IsCounted, IsLower, Tells, count_of, count_weight, counts_at, number_of, tally_weight}
use Rattle.anick_chains.proofs.Members.{AllPairs-joined}
use Rattle.anick_chains.proofs.Sums.{sum_by-flat_map, sum_by-none, sum_by-plus, sum_by-same}

-- in a range of numbers one number stands once
pick : (g : ℕ → ℕ) (m a n : ℕ) → a ≤ m → m < a + n → sum_by (λ k. cond (m == k) 1 0 * g k) (range_with_len a n) ≡ g m
pick g m a zero le lt = absurd (omega (arith, le, lt))
pick g m a (suc n) le lt =
    let f = λ (k : ℕ). cond (m == k) 1 0 * g k in
    let split = sum_by-cons f a (range_with_len (a + 1) n) in
    elim (cases_lt a m) [
      | inl later ↦
          let none : f a ≡ 0 = ap (λ (t : Bool). cond t 1 0 * g a) (ne_eqb m a (λ e. omega (arith, e, later))) ∙ omega arith in
          omega (arith, split, none, pick g m (a + 1) n (omega (arith, later)) (omega (arith, lt)))
      | inr here ↦
          let is : m ≡ a = omega (arith, here, le) in
          let one : f a ≡ g a = ap (λ (t : Bool). cond t 1 0 * g a) (eq-eqb m a is) ∙ omega arith in
          let rest : sum_by f (range_with_len (a + 1) n) ≡ 0 = sum_by-none f (range_with_len (a + 1) n) (λ k c.
          ap (λ (t : Bool). cond t 1 0 * g k) (ne_eqb m k (λ e. omega (arith, e, is, (range-bounds (a + 1) n k c).0))) ∙ omega arith) in
          omega (arith, split, one, rest, ap g is)
    ]

-- how many chains have the length
abbrev with_length : List Chain → ℕ → ℕ
with_length chains n = sum_by (λ c. cond (length c.pieces == n) 1 0) chains

-- each chain is of one length
columns : (d : ℕ) (g : ℕ → ℕ) (chains : List Chain) → All (λ c. (0 < length c.pieces) × (length c.pieces ≤ d)) chains →
    sum_by (λ n. with_length chains n * g n) (range_with_len 1 d) ≡ sum_by (λ c. g (length c.pieces)) chains
columns d g [] all = sum_by-none (λ (n : ℕ). with_length [] n * g n) (range_with_len 1 d) (λ n m. omega arith)
columns d g (c ∷ cs) all =
    let own = All-head (λ (x : Chain). (0 < length x.pieces) × (length x.pieces ≤ d)) c cs all in
    let one = λ (n : ℕ). cond (length c.pieces == n) 1 0 * g n in
    let rest = λ (n : ℕ). with_length cs n * g n in
    let split : sum_by (λ n. with_length (c ∷ cs) n * g n) (range_with_len 1 d) ≡ sum_by (λ n. one n + rest n) (range_with_len 1 d) =
    sum_by-same (λ (n : ℕ). with_length (c ∷ cs) n * g n) (λ (n : ℕ). one n + rest n) (range_with_len 1 d) (λ n m.
    ap (λ (k : ℕ). k * g n) (sum_by-cons (λ (x : Chain). cond (length x.pieces == n) 1 0) c cs)
    ∙ add-mul (cond (length c.pieces == n) 1 0) (with_length cs n) (g n)) in
    split ∙ sum_by-plus one rest (range_with_len 1 d)
    ∙ ap₂ (λ (m n : ℕ). m + n) (pick g (length c.pieces) 1 d (omega (arith, own.0)) (omega (arith, own.1)))
    (columns d g cs (All-tail (λ (x : Chain). (0 < length x.pieces) × (length x.pieces ≤ d)) c cs all))
    ∙ sym (sum_by-cons (λ (x : Chain). g (length x.pieces)) c cs)

-- the tallies tell how many chains have a length
number_of-is : (n : ℕ) (tallies : List Tally) (chains : List Chain) → Tells tallies chains → number_of n tallies ≡ with_length chains n
number_of-is n tallies chains tells =
    sum_by-same (λ (t : Tally). cond (t.size == n) t.count 0) (tally_weight (λ e m q. cond (m == n) 1 0)) tallies (λ t m. by_test (t.size == n) t.count)
    ∙ tells (λ e m q. cond (m == n) 1 0)
  where
    by_test : (b : Bool) (k : ℕ) → cond b k 0 ≡ k * cond b 1 0
    by_test true k = omega arith
    by_test false k = omega arith

count_of-weight : (f : ℕ → ℕ → ℕ) (d n k : ℕ) → sum_by (count_weight f) (count_of d n k) ≡ k * f d n
count_of-weight f d n zero = omega arith
count_of-weight f d n (suc k) = sum_by-cons (count_weight f) (record { degree = d; size = n; count = suc k }) [] ∙ omega arith

count_of-says : (d n k : ℕ) (x : ChainCount) → Contains (count_of d n k) x → (x.degree ≡ d) × (x.size ≡ n) × (0 < x.count)
count_of-says d n zero x m = absurd (Contains-none x m)
count_of-says d n (suc k) x m = elim (Contains-cases (record { degree = d; size = n; count = suc k }) [] x m) [
  | inl is ↦ (ap (λ (y : ChainCount). y.degree) (sym is), ap (λ (y : ChainCount). y.size) (sym is), omega (arith, ap (λ (y : ChainCount). y.count) is))
  | inr none ↦ absurd (Contains-none x none)
]

count_of-alone : (d n k : ℕ) → AllPairs IsLower (count_of d n k)
count_of-alone d n zero = AllPairs-nil IsLower
count_of-alone d n (suc k) =
    AllPairs-cons IsLower (record { degree = d; size = n; count = suc k }) []
    (All-nil (IsLower (record { degree = d; size = n; count = suc k }))) (AllPairs-nil IsLower)

module _ (d : ℕ) (tallies : List Tally) (chains : List Chain) (tells : Tells tallies chains)
    (own : (c : Chain) → Contains chains c → (c.degree ≡ d) × (0 < length c.pieces) × (length c.pieces ≤ d)) where
  abbrev part : ℕ → List ChainCount
  part n = count_of d n (number_of n tallies)

  counts_at-weight : (f : ℕ → ℕ → ℕ) → sum_by (count_weight f) (counts_at d tallies) ≡ sum_by (λ c. f c.degree (length c.pieces)) chains
  counts_at-weight f =
      sum_by-flat_map (count_weight f) part (range_with_len 1 d)
      ∙ sum_by-same (λ (n : ℕ). sum_by (count_weight f) (part n)) (λ (n : ℕ). with_length chains n * f d n) (range_with_len 1 d) (λ n m.
      count_of-weight f d n (number_of n tallies) ∙ ap (λ (k : ℕ). k * f d n) (number_of-is n tallies chains tells))
      ∙ columns d (f d) chains (All-from_members (λ (c : Chain). (0 < length c.pieces) × (length c.pieces ≤ d)) chains (λ c m. let o = own c m in (o.1, o.2)))
      ∙ sum_by-same (λ (c : Chain). f d (length c.pieces)) (λ (c : Chain). f c.degree (length c.pieces)) chains (λ c m.
      ap (λ (e : ℕ). f e (length c.pieces)) (sym (own c m).0))

  says : (k : ChainCount) → Contains (counts_at d tallies) k → (k.degree ≡ d) × (0 < k.count)
  says k m =
      let r = Contains-flat_map_cases part (range_with_len 1 d) k m in
      let s = count_of-says d r.0 (number_of r.0 tallies) k r.2 in
      (s.0, s.2)

  at_rising : AllPairs IsLower (counts_at d tallies)
  at_rising =
      AllPairs-joined part (λ x y. x < y) IsLower (range_with_len 1 d) (range-rising 1 d) (λ n m. count_of-alone d n (number_of n tallies))
      (λ x y a b m n lt u v.
      let s = count_of-says d x (number_of x tallies) a u in
      let r = count_of-says d y (number_of y tallies) b v in
      inr (s.0 ∙ sym r.0, omega (arith, s.1, r.1, lt)))

  -- the numbers of one more degree
  pub counted_more : (e : ℕ) → d ≡ e + 1 → (counts : List ChainCount) (found : List Chain) → IsCounted e counts found →
      IsCounted d (counts ++ counts_at d tallies) (found ++ chains)
  counted_more e next counts found h = record {
    same = λ f.
        omega (
          arith,
          h.same f,
          counts_at-weight f,
          sum_by-append (count_weight f) counts (counts_at d tallies),
          sum_by-append (λ (c : Chain). f c.degree (length c.pieces)) found chains,
        );
    rising =
        AllPairs-append IsLower counts (counts_at d tallies) h.rising at_rising
        (λ k m. All-from_members (IsLower k) (counts_at d tallies) (λ j n.
        inl (omega (arith, All-contains (λ (x : ChainCount). x.degree ≤ e) counts k h.upto m, (says j n).0, next))));
    some = All-append (λ (k : ChainCount). 0 < k.count) counts (counts_at d tallies) h.some
        (All-from_members (λ (k : ChainCount). 0 < k.count) (counts_at d tallies) (λ k m. (says k m).1));
    upto =
        All-append (λ (k : ChainCount). k.degree ≤ d) counts (counts_at d tallies)
        (All-weaker (λ (k : ChainCount). k.degree ≤ e) (λ (k : ChainCount). k.degree ≤ d) (λ k le. omega (arith, le, next)) counts h.upto)
        (All-from_members (λ (k : ChainCount). k.degree ≤ d) (counts_at d tallies) (λ k m. omega (arith, (says k m).0)));
  }

-- no numbers of no chains
pub none_counted : IsCounted 0 [] []
none_counted = record {
  same = λ f. refl;
  rising = AllPairs-nil IsLower;
  some = All-nil (λ (k : ChainCount). 0 < k.count);
  upto = All-nil (λ (k : ChainCount). k.degree ≤ 0);
}

-- a number of chains where there are some
pub some_counted : (d n k : ℕ) → 0 < k → count_of d n k ≡ record { degree = d; size = n; count = k } ∷ []
some_counted d n zero some = absurd (omega (arith, some))
some_counted d n (suc k) some = refl

-- and nothing where there is none
pub none_appended : (counts : List ChainCount) (d n k : ℕ) → k ≡ 0 → counts ++ count_of d n k ≡ counts
none_appended counts d n zero e = append-nil counts
none_appended counts d n (suc k) e = absurd (omega (arith, e))
