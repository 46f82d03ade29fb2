-- Two factors of one word: apart, one inside the other, or overlapping.
use Rattle.std.proofs.Common.{ap₂, ◌≡◌, ◌≢◌, ◌+◌, ◌*◌, ◌<◌, ◌≤◌, ℕ, Bool, true, false, cond, List, [], ◌∷◌, ◌++◌, length, refl, sym, ap, ◌∙◌, inl}
use Rattle.std.proofs.Common.{inr, arith, bytes_eq, length-append, append-nil}
use Rattle.std.specs.List.{flat_map}
use Rattle.std.proofs.Math.Nat.{mul_comm}
use Rattle.std.proofs.lemmas.Bool.{cases_lt}
use Rattle.std.proofs.lemmas.List.{append_assoc}
use Rattle.free_poly.specs.declared.term.Term.{Term}
use Rattle.free_poly.specs.Terms.{product, scaled, total_at}
use Rattle.free_poly.proofs.Totals.{total_at-append}

-- the longer of two prefixes of one word begins with the shorter
pub record IsSplit (a x b y : List ℕ) : Type 0 where
  pub between : List ℕ
  pub longer : b ≡ a ++ between
  pub rest : x ≡ between ++ y

-- where a * x and b * y are one word, and a is no longer than b, there is a word c with b = a * c and x = c * y
pub split : (a x b y : List ℕ) → a ++ x ≡ b ++ y → length a ≤ length b → IsSplit a x b y
split [] x b y e le = record { between = b; longer = refl; rest = e }
split (c ∷ a) x [] y e le = absurd (omega (arith, le))
split (c ∷ a) x (d ∷ b) y e le =
    let first : c ≡ d = cc e in
    let tails : a ++ x ≡ b ++ y = cc e in
    let s = split a x b y tails (omega (arith, le)) in
    record { between = s.between; longer = ap₂ (λ (h : ℕ) (r : List ℕ). h ∷ r) (sym first) s.longer; rest = s.rest }

some_length : (b : List ℕ) → 0 < length b → b ≢ []
some_length b lt e = omega (arith, lt, ap length e)

-- u * m * v and u' * n * v' are one word, and the first factor begins no later
pub data IsMet (u m v u' n v' : List ℕ) : Type 0 where
  apart : (c : List ℕ) → u' ≡ u ++ m ++ c → v ≡ c ++ n ++ v' → IsMet u m v u' n v'
  inside : (s t : List ℕ) → m ≡ s ++ n ++ t → u' ≡ u ++ s → v' ≡ t ++ v → IsMet u m v u' n v'
  starts : (b : List ℕ) → b ≢ [] → u' ≡ u → n ≡ m ++ b → v ≡ b ++ v' → IsMet u m v u' n v'
  overlap : (a c b : List ℕ) → a ≢ [] → c ≢ [] → b ≢ [] → u' ≡ u ++ a → m ≡ a ++ c → n ≡ c ++ b → v ≡ b ++ v' → IsMet u m v u' n v'

-- of two factors m and n of one word, m beginning no later, n stands behind m, inside it, or longer at its beginning, or overlaps it
pub meet : (u m v u' n v' : List ℕ) → u ++ (m ++ v) ≡ u' ++ (n ++ v') → length u ≤ length u' → IsMet u m v u' n v'
meet u m v u' n v' e le =
    let s = split u (m ++ v) u' (n ++ v') e le in
    elim (cases_lt (length s.between) (length m)) [
      | inr past ↦
          let c = split m v s.between (n ++ v') s.rest past in
          apart c.between (s.longer ∙ ap (λ (r : List ℕ). u ++ r) c.longer ∙ sym (append_assoc u m c.between)) (c.rest ∙ sym (append_assoc c.between n v'))
      | inl within ↦
          let c = split s.between (n ++ v') m v (sym s.rest) (omega (arith, within)) in
          let some : c.between ≢ [] = some_length c.between (omega (arith, within, ap length c.longer, length-append s.between c.between)) in
          elim (cases_lt (length c.between) (length n)) [
            | inr le' ↦
                let t = split n v' c.between v c.rest le' in
                inside s.between t.between (c.longer ∙ ap (λ (r : List ℕ). s.between ++ r) t.longer ∙ sym (append_assoc s.between n t.between)) s.longer t.rest
            | inl more ↦
                let b = split c.between v n v' (sym c.rest) (omega (arith, more)) in
                let some_b : b.between ≢ [] = some_length b.between (omega (arith, more, ap length b.longer, length-append c.between b.between)) in
                by_start s.between s.longer c.between c.longer some b.between b.longer some_b b.rest
          ]
    ]
  where
    by_start : (a : List ℕ) → u' ≡ u ++ a → (c : List ℕ) → m ≡ a ++ c → c ≢ [] → (b : List ℕ) → n ≡ c ++ b → b ≢ [] → v ≡ b ++ v' → IsMet u m v u' n v'
    by_start [] at c whole some b n_is some_b rest = starts b some_b (at ∙ append-nil u) (n_is ∙ ap (λ (r : List ℕ). r ++ b) (sym whole)) rest
    by_start (x ∷ a) at c whole some b n_is some_b rest = overlap (x ∷ a) c b (λ e. cc e) some some_b at whole n_is rest

-- the sum over s in g and t in h of the products of their coefficients, at u * s * c * t * v, in two ways
module _ (u c v : List ℕ) where
  abbrev pub by_second : List Term → List Term → List Term
  by_second g h = flat_map (λ t. scaled t.coefficient (product u g (c ++ t.word ++ v))) h

  abbrev pub by_first : List Term → List Term → List Term
  by_first g h = flat_map (λ s. scaled s.coefficient (product (u ++ s.word ++ c) h v)) g

  by_second-none : (h : List Term) (w : List ℕ) → total_at (by_second [] h) w ≡ 0
  by_second-none [] w = refl
  by_second-none (t ∷ h) w = by_second-none h w

  hit : List ℕ → List ℕ → ℕ → ℕ
  hit x w n = cond (bytes_eq x w) n 0

  hit-swap : (b : Bool) (m n : ℕ) → cond b (m * n) 0 ≡ cond b (n * m) 0
  hit-swap true m n = mul_comm m n
  hit-swap false m n = refl

  -- the words u * s * (c * t * v) and (u * s * c) * t * v are one
  pub round_words : (s t : List ℕ) → u ++ s ++ (c ++ t ++ v) ≡ (u ++ s ++ c) ++ t ++ v
  round_words s t = simp append_assoc refl

  one_first : (s : Term) (g h : List Term) (w : List ℕ) → total_at (by_second (s ∷ g) h) w
      ≡ total_at (scaled s.coefficient (product (u ++ s.word ++ c) h v)) w + total_at (by_second g h) w
  one_first s g [] w = refl
  one_first s g (t ∷ h) w =
      let word = round_words s.word t.word in
      let same : cond (bytes_eq (u ++ s.word ++ (c ++ t.word ++ v)) w) (t.coefficient * s.coefficient) 0
      ≡ cond (bytes_eq ((u ++ s.word ++ c) ++ t.word ++ v) w) (s.coefficient * t.coefficient) 0 =
      ap (λ (x : List ℕ). cond (bytes_eq x w) (t.coefficient * s.coefficient) 0) word
      ∙ hit-swap (bytes_eq ((u ++ s.word ++ c) ++ t.word ++ v) w) t.coefficient s.coefficient in
      let left = total_at-append (scaled t.coefficient (product u (s ∷ g) (c ++ t.word ++ v))) (by_second (s ∷ g) h) w in
      let right = total_at-append (scaled t.coefficient (product u g (c ++ t.word ++ v))) (by_second g h) w in
      omega (arith, left, right, same, one_first s g h w)

  -- the sum taken by the terms of h has at each word the same coefficient as the sum taken by those of g
  pub both_ways : (g h : List Term) (w : List ℕ) → total_at (by_second g h) w ≡ total_at (by_first g h) w
  both_ways [] h w = by_second-none h w
  both_ways (s ∷ g) h w =
      one_first s g h w ∙ ap (λ (n : ℕ). total_at (scaled s.coefficient (product (u ++ s.word ++ c) h v)) w + n) (both_ways g h w)
      ∙ sym (total_at-append (scaled s.coefficient (product (u ++ s.word ++ c) h v)) (by_first g h) w)
