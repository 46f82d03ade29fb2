-- The chain text, degree and length after degree and length.
use Rattle.std.proofs.Common.{◌≡◌, ◌+◌, ◌-◌, ◌<◌, ◌≤◌, ◌==◌, ◌&&◌, ℕ, Bool, true, false, List, [], ◌∷◌, ◌++◌, All, if◌then◌else◌, Some, length, take}
use Rattle.std.proofs.Common.{drop, get_or, refl, sym, ap, ◌∙◌, arith, subst, eq-eqb, append_assoc}
use Rattle.std.specs.List.{flat_map, join_by, slice_get}
use Rattle.std.proofs.Common.{drop-cons, drop-drop, get_or-drop, get_or-take, length-drop, length-take, suc}
use Rattle.std.proofs.lemmas.Bool.{eqb-true}
use Rattle.std.proofs.lemmas.List.{take-append-drop, take_all}
use Rattle.std.proofs.lemmas.List.Elements.{All-head, All-tail}
use Rattle.anick_chains.specs.declared.chain.Chain.{Chain}
use Rattle.anick_chains.specs.Listed.{pieces_of}
use Rattle.anick_chains.specs.Texts.{Block, HasShape, block_text, blocks_of, chain_text, fits, one_chain, with_chain}

abbrev block : ℕ → ℕ → List (List (List ℕ)) → Block
block d n chains = record { degree = d; size = n; chains = chains }

fits-true : (c : Chain) (b : Block) → c.degree ≡ b.degree → length c.pieces ≡ b.size → fits c b ≡ true
fits-true c b e f = rw (eq-eqb c.degree b.degree e) (eq-eqb (length c.pieces) b.size f)

-- and only there
pub fits-says : (c : Chain) (b : Block) → fits c b ≡ true → (c.degree ≡ b.degree) × (length c.pieces ≡ b.size)
fits-says c b e = by_tests (c.degree == b.degree) refl (length c.pieces == b.size) refl e
  where
    by_tests : (s : Bool) → (c.degree == b.degree) ≡ s → (t : Bool) → (length c.pieces == b.size) ≡ t → (s && t) ≡ true →
        (c.degree ≡ b.degree) × (length c.pieces ≡ b.size)
    by_tests true f true g h = (eqb-true c.degree b.degree f, eqb-true (length c.pieces) b.size g)
    by_tests false f t g h = cc h
    by_tests true f false g h = cc h

-- the first block has the shape of the first chain
with_chain-head : (r : Chain) (bs : List Block) → (b : Block) × (rest : List Block) × (with_chain r bs ≡ b ∷ rest) × (b.degree ≡ r.degree)
    × (b.size ≡ length r.pieces)
with_chain-head r [] = (one_chain r, [], refl, refl, refl)
with_chain-head r (b ∷ bs) = by_test (fits r b) refl
  where
    by_test : (t : Bool) → fits r b ≡ t
        → (x : Block) × (rest : List Block) × ((if t then block b.degree b.size (r.pieces ∷ b.chains) ∷ bs else one_chain r ∷ b ∷ bs) ≡ x
        ∷ rest) × (x.degree ≡ r.degree) × (x.size ≡ length r.pieces)
    by_test true e = let s = fits-says r b e in (block b.degree b.size (r.pieces ∷ b.chains), bs, refl, sym s.0, sym s.1)
    by_test false e = (one_chain r, b ∷ bs, refl, refl, refl)

-- a chain of another shape begins a block
with_chain-other : (d n : ℕ) (c r : Chain) (bs : List Block) → HasShape d n c → (HasShape d n r → ⊥) →
    with_chain c (with_chain r bs) ≡ block d n (c.pieces ∷ []) ∷ with_chain r bs
with_chain-other d n c r bs h other =
    let w = with_chain-head r bs in
    ap (with_chain c) w.2 ∙ by_test w.0 w.1 (fits c w.0) refl w.3 w.4 ∙ ap (λ (rest : List Block). block d n (c.pieces ∷ []) ∷ rest) (sym w.2)
  where
    by_test : (b : Block) (rest : List Block) (t : Bool) → fits c b ≡ t → b.degree ≡ r.degree → b.size ≡ length r.pieces
        → (if t then block b.degree b.size (c.pieces ∷ b.chains) ∷ rest else one_chain c ∷ b ∷ rest) ≡ block d n (c.pieces ∷ []) ∷ b ∷ rest
    by_test b rest true e f g = let s = fits-says c b e in absurd (other (sym (s.0 ∙ f) ∙ h.0, sym (s.1 ∙ g) ∙ h.1))
    by_test b rest false e f g = λ i. block (h.0 i) (h.1 i) (c.pieces ∷ []) ∷ b ∷ rest

-- chains of one shape, with no other one of it behind them, are a block
blocks_of-run : (d n : ℕ) (c : Chain) (front rest : List Chain) → All (HasShape d n) (c ∷ front) →
    ((r : Chain) (rs : List Chain) → rest ≡ r ∷ rs → HasShape d n r → ⊥)
    → blocks_of (c ∷ (front ++ rest)) ≡ block d n (pieces_of (c ∷ front)) ∷ blocks_of rest
blocks_of-run d n c [] [] all other = let h = All-head (HasShape d n) c [] all in λ i. block (h.0 i) (h.1 i) (c.pieces ∷ []) ∷ []
blocks_of-run d n c [] (r ∷ rs) all other = with_chain-other d n c r (blocks_of rs) (All-head (HasShape d n) c [] all) (other r rs refl)
blocks_of-run d n c (f ∷ fs) rest all other =
    let h = All-head (HasShape d n) c (f ∷ fs) all in
    ap (with_chain c) (blocks_of-run d n f fs rest (All-tail (HasShape d n) c (f ∷ fs) all) other)
    ∙ ap (λ (t : Bool). if t then block d n (c.pieces ∷ pieces_of (f ∷ fs)) ∷ blocks_of rest else one_chain c ∷ block d n (pieces_of (f ∷ fs)) ∷ blocks_of rest)
    (fits-true c (block d n (pieces_of (f ∷ fs))) h.0 h.1)

-- the same of any list that is not empty
run_text : (names : List (List ℕ)) (list : Bool) (d n : ℕ) (front rest : List Chain) → 0 < length front → All (HasShape d n) front →
    ((r : Chain) (rs : List Chain) → rest ≡ r ∷ rs → HasShape d n r → ⊥)
    → chain_text names list (front ++ rest) ≡ block_text names list (block d n (pieces_of front)) ++ chain_text names list rest
run_text names list d n [] rest some all other = absurd (omega (arith, some))
run_text names list d n (c ∷ front) rest some all other = ap (flat_map (block_text names list)) (blocks_of-run d n c front rest all other)

module _ (names : List (List ℕ)) (list : Bool) (chains : List Chain) (at end d n : ℕ) (more : at < end) (within : end ≤ length chains)
    (same : (k : ℕ) (c : Chain) → at ≤ k → k < end → HasShape d n (get_or chains k c))
    (longest : (c : Chain) → end < length chains → HasShape d n (get_or chains end c) → ⊥) where
  abbrev front : List Chain
  front = take (end - at) (drop at chains)

  split_run : drop at chains ≡ front ++ drop end chains
  split_run =
      let whole : at + (end - at) ≡ end = omega (arith, more) in
      sym (take-append-drop (end - at) (drop at chains)) ∙ ap (λ (r : List Chain). front ++ r)
      (drop-drop (end - at) at chains ∙ ap (λ (k : ℕ). drop k chains) whole)

  -- the text after one more degree and length, with what is left of the chains behind it
  pub text_step : (text new whole : List ℕ) → new ≡ text ++ block_text names list (block d n (pieces_of front)) →
      text ++ chain_text names list (drop at chains) ≡ whole
      → new ++ chain_text names list (drop end chains) ≡ whole
  text_step text new whole grown so_far =
      ap (λ (t : List ℕ). t ++ chain_text names list (drop end chains)) grown
      ∙ append_assoc text (block_text names list (block d n (pieces_of front))) (chain_text names list (drop end chains))
      ∙ ap (λ (t : List ℕ). text ++ t) (sym (ap (chain_text names list) split_run ∙ run_text names list d n front (drop end chains) some all other)) ∙ so_far
    where
      size : length front ≡ end - at
      size = omega (arith, length-take (end - at) (drop at chains), length-drop at chains, within, more)

      some : 0 < length front
      some = omega (arith, size, more)

      all : All (HasShape d n) front
      all i c lt =
          let read : get_or front i c ≡ get_or chains (at + i) c = get_or-take (end - at) (drop at chains) i c (omega (arith, lt, size))
          ∙ get_or-drop at chains i c in
          subst (HasShape d n) (sym read) (same (at + i) c (omega arith) (omega (arith, lt, size, more)))

      other : (r : Chain) (rs : List Chain) → drop end chains ≡ r ∷ rs → HasShape d n r → ⊥
      other r rs e h =
          let below : end < length chains = omega (arith, ap length e, length-drop end chains) in
          let next : get_or chains end r ∷ drop (suc end) chains ≡ r ∷ rs = sym (drop-cons chains end r below) ∙ e in
          let is : get_or chains end r ≡ r = cc next in
          longest r below (subst (HasShape d n) (sym is) h)

-- pieces joined, from the first one on
pub joined_pieces : (f : List ℕ → List ℕ) (bar : List ℕ) (pieces : List (List ℕ)) (q : List ℕ) → slice_get pieces 0 ≡ Some q
    → join_by f bar pieces ≡ f q ++ flat_map (λ y. bar ++ f y) (take (length pieces - 1) (drop 1 pieces))
joined_pieces f bar [] q e = cc e
joined_pieces f bar (p ∷ ps) q e =
    let is : p ≡ q = cc e in
    let rest : take (length (p ∷ ps) - 1) ps ≡ ps = take_all (length (p ∷ ps) - 1) ps (omega arith) in
    ap (λ (x : List ℕ). f x ++ flat_map (λ y. bar ++ f y) ps) is ∙ ap (λ (xs : List (List ℕ)). f q ++ flat_map (λ y. bar ++ f y) xs) (sym rest)
