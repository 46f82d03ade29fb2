-- Two lists of factors merged: the factors that were made, and what is left of the two.
use Rattle.std.proofs.Common.{ap₂, ◌≡◌, ◌+◌, ◌*◌, ◌-◌, ◌<◌, ◌%◌, ◌==◌, ℕ, Bool, true, false, cond, List, [], ◌∷◌, ◌++◌, length, get_or, take, drop}
use Rattle.std.proofs.Common.{refl, sym, ap, ◌∙◌, inl, inr, arith, add-zero, zero-add, mul-zero, zero-mul, append-nil, add-mul, mul_assoc, subst, All}
use Rattle.std.proofs.Common.{AllPairs}
use Rattle.std.proofs.Math.Nat.{add-mod-mod, mod-lt, mul-add}
use Rattle.std.proofs.lemmas.Bool.{cases_Bool, eqb-true}
use Rattle.std.proofs.lemmas.Cmp.{ranked}
use Rattle.std.proofs.lemmas.Nat.{mul-mod_first}
use Rattle.std.proofs.lemmas.List.{take_all}
use Rattle.std.proofs.lemmas.List.Elements.{All-cons, All-head, All-nil, All-push, All-tail}
use Rattle.std.proofs.lemmas.List.Quantifiers.{all_pairs_push}
use Rattle.std.specs.declared.cmp.Ordering.TheVariants.{Less, Equal, Greater}
use Rattle.words.proofs.Members.{AllPairs-first, AllPairs-nil, AllPairs-rest}
use Rattle.free_poly.specs.declared.term.Term.{Term}
use Rattle.free_poly.specs.Terms.{IsSame, scaled, total_at}
use Rattle.free_poly.proofs.Totals.{total_at-append, total_at-scaled}
use Rattle.cofactors.specs.declared.factors.Factor.{Factor}
use Rattle.cofactors.specs.Rows.{AreFactors, HasPlaces, combined, factor_at, firsts_cmp}

-- the sum of the factors, each times what its place has
abbrev pub valued : (ℕ → ℕ) → List Factor → ℕ
valued v [] = 0
valued v (f ∷ fs) = f.residue * v f.place + valued v fs

-- the place stands before all places of the list
abbrev pub IsBefore : ℕ → List Factor → Type 0
IsBefore k fs = All (λ f. k < f.place) fs

-- what is left of factors, behind each that was made
pub record IsLeft (p : ℕ) (made left : List Factor) : Type 0 where
  pub are : AreFactors p left
  pub behind : All (λ f. IsBefore f.place left) made

-- f and a times g, merged into the factors that were made and what is left of the two
pub record Merges (p a : ℕ) (f g made first second : List Factor) : Type 0 where
  pub sum : (v : ℕ → ℕ) → (valued v made + valued v first + a * valued v second) % p ≡ (valued v f + a * valued v g) % p
  pub places : (n : ℕ) → HasPlaces n f → HasPlaces n g → HasPlaces n made × HasPlaces n first × HasPlaces n second
  pub are : AreFactors p made
  pub first_left : IsLeft p made first
  pub second_left : IsLeft p made second

valued-append : (v : ℕ → ℕ) (f g : List Factor) → valued v (f ++ g) ≡ valued v f + valued v g
valued-append v [] g = sym (zero-add (valued v g))
valued-append v (x ∷ f) g = ap (λ (n : ℕ). x.residue * v x.place + n) (valued-append v f g) ∙ omega arith

valued-factor_at : (v : ℕ → ℕ) (k c : ℕ) → valued v (factor_at k c) ≡ c * v k
valued-factor_at v k c = elim (cases_Bool (c == 0)) [
  | inl none ↦ rw none (sym (ap (λ (n : ℕ). n * v k) (eqb-true c 0 none) ∙ zero-mul (v k)))
  | inr some ↦ rw some (add-zero (c * v k))
]

-- the combination has at each word what its elements have there, each times its factor
pub combined-total : (fs : List (List Term)) (factors : List Factor) (w : List ℕ) →
    total_at (combined fs factors) w ≡ valued (λ k. total_at (get_or fs k []) w) factors
combined-total fs [] w = refl
combined-total fs (x ∷ factors) w =
    total_at-append (scaled x.residue (get_or fs x.place [])) (combined fs factors) w
    ∙ ap₂ (λ (m n : ℕ). m + n) (total_at-scaled x.residue (get_or fs x.place []) w) (combined-total fs factors w)

-- what holds of each factor made and of the one at this place
All-made : (P : Factor → Type 0) (made : List Factor) (k c : ℕ) → All P made → P (record { place = k; residue = c }) → All P (made ++ factor_at k c)
All-made P made k c h here = elim (cases_Bool (c == 0)) [
  | inl none ↦ rw (none, append-nil) h
  | inr some ↦ rw some (All-push P made (record { place = k; residue = c }) h here)
]

AreFactors-made : (p : ℕ) (made : List Factor) (k c : ℕ) → AreFactors p made → c < p → All (λ f. f.place < k) made → AreFactors p (made ++ factor_at k c)
AreFactors-made p made k c are small before = record {
  residues = All-made (λ f. f.residue < p) made k c are.residues small;
  rising = by_test (c == 0);
}
  where
    by_test : (b : Bool) → AllPairs (λ f g. f.place < g.place) (made ++ cond b [] (record { place = k; residue = c } ∷ []))
    by_test true = subst (AllPairs (λ f g. f.place < g.place)) (sym (append-nil made)) are.rising
    by_test false = all_pairs_push (λ f g. f.place < g.place) made (record { place = k; residue = c }) are.rising before

first_behind : (p : ℕ) (made : List Factor) (x : Factor) (left : List Factor) → IsLeft p made (x ∷ left) → All (λ f. f.place < x.place) made
first_behind p made x left h k d within = All-head (λ f. (get_or made k d).place < f.place) x left (h.behind k d within)

-- the rest of a list, after a factor at the place of its first was made
IsLeft-rest : (p : ℕ) (made : List Factor) (x : Factor) (left : List Factor) (k c : ℕ) → IsLeft p made (x ∷ left) → k ≡ x.place →
    IsLeft p (made ++ factor_at k c) left
IsLeft-rest p made x left k c h is = record {
  are = record { residues = All-tail (λ f. f.residue < p) x left h.are.residues; rising = AllPairs-rest (λ f g. f.place < g.place) x left h.are.rising };
  behind = All-made (λ f. IsBefore f.place left) made k c
      (λ j d within. All-tail (λ f. (get_or made j d).place < f.place) x left (h.behind j d within))
      (subst (λ (n : ℕ). IsBefore n left) (sym is) (AllPairs-first (λ f g. f.place < g.place) x left h.are.rising));
}

IsLeft-kept : (p : ℕ) (made left : List Factor) (k c : ℕ) → IsLeft p made left → IsBefore k left → IsLeft p (made ++ factor_at k c) left
IsLeft-kept p made left k c h before = record { are = h.are; behind = All-made (λ f. IsBefore f.place left) made k c h.behind before }

-- a place before the first one is before all
pub before_first : (p k : ℕ) (y : Factor) (left : List Factor) → AreFactors p (y ∷ left) → k < y.place → IsBefore k (y ∷ left)
before_first p k y left are lt =
    All-cons (λ f. k < f.place) y left lt
    (λ j d within. let more : y.place < (get_or left j d).place = AllPairs-first (λ f g. f.place < g.place) y left are.rising j d within in
    omega (arith, lt, more))

-- one place taken from the sums: m was made, c is the new residue at a place that has w
taken : (p a m c w x y r s : ℕ) → c ≡ (x + a * y) % p → (m + c * w + r + a * s) % p ≡ (m + (x * w + r) + a * (y * w + s)) % p
taken p a m c w x y r s e =
    let apart : m + c * w + r + a * s ≡ (m + r + a * s) + c * w = omega arith in
    let product : (x + a * y) * w ≡ x * w + a * (y * w) = add-mul x (a * y) w ∙ ap (λ (n : ℕ). x * w + n) (mul_assoc a y w) in
    let joined : (m + r + a * s) + (x + a * y) * w ≡ m + (x * w + r) + a * (y * w + s) = omega (arith, product, mul-add a (y * w) s) in
    ap (λ (n : ℕ). n % p) apart ∙ sym (add-mod-mod (m + r + a * s) (c * w) p)
    ∙ ap (λ (n : ℕ). (m + r + a * s + n) % p) (ap (λ (n : ℕ). (n * w) % p) e ∙ mul-mod_first (x + a * y) w p)
    ∙ add-mod-mod (m + r + a * s) ((x + a * y) * w) p ∙ ap (λ (n : ℕ). n % p) joined

made_value : (v : ℕ → ℕ) (made : List Factor) (k c : ℕ) → valued v (made ++ factor_at k c) ≡ valued v made + c * v k
made_value v made k c = valued-append v made (factor_at k c) ∙ ap (λ (n : ℕ). valued v made + n) (valued-factor_at v k c)

module _ (p a : ℕ) (f g made : List Factor) where
  Merges-first : (x : Factor) (first second : List Factor) → Merges p a f g made (x ∷ first) second → IsBefore x.place second →
      Merges p a f g (made ++ factor_at x.place x.residue) first second
  Merges-first x first second m before = record {
    sum = λ v.
        ap (λ (n : ℕ). (n + valued v first + a * valued v second) % p) (made_value v made x.place x.residue)
        ∙ ap (λ (n : ℕ). (n + a * valued v second) % p) (omega arith) ∙ m.sum v;
    places = λ n h k. let q = m.places n h k in (
      All-made (λ f. f.place < n) made x.place x.residue q.0
          (All-head (λ f. f.place < n) x first q.1),
      All-tail (λ f. f.place < n) x first q.1,
      q.2,
    );
    are = AreFactors-made p made x.place x.residue m.are (All-head (λ f. f.residue < p) x first m.first_left.are.residues)
        (first_behind p made x first m.first_left);
    first_left = IsLeft-rest p made x first x.place x.residue m.first_left refl;
    second_left = IsLeft-kept p made second x.place x.residue m.second_left before;
  }

  Merges-second : (y : Factor) (c : ℕ) (first second : List Factor) → 0 < p → c ≡ (a * y.residue) % p →
      Merges p a f g made first (y ∷ second) → IsBefore y.place first → Merges p a f g (made ++ factor_at y.place c) first second
  Merges-second y c first second some is m before = record {
    sum = λ v.
        ap (λ (n : ℕ). (n + valued v first + a * valued v second) % p) (made_value v made y.place c)
        ∙ taken p a (valued v made) c (v y.place) 0 y.residue (valued v first) (valued v second) (is ∙ ap (λ (n : ℕ). n % p) (sym (zero-add (a * y.residue))))
        ∙ ap (λ (n : ℕ). (valued v made + n + a * (y.residue * v y.place + valued v second)) % p)
        (ap (λ (n : ℕ). n + valued v first) (zero-mul (v y.place)) ∙ zero-add (valued v first)) ∙ m.sum v;
    places = λ n h k. let q = m.places n h k in (
      All-made (λ f. f.place < n) made y.place c q.0 (All-head (λ f. f.place < n) y second q.2),
      q.1,
      All-tail (λ f. f.place < n) y second q.2,
    );
    are = AreFactors-made p made y.place c m.are (subst (λ (n : ℕ). n < p) (sym is) (mod-lt (a * y.residue) some)) (first_behind p made y second m.second_left);
    first_left = IsLeft-kept p made first y.place c m.first_left before;
    second_left = IsLeft-rest p made y second y.place c m.second_left refl;
  }

  Merges-both : (x y : Factor) (c : ℕ) (first second : List Factor) → 0 < p → x.place ≡ y.place → c ≡ (x.residue + (a * y.residue) % p) % p
      → Merges p a f g made (x ∷ first) (y ∷ second)
      → Merges p a f g (made ++ factor_at x.place c) first second
  Merges-both x y c first second some same is m = record {
    sum = λ v.
        ap (λ (n : ℕ). (n + valued v first + a * valued v second) % p) (made_value v made x.place c)
        ∙ taken p a (valued v made) c (v x.place) x.residue y.residue (valued v first) (valued v second) (is ∙ add-mod-mod x.residue (a * y.residue) p)
        ∙ ap (λ (k : ℕ). (valued v made + (x.residue * v x.place + valued v first) + a * (y.residue * v k + valued v second)) % p) same ∙ m.sum v;
    places = λ n h k. let q = m.places n h k in (
      All-made (λ f. f.place < n) made x.place c q.0 (All-head (λ f. f.place < n) x first q.1),
      All-tail (λ f. f.place < n) x first q.1,
      All-tail (λ f. f.place < n) y second q.2,
    );
    are = AreFactors-made p made x.place c m.are (subst (λ (n : ℕ). n < p) (sym is) (mod-lt (x.residue + (a * y.residue) % p) some))
        (first_behind p made x first m.first_left);
    first_left = IsLeft-rest p made x first x.place c m.first_left refl;
    second_left = IsLeft-rest p made y second x.place c m.second_left same;
  }

-- where nothing has been made yet, the two lists are left whole
pub Merges-none : (p a : ℕ) (f g : List Factor) → AreFactors p f → AreFactors p g → Merges p a f g [] f g
Merges-none p a f g hf hg = record {
  sum = λ v. ap (λ (n : ℕ). (n + a * valued v g) % p) (zero-add (valued v f));
  places = λ n h k. (All-nil (λ f. f.place < n), h, k);
  are = record { residues = All-nil (λ f. f.residue < p); rising = AllPairs-nil (λ f g. f.place < g.place) };
  first_left = record { are = hf; behind = All-nil (λ x. IsBefore x.place f) };
  second_left = record { are = hg; behind = All-nil (λ x. IsBefore x.place g) };
}

-- nothing is left
pub Merges-all : (p a : ℕ) (f g made : List Factor) → Merges p a f g made [] [] → (fs : List (List Term)) →
    IsSame p (combined fs made) (combined fs f ++ scaled a (combined fs g))
Merges-all p a f g made m fs w =
    let v : ℕ → ℕ = λ k. total_at (get_or fs k []) w in
    let whole : valued v made + 0 + a * 0 ≡ valued v made = omega (arith, mul-zero a) in
    let sum : total_at (combined fs f ++ scaled a (combined fs g)) w ≡ valued v f + a * valued v g =
    total_at-append (combined fs f) (scaled a (combined fs g)) w ∙ ap₂ (λ (x y : ℕ). x + y) (combined-total fs f w)
    (total_at-scaled a (combined fs g) w ∙ ap (λ (n : ℕ). a * n) (combined-total fs g w)) in
    ap (λ (n : ℕ). n % p) (combined-total fs made w ∙ sym whole) ∙ m.sum v ∙ ap (λ (n : ℕ). n % p) (sym sum)

-- what is left after the first factor, as a slice from place 1 on
abbrev pub after_first : List Factor → List Factor
after_first f = take (length f - 1) (drop 1 f)

after_first-cons : (x : Factor) (f : List Factor) → after_first (x ∷ f) ≡ f
after_first-cons x f = take_all (length (x ∷ f) - 1) f (omega arith)

-- the first of some factors
abbrev pub first_of : List Factor → Factor
first_of f = get_or f 0 (record { place = 0; residue = 0 })

module _ (p a : ℕ) (f g made : List Factor) where
  -- where the first list has the lower place, its first factor is made
  pub step_first : (first second : List Factor) → 0 < length first + length second → firsts_cmp first second ≡ Less
      → Merges p a f g made first second → Merges p a f g (made ++ factor_at (first_of first).place (first_of first).residue) (after_first first) second
  step_first [] [] some e m = absurd (omega (arith, some))
  step_first [] (u ∷ second) some e m = cc e
  step_first (t ∷ first) [] some e m = rw after_first-cons (Merges-first p a f g made t first [] m (All-nil (λ f. t.place < f.place)))
  step_first (t ∷ first) (u ∷ second) some e m =
      let lt : t.place < u.place = ranked t.place u.place Less (sym e) in
      rw after_first-cons (Merges-first p a f g made t first (u ∷ second) m (before_first p t.place u second m.second_left.are lt))

  -- where the second list has the lower place, a times its first factor is made
  pub step_second : (first second : List Factor) (c : ℕ) → 0 < p → firsts_cmp first second ≡ Greater → c ≡ (a * (first_of second).residue) % p
      → Merges p a f g made first second → Merges p a f g (made ++ factor_at (first_of second).place c) first (after_first second)
  step_second first [] c some e value m = cc e
  step_second [] (u ∷ second) c some e value m = rw after_first-cons (Merges-second p a f g made u c [] second some value m (All-nil (λ f. u.place < f.place)))
  step_second (t ∷ first) (u ∷ second) c some e value m =
      let lt : u.place < t.place = ranked t.place u.place Greater (sym e) in
      rw after_first-cons (Merges-second p a f g made u c (t ∷ first) second some value m (before_first p u.place t first m.first_left.are lt))

  -- where both have one place, the first factor and a times the second one are made one
  pub step_both : (first second : List Factor) (c : ℕ) → 0 < p → firsts_cmp first second ≡ Equal →
      c ≡ ((first_of first).residue + (a * (first_of second).residue) % p) % p
      → Merges p a f g made first second → Merges p a f g (made ++ factor_at (first_of first).place c) (after_first first) (after_first second)
  step_both first [] c some e value m = cc e
  step_both [] (u ∷ second) c some e value m = cc e
  step_both (t ∷ first) (u ∷ second) c some e value m =
      let same : t.place ≡ u.place = ranked t.place u.place Equal (sym e) in
      rw (after_first-cons, after_first-cons) (Merges-both p a f g made t u c first second some same value m)
