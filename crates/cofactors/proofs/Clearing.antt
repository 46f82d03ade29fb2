-- Rows to which multiples of leaders are added.
use Rattle.std.proofs.Common.{ap₂, ◌≡◌, ◌+◌, ◌*◌, ◌-◌, ◌<◌, ◌%◌, ℕ, List, [], ◌∷◌, ◌++◌, length, take, get_or, refl, sym, ap, ◌∙◌, arith, add-mul}
use Rattle.std.proofs.Common.{one-mul, mul_assoc, add-zero, mul-zero, zero-mul, subst, All, AllPairs}
use Rattle.std.specs.List.{Contains, flat_map}
use Rattle.std.proofs.Math.Nat.{add-mod, add-mod-mod, add-mul-mod_self_left, mod-eq_of_lt, zero-mod}
use Rattle.std.proofs.lemmas.Nat.{mul-mod_second}
use Rattle.std.proofs.lemmas.List.{get_or-take, get_or_default, length-take}
use Rattle.std.proofs.lemmas.List.Elements.{All-cons, All-push}
use Rattle.words.specs.Order.{IsLetterwiseGreater}
use Rattle.free_poly.specs.declared.term.Term.{Term}
use Rattle.free_poly.specs.Poly.{IsMonic, IsPolynomial, lead_or_none}
use Rattle.free_poly.specs.Terms.{scaled, total_at}
use Rattle.free_poly.proofs.NormalForms.{above_all, first_total}
use Rattle.free_poly.proofs.Totals.{AreApart-from_polynomial, total_at-append, total_at-scaled, total_residue}
use Rattle.cofactors.specs.declared.row.Row.{Row}
use Rattle.cofactors.specs.Rows.{IsPlusSpan, IsPlusTimes, IsRow, IsTracked, IsZeroAtLeads, combined, lead_word}

-- a sum and a times another, at a word
pub total-plus : (a : ℕ) (f g : List Term) (w : List ℕ) → total_at (f ++ scaled a g) w ≡ total_at f w + a * total_at g w
total-plus a f g w = total_at-append f (scaled a g) w ∙ ap (λ (n : ℕ). total_at f w + n) (total_at-scaled a g w)

-- where A is B + a L, B is T + x, L is y and z is x + a y, modulo p, A is T + z
added_up : (p a A B L T x y z : ℕ) → A % p ≡ (B + a * L) % p → B % p ≡ (T + x) % p → L % p ≡ y % p → z % p ≡ (x + a * y) % p → A % p ≡ (T + z) % p
added_up p a A B L T x y z e f g h =
    let times : (a * L) % p ≡ (a * y) % p = sym (mul-mod_second a L p) ∙ ap (λ (n : ℕ). (a * n) % p) g ∙ mul-mod_second a y p in
    let apart : T + x + a * y ≡ T + (x + a * y) = omega arith in
    e ∙ add-mod B (a * L) p ∙ ap₂ (λ (m n : ℕ). (m + n) % p) f times ∙ sym (add-mod (T + x) (a * y) p) ∙ ap (λ (n : ℕ). n % p) apart
    ∙ sym (add-mod-mod T (x + a * y) p) ∙ ap (λ (n : ℕ). (T + n) % p) (sym h) ∙ add-mod-mod T z p

-- where f is B + F and A is B + a L, modulo p, f is A and (p - 1) a L and F
taken_back : (p a A B L F f : ℕ) → 0 < p → f % p ≡ (B + F) % p → A % p ≡ (B + a * L) % p → f % p ≡ (A + ((p - 1) * a * L + F)) % p
taken_back p a A B L F f some e h =
    let m = a * L in
    let rest = (p - 1) * a * L + F in
    let back : (p - 1) * a * L ≡ (p - 1) * m = mul_assoc (p - 1) a L in
    let one_more : p - 1 + 1 ≡ p = omega (arith, some) in
    let whole : p * m ≡ (p - 1) * m + m = ap (λ (n : ℕ). n * m) (sym one_more) ∙ add-mul (p - 1) 1 m ∙ ap (λ (n : ℕ). (p - 1) * m + n) (one-mul m) in
    let sum : B + m + rest ≡ B + F + p * m = omega (arith, back, whole) in
    e ∙ sym (add-mul-mod_self_left (B + F) p m) ∙ ap (λ (n : ℕ). n % p) (sym sum) ∙ add-mod (B + m) rest p
    ∙ ap (λ (n : ℕ). (n + rest % p) % p) (sym h) ∙ sym (add-mod A rest p)

module _ (p a : ℕ) (leader before after : Row) (plus : IsPlusTimes p a leader before after) where
  -- the factors still say which elements were added
  pub plus-tracked : (fs : List (List Term)) (base : List Term) → IsTracked p fs [] leader → IsTracked p fs base before → IsTracked p fs base after
  plus-tracked fs base tl tb = record {
    places = plus.places (length fs) tl.places tb.places;
    sum = λ w.
        added_up p a (total_at after.element w) (total_at before.element w) (total_at leader.element w) (total_at base w)
        (total_at (combined fs before.factors) w) (total_at (combined fs leader.factors) w) (total_at (combined fs after.factors) w)
        (plus.element w ∙ ap (λ (n : ℕ). n % p) (total-plus a before.element leader.element w))
        (tb.sum w ∙ ap (λ (n : ℕ). n % p) (total_at-append base (combined fs before.factors) w))
        (tl.sum w)
        (plus.factors fs w ∙ ap (λ (n : ℕ). n % p) (total-plus a (combined fs before.factors) (combined fs leader.factors) w))
        ∙ ap (λ (n : ℕ). n % p) (sym (total_at-append base (combined fs after.factors) w));
  }

  -- what was a sum of multiples of the rows still is one
  pub plus-spanned : 0 < p → (rows : List Row) (f : List Term) → Contains rows leader → IsPlusSpan p rows f before.element → IsPlusSpan p rows f after.element
  plus-spanned some rows f among s = record {
    parts = ((p - 1) * a, leader) ∷ s.parts;
    among = All-cons (λ (c : ℕ × Row). Contains rows c.1) ((p - 1) * a, leader) s.parts among s.among;
    sum = λ w.
        let rest = flat_map (λ (c : ℕ × Row). scaled c.0 c.1.element) s.parts in
        let back = (p - 1) * a in
        taken_back p a (total_at after.element w) (total_at before.element w) (total_at leader.element w) (total_at rest w) (total_at f w) some
        (s.sum w ∙ ap (λ (n : ℕ). n % p) (total_at-append before.element rest w))
        (plus.element w ∙ ap (λ (n : ℕ). n % p) (total-plus a before.element leader.element w))
        ∙ ap (λ (n : ℕ). n % p) (sym (total_at-append after.element (scaled back leader.element ++ rest) w
        ∙ ap (λ (n : ℕ). total_at after.element w + n) (total_at-append (scaled back leader.element) rest w
        ∙ ap (λ (n : ℕ). n + total_at rest w) (total_at-scaled back leader.element w))));
  }

  at_word : 0 < p → IsRow p after → (w : List ℕ) (n : ℕ) → (total_at before.element w + a * total_at leader.element w) % p ≡ n % p → n < p →
      total_at after.element w ≡ n
  at_word some row w n is small =
      sym (mod-eq_of_lt (total_residue p some after.element (AreApart-from_polynomial after.element row.form) row.residues w))
      ∙ plus.element w ∙ ap (λ (m : ℕ). m % p) (total-plus a before.element leader.element w) ∙ is ∙ mod-eq_of_lt small

  -- where neither has anything there still is nothing
  pub zero_kept : 0 < p → IsRow p after → (w : List ℕ) → total_at before.element w ≡ 0 → total_at leader.element w ≡ 0 → total_at after.element w ≡ 0
  zero_kept some row w none also = at_word some row w 0 (ap₂ (λ (m n : ℕ). (m + a * n) % p) none also ∙ ap (λ (n : ℕ). (0 + n) % p) (mul-zero a)) some

  -- the negative of what is there takes it away
  pub zero_here : 0 < p → IsRow p after → (w : List ℕ) → total_at leader.element w ≡ 1 → (total_at before.element w + a) % p ≡ 0 → total_at after.element w ≡ 0
  zero_here some row w one none =
      let times : a * 1 ≡ a = omega arith in
      at_word some row w 0 (ap (λ (n : ℕ). (total_at before.element w + a * n) % p) one
      ∙ ap (λ (n : ℕ). (total_at before.element w + n) % p) times ∙ none ∙ sym (zero-mod p)) some

-- no multiple at all
pub plus_none : (p : ℕ) (leader row : Row) → IsPlusTimes p 0 leader row row
plus_none p leader row = record {
  element = λ w. ap (λ (n : ℕ). n % p) (none row.element leader.element w);
  factors = λ fs w. ap (λ (n : ℕ). n % p) (none (combined fs row.factors) (combined fs leader.factors) w);
  places = λ n h k. k;
}
  where
    none : (f g : List Term) (w : List ℕ) → total_at f w ≡ total_at (f ++ scaled 0 g) w
    none f g w = sym (total-plus 0 f g w ∙ ap (λ (n : ℕ). total_at f w + n) (zero-mul (total_at g w)) ∙ add-zero (total_at f w))

-- a monic one has 1 there
pub one_at_lead : (f : List Term) → IsMonic f → IsPolynomial f → total_at f (lead_or_none f) ≡ 1
one_at_lead [] monic form = absurd monic
one_at_lead (t ∷ f) monic form = first_total t f form ∙ monic

-- nothing stands above the leading word
pub none_above : (f : List Term) (w : List ℕ) → IsPolynomial f → IsLetterwiseGreater w (lead_or_none f) → total_at f w ≡ 0
none_above [] w form above = refl
none_above (t ∷ f) w form above = above_all w t f form above

-- what stands before a place in a list of pairs
pub earlier : {X : Type 0} (R : X → X → Type 0) (xs : List X) (i : ℕ) (x : X) → AllPairs R xs → i < length xs → x ≡ get_or xs i x → All (λ y. R y x) (take i xs)
earlier R xs i x pairs within is k d lt =
    let below : k < i = omega (arith, lt, length-take i xs) in
    subst (λ (y : _). R y x) (sym (get_or-take i xs k d below)) (subst (R (get_or xs k d)) (get_or_default xs i d x within ∙ sym is) (pairs k i d below within))

-- one leader more is cleared
pub zero-push : (p a : ℕ) (leader before after : Row) → IsPlusTimes p a leader before after → 0 < p → IsRow p after → IsRow p leader →
    (rows : List Row) → All (λ r. IsLetterwiseGreater (lead_word r) (lead_word leader)) rows
    → IsZeroAtLeads rows before.element → total_at after.element (lead_word leader) ≡ 0 → IsZeroAtLeads (rows ++ leader ∷ []) after.element
zero-push p a leader before after plus some row own rows greater zero here =
    All-push (λ r. total_at after.element (lead_word r) ≡ 0) rows leader
    (λ k d within. zero_kept p a leader before after plus some row (lead_word (get_or rows k d)) (zero k d within)
    (none_above leader.element (lead_word (get_or rows k d)) own.form (greater k d within))) here
