-- Steps of elimination in a table.
use Rattle.std.proofs.Common.{◌≡◌, ◌*◌, ◌%◌, ◌<◌, ℕ, zero, suc, List, [], ◌∷◌, All, Option, None, Some, map, length, get_or, set, replicate, refl}
use Rattle.std.proofs.Common.{sym, ap, ◌∙◌, inl, inr, arith, subst, mul-zero}
use Rattle.std.proofs.Math.Nat.{mod-lt, mod-mod, mul_comm, zero-mod}
use Rattle.std.proofs.lemmas.Bool.{cases_eq, cases_lt}
use Rattle.std.proofs.lemmas.List.{get_or-map, get_or-replicate, get_or-set_other, get_or-set_same, get_or_past, length-map, length-replicate, length-set}
use Rattle.std.proofs.lemmas.List.Elements.{All-map}
use Rattle.std.proofs.lemmas.Nat.{mul-mod}
use Rattle.field_table.specs.Residues.{IsFieldModulus, product_of}
use Rattle.linear_algebra.specs.Fields.{Field}
use Rattle.linear_algebra.specs.Mod.{same_residue}
use Rattle.linear_algebra.specs.Spans.{IsInSpan}
use Rattle.linear_algebra.proofs.Algebra.{IsInSpan-one, IsInSpan-scaled, IsInSpan-zero}
use Rattle.linear_algebra.proofs.Elimination.{same_span}
use Rattle.back_reduce.specs.declared.table.Held.{Held}
use Rattle.back_reduce.specs.Entries.{IsLead}
use Rattle.back_reduce.specs.Table.{held_at, nothing, placed, IsFirstFree, IsHeldVector, IsInserted, IsLeader, IsPlusHeld, IsTable}
use Rattle.back_reduce.proofs.Sums.{plus_back, plus_inside, plus_nothing}
use Rattle.back_reduce.proofs.Vectors.{K, V, res, vec, vec-scaled, vec-zero}

-- what is left of a row, made monic, leads at its first column
pub leader_from : (p m c a : ℕ) (left : List ℕ) → 0 < p → length left ≡ m → c < m → ((k : ℕ) → k < c → get_or left k 0 ≡ 0) →
    product_of p a (get_or left c 0) ≡ 1 → IsLeader p m c (map (λ r. product_of p a r) left)
leader_from p m c a left pos l within none one = record {
  size = length-map left (λ r. product_of p a r) ∙ l;
  residues = All-map (λ r. r < p) (λ r. product_of p a r) left (λ k d inside. mod-lt (a * get_or left k d) {m = p} pos);
  one = get_or-map (λ r. product_of p a r) left c 0 0 (omega (arith, within, l)) ∙ one;
  before = λ k lt. get_or-map (λ r. product_of p a r) left k 0 0 (omega (arith, within, l, lt)) ∙ ap (λ (n : ℕ). (a * n) % p) (none k lt)
      ∙ ap (λ (n : ℕ). n % p) (mul-zero a) ∙ zero-mod p;
}

-- no option is both none and some
pub none_is_some : {A : Type 0} (x : A) → None ≡ Some x → ⊥
none_is_some x e = cc e

-- values whose options are equal are equal
pub same_some : {A : Type 0} (x y : A) → Some x ≡ Some y → x ≡ y
same_some x y e = cc e

-- a column that holds a row is one of the table
pub held_within : (table : List (Option Held)) (c : ℕ) (held : Held) → held_at table c ≡ Some held → c < length table
held_within [] c held e = absurd (none_is_some held e)
held_within (x ∷ table) zero held e = omega arith
held_within (x ∷ table) (suc c) held e = omega (arith, held_within table c held e)

-- a row that is put where none led
module _ (table : List (Option Held)) (c : ℕ) (own : Held) (within : c < length table) where
  -- its column holds it
  pub put_there : held_at (set table c (Some own)) c ≡ Some own
  put_there = get_or-set_same table c (Some own) None within

  -- all other columns hold what they held
  pub put_elsewhere : (k : ℕ) → (k ≡ c → ⊥) → held_at (set table c (Some own)) k ≡ held_at table k
  put_elsewhere k other = get_or-set_other table c k (Some own) None other

  -- what holds of it at its column, and of each row of the table, holds of each row of the new table
  pub put_cases : (P : ℕ → Held → Type 0) → P c own → ((k : ℕ) (held : Held) → held_at table k ≡ Some held → P k held) →
      (k : ℕ) (held : Held) → held_at (set table c (Some own)) k ≡ Some held → P k held
  put_cases P mine others k held there = elim (cases_eq k c) [
    | inl is ↦
        let same : own ≡ held = same_some own held (sym put_there ∙ ap (held_at (set table c (Some own))) (sym is) ∙ there) in
        subst (P k) same (subst (λ (n : ℕ). P n own) (sym is) mine)
    | inr other ↦ others k held (sym (put_elsewhere k other) ∙ there)
  ]

  -- where its column held nothing, each row of the table is still held
  pub put_kept : held_at table c ≡ None → (k : ℕ) (held : Held) → held_at table k ≡ Some held → held_at (set table c (Some own)) k ≡ Some held
  put_kept free k held there =
      let other : k ≡ c → ⊥ = λ is. none_is_some held (sym free ∙ ap (held_at table) (sym is) ∙ there) in
      put_elsewhere k other ∙ there

-- a table with a row that leads at a column put there is a table
pub put_table : (p m c : ℕ) (table : List (Option Held)) (own : Held) → IsTable p m table → c < m → IsLeader p m c own.row →
    IsTable p m (set table c (Some own))
put_table p m c table own h within leader = record {
  size = length-set table c (Some own) ∙ h.size;
  leaders = λ k held inside there. put_cases table c own (omega (arith, within, h.size)) (λ n g. n < m → IsLeader p m n g.row)
      (λ _. leader) (λ n g e below. h.leaders n g below e) k held there inside;
}

-- m columns that hold nothing are a table
pub empty_table : (p m : ℕ) → IsTable p m (replicate m None)
empty_table p m = record {
  size = length-replicate m (nobody);
  leaders = λ c held within there. absurd (none_is_some held (sym (get_or-replicate m c nobody None within) ∙ there));
}
  where
    nobody : Option Held
    nobody = None

-- a table of nothing holds no row
pub empty_held : (m c : ℕ) (held : Held) → held_at (replicate m None) c ≡ Some held → ⊥
empty_held m c held there = elim (cases_lt c m) [
  | inl within ↦ none_is_some held (sym (get_or-replicate m c nobody None within) ∙ there)
  | inr past ↦ none_is_some held (sym (get_or_past (replicate m nobody) c None (omega (arith, past, length-replicate m nobody))) ∙ there)
]
  where
    nobody : Option Held
    nobody = None

module _ (p : ℕ) (modulus : IsFieldModulus p) where
  abbrev Kt : Field
  Kt = K p modulus

  abbrev Vt : Type 0
  Vt = V p modulus

  -- each row of the table is in the span
  abbrev pub AreSpanned : (Vt → Type 0) → List (Option Held) → Type 0
  AreSpanned Q table = (c : ℕ) (held : Held) → held_at table c ≡ Some held → IsInSpan Kt ℕ Q (vec p modulus held.row)

  by_rows : (Q : Vt → Type 0) (table : List (Option Held)) → AreSpanned Q table → (v : Vt) → IsHeldVector p modulus table v → IsInSpan Kt ℕ Q v
  by_rows Q table s v h = subst (IsInSpan Kt ℕ Q) (sym h.is) (s h.column h.held h.there)

  -- each row of a table is in the span of its rows
  pub own_rows : (table : List (Option Held)) → AreSpanned (IsHeldVector p modulus table) table
  own_rows table c held there = IsInSpan-one Kt ℕ (IsHeldVector p modulus table) (vec p modulus held.row)
      (record { column = c; held = held; there = there; is = refl })

  -- what an insertion does
  pub record HasInserted (Q : Vt → Type 0) (table : List (Option Held)) (row : List ℕ) (after : List (Option Held)) : Type 0 where
    pub spanned : AreSpanned Q table → IsInSpan Kt ℕ Q (vec p modulus row) → AreSpanned Q after
    pub kept : (c : ℕ) (held : Held) → held_at table c ≡ Some held → held_at after c ≡ Some held
    pub reached : IsInSpan Kt ℕ (IsHeldVector p modulus after) (vec p modulus row)

  -- an insertion keeps the table's rows, leaves all in each span that has these and the row, and has the row in the span of the rows
  pub has_inserted : (holder : ℕ) (Q : Vt → Type 0) (table : List (Option Held)) (row : List ℕ) (after : List (Option Held)) →
      IsInserted p holder table row after → HasInserted Q table row after
  has_inserted holder Q table row after (nothing left sum zeros is) =
      let none : (c : ℕ) → Kt.zero ≡ vec p modulus left c = λ c. sym (vec-zero p modulus left c (entry_zero left c zeros)) in
      subst (HasInserted Q table row) (sym is) (record {
        spanned = λ s r. s;
        kept = λ c held there. there;
        reached = plus_back p modulus (IsHeldVector p modulus table) (IsHeldVector p modulus table)
            (λ v h. IsInSpan-one Kt ℕ (IsHeldVector p modulus table) v h) row left (sum modulus)
            (same_span Kt ℕ (IsHeldVector p modulus table) (λ c. Kt.zero) (vec p modulus left) none (IsInSpan-zero Kt ℕ (IsHeldVector p modulus table)));
      })
    where
      entry_zero : (xs : List ℕ) (c : ℕ) → All (λ r. r ≡ 0) xs → get_or xs c 0 ≡ 0
      entry_zero xs c all = elim (cases_lt c (length xs)) [
        | inl within ↦ all c 0 within
        | inr past ↦ get_or_past xs c 0 past
      ]
  has_inserted holder Q table row after (placed left c a own sum within free lt one own_holder own_row is) =
      let put = set table c (Some own) in
      let b = res p modulus a in
      let d = res p modulus (get_or left c 0) in
      let inverse : Kt.mul d b ≡ Kt.one = same_residue p _ _ (sym (mul-mod (get_or left c 0) a p)
      ∙ ap (λ (n : ℕ). n % p) (mul_comm (get_or left c 0) a) ∙ sym (mod-mod (a * get_or left c 0) p) ∙ ap (λ (n : ℕ). n % p) one) in
      let monic : (k : ℕ) → vec p modulus own.row k ≡ Kt.mul b (vec p modulus left k) =
      λ k. ap (λ (r : List ℕ). vec p modulus r k) own_row ∙ vec-scaled p modulus a left k in
      let kept_rows : (k : ℕ) (held : Held) → held_at table k ≡ Some held → held_at put k ≡ Some held = put_kept table c own within free in
      let in_put : (v : Vt) → IsHeldVector p modulus table v → IsInSpan Kt ℕ (IsHeldVector p modulus put) v =
      λ v h. IsInSpan-one Kt ℕ (IsHeldVector p modulus put) v (record
      { column = h.column; held = h.held; there = kept_rows h.column h.held h.there; is = h.is }) in
      subst (HasInserted Q table row) (sym is) (record {
        spanned = λ s r. put_cases table c own within (λ n g. IsInSpan Kt ℕ Q (vec p modulus g.row))
            (same_span Kt ℕ Q (λ k. Kt.mul b (vec p modulus left k)) (vec p modulus own.row) (λ k. sym (monic k))
            (IsInSpan-scaled Kt ℕ Q b (vec p modulus left) (plus_inside p modulus (IsHeldVector p modulus table) Q (by_rows Q table s) row
            left (sum modulus) r)))
            s;
        kept = kept_rows;
        reached = plus_back p modulus (IsHeldVector p modulus table) (IsHeldVector p modulus put) in_put row left (sum modulus)
            (same_span Kt ℕ (IsHeldVector p modulus put) (λ k. Kt.mul d (vec p modulus own.row k)) (vec p modulus left)
            (λ k. ap (Kt.mul d) (monic k) ∙ sym (Kt.mul_assoc d b (vec p modulus left k))
            ∙ ap (λ (n : Kt.F). Kt.mul n (vec p modulus left k)) inverse ∙ Kt.mul_comm Kt.one (vec p modulus left k)
            ∙ Kt.mul_one (vec p modulus left k))
            (IsInSpan-scaled Kt ℕ (IsHeldVector p modulus put) d (vec p modulus own.row) (own_rows put c own (put_there table c own within))));
      })

-- a table with what is left of a row, made monic, at the column where it leads freely is a table, and has the row inserted
pub placed_from : (p holder at a : ℕ) (table : List (Option Held)) (items left : List ℕ) (own : Held) → IsTable p (length items) table →
    length left ≡ length items → IsPlusHeld p table items left → IsFirstFree table left at
    → a < p → product_of p a (get_or left at 0) ≡ 1 → own.holder ≡ holder → own.row ≡ map (λ r. product_of p a r) left
    → IsTable p (length items) (set table at (Some own)) × IsInserted p holder table items (set table at (Some own))
placed_from p holder at a table items left own h l sum first lt one own_holder own_row =
    let below : at < length items = omega (arith, first.within, l) in
    let leader = leader_from p (length items) at a left (omega (arith, lt)) l below first.before one in (
      put_table p (length items) at table own h below (subst (IsLeader p (length items) at) (sym own_row) leader),
      placed left at a own sum (omega (arith, below, h.size)) first.free lt one own_holder own_row refl,
    )

-- a table with a row, made monic, at its leading column, where none led, is a table, and has the row inserted
pub placed_first : (p holder at a : ℕ) (table : List (Option Held)) (row : List ℕ) (own : Held) → IsTable p (length row) table →
    IsLead row at → held_at table at ≡ None → a < p → product_of p a (get_or row at 0) ≡ 1 → own.holder ≡ holder →
    own.row ≡ map (λ r. product_of p a r) row
    → IsTable p (length row) (set table at (Some own)) × IsInserted p holder table row (set table at (Some own))
placed_first p holder at a table row own h lead free = placed_from p holder at a table row row own h refl
    (λ modulus. plus_nothing p modulus (IsHeldVector p modulus table) row row refl)
    (record { within = lead.within; other = lead.other; free = free; before = lead.before })
