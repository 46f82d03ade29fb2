-- A list of residues and a multiple of another, added place by place.
use Rattle.std.proofs.Common.{◌≡◌, ◌+◌, ◌*◌, ◌%◌, ◌<◌, ℕ, zero, suc, List, [], ◌∷◌, length, get_or, refl, ap, ap₂, arith}
use Rattle.std.specs.List.{All}
use Rattle.std.proofs.Math.Nat.{mod-lt}
use Rattle.std.proofs.lemmas.List.Elements.{All-cons, All-nil}
use Rattle.field_table.specs.Residues.{plus_multiple}

-- a multiple added to a list leaves its length as it is
pub length-plus_multiple : (p a : ℕ) (y x : List ℕ) → length (plus_multiple p a y x) ≡ length y
length-plus_multiple p a [] x = refl
length-plus_multiple p a (r ∷ y) [] = refl
length-plus_multiple p a (r ∷ y) (s ∷ x) = ap suc (length-plus_multiple p a y x)

-- at each place of two lists of one length stands y + a * x modulo p
pub plus_multiple-at : (p a : ℕ) (y x : List ℕ) (k : ℕ) → length y ≡ length x → k < length y →
    get_or (plus_multiple p a y x) k 0 ≡ (get_or y k 0 + a * get_or x k 0) % p
plus_multiple-at p a [] x k l within = absurd (omega (arith, within))
plus_multiple-at p a (r ∷ y) [] k l within = absurd (omega (arith, l))
plus_multiple-at p a (r ∷ y) (s ∷ x) zero l within = refl
plus_multiple-at p a (r ∷ y) (s ∷ x) (suc k) l within = plus_multiple-at p a y x k (omega (arith, l)) (omega (arith, within))

-- a list as long as y and x that has at each place the entry of y and a times that of x is y + a * x
pub plus_multiple_by_places : (p a : ℕ) (y x z : List ℕ) → length z ≡ length y → length y ≡ length x
    → ((k : ℕ) → k < length y → get_or z k 0 ≡ (get_or y k 0 + a * get_or x k 0) % p) → z ≡ plus_multiple p a y x
plus_multiple_by_places p a [] x [] e l h = refl
plus_multiple_by_places p a [] x (t ∷ z) e l h = absurd (omega (arith, e))
plus_multiple_by_places p a (r ∷ y) [] z e l h = absurd (omega (arith, l))
plus_multiple_by_places p a (r ∷ y) (s ∷ x) [] e l h = absurd (omega (arith, e))
plus_multiple_by_places p a (r ∷ y) (s ∷ x) (t ∷ z) e l h =
    ap₂ ◌∷◌ (h zero (omega arith)) (plus_multiple_by_places p a y x z (omega (arith, e)) (omega (arith, l)) (λ k within. h (suc k) (omega (arith, within))))

-- the entries of y + a * x are residues
pub plus_multiple-residues : (p a : ℕ) (y x : List ℕ) → 0 < p → length y ≡ length x → All (λ r. r < p) (plus_multiple p a y x)
plus_multiple-residues p a [] x pos l = All-nil (λ r. r < p)
plus_multiple-residues p a (r ∷ y) [] pos l = absurd (omega (arith, l))
plus_multiple-residues p a (r ∷ y) (s ∷ x) pos l =
    All-cons (λ r. r < p) ((r + a * s) % p) (plus_multiple p a y x) (mod-lt (r + a * s) {m = p} pos) (plus_multiple-residues p a y x pos (omega (arith, l)))
