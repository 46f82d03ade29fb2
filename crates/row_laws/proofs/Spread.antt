-- Vectors over numbered columns as vectors over words.
use Rattle.std.proofs.Common.{ap₂, ◌≡◌, ◌<◌, ℕ, zero, suc, Bool, true, false, cond, List, [], ◌∷◌, AllPairs, map, length, get_or, refl, sym, ap}
use Rattle.std.proofs.Common.{◌∙◌, arith, subst, bytes_eq}
use Rattle.std.specs.List.{Contains}
use Rattle.std.proofs.Math.Nat.{mod-eq_of_lt}
use Rattle.std.proofs.lemmas.List.Elements.{All-cons, All-map, All-nil}
use Rattle.words.specs.Order.{IsLetterwiseGreater}
use Rattle.words.proofs.Members.{AllPairs-first, AllPairs-rest, Contains-first, Contains-more}
use Rattle.field_table.specs.Residues.{IsFieldModulus}
use Rattle.free_poly.specs.Terms.{term_at}
use Rattle.free_poly.proofs.Merges.{total_at-term_at}
use Rattle.free_poly.proofs.Totals.{letterwise-apart, not_here, here}
use Rattle.linear_algebra.specs.Fields.{Field}
use Rattle.linear_algebra.specs.Spans.{sum_of, IsInSpan}
use Rattle.linear_algebra.specs.Mod.{Residue}
use Rattle.linear_algebra.proofs.Algebra.{mul_zero, zero_add, add_swap}
use Rattle.linear_algebra.proofs.Elimination.{IsInSpan-trans}
use Rattle.linear_algebra.proofs.ModField.{same_residue}
use Rattle.ideal_laws.proofs.Vectors.{vector_of-append}
use Rattle.ideal_laws.proofs.Vectors as vectors
use Rattle.back_reduce.specs.Rows.{IsRow, vector}
use Rattle.free_poly.specs.Poly.{element_on}

module _ (p : ℕ) (fm : IsFieldModulus p) where
  abbrev K : Field
  K = vectors.K p fm

  -- over words, and over numbered columns
  abbrev V : Type 0
  V = List ℕ → Residue p

  abbrev N : Type 0
  N = ℕ → Residue p

  -- the entry of each column at its word
  abbrev pub spread : List (List ℕ) → N → V
  spread [] u w = K.zero
  spread (x ∷ xs) u w = K.add (cond (bytes_eq x w) (u zero) K.zero) (spread xs (λ k. u (suc k)) w)

  -- where all entries are 0, the vector over words is 0
  pub spread-zero : (xs : List (List ℕ)) (u : N) → ((k : ℕ) → u k ≡ K.zero) → (w : List ℕ) → spread xs u w ≡ K.zero
  spread-zero [] u h w = refl
  spread-zero (x ∷ xs) u h w = ap₂ K.add (by_test (bytes_eq x w)) (spread-zero xs (λ k. u (suc k)) (λ k. h (suc k)) w) ∙ K.add_zero K.zero
    where
      by_test : (b : Bool) → cond b (u zero) K.zero ≡ K.zero
      by_test true = h zero
      by_test false = refl

  -- at a word of no column the vector over words is 0
  pub spread-absent : (xs : List (List ℕ)) (u : N) (w : List ℕ) → (Contains xs w → ⊥) → spread xs u w ≡ K.zero
  spread-absent [] u w h = refl
  spread-absent (x ∷ xs) u w h =
      ap (λ (b : Bool). K.add (cond b (u zero) K.zero) (spread xs (λ k. u (suc k)) w))
      (not_here x w (λ e. h (subst (Contains (x ∷ xs)) e (Contains-first x xs))))
      ∙ zero_add K _ ∙ spread-absent xs (λ k. u (suc k)) w (λ m. h (Contains-more x xs w m))

  -- where the words fall, the vector over words has at the word of a column the entry there
  pub spread-at : (xs : List (List ℕ)) (u : N) (k : ℕ) → AllPairs IsLetterwiseGreater xs → k < length xs → spread xs u (get_or xs k []) ≡ u k
  spread-at [] u k h lt = absurd (omega (arith, lt))
  spread-at (x ∷ xs) u zero h lt =
      ap₂ (λ (b : Bool) (r : Residue p). K.add (cond b (u zero) K.zero) r) (here x x refl)
      (spread-absent xs (λ k. u (suc k)) x (λ m. letterwise-apart x x
      (subst (IsLetterwiseGreater x) m.2 (AllPairs-first IsLetterwiseGreater x xs h m.0 x m.1)) refl))
      ∙ K.add_zero (u zero)
  spread-at (x ∷ xs) u (suc k) h lt =
      ap (λ (b : Bool). K.add (cond b (u zero) K.zero) (spread xs (λ k. u (suc k)) (get_or xs k [])))
      (not_here x (get_or xs k []) (letterwise-apart x (get_or xs k [])
      (AllPairs-first IsLetterwiseGreater x xs h k [] (omega (arith, lt)))))
      ∙ zero_add K _ ∙ spread-at xs (λ k. u (suc k)) k (AllPairs-rest IsLetterwiseGreater x xs h) (omega (arith, lt))

  -- the vector of the element with these residues is the vector over words that they have
  pub spread-element : (xs : List (List ℕ)) (row w : List ℕ) → vectors.vector_of p fm (element_on xs row) w ≡ spread xs (vector p fm row) w
  spread-element [] row w = same_residue p _ _ refl
  spread-element (x ∷ xs) [] w = same_residue p _ _ refl ∙ sym (spread-zero (x ∷ xs) (vector p fm []) (λ k. nothing k) w)
    where
      nothing : (k : ℕ) → vector p fm [] k ≡ K.zero
      nothing zero = same_residue p _ _ refl
      nothing (suc k) = same_residue p _ _ refl
  spread-element (x ∷ xs) (a ∷ row) w =
      vector_of-append p fm (term_at x a) (element_on xs row) w
      ∙ ap₂ K.add (ap (vectors.of p fm) (total_at-term_at x a w) ∙ by_test (bytes_eq x w)) (spread-element xs row w)
    where
      by_test : (b : Bool) → vectors.of p fm (cond b a 0) ≡ cond b (vector p fm (a ∷ row) zero) K.zero
      by_test true = same_residue p _ _ refl
      by_test false = same_residue p _ _ refl

  -- the vector over words of a * u + v is a times that of u, and that of v
  pub spread-linear : (xs : List (List ℕ)) (a : Residue p) (u v : N) (w : List ℕ) →
      spread xs (λ k. K.add (K.mul a (u k)) (v k)) w ≡ K.add (K.mul a (spread xs u w)) (spread xs v w)
  spread-linear [] a u v w = sym (ap (λ (n : Residue p). K.add n K.zero) (mul_zero K a) ∙ K.add_zero K.zero)
  spread-linear (x ∷ xs) a u v w =
      ap₂ K.add (by_test (bytes_eq x w)) (spread-linear xs a (λ k. u (suc k)) (λ k. v (suc k)) w)
      ∙ add_swap K (K.mul a (cond (bytes_eq x w) (u zero) K.zero)) (cond (bytes_eq x w) (v zero) K.zero)
      (K.mul a (spread xs (λ k. u (suc k)) w)) (spread xs (λ k. v (suc k)) w)
      ∙ ap (λ (n : Residue p). K.add n (K.add (cond (bytes_eq x w) (v zero) K.zero) (spread xs (λ k. v (suc k)) w)))
      (sym (K.mul_add a (cond (bytes_eq x w) (u zero) K.zero) (spread xs (λ k. u (suc k)) w)))
    where
      by_test : (b : Bool) → cond b (K.add (K.mul a (u zero)) (v zero)) K.zero ≡ K.add (K.mul a (cond b (u zero) K.zero)) (cond b (v zero) K.zero)
      by_test true = refl
      by_test false = sym (ap (λ (n : Residue p). K.add n K.zero) (mul_zero K a) ∙ K.add_zero K.zero)

  abbrev spread_part : List (List ℕ) → Residue p × N → Residue p × V
  spread_part xs c = (c.0, spread xs c.1)

  spread-sum : (xs : List (List ℕ)) (cs : List (Residue p × N)) (w : List ℕ) → spread xs (sum_of K ℕ cs) w ≡ sum_of K (List ℕ) (map (spread_part xs) cs) w
  spread-sum xs [] w = spread-zero xs (sum_of K ℕ []) (λ k. refl) w
  spread-sum xs (c ∷ cs) w = spread-linear xs c.0 c.1 (sum_of K ℕ cs) w ∙ ap (K.add (K.mul c.0 (spread xs c.1 w))) (spread-sum xs cs w)

  -- a member of a span goes to one of the span of what the members of P go to
  pub spread-member : (xs : List (List ℕ)) (P : N → Type 0) (Q : V → Type 0) → ((g : N) → P g → IsInSpan K (List ℕ) Q (spread xs g)) →
      (v : N) → IsInSpan K ℕ P v → IsInSpan K (List ℕ) Q (spread xs v)
  spread-member xs P Q h v s =
      IsInSpan-trans K (List ℕ) (λ g. (u : N) × P u × (g ≡ spread xs u)) Q (λ g m. subst (IsInSpan K (List ℕ) Q) (sym m.2) (h m.0 m.1)) (spread xs v)
      (record {
        parts = map (spread_part xs) s.parts;
        each = All-map (λ c. (u : N) × P u × (c.1 ≡ spread xs u)) (spread_part xs) s.parts (λ k c within. (_, s.each k c within, refl));
        sum = λ w. (λ i. spread xs (λ k. s.sum k i) w) ∙ spread-sum xs s.parts w;
      })

  -- the entries at the columns as numbers
  abbrev pub residues_of : List (List ℕ) → N → List ℕ
  residues_of [] u = []
  residues_of (x ∷ xs) u = (u zero).0 ∷ residues_of xs (λ k. u (suc k))

  -- the entries as numbers are a row of residues with one for each column
  pub residues_of-row : (xs : List (List ℕ)) (u : N) → IsRow p (length xs) (residues_of xs u)
  residues_of-row [] u = record { size = refl; residues = All-nil (λ a. a < p) }
  residues_of-row (x ∷ xs) u =
      let r = residues_of-row xs (λ k. u (suc k)) in
      record { size = ap suc r.size; residues = All-cons (λ a. a < p) (u zero).0 (residues_of xs (λ k. u (suc k))) (u zero).1 r.residues }

  -- the entries as numbers have the same vector over words as the entries
  pub spread-residues : (xs : List (List ℕ)) (u : N) (w : List ℕ) → spread xs (vector p fm (residues_of xs u)) w ≡ spread xs u w
  spread-residues [] u w = refl
  spread-residues (x ∷ xs) u w =
      let first : vector p fm (residues_of (x ∷ xs) u) zero ≡ u zero =
      same_residue p (vector p fm (residues_of (x ∷ xs) u) zero) (u zero) (mod-eq_of_lt (u zero).1) in
      ap₂ K.add (ap (λ (r : Residue p). cond (bytes_eq x w) r K.zero) first) (spread-residues xs (λ k. u (suc k)) w)
