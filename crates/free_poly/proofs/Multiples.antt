-- Multiples of a polynomial by a residue that has an inverse.
use Rattle.std.proofs.Common.{ap₂, ◌≡◌, ◌≢◌, ◌+◌, ◌*◌, ◌<◌, ◌%◌, ℕ, Bool, true, false, cond, List, [], ◌∷◌, map, refl, sym, ap, ◌∙◌, arith, bytes_eq, mul-zero}
use Rattle.std.proofs.Math.Nat.{add-mod, mod-eq_of_lt, mod-lt, mod-mod, mul_assoc, one-mul, zero-mod}
use Rattle.std.proofs.lemmas.Nat.{mul-mod_first, mul-mod_second}
use Rattle.std.proofs.lemmas.List.Elements.{All-map}
use Rattle.words.specs.Order.{IsLetterwiseGreater}
use Rattle.words.proofs.Members.{AllPairs-map}
use Rattle.free_poly.specs.declared.term.Term.{Term}
use Rattle.free_poly.specs.Terms.{HasResidues, IsSame, scaled, total_at}
use Rattle.free_poly.specs.Poly.{IsMultiple, IsPolynomial}

-- a times each coefficient, as residues
abbrev pub multiple_of : ℕ → ℕ → List Term → List Term
multiple_of p a f = map (λ t. record { word = t.word; coefficient = (a * t.coefficient) % p }) f

-- a multiple has the words of the polynomial, in their order
pub map-words-multiple_of : (p a : ℕ) (f : List Term) → map (λ (t : Term). t.word) (multiple_of p a f) ≡ map (λ (t : Term). t.word) f
map-words-multiple_of p a [] = refl
map-words-multiple_of p a (t ∷ f) = ap (λ (ws : List (List ℕ)). t.word ∷ ws) (map-words-multiple_of p a f)

-- a multiple whose coefficients are taken modulo p is the same element as a * f
pub IsSame-multiple_of : (p a : ℕ) (f : List Term) → IsSame p (multiple_of p a f) (scaled a f)
IsSame-multiple_of p a [] w = refl
IsSame-multiple_of p a (t ∷ f) w =
    let b = bytes_eq t.word w in
    add-mod (cond b ((a * t.coefficient) % p) 0) (total_at (multiple_of p a f) w) p
    ∙ ap₂ (λ (m n : ℕ). (m + n) % p) (once b (a * t.coefficient)) (IsSame-multiple_of p a f w)
    ∙ sym (add-mod (cond b (a * t.coefficient) 0) (total_at (scaled a f) w) p)
  where
    once : (b : Bool) (n : ℕ) → cond b (n % p) 0 % p ≡ cond b n 0 % p
    once true n = mod-mod n p
    once false n = refl

-- the coefficients of a multiple are residues
pub HasResidues-multiple_of : (p a : ℕ) (f : List Term) → 0 < p → HasResidues p (multiple_of p a f)
HasResidues-multiple_of p a f some = All-map (λ t. t.coefficient < p) (λ t. record { word = t.word; coefficient = (a * t.coefficient) % p })
    f (λ k d within. mod-lt _ some)

module _ (p a c : ℕ) (inverse : (c * a) % p ≡ 1) where
  -- c gives back what a took
  undone : (n : ℕ) → (c * ((a * n) % p)) % p ≡ n % p
  undone n = mul-mod_second c (a * n) p ∙ ap (λ (m : ℕ). m % p) (sym (mul_assoc c a n)) ∙ sym (mul-mod_first (c * a) n p)
      ∙ ap (λ (m : ℕ). (m * n) % p) inverse ∙ ap (λ (m : ℕ). m % p) (one-mul n)

  kept : (n : ℕ) → n < p → n ≢ 0 → (a * n) % p ≢ 0
  kept n below other e =
      other (sym (mod-eq_of_lt below) ∙ sym (undone n) ∙ ap (λ (m : ℕ). (c * m) % p) e ∙ ap (λ (m : ℕ). m % p) (mul-zero c) ∙ zero-mod p)

  -- a times a polynomial with residues is a polynomial, as a has an inverse
  pub IsPolynomial-multiple_of : (f : List Term) → IsPolynomial f → HasResidues p f → IsPolynomial (multiple_of p a f)
  IsPolynomial-multiple_of f form residues = record {
    falling = AllPairs-map (λ t. record { word = t.word; coefficient = (a * t.coefficient) % p })
        (λ s t. IsLetterwiseGreater s.word t.word) (λ s t. IsLetterwiseGreater s.word t.word) (λ s t g. g) f form.falling;
    nonzero = All-map (λ t. t.coefficient ≢ 0) (λ t. record { word = t.word; coefficient = (a * t.coefficient) % p }) f
        (λ k d within. kept _ (residues k d within) (form.nonzero k d within));
  }

  other_factor : a ≢ 0
  other_factor e = let zero : (c * a) % p ≡ 0 = ap (λ (n : ℕ). (c * n) % p) e ∙ ap (λ (n : ℕ). n % p) (mul-zero c) ∙ zero-mod p in omega (arith, inverse, zero)

  -- a times a polynomial is its multiple by a residue other than 0, as a has an inverse
  pub IsMultiple-multiple_of : (f : List Term) → a < p → IsMultiple p (multiple_of p a f) f
  IsMultiple-multiple_of f below = record { factor = a; other = omega (arith, other_factor); residue = below; same = IsSame-multiple_of p a f }
