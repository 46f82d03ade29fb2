-- The numbers of normal module words, degree after degree, and the degrees that are held.
use Rattle.std.proofs.Common.{◌≡◌, ◌+◌, ◌++◌, ◌<◌, ◌≤◌, ℕ, zero, suc, List, [], ◌∷◌, All, arith, get_or, length, length-append, refl}
use Rattle.std.proofs.Common.{subst, sym, take}
use Rattle.std.proofs.lemmas.List.{get_or-take, length-take}
use Rattle.std.proofs.lemmas.List.Elements.{All-nil, All-push}
use Rattle.ideal_laws.specs.Ideal.{ideal_of}
use Rattle.ideal_laws.specs.declared.presentation.Presentation.{Presentation}
use Rattle.lead_index.specs.declared.lead.Lead.{Lead}
use Rattle.hilbert.proofs.Steps.{each-push}
use Rattle.right_modules.specs.Answered.{AreModuleNumbers, AreModuleOutside, IsFirstLarge, free_letters}
use Rattle.right_modules.specs.Extended.{AreHeld, AreNormal, TellsOutside}
use Rattle.right_modules.proofs.ModuleCounts.{counts_module}

module _ (weights : List ℕ) (free : ℕ) (leads : List Lead) where
  -- before degree 0 none is held
  pub none_held : AreHeld weights free leads 0 []
  none_held = record { count = refl; each = λ k e lt is. absurd (omega (arith, lt)) }

  -- one more degree before those held
  pub held-more : (d : ℕ) (held : List (List (List ℕ))) (words : List (List ℕ)) → AreHeld weights free leads d held → AreNormal weights free leads d words
      → AreHeld weights free leads (d + 1) (take 8 (words ∷ held))
  held-more d held words h normal = record {
    count = omega (arith, length-take 8 (words ∷ held), h.count);
    each = λ k e lt is. subst (AreNormal weights free leads e) (sym (get_or-take 8 (words ∷ held) k [] (within k lt))) (at k e lt is);
  }
    where
      within : (k : ℕ) → k < length (take 8 (words ∷ held)) → k < 8
      within k lt = omega (arith, lt, length-take 8 (words ∷ held))

      at : (k e : ℕ) → k < length (take 8 (words ∷ held)) → e + k + 1 ≡ d + 1 → AreNormal weights free leads e (get_or (words ∷ held) k [])
      at zero e lt is = let same : d ≡ e = omega (arith, is) in subst (λ (n : ℕ). AreNormal weights free leads n words) same normal
      at (suc k) e lt is = h.each k e (omega (arith, lt, length-take 8 (words ∷ held))) (omega (arith, is))

  -- the numbers of the degrees below d, none of which is above the limit
  pub record AreNumbersBelow (most d : ℕ) (numbers : List ℕ) : Type 0 where
    -- there are d numbers
    pub size : length numbers ≡ d
    -- the number of a degree counts its normal words
    pub each : (e : ℕ) → e < d → (words : List (List ℕ)) × AreNormal weights free leads e words × (get_or numbers e 0 ≡ length words)
    -- none is above the limit
    pub few : All (λ n. n ≤ most) numbers

  -- no degree is counted
  pub none_counted : (most : ℕ) → AreNumbersBelow most 0 []
  none_counted most = record { size = refl; each = λ e lt. absurd (omega (arith, lt)); few = All-nil (λ n. n ≤ most) }

  -- one more number
  pub numbers-more : (most d : ℕ) (numbers : List ℕ) (words : List (List ℕ)) → AreNumbersBelow most d numbers → AreNormal weights free leads d words
      → length words ≤ most
      → AreNumbersBelow most (d + 1) (numbers ++ length words ∷ [])
  numbers-more most d numbers words h normal le = record {
    size = omega (arith, h.size, length-append numbers (length words ∷ []));
    each = each-push (λ e n. (ws : List (List ℕ)) × AreNormal weights free leads e ws × (n ≡ length ws)) numbers (length words) d h.size h.each
        (words, normal, refl);
    few = All-push (λ n. n ≤ most) numbers (length words) h.few le;
  }

module _ (p : ℕ) (given : Presentation) (gens bound : ℕ) (leads : List Lead) (tells : TellsOutside p given gens bound leads) where
  abbrev Normal : ℕ → List (List ℕ) → Type 0
  Normal d words = AreNormal given.alphabet.weights (free_letters given gens) leads d words

  -- the normal module words are those outside the leading words of the module
  pub outside_from_normal : (d : ℕ) (words : List (List ℕ)) → d ≤ bound → Normal d words → AreModuleOutside p given gens d words
  outside_from_normal d words le h = record {
    exactly = λ w. (
      (λ m. let s = (h.exactly w).0 m in (s.0, (tells.says d w le s.0).1 s.1)),
      (λ (m, not). (h.exactly w).1 (m, (tells.says d w le m).0 not)),
    );
    apart = h.apart;
  }

  -- so their numbers are the coefficients
  pub numbers_are : (most : ℕ) (numbers : List ℕ) → AreNumbersBelow given.alphabet.weights (free_letters given gens) leads most (bound + 1) numbers
      → AreModuleNumbers p given gens bound numbers
  numbers_are most numbers h = record {
    size = h.size;
    each = λ d le.
        let r = h.each d (omega (arith, le)) in
        (counts_module (ideal_of p given) (free_letters given gens) tells.setting d r.0
        (outside_from_normal d r.0 le r.1) (get_or numbers d 0)).1 r.2;
  }

  -- and the first degree with too many is the first large one
  pub first_large : (most d : ℕ) (numbers : List ℕ) (words : List (List ℕ)) → d ≤ bound
      → AreNumbersBelow given.alphabet.weights (free_letters given gens) leads most d numbers → Normal d words
      → most < length words → IsFirstLarge p given gens most bound d (most + 1)
  first_large most d numbers words le h normal more = record {
    upto = le;
    kept = refl;
    before = λ e lt.
        let r = h.each e lt in
        (r.0, outside_from_normal e r.0 (omega (arith, lt, le)) r.1, few e lt r.0 r.2);
    words = words;
    are_outside = outside_from_normal d words le normal;
    large = more;
  }
    where
      few : (e : ℕ) → e < d → (ws : List (List ℕ)) → get_or numbers e 0 ≡ length ws → length ws ≤ most
      few e lt ws is = omega (arith, is, h.few e 0 (omega (arith, lt, h.size)))
