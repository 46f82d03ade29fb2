-- The numbers of chains up to the degrees below one, none of them too many.
use Rattle.std.proofs.Common.{◌≡◌, ◌+◌, ◌<◌, ◌≤◌, ℕ, List, arith, inl, inr, subst, sym}
use Rattle.std.proofs.lemmas.Bool.{cases_lt}
use Rattle.anick_chains.specs.Listing.{IsFirstMany, IsNumber}

module _ (T : List ℕ → Type 0) (names : ℕ) (weights : List ℕ) (most : ℕ) where
  -- up to each degree below this one there are at most so many chains
  abbrev pub AreFewBelow : ℕ → Type 0
  AreFewBelow d = (e : ℕ) → e < d → (n : ℕ) × IsNumber T names weights e n × (n ≤ most)

  -- one more degree with few
  pub few_more : (d n : ℕ) → AreFewBelow d → IsNumber T names weights d n → n ≤ most → AreFewBelow (d + 1)
  few_more d n before number few e lt = elim (cases_lt e d) [
    | inl lower ↦ before e lower
    | inr le ↦ let is : d ≡ e = omega (arith, lt, le) in (n, subst (λ (k : ℕ). IsNumber T names weights k n) is number, few)
  ]

  -- the first degree with more
  pub first_many : (bound d k : ℕ) → AreFewBelow d → d ≤ bound → k ≡ d → (n : ℕ) → IsNumber T names weights d n → most < n →
      IsFirstMany T names weights bound most k
  first_many bound d k before le is n number many = record {
    upto = omega (arith, is, le);
    number = n;
    is_number = subst (λ (k : ℕ). IsNumber T names weights k n) (sym is) number;
    many = many;
    before = λ e lt. before e (omega (arith, lt, is));
  }
