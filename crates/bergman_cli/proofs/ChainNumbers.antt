-- The number of chains up to a degree is one number, and grows with the degree.
use Rattle.std.proofs.Common.{◌≡◌, ◌<◌, ◌≤◌, ℕ, List, length, refl, sym, ◌∙◌, arith}
use Rattle.std.specs.List.{Contains}
use Rattle.std.proofs.lemmas.List.{length-map}
use Rattle.free_poly.specs.declared.term.Term.{Term}
use Rattle.ideal_laws.specs.Ideal.{Ideal, IsMinimal}
use Rattle.ideal_laws.specs.Laws.{IsSetting}
use Rattle.ideal_laws.specs.Overlaps.{AreLower}
use Rattle.relation_reader.proofs.Numbers.{neither_less}
use Rattle.anick_chains.specs.declared.chain.Chain.{Chain}
use Rattle.anick_chains.specs.BasisTips.{HasMinimalChains, leads_of}
use Rattle.anick_chains.specs.Listed.{AreListed, pieces_of}
use Rattle.anick_chains.specs.Listing.{IsFirstMany, IsNumber}
use Rattle.anick_chains.proofs.ChainOrder.{before_differs}
use Rattle.anick_chains.proofs.EvenOdd.{no_longer}

module _ (T : List ℕ → Type 0) (names : ℕ) (weights : List ℕ) where
  -- up to a greater degree there are no fewer chains
  pub number_grows : (d e n m : ℕ) → d ≤ e → IsNumber T names weights d n → IsNumber T names weights e m → n ≤ m
  number_grows d e n m le a b =
      let fits = no_longer (λ x y. x ≡ y) a.chains b.chains a.apart
      (λ c k. let r = (a.exactly c).0 k in (c, (b.exactly c).1 (r.0, omega (arith, r.1, le)), refl))
      (λ x y z k j p q. p ∙ sym q) in
      omega (arith, fits, a.count, b.count)

  -- a list of chains tells their number
  pub listed_number : (bound : ℕ) (found : List Chain) → AreListed T names weights bound found → IsNumber T names weights bound (length found)
  listed_number bound found h = record {
    chains = pieces_of found;
    exactly = h.chains.exactly;
    apart = λ i j d before within. before_differs weights _ _ (h.chains.ordered i j d before within);
    count = sym (length-map found (λ (c : Chain). c.pieces));
  }

  module _ (bound most : ℕ) where
    not_before : (d e : ℕ) → IsFirstMany T names weights bound most d → IsFirstMany T names weights bound most e → e < d → ⊥
    not_before d e a b lt =
        let r = a.before e lt in
        absurd (omega (arith, number_grows e e b.number r.0 (omega arith) b.is_number r.1, r.2, b.many))

    -- the first degree up to which there are too many chains is one
    pub one_first_many : (d e : ℕ) → IsFirstMany T names weights bound most d → IsFirstMany T names weights bound most e → d ≡ e
    one_first_many d e a b = neither_less d e (not_before e d b a) (not_before d e a b)

    -- where there are few chains up to the bound, there are few up to each degree
    pub few_not_many : (n d : ℕ) → IsNumber T names weights bound n → n ≤ most → IsFirstMany T names weights bound most d → ⊥
    few_not_many n d is few a = absurd (omega (arith, number_grows d bound a.number n a.upto a.is_number is, few, a.many))

module _ (law : HasMinimalChains) (ideal : Ideal) (st : IsSetting ideal) (e : ℕ) (G : List (List Term)) (lower : AreLower ideal e G) where
  -- the chains over the leading words of a basis are as many as those over the minimal words
  pub number_minimal : (d n : ℕ) → d < e → IsNumber (Contains (leads_of G)) (length ideal.weights) ideal.weights d n →
      IsNumber (IsMinimal ideal) (length ideal.weights) ideal.weights d n
  number_minimal d n lt h = record {
    chains = h.chains;
    exactly = λ c. (
      (λ m. let r = (h.exactly c).0 m in ((law ideal st e G lower c (omega (arith, lt, r.1))).0 r.0, r.1)),
      (λ r. (h.exactly c).1 ((law ideal st e G lower c (omega (arith, lt, r.1))).1 r.0, r.1)),
    );
    apart = h.apart;
    count = h.count;
  }

  -- and so the first degree with too many is the same
  pub many_minimal : (bound most d : ℕ) → bound < e → IsFirstMany (Contains (leads_of G)) (length ideal.weights) ideal.weights bound most d →
      IsFirstMany (IsMinimal ideal) (length ideal.weights) ideal.weights bound most d
  many_minimal bound most d lt h = record {
    upto = h.upto;
    number = h.number;
    is_number = number_minimal d h.number (omega (arith, lt, h.upto)) h.is_number;
    many = h.many;
    before = λ k below. let r = h.before k below in (r.0, number_minimal k r.0 (omega (arith, lt, h.upto, below)) r.1, r.2);
  }
