-- The rule of claimed pivots in the opening state.
use Rattle.std.proofs.Common.{◌≡◌, ◌≢◌, inl, ℕ, zero, suc, ◌+◌, ◌*◌, ◌<◌, All, AllPairs, map, refl, sym, ap, ap₂, ◌∙◌, arith, subst}
use Rattle.std.specs.List.{range_with_len, sum_by}
use Rattle.std.proofs.lemmas.List.Sums.{sum_by-cons}
use Rattle.std.proofs.lemmas.List.FromFn.{get_or-map-range_with_len, length-map-range_with_len}
use Rattle.back_reduce.specs.declared.problem.Problem.{Problem}
use Rattle.pivot_core.specs.declared.sight.Sight.{Sight}
use Rattle.pivot_core.specs.Words.{Spot, claim_of, counter, index_of, stamp_in}
use Rattle.pivot_core.specs.Views.{fresh}
use Rattle.pivot_core.specs.Runs.{State, IsHeld, opening, view_at, word_at}
use Rattle.pivot_core.specs.Phases.{HasRow, IsSight, is_ended}
use Rattle.pivot_core.specs.Rule.{CounterSum, DisjointRows, IsRead, Ranges}
use Rattle.pivot_core.specs.Calls.{CallsAndCounts, IsBounded, IsCall, IsUnclaimed}
use Rattle.pivot_core.specs.Claimed.{ClaimedPivots}
use Rattle.pivot_core.proofs.Zeros.{length-zeros, zeros-at}

module _ (problem : Problem) (crew : ℕ) where
  abbrev s : State
  s = opening problem crew

  -- each view is fresh
  pub opens_fresh : (i : ℕ) → i < crew → view_at problem s i ≡ fresh problem.m i
  opens_fresh i lt = get_or-map-range_with_len (fresh problem.m) 0 crew i i (fresh problem.m i) lt (omega arith)

  -- what holds of a fresh view
  view_by : (P : Sight → Type 0) (i : ℕ) → i < crew → P (fresh problem.m i) → P (view_at problem s i)
  view_by P i lt h = subst P (sym (opens_fresh i lt)) h

  -- each word is 0
  opens_zero : (spot : Spot) → word_at problem s spot ≡ 0
  opens_zero spot = zeros-at (1 + problem.m + problem.n * problem.m) (index_of problem.m spot)

  -- no column is held, and no view has a current row
  opens_free : (c : ℕ) → IsHeld problem s c → ⊥
  opens_free c h = h.some (opens_zero (claim_of c))

  opens_idle : (i r : ℕ) → i < crew → HasRow (view_at problem s i).phase r → ⊥
  opens_idle i r lt h = subst (λ (v : Sight). HasRow v.phase r) (opens_fresh i lt) h

  -- a sum over fresh views of what is 0 at each
  pub none_summed : (f : Sight → ℕ) (a n : ℕ) → ((i : ℕ) → f (fresh problem.m i) ≡ 0) → sum_by f (map (fresh problem.m) (range_with_len a n)) ≡ 0
  none_summed f a zero h = refl
  none_summed f a (suc n) h = sum_by-cons f (fresh problem.m a) (map (fresh problem.m) (range_with_len (a + 1) n)) ∙ ap₂ ◌+◌ (h a) (none_summed f (a + 1) n h)

  opens_ranges : Ranges problem crew s
  opens_ranges = record {
    words = length-zeros (1 + problem.m + problem.n * problem.m);
    count = length-map-range_with_len (fresh problem.m) 0 crew;
    seats = λ i lt. ap (λ (v : Sight). v.seat) (opens_fresh i lt);
    views = λ i lt. view_by (IsSight problem.m problem.n) i lt (record
        { numbers = tt; current = length-zeros problem.m; seen = length-zeros problem.m; idle = refl; unread = refl });
    claims = λ c lt. inl (opens_zero (claim_of c));
  }

  opens_counter_sum : CounterSum problem s
  opens_counter_sum =
      let drawn : sum_by (λ (v : Sight). v.drawn) s.views ≡ 0 = none_summed (λ (v : Sight). v.drawn) 0 crew (λ i. refl) in
      let ended : sum_by (λ (v : Sight). is_ended v.phase) s.views ≡ 0 = none_summed (λ (v : Sight). is_ended v.phase) 0 crew (λ i. refl) in
      record {
        counts = opens_zero counter ∙ sym (ap₂ ◌+◌ drawn ended);
        few = omega (arith, drawn);
        whole = λ some. absurd (omega (arith, some, ended));
      }

  opens_disjoint_rows : DisjointRows problem crew s
  opens_disjoint_rows = record {
    drawn = λ i r lt h. absurd (opens_idle i r lt h);
    holders_drawn = λ c h. absurd (opens_free c h);
    views_apart = λ i j r lt lt' h h'. absurd (opens_idle i r lt h);
    holders_apart = λ c d h h' e. absurd (opens_free c h);
    both_apart = λ i c lt h h'. opens_free c h;
  }

  opens_calls_and_counts : CallsAndCounts problem crew s
  opens_calls_and_counts = record {
    each = λ i lt. view_by (λ (v : Sight). All (IsCall problem s i v.clock) v.calls) i lt (λ k d within. absurd (omega (arith, within)));
    columns = λ i lt. view_by (λ (v : Sight). AllPairs (λ k l. k.column ≢ l.column) v.calls) i lt (λ j k d before within. absurd (omega (arith, within)));
    rising = λ i lt. view_by (λ (v : Sight). AllPairs (λ k l. k.stamp < l.stamp) v.calls) i lt (λ j k d before within. absurd (omega (arith, within)));
    won = λ c h. absurd (opens_free c h);
    clocks = λ i lt. omega (arith, ap (λ (v : Sight). v.clock) (opens_fresh i lt));
    stamps = λ c lt. omega (arith, ap stamp_in (opens_zero (claim_of c)));
    unclaimed = λ i lt. view_by (λ (v : Sight). IsUnclaimed v.phase v.calls) i lt tt;
    steps = λ i lt. view_by (λ (v : Sight). IsBounded problem.m v.phase v.drawn v.steps) i lt (omega arith);
  }

  -- the rule of claimed pivots holds in the opening state
  pub opens_claimed : ClaimedPivots problem crew s
  opens_claimed = record {
    ranges = opens_ranges;
    counter_sum = opens_counter_sum;
    disjoint_rows = opens_disjoint_rows;
    held_in_span = record { residues = λ c h. absurd (opens_free c h); one = λ c h. absurd (opens_free c h); inside = λ modulus c h. absurd (opens_free c h) };
    published_prefix = record {
      residues = λ i r lt h. absurd (opens_idle i r lt h);
      before = λ i r j lt h low. absurd (opens_idle i r lt h);
      one = λ i r lt h. absurd (opens_idle i r lt h);
      published = λ i r j lt h from upto. absurd (opens_idle i r lt h);
    };
    read_prefix = λ i lt. view_by (λ (v : Sight). IsRead problem s v.phase v.seen) i lt tt;
    current_modulo_held = λ modulus i r lt h. absurd (opens_idle i r lt h);
    settled_in_span = λ modulus r lt settled. absurd (omega (arith, lt, opens_zero counter));
    calls_and_counts = opens_calls_and_counts;
  }
