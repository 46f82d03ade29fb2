-- Ranges: every move keeps the clause.
use Rattle.std.proofs.Common.{◌≡◌, ◌≢◌, inl, inr, ℕ, ◌+◌, ◌<◌, ◌^◌, List, length, set, refl, sym, ap, ◌∙◌, arith, subst}
use Rattle.std.proofs.lemmas.Bool.{cases_eq}
use Rattle.std.proofs.lemmas.List.{length-map, length-set}
use Rattle.field_table.specs.Residues.{negative_of}
use Rattle.back_reduce.specs.declared.problem.Problem.{Problem}
use Rattle.back_reduce.proofs.RowLists.{row_is}
use Rattle.field_table.proofs.Multiples.{length-plus_multiple}
use Rattle.pivot_core.specs.declared.view.Phase.{Phase}
use Rattle.pivot_core.specs.declared.sight.Sight.{Sight}
use Rattle.pivot_core.specs.Words.{Spot, IsClaimWord, claim_of, row_in}
use Rattle.pivot_core.specs.Views.{difference, given_row, zeros}
use Rattle.pivot_core.specs.Runs.{State, claim_at, view_at, word_at}
use Rattle.pivot_core.specs.Phases.{IsIdle, IsPhase, IsSight, IsUnread}
use Rattle.pivot_core.specs.Rule.{Ranges}
use Rattle.pivot_core.proofs.Changes as changes
use Rattle.pivot_core.proofs.Changes.{IsChange, each_view, word_left}
use Rattle.pivot_core.proofs.ClaimWords.{few_rows, told}
use Rattle.pivot_core.proofs.Effects.{claims_cases, won_elsewhere}
use Rattle.pivot_core.proofs.Zeros.{length-zeros}
use Rattle.pivot_core.proofs.Moves.{IsMove, IsSettling, IsWonClaim, given_up, goes_on, draws, ends, looks_free, looks_held, puts, wins, loses}
use Rattle.pivot_core.proofs.Moves.{reads_more, reads_last, seat_and_step}

-- a view by its phase and lists
sight_of_parts : (m n : ℕ) (w : Sight) {f : Phase} {current seen : List ℕ} → w.phase ≡ f → w.current ≡ current → w.seen ≡ seen →
    IsPhase m n f → length current ≡ m → length seen ≡ m → IsIdle m f current → IsUnread m f seen → IsSight m n w
sight_of_parts m n w {f} {current} {seen} now is_current is_seen numbers size seen_size idle unread = record {
  numbers = subst (IsPhase m n) (sym now) numbers;
  current = ap length is_current ∙ size;
  seen = ap length is_seen ∙ seen_size;
  idle = subst (λ (g : Phase). IsIdle m g w.current) (sym now) (subst (IsIdle m f) (sym is_current) idle);
  unread = subst (λ (g : Phase). IsUnread m g w.seen) (sym now) (subst (IsUnread m f) (sym is_seen) unread);
}

module _ (problem : Problem) (v : Sight) (old : ℕ) (w : Sight) (a : Spot) (x : ℕ) (before : IsSight problem.m problem.n v) where
  abbrev m : ℕ
  m = problem.m

  abbrev n : ℕ
  n = problem.n

  abbrev Now : Type 0
  Now = IsSight m n w

  numbers_at : {f : Phase} → v.phase ≡ f → IsPhase m n f
  numbers_at is = subst (IsPhase m n) is before.numbers

  unread_at : {f : Phase} → v.phase ≡ f → IsUnread m f v.seen
  unread_at is = subst (λ (g : Phase). IsUnread m g v.seen) is before.unread

  idle_at : {f : Phase} → v.phase ≡ f → IsIdle m f v.current
  idle_at is = subst (λ (g : Phase). IsIdle m g v.current) is before.idle

  settled_sight : (y : List ℕ) (row : ℕ) → row < n → length y ≡ m → IsSettling problem y row w → Now
  settled_sight y row lt size (goes_on within now current seen) =
      sight_of_parts m n w now current seen (lt, within) (length-map y _ ∙ size) (length-zeros m) tt
      refl
  settled_sight y row lt size (given_up past now current seen) = sight_of_parts m n w now current seen tt (length-zeros m) (length-zeros m) refl refl

  -- the view after a move is in range where a claim word that is met tells a row
  pub sight_after : (old ≢ 0 → (c : ℕ) → a ≡ claim_of c → c < m → row_in old < n) → IsMove problem v old w a x → Now
  sight_after holder (draws k) = settled_sight (given_row problem old) old k.some (row_is problem old k.some).size k.settling
  sight_after holder (ends k) = sight_of_parts m n w k.now k.same.current k.same.seen tt before.current before.seen (idle_at k.was) (unread_at k.was)
  sight_after holder (looks_free k) =
      let numbers = numbers_at k.was in
      sight_of_parts m n w k.now k.same.current k.same.seen (numbers.0, omega arith, numbers.1)
      before.current before.seen tt (unread_at k.was)
  sight_after holder (looks_held k) =
      let numbers = numbers_at k.was in
      sight_of_parts m n w k.now k.current k.seen
      (numbers.0, holder k.held k.column k.spot numbers.1, omega arith, numbers.1) before.current (length-zeros m) tt tt
  sight_after holder (puts k) =
      let numbers = numbers_at k.was in
      let unread : v.seen ≡ zeros m = unread_at k.was in
      elim k.now [
        | inl more ↦ sight_of_parts m n w more.1 k.same.current k.same.seen
            (numbers.0, omega (arith, numbers.1), more.0) before.current before.seen tt unread
        | inr last ↦ sight_of_parts m n w last.1 k.same.current k.same.seen
            (numbers.0, omega (arith, numbers.1, numbers.2)) before.current before.seen tt unread
      ]
  sight_after holder (wins k) = sight_of_parts m n w k.now k.current k.seen tt (length-zeros m) before.seen refl (unread_at k.was)
  sight_after holder (loses k) =
      let numbers = numbers_at k.was in
      sight_of_parts m n w k.now k.current k.seen
      (numbers.0, holder k.held k.column k.spot numbers.1, omega arith, numbers.1) before.current (length-zeros m) tt tt
  sight_after holder (reads_more k) =
      let numbers = numbers_at k.was in
      sight_of_parts m n w k.now k.current k.seen
      (numbers.0, numbers.1, omega (arith, numbers.2), k.more) before.current (length-set v.seen k.at old ∙ before.seen) tt tt
  sight_after holder (reads_last k) =
      let numbers = numbers_at k.was in
      settled_sight (difference problem.modulus v.current (set v.seen k.at old)) k.row numbers.0
      (length-plus_multiple problem.modulus (negative_of problem.modulus 1) v.current (set v.seen k.at old) ∙ before.current) k.settling

module _ {problem : Problem} {crew : ℕ} {s t : State} {seat : ℕ} {w : Sight} {a : Spot} {x : ℕ} (c : IsChange problem crew s t seat w a x) where
  abbrev Move : Type 0
  Move = IsMove problem (view_at problem s seat) (word_at problem s a) w a x

  abbrev Won : Type 0
  Won = IsWonClaim problem (view_at problem s seat) (word_at problem s a) w a x

  -- where the stamp of a won claim is small
  pub ranges_kept : Ranges problem crew s → (Won → (view_at problem s seat).clock + 1 < 2 ^ 32) → Move → Ranges problem crew t
  ranges_kept r small move = record {
    words = c.word_count ∙ r.words;
    count = c.view_count ∙ r.count;
    seats = each_view c (λ i u. u.seat ≡ i)
        ((seat_and_step move).0 ∙ r.seats seat c.below)
        (λ i lt other. r.seats i lt);
    views = each_view c (λ i u. IsSight problem.m problem.n u)
        (sight_after problem (view_at problem s seat) (word_at problem s a) w a x (r.views seat c.below)
        (λ other d is lt. (told problem.n (word_at problem s a) (few_rows problem d lt)
        (subst (λ (b : Spot). IsClaimWord problem.n (word_at problem s b)) (sym is) (r.claims d lt)) other).row) move)
        (λ i lt other. r.views i lt);
    claims = λ d lt. elim (claims_cases c move) [
      | inr stay ↦ subst (IsClaimWord problem.n) (sym (stay d lt)) (r.claims d lt)
      | inl k ↦ elim (cases_eq d k.column) [
        | inr other ↦ subst (IsClaimWord problem.n) (sym (won_elsewhere c k d lt other)) (r.claims d lt)
        | inl is ↦ (let numbers = changes.numbers_at c r k.was in
            inr (record {
              stamp = (view_at problem s seat).clock + 1;
              row = k.row;
              form = ap (claim_at problem t) is ∙ word_left c k.spot ∙ k.word;
              some = omega arith;
              small = small k;
              below = numbers.0;
            }))
      ]
    ];
  }
