-- Writes are counted against the bytes that a sink gains.
use Rattle.std.proofs.Common.{◌≡◌, ◌+◌, ℕ, List, [], ◌++◌, length, Result, Err, arith, length-append}
use Rattle.std.specs.declared.option.Option.{Option}
use Rattle.std.proofs.KnownBytes.{Appends-nil, Appends-trans}
use Rattle.bg_io.specs.Ends.{CountsGained}
use Rattle.bg_io.proofs.Transfers.{CountsAtMost-more, CountsAtMost-none}
use Rattle.job_steps.specs.Gains.{CountsWrites}
use Rattle.job_steps.specs.States.{SinkState}

-- nothing was written
pub counts_none : (a : Option (List ℕ)) (x : Option ℕ) (spare : ℕ) → CountsGained a a x x spare
counts_none a x spare = record {
  gained = [];
  appended = Appends-nil a;
  counted = CountsAtMost-more x x x 0 0 (0 + spare) (CountsAtMost-none x) (CountsAtMost-none x) (omega arith);
}

-- more was written behind what was
pub counts_more : (a b c : Option (List ℕ)) (x y z : Option ℕ) (spare : ℕ) → CountsGained a b x y 0 → CountsGained b c y z spare →
    CountsGained a c x z spare
counts_more a b c x y z spare p q = record {
  gained = p.gained ++ q.gained;
  appended = Appends-trans a b c p.gained q.gained p.appended q.appended;
  counted = CountsAtMost-more x y z (length p.gained + 0) (length q.gained + spare) (length (p.gained ++ q.gained) + spare) p.counted q.counted
      (omega (arith, length-append p.gained q.gained));
}

-- what ended with a fault
pub counts_fault : {T E : Type 0} (a b : SinkState) (result : Result T E) (fault : E) → result ≡ Err fault →
    CountsGained a.held b.held a.calls b.calls 1 → CountsWrites a b result
counts_fault a b result fault is p = rw is p
