use Rattle.std.proofs.Common.{◌≡◌, ◌<◌, All, length}
use Rattle.lane_kernel.proofs.tests.residues.Given as goal

abbrev pub invariant-loop-k : goal.invariant-loop-k
invariant-loop-k l = record { all : All (λ r. r < l.field) l.all.items; len : length l.all.items ≡ l.k }
