use Rattle.std.proofs.Common.{◌≡◌, ◌-◌, ◌^◌, ℕ, length, min}
use Rattle.std.specs.List.{flat_map}
use Rattle.ideal_laws.specs.Kept.{lead_degree}
use Rattle.cofactors.specs.ProductList.{numbers_below, round_triples}
use Rattle.cofactors.proofs.triples.count_at.Given as goal

abbrev pub invariant-loop-before : goal.invariant-loop-before
invariant-loop-before l = (i : ℕ) → l.count ≡ min (length (flat_map
    (round_triples l.alphabet.weights i (l.d - lead_degree l.alphabet.weights l.relation)) (numbers_below l.before))) (2 ^ 64 - 1)
