use Rattle.std.proofs.Common.{◌≡◌, take}
use Rattle.free_poly.proofs.Multiples.{multiple_of}
use Rattle.free_poly.proofs.poly.Poly.monic.Given as goal

abbrev pub invariant-loop-term : goal.invariant-loop-term
invariant-loop-term l = l.terms.items ≡ multiple_of l.field l.a (take l.term-index l.self)
