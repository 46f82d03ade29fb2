use Rattle.std.proofs.Common.{◌≡◌}
use Rattle.free_poly.proofs.DegreeLemmas.{HasTwoDegrees-from}
use Rattle.free_poly.proofs.Sums.{UsesLetters-from_same, degrees_from_same}
use Rattle.free_poly.proofs.poly.Poly.from_terms.Goals as goal

pub greatest_degree-first-requires-clause-letters : goal.greatest_degree-first-requires-clause-letters
greatest_degree-first-requires-clause-letters c =
    let e = c.in_ok-terms.ensures in
    rw c.as_slice.ensures.value (UsesLetters-from_same _ _ _ _ e.form e.residues e.sum c.requires.letters)

pub greatest_degree-first-requires-clause-degrees : goal.greatest_degree-first-requires-clause-degrees
greatest_degree-first-requires-clause-degrees c =
    let e = c.in_ok-terms.ensures in
    rw c.as_slice.ensures.value (degrees_from_same _ c.args.alphabet.now.weights _ _ _ e.form e.residues e.sum c.requires.degrees)

pub next_degree-requires-clause-letters : goal.next_degree-requires-clause-letters
next_degree-requires-clause-letters c =
    let e = c.in_ok-terms.ensures in
    rw c.as_slice-2.ensures.value (UsesLetters-from_same _ _ _ _ e.form e.residues e.sum c.requires.letters)

pub returns-in-None-clause-letters : goal.returns-in-None-clause-letters
returns-in-None-clause-letters c =
    let e = c.in_ok-terms.ensures in
    UsesLetters-from_same _ _ _ _ e.form e.residues e.sum c.requires.letters

pub returns-in-Some-clause-mixed : goal.returns-in-Some-clause-mixed
returns-in-Some-clause-mixed c = λ first other is.
    let e = c.in_ok-terms.ensures in
    let greatest : c.greatest_degree-first.result ≡ first = cc is in
    let below : c.in-Some.other ≡ other = cc is in
    let top = rw (c.as_slice.ensures.value, greatest) at c.greatest_degree-first.ensures in
    let next = rw (c.as_slice-2.ensures.value, greatest, below) at c.in-Some.ensures in
    HasTwoDegrees-from _ _ _ _ _ _ e.form e.residues e.sum top next
