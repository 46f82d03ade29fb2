use Rattle.std.proofs.Common.{◌≡◌, ◌↔◌, ℕ}
use Rattle.ideal_laws.specs.Ideal.{ideal_of}
use Rattle.ideal_laws.specs.declared.account.Account.{Account}
use Rattle.ideal_laws.specs.declared.presentation.Presentation.{Presentation}
use Rattle.ideal_laws.specs.Engine.{Elements, IsReducedUpto}
use Rattle.ideal_laws.specs.Kept.{IsKept}
use Rattle.ideal_laws.specs.Quantities.{NonePassesUpto}
use Rattle.ideal_laws.proofs.degrees.run.Given as goal

abbrev pub invariant-loop-degree : goal.invariant-loop-degree
invariant-loop-degree g l =
    (l.basis.done ≡ l._degree)
    × (l.basis.weights ≡ l.presentation.alphabet.weights)
    × IsKept l.basis
    × IsReducedUpto l.field l.presentation.relations l.basis
    × NonePassesUpto (ideal_of l.field l.presentation) (g.E.DegreeEngine.kinds l.fn.engine) l._degree
    × (g.E.DegreeEngine.kinds l.engine ≡ g.E.DegreeEngine.kinds l.fn.engine)
    × ((p : ℕ) (rs : Presentation) (b : Elements) (e : ℕ) (a : Account) →
    g.E.DegreeEngine.may_account l.engine p rs b e a ↔ g.E.DegreeEngine.may_account l.fn.engine p rs b e a)
