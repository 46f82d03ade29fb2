use Rattle.std.proofs.Common.{◌≡◌, filter, slice_range}
use Rattle.right_modules.specs.ModuleBasis.{leads_module}
use Rattle.right_modules.proofs.elements.module_elements.Given as goal

abbrev pub invariant-loop-place : goal.invariant-loop-place
invariant-loop-place l = l.elements.items ≡ filter (leads_module l.free) (slice_range l.basis.elements l.first l.place)
