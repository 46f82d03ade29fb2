use Rattle.std.proofs.lemmas.Option.{slice_get-get_or}
use Rattle.lead_index.proofs.Walks.{walk_all, walk_child, walk_found, walk_no_child, walk_no_sibling, walk_sibling}
use Rattle.lead_index.proofs.tree.first_element.Goals as goal

pub returns-in_default : goal.returns-in_default
returns-in_default c = walk_no_sibling _ _ _ _ _ c.requires c.loop-place.invariant c.loop-place-test.true
    (slice_get-get_or _ _ _ c.loop-place.invariant.within) c.if-here-letters.true c.in_default.is

pub loop-place-preserved-then-here-letters : goal.loop-place-preserved-then-here-letters
loop-place-preserved-then-here-letters c = walk_sibling _ _ _ _ _ c.requires c.loop-place.invariant c.loop-place-test.true
    (slice_get-get_or _ _ _ c.loop-place.invariant.within) c.if-here-letters.true _ c.in-Some.is

pub returns-in-Some-element : goal.returns-in-Some-element
returns-in-Some-element c = walk_found _ _ _ _ _ c.requires c.loop-place.invariant c.loop-place-test.true
    (slice_get-get_or _ _ _ c.loop-place.invariant.within) c.if-here-letters.false _ c.in-Some-element.is

pub returns-in_default-child : goal.returns-in_default-child
returns-in_default-child c = walk_no_child _ _ _ _ _ c.requires c.loop-place.invariant c.loop-place-test.true
    (slice_get-get_or _ _ _ c.loop-place.invariant.within) c.if-here-letters.false c.in_default-element.is c.in_default-child.is

pub loop-place-preserved : goal.loop-place-preserved
loop-place-preserved c = walk_child _ _ _ _ _ c.requires c.loop-place.invariant c.loop-place-test.true
    (slice_get-get_or _ _ _ c.loop-place.invariant.within) c.if-here-letters.false c.in_default-element.is _ c.in-Some-child.is

pub returns : goal.returns
returns c = walk_all _ _ _ _ c.loop-place.invariant c.loop-place-test.false
