use Rattle.std.proofs.Common.{arith}
use Rattle.lead_index.specs.Tree.IsAttached.{whole_word}
use Rattle.lead_index.proofs.Walks.{read_node}
use Rattle.lead_index.proofs.Ways.{attached_below, attached_beside, way_child, way_sibling}
use Rattle.lead_index.proofs.tree.attach.Goals as goal

pub returns-in_default-clause-attached : goal.returns-in_default-clause-attached
returns-in_default-clause-attached c =
    let same = c.loop-place.invariant.0 in
    let way = c.loop-place.invariant.4 in
    attached_beside _ _ _ _ _ c.requires.rising way c.loop-place-test.true (read_node _ _ _ _ same way.within c.index-here.ensures)
    c.if-here-letters.true c.in_default.is
    _ _ _ same (omega arith) (read_node _ _ _ _ same way.within c.index_mut.ensures.value)

pub loop-place-preserved-then-here-letters : goal.loop-place-preserved-then-here-letters
loop-place-preserved-then-here-letters c =
    let i = c.loop-place.invariant in (
      i.0,
      i.1,
      i.2,
      i.3,
      way_sibling _ _ _ _ _ c.requires.rising i.4 c.loop-place-test.true (read_node _ _ _ _ i.0 i.4.within c.index-here.ensures)
          c.if-here-letters.true _ c.in-Some.is,
    )

pub returns-in_default-child-clause-attached : goal.returns-in_default-child-clause-attached
returns-in_default-child-clause-attached c =
    let same = c.loop-place.invariant.0 in
    let way = c.loop-place.invariant.4 in
    attached_below _ _ _ _ _ c.requires.rising way c.loop-place-test.true (read_node _ _ _ _ same way.within c.index-here.ensures)
    c.if-here-letters.false c.in_default-child.is
    _ _ _ same (omega arith) (read_node _ _ _ _ same way.within c.index_mut-in_default-child.ensures.value)

pub loop-place-preserved : goal.loop-place-preserved
loop-place-preserved c =
    let i = c.loop-place.invariant in (
      i.0,
      i.1,
      i.2,
      omega arith,
      way_child _ _ _ _ _ c.requires.rising i.4 c.loop-place-test.true
          (read_node _ _ _ _ i.0 i.4.within c.index-here.ensures) c.if-here-letters.false _ c.in-Some-child.is,
    )

pub returns-clause-attached : goal.returns-clause-attached
returns-clause-attached c =
    let way = c.loop-place.invariant.4 in
    whole_word c.loop-place.node way.within c.loop-place-test.false way.spelled
