use Rattle.std.proofs.Common.{◌+◌, ◌-◌, ◌∙◌, ℕ, ap, subst, sym}
use Rattle.lead_index.specs.Leads.{IsFirstReducer}
use Rattle.lead_index.proofs.Moves.{move_read}
use Rattle.lead_index.proofs.Scans.{scan_anew, scan_found, scan_free, scan_on, scan_starts}
use Rattle.lead_index.proofs.automaton.Automaton.first_place.Goals as goal

pub loop-i-init : goal.loop-i-init
loop-i-init c = (c.requires.moves.some, λ leads index tree. scan_starts _ leads index tree c.args.word.now)

pub loop-i-preserved-then-letter-self : goal.loop-i-preserved-then-letter-self
loop-i-preserved-then-letter-self c = (
  c.requires.moves.some,
  λ leads index tree. scan_anew _ leads index tree _ c.loop-i.i c.from-letter.result c.loop-i-test.true c.from-letter.ensures c.loop-i.state _
      (c.loop-i.invariant.1 leads index tree) c.requires.moves.some c.requires.moves.above c.if-letter-self.true,
)

pub returns-in-Finds : goal.returns-in-Finds
returns-in-Finds c = λ leads index tree.
    let m = move_read _ _ _ c.requires.moves _ c.from-letter.result c.loop-i.invariant.0 c.if-letter-self.false _ c.index-here.ensures in
    subst (λ (k : ℕ). IsFirstReducer leads c.args.word.now k c.index-here.result.now.to)
    (sym (c.saturating_sub-at.ensures ∙ ap (λ (k : ℕ). c.loop-i.i + 1 - k) c.from.ensures))
    (scan_found _ leads index tree _ c.loop-i.i c.from-letter.result c.loop-i-test.true c.from-letter.ensures c.loop-i.state _ _
    (c.loop-i.invariant.1 leads index tree) (m.by.finds c.in-Finds.is leads tree))

pub loop-i-preserved : goal.loop-i-preserved
loop-i-preserved c =
    let m = move_read _ _ _ c.requires.moves _ c.from-letter.result c.loop-i.invariant.0 c.if-letter-self.false _ c.index-here.ensures in (
      m.by.within c.in-Moves.is,
      λ leads index tree. scan_on _ leads index tree _ c.loop-i.i c.from-letter.result c.loop-i-test.true c.from-letter.ensures c.loop-i.state _
          (c.loop-i.invariant.1 leads index tree) (m.by.within c.in-Moves.is) (m.by.moves c.in-Moves.is leads tree),
    )

pub returns : goal.returns
returns c = λ leads index tree. scan_free c.args.nodes.now leads index tree c.args.word.now _ _ c.loop-i-test.false (c.loop-i.invariant.1 leads index tree)
