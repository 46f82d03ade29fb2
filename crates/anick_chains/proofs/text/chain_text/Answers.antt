use Rattle.std.proofs.Common.{◌≡◌, ◌++◌, List, ℕ, length, drop, arith, ap, sym, ◌∙◌, append-nil}
use Rattle.std.proofs.Math.Seq.{drop-length}
use Rattle.anick_chains.specs.declared.chain.Chain.{Chain}
use Rattle.anick_chains.specs.Texts.{chain_text}
use Rattle.anick_chains.proofs.Blocks.{text_step}
use Rattle.anick_chains.proofs.text.chain_text.Goals as goal

pub loop-at-preserved : goal.loop-at-preserved
loop-at-preserved c =
    let r = c.block_end-end in (
      r.ensures.within,
      text_step c.args.alphabet.now.names c.args.list c.args.chains.now c.loop-at.at r.result _ _ r.ensures.more r.ensures.within
          r.ensures.same r.ensures.longest
          c.loop-at.text.items c.push_block.new.text.items _ c.in_ok-push_block.ensures c.loop-at.invariant.1,
    )

pub returns : goal.returns
returns c =
    let chains = c.args.chains.now in
    let last : c.loop-at.at ≡ length chains = omega (arith, c.loop-at-test.false, c.loop-at.invariant.0) in
    sym (append-nil c.loop-at.text.items) ∙ ap (λ (cs : List Chain). c.loop-at.text.items
    ++ chain_text c.args.alphabet.now.names c.args.list cs) (sym (ap (λ (k : ℕ). drop k chains) last ∙ drop-length chains))
    ∙ c.loop-at.invariant.1
