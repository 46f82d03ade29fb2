use Rattle.std.proofs.Common.{Bool, Err, List, ℕ, arith, length, subst, sym, ap, ◌∙◌}
use Rattle.words.proofs.Faults.{same_fault}
use Rattle.ideal_laws.specs.Ideal.{IsMinimal, ideal_over}
use Rattle.anick_chains.specs.Listed.{AreListed}
use Rattle.anick_chains.specs.Tallies.{count_text, count_total}
use Rattle.anick_chains.specs.Texts.{chain_text}
use Rattle.anick_chains.proofs.CountBlocks.{count_text-is, counts_of-total}
use Rattle.bergman_cli.proofs.chains.chain_lines.Goals as goal

pub returns-in_err-found-clause-many : goal.returns-in_err-found-clause-many
returns-in_err-found-clause-many c = λ degree e.
    c.in_err-found.ensures.many degree (ap Err (same_fault c.from_residual.result _ _ c.from_residual.ensures.1 e))

pub returns-in_err-counts-clause-many : goal.returns-in_err-counts-clause-many
returns-in_err-counts-clause-many c = λ degree e.
    c.in_err-counts.ensures.many degree
    (ap Err (same_fault c.from_residual-in_err-counts.result _ _ c.from_residual-in_err-counts.ensures.1 e))

pub returns-clause-printed : goal.returns-clause-printed
returns-clause-printed c = λ p relations st upto.
    let b = c.args.basis.now in
    let names = c.args.alphabet.now.names in
    let told = c.in_ok-counts.ensures.minimal p relations st upto in
    record {
      chains = told.chains;
      listed =
          subst (λ (ws : List ℕ). AreListed (IsMinimal (ideal_over p b.weights relations)) (length ws) ws c.args.job.now.bound told.chains) c.requires.weights
          told.listed;
      few = omega (arith, c.in_ok-counts.ensures.within, ap count_total told.counted, counts_of-total told.chains);
      printed =
          c.in_ok-count_text.ensures ∙ ap count_text (c.as_slice-2.ensures ∙ told.counted) ∙ count_text-is names told.chains
          ∙ ap (λ (l : Bool). chain_text names l told.chains) (sym c.if-job.false);
    }
