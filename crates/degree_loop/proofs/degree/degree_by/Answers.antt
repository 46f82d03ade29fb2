use Rattle.std.proofs.Common.{[], ◌∷◌, refl, subst, sym}
use Rattle.ideal_laws.specs.Ideal.{ideal_of}
use Rattle.ideal_laws.specs.declared.limits.LimitKind.TheVariants.{Terms}
use Rattle.ideal_laws.specs.Quantities.{IsQuantity}
use Rattle.degree_loop.specs.Limits.{matrix_limits}
use Rattle.degree_loop.proofs.Asked.{handed_behind, handed_first, none_together}
use Rattle.degree_loop.proofs.degree.degree_by.Goals as goal

pub returns-in_err-matrix-clause-limit : goal.returns-in_err-matrix-clause-limit
returns-in_err-matrix-clause-limit g c =
    let Q = IsQuantity (ideal_of c.args.field.now c.args.presentation.now) c.args.below.now c.args.d in
    let limits = c.args.limits.now in
    handed_first Q c.args.d (matrix_limits limits) ((Terms, limits.terms) ∷ []) _ _ refl c.from_residual.result c.from_residual.ensures.1
    c.in_err-matrix.ensures.limit

pub returns-in_err-elements-clause-limit : goal.returns-in_err-elements-clause-limit
returns-in_err-elements-clause-limit g c =
    let Q = IsQuantity (ideal_of c.args.field.now c.args.presentation.now) c.args.below.now c.args.d in
    let limits = c.args.limits.now in
    handed_behind Q c.args.d (matrix_limits limits) ((Terms, limits.terms) ∷ []) _ _ refl c.from_residual-in_err-elements.result
    c.from_residual-in_err-elements.ensures.1 c.in_ok-matrix.ensures.within c.in_err-elements.ensures.limit

pub returns-clause-account : goal.returns-clause-account
returns-clause-account g c =
    let matrix = c.in_ok-matrix.matrix in
    record {
      closed = matrix.closed;
      problem = matrix.problem;
      matrix = c.in_ok-matrix.ensures.matrix;
      count = c.account_of-account.ensures.rows;
      contested = c.account_of-account.ensures.columns;
      calls = subst (g.F.PivotFinder.tells c.args.finder.now matrix.problem) (sym c.account_of-account.ensures.calls) c.in_ok-pivots.ensures.calls;
    }

pub returns-clause-within : goal.returns-clause-within
returns-clause-within g c =
    let Q = IsQuantity (ideal_of c.args.field.now c.args.presentation.now) c.args.below.now c.args.d in
    let limits = c.args.limits.now in
    none_together Q (matrix_limits limits) ((Terms, limits.terms) ∷ []) c.in_ok-matrix.ensures.within c.in_ok-elements.ensures.within
