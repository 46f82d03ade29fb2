use Rattle.std.proofs.Common.{◌≡◌, ◌<◌, length, sym, ap, rules, arith}
use Rattle.std.proofs.lemmas.Fn.{always_returns_same}
use Rattle.free_poly.proofs.Lookups.{standing, standing-rises, total_at-between, total_at-standing}
use Rattle.free_poly.proofs.poly.Poly.coefficient.Goals as goal

pub returns-in-Ok : goal.returns-in-Ok
returns-in-Ok c =
    let seen : c.terms-terms.result.now ≡ c.args.self.now = c.terms-terms.ensures.value in
    let found = c.in-Ok.ensures.position (standing c.args.word.now) (always_returns_same _ _ _ (λ a r f' called. (search rules, search rules))) in
    let within : c.in-Ok.at < length c.args.self.now = omega (arith, c.in-Ok.ensures.bound, ap length seen) in
    rw seen (sym (total_at-standing c.args.word.now c.args.self.now c.in-Ok.at c.index-terms-at.result c.terms-terms.ensures.form within (rw seen at found)))

pub returns-in-Err : goal.returns-in-Err
returns-in-Err c =
    let seen : c.terms-terms.result.now ≡ c.args.self.now = c.terms-terms.ensures.value in
    let parts = c.in-Err.ensures.position (standing c.args.word.now) (always_returns_same _ _ _ (λ a r f' called. (search rules, search rules))) in
    let between = rw seen at parts in
    sym (total_at-between c.args.word.now c.args.self.now c.in-Err.field-0
    (between (standing-rises c.args.word.now c.args.self.now c.terms-terms.ensures.form)))
