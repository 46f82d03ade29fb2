use Rattle.std.proofs.Common.{◌≡◌, ◌%◌, ℕ, All, arith, rules, subst}
use Rattle.std.proofs.lemmas.List.{take_all}
use Rattle.std.proofs.lemmas.List.Elements.{All-more}
use Rattle.symbolic_prep.proofs.ordering.has_room.Goals as goal

pub loop-key-preserved : goal.loop-key-preserved
loop-key-preserved c =
    All-more (λ (k : ℕ). k % 1048576 ≡ 0) c.args.keys.now c.loop-key.key-index 0 c.loop-key-test.true c.loop-key.invariant (search rules)

pub returns : goal.returns
returns c = λ has. (
  omega (arith, c.if-keys-gt-NUMBERS.false),
  subst (All (λ (k : ℕ). k % 1048576 ≡ 0)) (take_all c.loop-key.key-index c.args.keys.now c.loop-key-test.false) c.loop-key.invariant,
)
