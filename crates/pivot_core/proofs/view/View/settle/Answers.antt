use Rattle.std.proofs.Common.{◌≡◌, ◌≢◌, ◌<◌, ◌≤◌, ℕ, List, Vec, Global, length, get_or, map, sym, ap, ◌∙◌, arith, subst}
use Rattle.std.proofs.lemmas.List.{get_or_read, with_items_is}
use Rattle.field_table.specs.Residues.{product_of}
use Rattle.pivot_core.specs.Views.{lead_at, made_monic, zeros, sight_of}
use Rattle.pivot_core.proofs.Monic.{lead_at-other}
use Rattle.pivot_core.proofs.Settled.{fresh-is, looking-is, made_monic-is}
use Rattle.pivot_core.proofs.view.View.settle.Goals as goal

abbrev items_of : Vec ℕ Global → List ℕ
items_of v = v.items

pub inv-a-requires-clause-other : goal.inv-a-requires-clause-other
inv-a-requires-clause-other c =
    let y : List ℕ = c.args.self.now.current.items in
    let at : c.in-Some.column ≡ lead_at y = c.in-Some.ensures.0 ∙ ap lead_at c.as_slice.ensures.value in
    let within : c.in-Some.column < length y = omega (arith, c.in-Some.ensures.1, ap length c.as_slice.ensures.value) in
    let entry : c.index.result.now ≡ get_or y c.in-Some.column 0 = get_or_read y c.in-Some.column c.index.result.now within c.index.ensures 0 in
    let other : get_or y (lead_at y) 0 ≢ 0 = lead_at-other y (omega (arith, at, within)) in
    omega (arith, other, entry, ap (λ (k : ℕ). get_or y k 0) at)

pub overflow_cast-self : goal.overflow_cast-self
overflow_cast-self c = omega (arith, c.in-Some.ensures.1, ap length c.as_slice.ensures.value, c.requires.current)

pub scale-requires-clause-before : goal.scale-requires-clause-before
scale-requires-clause-before c =
    omega (arith, c.in-Some.ensures.0, ap lead_at c.as_slice.ensures.value, ap lead_at c.as_slice-in-Some.ensures.value)

pub clear_from-requires-clause-before : goal.clear_from-requires-clause-before
clear_from-requires-clause-before c =
    let same : c.as_mut_slice-in-Some.result.now ≡ c.args.self.now.current.items = c.as_mut_slice-in-Some.ensures.value ∙ ap items_of c.swap.ensures.y_after in
    omega (arith, c.in-Some.ensures.0, ap lead_at c.as_slice.ensures.value, ap lead_at same)

pub returns-in-Some-clause-settled : goal.returns-in-Some-clause-settled
returns-in-Some-clause-settled c =
    let p : ℕ = c.args.problem.now.modulus in
    let y : List ℕ = c.args.self.now.current.items in
    let at : c.in-Some.column ≡ lead_at y = c.in-Some.ensures.0 ∙ ap lead_at c.as_slice.ensures.value in
    let within : c.in-Some.column < length y = omega (arith, c.in-Some.ensures.1, ap length c.as_slice.ensures.value) in
    let entry : c.index.result.now ≡ get_or y (lead_at y) 0 = get_or_read y c.in-Some.column c.index.result.now within c.index.ensures 0
    ∙ ap (λ (k : ℕ). get_or y k 0) at in
    let one : product_of p (get_or y (lead_at y) 0) c.inv-a.result ≡ 1 =
    ap (λ (q : ℕ). product_of q (get_or y (lead_at y) 0) c.inv-a.result) (sym c.requires.field)
    ∙ ap (λ (k : ℕ). product_of c.args.field.now k c.inv-a.result) (sym entry) ∙ c.inv-a.ensures.one in
    let scaled : c.scale.new.multiple ≡ made_monic p y =
    c.scale.ensures ∙ ap (λ (ys : List ℕ). map (λ r. product_of c.args.field.now c.inv-a.result r) ys) c.as_slice-in-Some.ensures.value
    ∙ ap (λ (q : ℕ). map (λ r. product_of q c.inv-a.result r) y) c.requires.field
    ∙ made_monic-is p y c.inv-a.result (omega (arith, c.inv-a.ensures.residue, c.requires.field)) one in
    looking-is c.args.problem.now (sight_of c.args.self.now) y c.args.row c.in-Some.column _ _ (omega (arith, at, within, c.requires.current)) at
    (ap items_of c.swap.ensures.x_after ∙ with_items_is c.args.self.now.seen c.scale.new.multiple
    (omega (arith, c.scale.auto.multiple, c.as_mut_slice.ensures.len)) ∙ scaled)
    (with_items_is c.swap.new.y c.clear_from.new.row (omega (arith, c.clear_from.auto.row, c.as_mut_slice-in-Some.ensures.len)) ∙ c.clear_from.ensures
    ∙ ap zeros (ap length (c.as_mut_slice-in-Some.ensures.value ∙ ap items_of c.swap.ensures.y_after) ∙ c.requires.current))

pub returns-in-None-clause-settled : goal.returns-in-None-clause-settled
returns-in-None-clause-settled c =
    let y : List ℕ = c.args.self.now.current.items in
    let past : length y ≤ lead_at y = subst (λ (ys : List ℕ). length ys ≤ lead_at ys) c.as_slice.ensures.value c.in-None.ensures in
    fresh-is c.args.problem.now (sight_of c.args.self.now) y c.args.row _ (omega (arith, past, c.requires.current)) c.requires.current
    (with_items_is c.args.self.now.seen c.clear.new.row (omega
    (arith, c.clear.auto.row, c.as_mut_slice-in-None.ensures.len)) ∙ c.clear.ensures
    ∙ ap zeros (ap length c.as_mut_slice-in-None.ensures.value ∙ c.requires.seen))
