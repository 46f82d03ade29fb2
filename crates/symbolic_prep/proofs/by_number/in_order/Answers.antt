use Rattle.std.proofs.Common.{◌≡◌, ◌≢◌, ◌<◌, ◌≤◌, ◌∙◌, ℕ, None, Option, List, All, AllPairs, arith, ap, get_or, le-leb, leb-true, length, map, subst, sym}
use Rattle.symbolic_prep.specs.declared.lists.Span.{Span}
use Rattle.std.specs.List.{AllZip}
use Rattle.symbolic_prep.specs.Numbers.{residues_of}
use Rattle.symbolic_prep.specs.Orders.{IsMoved, IsSpanIn, columns_at}
use Rattle.symbolic_prep.proofs.InOrder.{columns_long, listed_in_order, order_apart, order_below, order_long, spans_in, spans_long}
use Rattle.symbolic_prep.proofs.by_number.in_order.Goals as goal

pub columns_of-requires-clause-few : goal.columns_of-requires-clause-few
columns_of-requires-clause-few c =
    omega (
      arith,
      ap length c.as_slice.ensures.value,
      order_long c.args.numbered.table.words c.in_ok-words.order.items c.in_ok-words.words
          c.in_ok-words.ensures.order,
      c.requires.few,
    )

pub columns_of-requires-clause-within : goal.columns_of-requires-clause-within
columns_of-requires-clause-within c =
    let words = c.args.numbered.table.words in
    let order = c.in_ok-words.order.items in
    let below = order_below words order c.in_ok-words.words c.in_ok-words.ensures.order in
    let all : All (λ n. n < length order) order = λ k d inside. omega
    (arith, below k d inside, order_long words order c.in_ok-words.words c.in_ok-words.ensures.order) in
    subst (λ (ns : List ℕ). All (λ n. n < length ns) ns) (sym c.as_slice.ensures.value) all

pub columns_of-requires-clause-apart : goal.columns_of-requires-clause-apart
columns_of-requires-clause-apart c =
    subst (AllPairs (λ (a b : ℕ). a ≢ b)) (sym c.as_slice.ensures.value)
    (order_apart c.args.numbered.table.words c.in_ok-words.order.items c.in_ok-words.words c.in_ok-words.ensures.order)

pub ordered_if-requires-clause-order : goal.ordered_if-requires-clause-order
ordered_if-requires-clause-order c =
    let words = c.args.numbered.table.words in
    let order = c.in_ok-words.order.items in
    let below = order_below words order c.in_ok-words.words c.in_ok-words.ensures.order in
    let w = c.requires.walked in
    let many = spans_long w.0 w.1 words w.2 c.args.limit c.args.numbered.spans.items c.args.numbered.numbers.items c.args.numbered.entries w.3 in
    let spans : length c.as_slice-2.result.now ≡ length words = ap length c.as_slice-2.ensures.value ∙ many in
    subst (All (λ n. n < length c.as_slice-2.result.now)) (sym c.as_slice-3.ensures.value) (λ k d inside. omega (arith, below k d inside, spans))

pub ordered_if-requires-clause-within : goal.ordered_if-requires-clause-within
ordered_if-requires-clause-within c = λ held.
    let w = c.requires.walked in
    let le : c.args.numbered.entries ≤ c.args.limit = omega (arith, leb-true _ _ held, c.from.ensures) in
    let numbers = c.args.numbered.numbers.items in
    let spans = spans_in c.args.numbered.table.words numbers (map residues_of w.0) c.args.numbered.spans.items w.3.reducers (w.3.listed le) in
    subst (All (IsSpanIn numbers)) (sym c.as_slice-2.ensures.value) spans

pub ordered_if-requires-clause-columns : goal.ordered_if-requires-clause-columns
ordered_if-requires-clause-columns c = λ held.
    let words = c.args.numbered.table.words in
    let order = c.in_ok-words.order.items in
    let w = c.requires.walked in
    let le : c.args.numbered.entries ≤ c.args.limit = omega (arith, leb-true _ _ held, c.from.ensures) in
    let places : length c.as_slice-4.result.now ≡ length words = ap length c.as_slice-4.ensures.value ∙ c.in_ok-columns.ensures.size
    ∙ ap length c.as_slice.ensures.value ∙ order_long words order c.in_ok-words.words c.in_ok-words.ensures.order in
    λ k d inside. omega (arith, w.3.below le k d inside, places)

pub returns-clause-listed : goal.returns-clause-listed
returns-clause-listed c = λ G given from walk residues.
    let words = c.args.numbered.table.words in
    let order = c.in_ok-words.order.items in
    let columns = c.in_ok-columns.columns.items in
    let spans = c.args.numbered.spans.items in
    let numbers = c.args.numbered.numbers.items in
    let m = c.in_ok-spans.numbers.items in
    let ts = c.in_ok-spans.spans.items in
    listed_in_order words order c.in_ok-words.words c.in_ok-words.ensures.order G given from c.args.limit spans numbers
    c.args.numbered.entries walk c.in_ok-words.ensures.falling columns
    (λ k lt. ap (λ (ns : List ℕ). get_or columns (get_or ns k 0) 0) (sym c.as_slice.ensures.value)
    ∙ c.in_ok-columns.ensures.columns k (omega (arith, lt, ap length c.as_slice.ensures.value)))
    c.args.residues residues m ts
    (λ le. let moved = c.in_ok-spans.ensures (le-leb _ _ (omega (arith, le, c.from.ensures))) in
    subst (λ (ns : List ℕ). AllZip (IsMoved (columns_at columns numbers) m) (map (λ k. get_or spans k None) ns) ts) c.as_slice-3.ensures.value
    (subst (λ (ss : List (Option Span)). AllZip (IsMoved (columns_at columns numbers) m) (map (λ k. get_or ss k None) c.as_slice-3.result.now) ts)
    c.as_slice-2.ensures.value
    (subst (λ (cs : List ℕ). AllZip (IsMoved (columns_at cs numbers) m) (map (λ k. get_or c.as_slice-2.result.now k None) c.as_slice-3.result.now) ts)
    c.as_slice-4.ensures.value moved)))

pub returns-clause-within : goal.returns-clause-within
returns-clause-within c = columns_long c.args.numbered.table.words c.in_ok-words.order.items c.in_ok-words.words c.in_ok-words.ensures.order
