use Rattle.std.proofs.Common.{◌≡◌, ◌*◌, ◌-◌, ◌<◌, ℕ, List, All, MutBor, Vec, Global, get_or, ap, ap₂, sym, ◌∙◌, arith, subst}
use Rattle.std.specs.List.{AllZip, range_with_len}
use Rattle.std.specs.Result.{IfOk}
use Rattle.std.proofs.lemmas.List.{map-id}
use Rattle.std.proofs.lemmas.List.FromFn.{get_or-range_with_len, length-range_with_len}
use Rattle.words.proofs.Gathered.{gathered}
use Rattle.rayon.proofs.ListFacts.{AllZip-weaken}
use Rattle.row_laws.specs.Contested.{AreContestedRows}
use Rattle.row_store.specs.declared.buffer.Buffer.{Buffer}
use Rattle.row_store.specs.Deals.{part_of, turned}
use Rattle.row_store.specs.Sums.{IsRowAmong}
use Rattle.row_store.proofs.store.dealt_parts.Goals as goal

pub returns : goal.returns
returns g c =
    let base = ap (λ it. it.base) c.map_init.ensures.base ∙ c.with_min_len.ensures.base in
    let it = c.map_init.result.base.base in
    let start : it.start ≡ 0 = ap (λ it. it.start) base ∙ c.into_par_iter.ensures.0 in
    let end : it.end ≡ c.args.deal.hands * c.args.deal.turns = ap (λ it. it.end) base ∙ c.into_par_iter.ensures.1 ∙ c.len.ensures in
    let places : range_with_len it.start (it.end - it.start) ≡ range_with_len 0 (c.args.deal.hands * c.args.deal.turns) =
    ap₂ range_with_len start (omega (arith, start, end)) in
    let h = c.in_ok-collect.ensures in
    let f = c.map_init.result.f in
    let R : ℕ → Vec (List ℕ) Global → Type 0 = λ place left. AreContestedRows f.3.now f.4.now.columns f.4.now.reducers
    (part_of f.0.size f.1.now (turned f.0.turns f.0.hands place)) left.items in
    let each = AllZip-weaken (λ (place : ℕ) r. (before : MutBor Buffer) × (after : MutBor Buffer) × IfOk r (R place))
    (λ place r. IfOk r (R place)) (λ place r own. own.2) h.1.0 h.0 h.1.2 in
    let all = gathered (λ place. place) (λ v. v.items) R (range_with_len 0 (c.args.deal.hands * c.args.deal.turns)) h.1.0 h.0 c.in_ok-collect.field-0
    (map-id h.1.0 ∙ h.1.1 ∙ places) each h.2 in
    subst (λ f. IfOk c.in_ok-collect.field-0 (λ v. AllZip (λ (place : ℕ) left. AreContestedRows f.3.now f.4.now.columns f.4.now.reducers
    (part_of f.0.size f.1.now (turned f.0.turns f.0.hands place)) left.items)
    (range_with_len 0 (c.args.deal.hands * c.args.deal.turns)) v.items)) c.map_init.ensures.f all

pub collect-requires-clause-ready : goal.collect-requires-clause-ready
collect-requires-clause-ready g c κs within = (
  tt,
  λ k d low. (
    λ _. (
        let base = ap (λ it. it.base) c.map_init.ensures.base ∙ c.with_min_len.ensures.base in
        let it = c.map_init.result.base.base in
        let start : it.start ≡ 0 = ap (λ it. it.start) base ∙ c.into_par_iter.ensures.0 in
        let end : it.end ≡ c.args.deal.hands * c.args.deal.turns = ap (λ it. it.end) base ∙ c.into_par_iter.ensures.1 ∙ c.len.ensures in
        let place = get_or (range_with_len it.start (it.end - it.start)) k d in
        let below : k < it.end - it.start = omega (arith, low, length-range_with_len it.start (it.end - it.start)) in
        let inside : place < c.args.deal.hands * c.args.deal.turns =
        omega (arith, get_or-range_with_len it.start (it.end - it.start) k d below, below, start, end) in
        subst (λ f. (place < f.0.hands * f.0.turns) × All (IsRowAmong f.3.now f.4.now f.5.now) f.1.now) (sym c.map_init.ensures.f) (inside, c.requires)),
    λ p q y h. tt,
  ),
)
