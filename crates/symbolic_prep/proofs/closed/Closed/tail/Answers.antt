use Rattle.std.proofs.Common.{◌≡◌, [], ◌+◌, ◌-◌, ◌<◌, ℕ, List, None, Option, Some, arith, ap, drop, get_or, length, length-drop, subst, sym, take, ◌∙◌}
use Rattle.std.specs.List.{slice_range}
use Rattle.std.proofs.lemmas.List.{get_or-map, take_all}
use Rattle.ideal_laws.specs.Basis.{below_lead}
use Rattle.symbolic_prep.specs.declared.lists.Span.{Span}
use Rattle.symbolic_prep.specs.Columns.{words_in}
use Rattle.symbolic_prep.specs.Numbers.{AreTerms, IsSpanWithin, reducer_on, terms_on}
use Rattle.symbolic_prep.proofs.ListedColumns.{range_long, range_tail, tail_terms}
use Rattle.symbolic_prep.proofs.closed.Closed.tail.Goals as goal

pub returns-in-Some : goal.returns-in-Some
returns-in-Some c =
    let words = words_in c.self.inside.columns in
    let numbers = c.self.inside.lists.numbers.items in
    let residues = c.self.inside.lists.residues in
    let spans : List (Option Span) = c.self.inside.lists.spans.items in
    let s : Span = c.in-Some.span in
    let lt : c.args.column < length spans = omega (arith, c.requires, ap (λ t. length t.columns) c.self.view_is, c.self.invariant.size) in
    let here : get_or spans c.args.column c.index.result.now ≡ Some s = sym c.index.ensures ∙ c.in-Some.is in
    let within : IsSpanWithin (length words) numbers residues (Some s) =
    subst (IsSpanWithin (length words) numbers residues) here (c.self.invariant.within c.args.column c.index.result.now lt) in
    let ns = slice_range numbers s.start s.end in
    let rs = get_or residues s.element [] in
    let reducer : get_or c.args.self.now.reducers c.args.column None ≡ Some (terms_on words ns rs) =
    ap (λ t. get_or t.reducers c.args.column None) (sym c.self.view_is)
    ∙ get_or-map (reducer_on words numbers residues) spans c.args.column c.index.result.now None lt
    ∙ ap (reducer_on words numbers residues) here in
    let terms = tail_terms words ns rs (λ k d inside. within.4 k d inside)
    (omega (arith, range_long numbers s.start s.end within.0 within.1, within.3)) in
    let ns_same : drop 1 ns ≡ take (s.end - (s.start + 1)) (drop (s.start + 1) c.as_slice.result.now) =
    sym (range_tail numbers s.start s.end within.0) ∙ ap (λ (xs : List ℕ). take (s.end - (s.start + 1)) (drop (s.start + 1) xs))
    (sym c.as_slice.ensures.value) in
    let list = c.at.result.now in
    let rest = take (length list - 1) (drop 1 list) in
    let rs_same : drop 1 rs ≡ rest = ap (drop 1) (sym c.at.ensures)
    ∙ sym (take_all (length list - 1) (drop 1 list) (omega (arith, length-drop 1 list))) in
    let columns : words ≡ c.args.self.now.columns = ap (λ t. t.columns) c.self.view_is in (
      terms_on words ns rs,
      reducer,
      subst (λ (ws : List (List ℕ)). AreTerms ws (take (s.end - (s.start + 1)) (drop (s.start + 1) c.as_slice.result.now))
          rest (below_lead (terms_on words ns rs))) columns
          (subst (λ (xs : List ℕ). AreTerms words xs rest
          (below_lead (terms_on words ns rs))) ns_same
          (subst (λ (ys : List ℕ). AreTerms words (drop 1 ns) ys (below_lead (terms_on words ns rs))) rs_same terms)),
    )
