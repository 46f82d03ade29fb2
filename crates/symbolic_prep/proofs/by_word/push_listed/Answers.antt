use Rattle.std.proofs.Common.{◌≡◌, ◌++◌, ◌∷◌, [], ◌∙◌, ℕ, List, Some, All, arith, ap, length, subst, sym}
use Rattle.std.specs.List.{Contains}
use Rattle.free_poly.specs.declared.term.Term.{Term}
use Rattle.symbolic_prep.specs.declared.lists.Span.{Span}
use Rattle.symbolic_prep.specs.Columns.{IsOnColumns}
use Rattle.symbolic_prep.specs.Numbers.{IsSpanOf, residues_of}
use Rattle.symbolic_prep.proofs.ByWord.{listed_longer, listed_stands}
use Rattle.symbolic_prep.proofs.Reduced.{longer_none}
use Rattle.symbolic_prep.proofs.by_word.push_listed.Goals as goal

pub push_numbers-requires-clause-on_columns : goal.push_numbers-requires-clause-on_columns
push_numbers-requires-clause-on_columns c =
    let f : List Term = c.in-Some.poly in
    let on : IsOnColumns c.args.columns.now (Some f) = subst (IsOnColumns c.args.columns.now) c.in-Some.is c.requires.on_columns in
    subst (All (λ (t : Term). Contains c.args.columns.now t.word)) (sym c.terms.ensures.value) on

pub returns-in_ok-push-in-Some-clause-numbers : goal.returns-in_ok-push-in-Some-clause-numbers
returns-in_ok-push-in-Some-clause-numbers c =
    let f : List Term = c.terms.result.now in
    listed_longer c.args.columns.now c.args.numbers.now.items c.push_numbers.new.numbers.items f c.in_ok-push_numbers-in-Some.ensures

pub returns-in_ok-push-in-Some-clause-residues : goal.returns-in_ok-push-in-Some-clause-residues
returns-in_ok-push-in-Some-clause-residues c = record { more = residues_of c.terms-in-Some.result.now ∷ []; joined = c.in_ok-push-in-Some.ensures }

pub returns-in_ok-push-in-Some-clause-stands : goal.returns-in_ok-push-in-Some-clause-stands
returns-in_ok-push-in-Some-clause-stands c =
    let columns = c.args.columns.now in
    let n : List ℕ = c.args.numbers.now.items in
    let m : List ℕ = c.push_numbers.new.numbers.items in
    let q : List (List ℕ) = c.push.new.self in
    let f : List Term = c.terms.result.now in
    let same : c.terms-in-Some.result.now ≡ f = c.terms-in-Some.ensures.value ∙ sym c.terms.ensures.value in
    let pushed : q ≡ c.args.residues.now ++ residues_of f ∷ [] =
    c.in_ok-push-in-Some.ensures ∙ ap (λ (g : List Term). c.args.residues.now ++ residues_of g ∷ []) same in
    let s : Span = record { start = c.in_ok-start-in-Some.start; end = c.in_ok-end-in-Some.end; element = c.len-element.result } in
    let first : length n ≡ s.start = omega (arith, c.in_ok-start-in-Some.ensures, c.len.ensures, c.args.numbers.now.ok) in
    let long : length m ≡ s.end = omega (arith, c.in_ok-end-in-Some.ensures, c.len-in-Some.ensures, c.push_numbers.new.numbers.ok) in
    let own : IsSpanOf columns m q (Some s) (Some f) =
    listed_stands columns n m f c.in_ok-push_numbers-in-Some.ensures c.args.residues.now q pushed s first long (sym c.len-element.ensures) in
    subst (IsSpanOf columns m q (Some s)) (ap Some c.terms.ensures.value ∙ sym c.in-Some.is) own

pub returns-in-None-clause-numbers : goal.returns-in-None-clause-numbers
returns-in-None-clause-numbers c = longer_none c.args.numbers.now.items

pub returns-in-None-clause-residues : goal.returns-in-None-clause-residues
returns-in-None-clause-residues c = longer_none c.args.residues.now
