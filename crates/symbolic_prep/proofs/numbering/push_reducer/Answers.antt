use Rattle.std.proofs.Common.{◌≡◌, ◌≤◌, ◌++◌, ◌∷◌, [], ℕ, List, Err, Some, arith, ap, get_or, inl, inr, map, subst, sym, ◌∙◌}
use Rattle.std.specs.List.{Contains}
use Rattle.std.proofs.lemmas.Bool.{le-leb}
use Rattle.std.proofs.lemmas.Option.{slice_get-get_or}
use Rattle.std.proofs.lemmas.Result.{err_from_is_err_and}
use Rattle.free_poly.specs.declared.term.Term.{Term}
use Rattle.ideal_laws.specs.Basis.{below_lead}
use Rattle.ideal_laws.specs.Closure.{IsInClosure}
use Rattle.words.proofs.Faults.{one_fault}
use Rattle.symbolic_prep.specs.Numbers.{AreListed, IsGrown}
use Rattle.symbolic_prep.proofs.Reduced.{below_by, longer_by, numbered_own, stands_at, tail_in_closure}
use Rattle.symbolic_prep.proofs.ReducerTails.{has_own}
use Rattle.symbolic_prep.proofs.Sets.{more_widely}
use Rattle.symbolic_prep.proofs.numbering.push_reducer.Goals as goal

pub returns-in_ok-end-in-Some-clause-reduced : goal.returns-in_ok-end-in-Some-clause-reduced
returns-in_ok-end-in-Some-clause-reduced c =
    let G = c.args.basis.now.elements in
    let t = c.args.table.now in
    let new = c.add_words.new.table.words in
    let w : List ℕ = get_or t.words c.args.number [] in
    let at = slice_get-get_or t.words c.args.number [] c.requires.number in
    let o = has_own G t.bits t.room c.args.tails.now w c.args.tail c.in-Some.tail c.in-Some.is c.requires.tail in
    let f = o.reducer in
    let grown : IsGrown t.words new (map (λ (s : Term). s.word) (below_lead f)) = subst (IsGrown t.words new) o.words c.in_ok-add_words-in-Some.ensures.grown in
    let n0 = c.args.numbers.now.items in
    let n1 = c.push_number.new.numbers.items in
    let n2 = c.add_words.new.numbers.items in
    let more = c.counted-entries.result in
    let pushed : more ≤ c.args.limit → n1 ≡ n0 ++ c.args.number ∷ [] =
    λ le. c.in_ok-push_number-in-Some.ensures.pushed (le-leb _ _ (omega (arith, le, c.from.ensures))) in
    let listed : more ≤ c.args.limit → AreListed new n1 n2 (below_lead f) =
    λ le. c.in_ok-add_words-in-Some.ensures.listed (below_lead f) o.words (le-leb _ _ (omega (arith, le, c.from.ensures))) in
    record {
      reducer = Some f;
      is = o.is;
      grown = grown;
      count = omega (arith, c.counted-entries.ensures, o.count);
      longer = λ le. longer_by G w f o.tail.lead t.words new grown c.args.number at n0 n1 n2 (pushed le) (listed le);
      below = λ le. below_by G w f o.tail.lead t.words new grown c.args.number at n0 n1 n2 (pushed le) (listed le);
      stands = λ le. stands_at G w f o.tail.lead t.words new grown c.args.number at n0 n1 n2 (pushed le) (listed le) _
          (omega (arith, c.in_ok-start-in-Some.ensures, c.len.ensures, c.args.numbers.now.ok))
          (omega (arith, c.in_ok-end-in-Some.ensures, c.len-in-Some.ensures, c.add_words.new.numbers.ok)) o.tail.residues_are;
    }

pub returns-in_err-add_words-in-Some-clause-many : goal.returns-in_err-add_words-in-Some-clause-many
returns-in_err-add_words-in-Some-clause-many c = λ is_many given_words sound.
    let G = c.args.basis.now.elements in
    let t = c.args.table.now in
    let w : List ℕ = get_or t.words c.args.number [] in
    let at = slice_get-get_or t.words c.args.number [] c.requires.number in
    let o = has_own G t.bits t.room c.args.tails.now w c.args.tail c.in-Some.tail c.in-Some.is c.requires.tail in
    let p = err_from_is_err_and c.from_residual-in_err-add_words-in-Some.result c.from_residual-in_err-add_words-in-Some.ensures.1 in
    let more = c.in_err-add_words-in-Some.ensures.many (ap Err (sym p.2 ∙ one_fault c.from_residual-in_err-add_words-in-Some.result _ _ p.1 is_many)) in
    more_widely c.args.most _ (IsInClosure G given_words) (λ x h. elim h [
      | inl m ↦ sound x m
      | inr m ↦ tail_in_closure G given_words w o.reducer o.is (sound w (numbered_own t.words c.args.number w at)) x
          (subst (λ (ws : List (List ℕ)). Contains ws x) o.words m)
    ]) more
