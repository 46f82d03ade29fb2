use Rattle.std.proofs.Common.{◌≡◌, ◌+◌, ◌*◌, [], ℕ, List, length, map, refl, sym, ap, ◌∙◌, arith, subst}
use Rattle.std.specs.List.{range_with_len, sum_by}
use Rattle.std.proofs.lemmas.List.{length-map}
use Rattle.std.proofs.lemmas.List.FromFn.{length-map-range_with_len}
use Rattle.field_table.specs.Residues.{IsFieldModulus}
use Rattle.back_reduce.specs.declared.problem.Problem.{Problem}
use Rattle.pivot_core.specs.declared.view.View.{View}
use Rattle.pivot_core.specs.Views.{fresh, sight_of, zeros}
use Rattle.pivot_core.proofs.Ended.{one_ended}
use Rattle.pivot_core.proofs.Opening.{none_summed}
use Rattle.pivot_core.proofs.machine.Core.new.Goals as goal

pub returns-clause-crew : goal.returns-clause-crew
returns-clause-crew c =
    sym (length-map c.in_ok-views.views.items sight_of) ∙ ap length c.in_ok-views.ensures.views
    ∙ length-map-range_with_len (fresh c.args.problem.m) 0 c.args.crew

pub invariant_of-result : goal.invariant_of-result
invariant_of-result c =
    let problem : Problem = c.args.problem in
    let m : ℕ = problem.m in
    let views : List View = c.in_ok-views.views.items in
    let crew : length views ≡ c.args.crew = returns-clause-crew c in
    let words : c.in_ok-words.words.items ≡ zeros (1 + m + problem.n * m) = c.in_ok-words.ensures.items_if_clones_equal (λ y e. e) in
    let fresh_all : map sight_of views ≡ map (fresh m) (range_with_len 0 (length views)) = c.in_ok-views.ensures.views
    ∙ ap (λ (k : ℕ). map (fresh m) (range_with_len 0 k)) (sym crew) in
    let none : sum_by one_ended (map sight_of views) ≡ 0 = ap (sum_by one_ended) fresh_all
    ∙ none_summed problem c.args.crew one_ended 0 (length views) (λ i. refl) in
    record {
      setting = record {
        field = subst IsFieldModulus c.requires.field c.modulus-modulus.ensures.field;
        some = omega (arith, crew, c.requires.some);
        few = omega (arith, crew, c.requires.few);
      };
      same = c.in_ok-field.ensures ∙ c.requires.field;
      events = [];
      reached = λ i. record { words = words i; views = fresh_all i };
      ended = omega (arith, none, crew);
      room = c.in_ok-views.ensures.room;
      no_logs = c.in_ok-logs.ensures.items;
      room_for_logs = omega (arith, crew, c.in_ok-logs.ensures.exact);
    }
