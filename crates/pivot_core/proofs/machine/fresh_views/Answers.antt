use Rattle.std.proofs.Common.{◌≡◌, ◌+◌, ◌≤◌, ◌∷◌, ◌++◌, [], ℕ, All, List, map, min, sym, ap, ap₂, ◌∙◌, arith, subst}
use Rattle.std.specs.List.{range_with_len}
use Rattle.std.specs.Vec.{vec_capacity}
use Rattle.std.proofs.lemmas.List.{map-append}
use Rattle.std.proofs.lemmas.List.Elements.{All-push}
use Rattle.std.proofs.lemmas.List.FromFn.{map-range_with_len_more}
use Rattle.pivot_core.specs.declared.view.View.{View}
use Rattle.pivot_core.specs.declared.sight.Sight.{Sight}
use Rattle.pivot_core.specs.Views.{fresh, sight_of}
use Rattle.pivot_core.proofs.machine.fresh_views.Goals as goal

pub loop-seat-preserved : goal.loop-seat-preserved
loop-seat-preserved c =
    let m : ℕ = c.args.problem.now.m in
    let seat : ℕ = c.loop-seat.seat in
    let views : List View = c.loop-seat.views.items in
    let v : View = c.in_ok-fresh.field-0 in
    let pushed = c.in_ok-push.ensures.items in
    let more : map (fresh m) (range_with_len 0 (seat + 1)) ≡ map (fresh m) (range_with_len 0 seat) ++ fresh m seat ∷ [] =
    map-range_with_len_more (fresh m) 0 seat seat (omega arith) in
    record {
      views = ap (map sight_of) pushed ∙ map-append sight_of views (v ∷ [])
          ∙ ap₂ (λ (xs : List Sight) (x : Sight). xs ++ x ∷ []) c.loop-seat.invariant.views c.in_ok-fresh.ensures.view ∙ sym more;
      room = subst (All (λ (z : View). min c.args.problem.now.n m ≤ vec_capacity z.calls)) (sym {A = List View} pushed)
          (All-push (λ (z : View). min c.args.problem.now.n m ≤ vec_capacity z.calls) views v c.loop-seat.invariant.room
          c.in_ok-fresh.ensures.room);
    }
