use Rattle.std.proofs.Common.{◌≡◌, ◌+◌, ◌++◌, ◌<◌, ℕ, List, length, set, take, sym, ap, ◌∙◌, arith, subst}
use Rattle.free_poly.specs.declared.term.Term.{Term}
use Rattle.ideal_laws.specs.Engine.{Elements}
use Rattle.ideal_laws.specs.Kept.{IsStored}
use Rattle.ideal_laws.proofs.Grown.{AreNext, stored_grown}
use Rattle.ideal_laws.proofs.basis.Basis.push_degree.Goals as goal

pub invariant_of-self-2 : goal.invariant_of-self-2
invariant_of-self-2 c =
    let next : AreNext c.args.self.now c.args.elements.items = record {
      few = c.requires.few;
      monic = c.requires.monic;
      letters = c.requires.letters;
      degree = c.requires.degree;
      falling = c.requires.falling;
    } in
    let here = subst (λ (b : Elements). AreNext b c.args.elements.items) (sym c.self.view_is) next in
    let room : c.self.inside.done < 64 = omega (arith, ap (λ (b : Elements). b.done) c.self.view_is, c.requires.room) in
    let items : c.self.inside.elements.items ++ c.args.elements.items ≡ c.append.new.self.items = sym c.in_ok-append.ensures.items in
    let size : length (c.self.inside.elements.items ++ c.args.elements.items) ≡ c.len.result = ap length items ∙ sym (c.len.ensures ∙ c.append.new.self.ok.0) in
    subst (λ (n : ℕ). IsStored (record {
      weights = take c.self.inside.letters c.self.inside.weights;
      done = c.self.inside.done + 1;
      elements = c.append.new.self.items;
    }) (set c.self.inside.ends (c.self.inside.done + 1) n)) size
    (subst (λ (fs : List (List Term)). IsStored (record {
      weights = take c.self.inside.letters c.self.inside.weights;
      done = c.self.inside.done + 1;
      elements = fs;
    }) (set c.self.inside.ends (c.self.inside.done + 1)
    (length (c.self.inside.elements.items ++ c.args.elements.items)))) items
    (stored_grown _ c.args.elements.items here c.self.inside.ends c.self.invariant room))
