use Rattle.std.proofs.Common.{◌^◌, ℕ, List, ap, map, sym, subst}
use Rattle.symbolic_prep.specs.Orders.{ArePackedWords, HaveOneDegree, IsOrder, IsRising}
use Rattle.symbolic_prep.specs.Packing.{unpacked}
use Rattle.symbolic_prep.proofs.FallingKeys.{packed_words, words_in_order}
use Rattle.symbolic_prep.proofs.table.WordTable.in_order.Goals as goal

pub of-requires : goal.of-requires
of-requires c =
    let bits = c.self.inside.packing.bits in
    let room = c.self.inside.packing.room in
    let keys = c.self.inside.keys.keys in
    let pairs : List (ℕ × ℕ) = c.in_ok-keys.ensures.0 in
    let r : IsRising keys pairs = subst (λ (ks : List ℕ). IsRising ks pairs) c.as_slice.ensures.keys c.in_ok-keys.ensures.1 in
    let one : HaveOneDegree (map (unpacked (2 ^ bits) room) keys) = subst HaveOneDegree (ap (λ t. t.words) (sym c.self.view_is)) c.requires.degree in
    subst (ArePackedWords bits room) (sym c.in_ok-keys.ensures.2) (packed_words bits room keys c.self.invariant pairs r one)

pub returns-clause-order : goal.returns-clause-order
returns-clause-order c =
    let bits = c.self.inside.packing.bits in
    let room = c.self.inside.packing.room in
    let keys = c.self.inside.keys.keys in
    let pairs : List (ℕ × ℕ) = c.in_ok-keys.ensures.0 in
    let r : IsRising keys pairs = subst (λ (ks : List ℕ). IsRising ks pairs) c.as_slice.ensures.keys c.in_ok-keys.ensures.1 in
    subst (λ (ws : List (List ℕ)). IsOrder ws c.in_ok-keys.order.items c.of.result) (ap (λ t. t.words) c.self.view_is)
    (words_in_order bits room keys c.self.invariant pairs r c.in_ok-keys.order.items c.in_ok-keys.keys.items c.of.result
    c.in_ok-keys.ensures.3 c.in_ok-keys.ensures.2 c.of.ensures)
