use Rattle.std.proofs.Common.{◌≡◌, ◌^◌, ◌<◌, ℕ, AllPairs, List, arith, ap, get_or, length, subst, sym, ◌∙◌}
use Rattle.std.specs.FinMap.{nat_cmp-IsAntisymmetric}
use Rattle.std.specs.List.{Contains, slice_get}
use Rattle.symbolic_prep.specs.Packing.{packed}
use Rattle.symbolic_prep.proofs.ListedColumns.{column_here, has_key, number_not_between, numbers-rise}
use Rattle.symbolic_prep.proofs.packed.PackedWords.column_of.Goals as goal

pub pack-key-requires-clause-over : goal.pack-key-requires-clause-over
pack-key-requires-clause-over c = (has_key c.self.inside.packing.bits c.self.inside.packing.room c.self.inside.keys.items c.args.word.now
    c.self.invariant.table (subst (λ (ws : List (List ℕ)). Contains ws c.args.word.now) (sym c.self.view_is) c.requires)).over

pub pack-key-requires-clause-fits : goal.pack-key-requires-clause-fits
pack-key-requires-clause-fits c = (has_key c.self.inside.packing.bits c.self.inside.packing.room c.self.inside.keys.items c.args.word.now
    c.self.invariant.table (subst (λ (ws : List (List ℕ)). Contains ws c.args.word.now) (sym c.self.view_is) c.requires)).fits

pub unreachable-requires : goal.unreachable-requires
unreachable-requires c =
    let bits = c.self.inside.packing.bits in
    let room = c.self.inside.packing.room in
    let keys = c.self.inside.keys.items in
    let h = has_key bits room keys c.args.word.now c.self.invariant.table
    (subst (λ (ws : List (List ℕ)). Contains ws c.args.word.now) (sym c.self.view_is) c.requires) in
    let own : Contains c.as_slice.result.now c.pack-key.result = subst (λ (ks : List ℕ). Contains ks c.pack-key.result)
    (sym c.as_slice.ensures.value) (subst (Contains keys) (h.is ∙ sym c.pack-key.ensures) h.among) in
    number_not_between c.pack-key.result c.as_slice.result.now c.in-Err.field-0 own
    (c.in-Err.ensures.position (numbers-rise c.pack-key.result c.as_slice.result.now
    (subst (AllPairs (λ a b. a < b)) (sym c.as_slice.ensures.value) c.self.invariant.rising)))

pub returns : goal.returns
returns c =
    let bits = c.self.inside.packing.bits in
    let room = c.self.inside.packing.room in
    let keys = c.self.inside.keys.items in
    let h = has_key bits room keys c.args.word.now c.self.invariant.table
    (subst (λ (ws : List (List ℕ)). Contains ws c.args.word.now) (sym c.self.view_is) c.requires) in
    let found : get_or c.as_slice.result.now c.in-Ok.at 0 ≡ c.pack-key.result =
    nat_cmp-IsAntisymmetric (get_or c.as_slice.result.now c.in-Ok.at 0) c.pack-key.result (c.in-Ok.ensures.ok 0) in
    let here : get_or keys c.in-Ok.at 0 ≡ packed (2 ^ bits) room c.args.word.now =
    ap (λ (ks : List ℕ). get_or ks c.in-Ok.at 0) (sym c.as_slice.ensures.value) ∙ found ∙ c.pack-key.ensures in
    ap (λ (t : List (List ℕ)). slice_get t c.in-Ok.at) (sym c.self.view_is)
    ∙ column_here bits room keys c.args.word.now c.in-Ok.at h.over h.fits
    (omega (arith, c.in-Ok.ensures.bound, ap length c.as_slice.ensures.value)) here
