use Rattle.std.proofs.Common.{◌<◌, ◌≤◌, ◌≡◌, ◌+◌, ◌-◌, ◌++◌, ◌∷◌, [], List, ℕ, Err, length, arith, rules, subst, sym, ap, ◌∙◌, length-append}
use Rattle.std.proofs.lemmas.List.{length-map, map-append}
use Rattle.std.proofs.lemmas.List.Sorted.{length_permutation}
use Rattle.std.specs.List.{flat_map}
use Rattle.std.specs.List.Sorted.{IsSorted}
use Rattle.words.proofs.Faults.{same_fault}
use Rattle.ideal_laws.specs.Closure.{IsFactorFree}
use Rattle.ideal_laws.specs.Engine.{Elements}
use Rattle.ideal_laws.specs.Kept.{IsKept}
use Rattle.anick_chains.specs.declared.chain.Chain.{Chain}
use Rattle.anick_chains.specs.Compare.{pieces_cmp}
use Rattle.anick_chains.specs.Listed.{AreListedOf, pieces_of, with_degree}
use Rattle.anick_chains.specs.Listing.{IsNumberOf}
use Rattle.anick_chains.specs.Walk.{chains_at, continued, free_letters, onward}
use Rattle.anick_chains.proofs.Steps.{all_length, listed_more, number_more}
use Rattle.anick_chains.proofs.listing.push_degree.Goals as goal

-- where the letters and the longer chains are more than there is room for, there are too many chains up to the degree
too_many : (b : Elements) (kept : IsKept b) (free : IsFactorFree b.elements) (d most k : ℕ) (found : List Chain) → 1 ≤ d → AreListedOf b (d - 1) found
    → most < length found + (length (free_letters b.weights b.elements d) + length (flat_map (onward b.weights b.elements d) (pieces_of found)))
    → k ≡ d → (k ≡ d) × (n : ℕ) × IsNumberOf b d n × (most < n)
too_many b kept free d most k found some below more is =
    let next : d ≡ (d - 1) + 1 = omega (arith, some) in (
      is,
      length found + length (chains_at b.weights b.elements d (pieces_of found)),
      number_more b kept free (d - 1) found below d next,
      omega (arith, more, all_length b kept free (d - 1) found below d next),
    )

pub returns-in_err-push_continued-clause-many : goal.returns-in_err-push_continued-clause-many
returns-in_err-push_continued-clause-many c = λ d e.
    let m = c.in_err-push_continued.ensures.many d
    (ap Err (same_fault c.from_residual-in_err-push_continued.result _ _ c.from_residual-in_err-push_continued.ensures.1 e)) in
    too_many c.args.tips.now.basis.now c.requires.tips.kept c.requires.tips.factor_free c.args.degree c.args.most d c.args.found.now.items
    c.requires.some c.requires.below (omega (
      arith,
      m.1,
      c.requires.few,
      c.len.ensures,
      ap length c.new-block.ensures.items,
      ap length c.in_ok-letters.ensures,
    )) m.0

pub returns-in_err-push_onward-clause-many : goal.returns-in_err-push_onward-clause-many
returns-in_err-push_onward-clause-many c = λ d e.
    let b = c.args.tips.now.basis.now in
    let m = c.in_err-push_onward.ensures.many d
    (ap Err (same_fault c.from_residual-in_err-push_onward.result _ _ c.from_residual-in_err-push_onward.ensures.1 e)) in
    let letters = continued [] c.in_ok-letters.letters.items in
    too_many b c.requires.tips.kept c.requires.tips.factor_free c.args.degree c.args.most d c.args.found.now.items
    c.requires.some c.requires.below (omega (
      arith,
      m.1,
      c.requires.few,
      c.len.ensures,
      ap length c.new-block.ensures.items,
      ap length c.in_ok-letters.ensures,
      ap length c.in_ok-push_continued.ensures.continued,
      length-append c.new-block.result.items (with_degree c.args.degree letters),
      length-map {B = Chain} letters (λ (x : List (List ℕ)). record { degree = c.args.degree; pieces = x }),
      length-map c.in_ok-letters.letters.items (λ (r : List ℕ). [] ++ r ∷ []),
      ap (λ (found : List Chain). length (flat_map (onward b.weights b.elements c.args.degree) (pieces_of found))) c.as_slice.ensures.value,
    )) m.0

pub returns-clause-listed : goal.returns-clause-listed
returns-clause-listed c =
    let b = c.args.tips.now.basis.now in
    let next : c.args.degree ≡ (c.args.degree - 1) + 1 = omega (arith, c.requires.some) in
    let d = c.args.degree in
    let below = pieces_of c.args.found.now.items in
    let letters : c.push_continued.new.block.items ≡ with_degree d (continued [] (free_letters b.weights b.elements d)) =
    c.in_ok-push_continued.ensures.continued ∙ ap (λ (x : List Chain). x ++ with_degree d (continued [] c.in_ok-letters.letters.items))
    c.new-block.ensures.items
    ∙ ap (λ (rs : List (List ℕ)). with_degree d (continued [] rs)) c.in_ok-letters.ensures in
    let block : c.push_onward.new.block.items ≡ with_degree d (chains_at b.weights b.elements d below) =
    c.in_ok-push_onward.ensures.onward ∙ ap (λ (x : List Chain). x
    ++ with_degree d (flat_map (onward b.weights b.elements d) (pieces_of c.as_slice.result.now))) letters
    ∙ ap (λ (x : List Chain). with_degree d (continued [] (free_letters b.weights b.elements d))
    ++ with_degree d (flat_map (onward b.weights b.elements d) (pieces_of x))) c.as_slice.ensures.value
    ∙ sym (map-append {B = Chain} (λ (x : List (List ℕ)). record { degree = d; pieces = x })
    (continued [] (free_letters b.weights b.elements d)) (flat_map (onward b.weights b.elements d) below)) in
    let whole : c.append.new.self.items ≡ c.args.found.now.items ++ c.sort.new.block.items = search rules in
    subst (AreListedOf b d) (sym whole)
    (listed_more b c.requires.tips.kept c.requires.tips.factor_free (c.args.degree - 1) c.args.found.now.items c.requires.below d next
    c.push_onward.new.block.items c.sort.new.block.items block c.sort.ensures.same
    (subst (λ (ws : List ℕ). IsSorted (λ (x y : Chain). pieces_cmp ws x.pieces y.pieces) c.sort.new.block.items)
    (c.as_slice-2.ensures.value ∙ c.requires.tips.weighted)
    c.sort.ensures.sorted))

pub returns-clause-within : goal.returns-clause-within
returns-clause-within c =
    let whole : c.append.new.self.items ≡ c.args.found.now.items ++ c.sort.new.block.items = search rules in
    omega (
      arith,
      ap length whole,
      length-append c.args.found.now.items c.sort.new.block.items,
      length_permutation _ _ c.sort.ensures.same,
      c.in_ok-push_onward.ensures.within,
      c.requires.few,
      c.len.ensures,
    )
