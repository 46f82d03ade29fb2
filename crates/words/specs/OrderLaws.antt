-- The orders of words are total, and only equal words tie. The laws of `Ord` cite these.
use Rattle.std.proofs.Common.{◌≡◌, ℕ, List, refl, sym, nat_eq}
use Rattle.std.specs.Ordering.{eq_by_cmp, flip_args, nat_cmp, ordering_reverse, ordering_then}
use Rattle.std.specs.Cmp.{Equal-is, IsPartialOrder, IsTotalOrder, back_total, both_ways, nat_cmp_total, on_total, po}
use Rattle.std.specs.Cmp.{then_total}
use Rattle.std.specs.Cmp.Lexicographic.{lists_total, nat_list_eq_equiv, pointwise, same_text}
use Rattle.std.specs.FinMap.{IsAntisymmetric, nat_cmp-IsAntisymmetric, slice_cmp-IsAntisymmetric}
use Rattle.std.specs.Prelude.{Some}
use Rattle.std.specs.declared.cmp.Ordering.{Ordering}
use Rattle.std.specs.declared.cmp.Ordering.TheVariants.{Less, Equal, Greater}
use Rattle.words.specs.Words.{degree_of}
use Rattle.words.specs.Order.{TiesEqualWords, letterwise_cmp, word_cmp}

pub letterwise_total : IsTotalOrder letterwise_cmp
letterwise_total = lists_total (back_total nat_cmp_total)

letters-IsAntisymmetric : IsAntisymmetric (flip_args nat_cmp)
letters-IsAntisymmetric x y e = sym (nat_cmp-IsAntisymmetric y x e)

pub letterwise-IsAntisymmetric : IsAntisymmetric letterwise_cmp
letterwise-IsAntisymmetric = slice_cmp-IsAntisymmetric letters-IsAntisymmetric

pub word_cmp_total : (weights : List ℕ) → IsTotalOrder (word_cmp weights)
word_cmp_total weights = then_total (on_total (degree_of weights) nat_cmp_total) letterwise_total

then_second : (r s : Ordering) → ordering_then r s ≡ Equal → s ≡ Equal
then_second Less s e = cc e
then_second Equal s e = e
then_second Greater s e = cc e

pub word_cmp-ties : TiesEqualWords
word_cmp-ties weights a b e = letterwise-IsAntisymmetric a b
    (then_second (nat_cmp (degree_of weights a) (degree_of weights b)) (letterwise_cmp a b) e)

self-equal : (r : Ordering) → r ≡ ordering_reverse r → r ≡ Equal
self-equal Less e = cc e
self-equal Equal e = refl
self-equal Greater e = cc e

pub letterwise_ties : (a b : List ℕ) → pointwise nat_eq a b ≡ eq_by_cmp letterwise_cmp a b
letterwise_ties a b = both_ways (pointwise nat_eq a b) (eq_by_cmp letterwise_cmp a b)
    (λ e. rw (same_text a b (sym e)) ((Equal-is (letterwise_cmp b b)).1
    (self-equal (letterwise_cmp b b) (letterwise_total.antisymm b b))))
    (λ e. rw (letterwise-IsAntisymmetric a b ((Equal-is (letterwise_cmp a b)).0 e)) (nat_list_eq_equiv.refl b))

pub letterwise_laws : IsPartialOrder (pointwise nat_eq) (λ a b. Some (letterwise_cmp a b))
letterwise_laws = po letterwise_total letterwise_ties
