-- A stable sort of calls by stamp and seat is what inserting them in turn gives.
use Rattle.std.proofs.Common.{◌≡◌, ℕ, Bool, true, false, cond, not, List, [], ◌∷◌, filter, nat_cmp, is_lt, Ordering, refl, sym, ap, subst, ◌∙◌, arith, inl, inr}
use Rattle.std.proofs.lemmas.Bool.{cond-true, cond-false, cases_Bool}
use Rattle.std.proofs.lemmas.Bool.Decides.{nat_tests}
use Rattle.std.specs.Cmp.{IsStrictWeakOrder}
use Rattle.std.specs.List.Sorted.{IsSortedByKey, IsStableByKey, ties}
use Rattle.std.specs.Ordering.{ordering_then}
use Rattle.ideal_laws.specs.declared.account.Call.{Call}
use Rattle.pivot_core.specs.History.{insert_call, is_not_after, sorted_calls}
use Rattle.pivot_core.proofs.StableSorts.{NoneBelow, Rises, Rises-from_sort, filter-dropped, filter-kept, same_from_ties, tied_parts}

-- by which the calls are sorted
abbrev pub rank : Call → ℕ × ℕ
rank k = (k.stamp, k.seat)

abbrev pub rank_cmp : ℕ × ℕ → ℕ × ℕ → Ordering
rank_cmp x y = ordering_then (nat_cmp x.0 y.0) (nat_cmp x.1 y.1)

abbrev before : Call → Call → Bool
before k l = is_lt (rank_cmp (rank k) (rank l))

before_order : IsStrictWeakOrder before
before_order = record { one_way = λ k l h. grind (arith, nat_tests); chain = λ k l m h j. grind (arith, nat_tests) }

is_not_after-before : (k l : Call) → is_not_after k l ≡ not (before l k)
is_not_after-before k l = grind (arith, nat_tests)

-- an insert at a list stops before the first call that is not before it
insert_call-stays : (k l : Call) (ls : List Call) → before l k ≡ false → insert_call k (l ∷ ls) ≡ k ∷ l ∷ ls
insert_call-stays k l ls h = cond-true _ _ _ (is_not_after-before k l ∙ ap not h)

insert_call-past : (k l : Call) (ls : List Call) → before l k ≡ true → insert_call k (l ∷ ls) ≡ l ∷ insert_call k ls
insert_call-past k l ls h = cond-false _ _ _ (is_not_after-before k l ∙ ap not h)

NoneBelow-insert_call : (x k : Call) (ls : List Call) → before k x ≡ false → NoneBelow before x ls → NoneBelow before x (insert_call k ls)
NoneBelow-insert_call x k [] h below = (h, tt)
NoneBelow-insert_call x k (l ∷ ls) h below = elim (cases_Bool (before l k)) [
  | inl past ↦ subst (NoneBelow before x) (sym (insert_call-past k l ls past)) (below.0, NoneBelow-insert_call x k ls h below.1)
  | inr stays ↦ subst (NoneBelow before x) (sym (insert_call-stays k l ls stays)) (h, below)
]

-- what is not below the least is not below what is not above it
NoneBelow-least : (k l : Call) (ls : List Call) → before l k ≡ false → NoneBelow before l ls → NoneBelow before k ls
NoneBelow-least k l [] h below = tt
NoneBelow-least k l (m ∷ ls) h below = (before_order.chain m l k below.0 h, NoneBelow-least k l ls h below.1)

Rises-insert_call : (k : Call) (ls : List Call) → Rises before ls → Rises before (insert_call k ls)
Rises-insert_call k [] up = (tt, tt)
Rises-insert_call k (l ∷ ls) up = elim (cases_Bool (before l k)) [
  | inl past ↦ subst (Rises before) (sym (insert_call-past k l ls past))
      (NoneBelow-insert_call l k ls (before_order.one_way l k past) up.0, Rises-insert_call k ls up.1)
  | inr stays ↦ subst (Rises before) (sym (insert_call-stays k l ls stays)) ((stays, NoneBelow-least k l ls stays up.0), up)
]

-- the sorted calls rise
Rises-sorted_calls : (ks : List Call) → Rises before (sorted_calls ks)
Rises-sorted_calls [] = tt
Rises-sorted_calls (k ∷ ks) = Rises-insert_call k (sorted_calls ks) (Rises-sorted_calls ks)

-- an insert passes no call of its own rank
filter-insert_call : (x k : Call) (ls : List Call) → filter (ties before x) (insert_call k ls) ≡ filter (ties before x) (k ∷ ls)
filter-insert_call x k [] = refl
filter-insert_call x k (l ∷ ls) =
    let p = ties before x in
    elim (cases_Bool (before l k)) [
      | inr stays ↦ ap (filter p) (insert_call-stays k l ls stays)
      | inl past ↦
          ap (filter p) (insert_call-past k l ls past)
          ∙ elim (cases_Bool (p l)) [
            | inr without ↦
                filter-dropped p l (insert_call k ls) without ∙ filter-insert_call x k ls
                ∙ ap (λ (rest : List Call). cond (p k) (k ∷ rest) rest) (sym (filter-dropped p l ls without))
            | inl with ↦
                elim (cases_Bool (p k)) [
                  | inl both ↦ (let wrong : true ≡ false = sym past ∙ before_order.chain l x k (tied_parts before x l with).1
                      (tied_parts before x k both).0 in cc)
                  | inr only ↦
                      filter-kept p l (insert_call k ls) with ∙ ap (λ (rest : List Call). l ∷ rest) (filter-insert_call x k ls ∙ filter-dropped p k ls only)
                      ∙ sym (filter-dropped p k (l ∷ ls) only ∙ filter-kept p l ls with)
                ]
          ]
    ]

-- calls of one rank keep their order
filter-sorted_calls : (x : Call) (ks : List Call) → filter (ties before x) (sorted_calls ks) ≡ filter (ties before x) ks
filter-sorted_calls x [] = refl
filter-sorted_calls x (k ∷ ks) =
    filter-insert_call x k (sorted_calls ks)
    ∙ ap (λ (rest : List Call). cond (ties before x k) (k ∷ rest) rest) (filter-sorted_calls x ks)

-- what a stable sort by stamp and seat leaves
pub sorted_calls-from_sort : (xs ys : List Call) → IsSortedByKey rank rank_cmp ys → IsStableByKey rank rank_cmp xs ys → ys ≡ sorted_calls xs
sorted_calls-from_sort xs ys up stable =
    same_from_ties before before_order ys (sorted_calls xs) (Rises-from_sort before before_order ys up) (Rises-sorted_calls xs)
    (λ x. stable x ∙ sym (filter-sorted_calls x xs))
