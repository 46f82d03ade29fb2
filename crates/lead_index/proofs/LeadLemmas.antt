-- Where the words of an index stand in a word.
use Rattle.std.proofs.Common.{◌≡◌, ◌+◌, ◌-◌, ◌<◌, ◌≤◌, ℕ, zero, suc, List, [], ◌∷◌, ◌++◌, length, length-drop, take, drop, get_or, refl, sym, ap, ◌∙◌}
use Rattle.std.proofs.Common.{inl, inr, arith, AllPairs, subst}
use Rattle.std.specs.List.{Contains}
use Rattle.std.proofs.lemmas.Bool.{cases_lt}
use Rattle.std.proofs.lemmas.List.{nil_from_length, take-append-drop, take_all}
use Rattle.std.proofs.lemmas.List.Elements.{All-append, All-cons, All-contains, All-more, All-nil}
use Rattle.std.proofs.lemmas.List.Kept.{AllPairs-cons}
use Rattle.words.specs.Words.{IsFactor, OccursAt}
use Rattle.words.proofs.Members.{AllPairs-append, AllPairs-first, AllPairs-nil, AllPairs-rest, All-from_members, Contains-cases, Contains-none}
use Rattle.lead_index.specs.declared.lead.Lead.{Lead}
use Rattle.lead_index.specs.Leads.{AreApart, IsFirstReducer, IsFree, IsFreeAt, IsFresh, IsIndex, Starts}

take-take : (n m : ℕ) (xs : List ℕ) → n ≤ m → take n (take m xs) ≡ take n xs
take-take zero m xs le = refl
take-take (suc n) zero xs le = absurd (omega (arith, le))
take-take (suc n) (suc m) [] le = refl
take-take (suc n) (suc m) (x ∷ xs) le = ap (λ (ys : List ℕ). x ∷ ys) (take-take n m xs (omega (arith, le)))

-- the letters from a place on, as a slice has them
pub take-drop_rest : (xs : List ℕ) (at : ℕ) → take (length xs - at) (drop at xs) ≡ drop at xs
take-drop_rest xs at = take_all (length xs - at) (drop at xs) (omega (arith, length-drop at xs))

-- of two words that stand at one place the shorter is a factor of the other
factor_at : (u v w : List ℕ) (at : ℕ) → OccursAt u w at → OccursAt v w at → length u ≤ length v → IsFactor u v
factor_at u v w at o q le =
    let front : take (length u) v ≡ u = ap (take (length u)) (sym q.same) ∙ take-take (length u) (length v) (drop at w) le ∙ o.same in
    record { before = []; after = drop (length u) v; joined = sym (take-append-drop (length u) v) ∙ ap (λ (x : List ℕ). x ++ drop (length u) v) front }

abbrev ApartLeads : Lead → Lead → Type 0
ApartLeads l m = AreApart l.word m.word

-- a word of the list is a factor of itself alone
pub same_lead : (xs : List Lead) → AllPairs ApartLeads xs → (l m : Lead) → Contains xs l → Contains xs m → IsFactor l.word m.word → l ≡ m
same_lead [] p l m cl cm f = absurd (Contains-none l cl)
same_lead (x ∷ xs) p l m cl cm f = elim (Contains-cases x xs l cl) [
  | inl e ↦ elim (Contains-cases x xs m cm) [
    | inl g ↦ sym e ∙ g
    | inr n ↦ absurd ((All-contains (ApartLeads x) xs m (AllPairs-first ApartLeads x xs p) n).0
        (subst (λ (y : Lead). IsFactor y.word m.word) (sym e) f))
  ]
  | inr k ↦ elim (Contains-cases x xs m cm) [
    | inl g ↦ absurd ((All-contains (ApartLeads x) xs l (AllPairs-first ApartLeads x xs p) k).1
        (subst (λ (y : Lead). IsFactor l.word y.word) (sym g) f))
    | inr n ↦ same_lead xs (AllPairs-rest ApartLeads x xs p) l m k n f
  ]
]

same_among : (w : List ℕ) (at : ℕ) (xs : List Lead) → AllPairs ApartLeads xs → (l m : Lead) → Contains xs l → Contains xs m →
    OccursAt l.word w at → OccursAt m.word w at → l ≡ m
same_among w at xs p l m cl cm o q = elim (cases_lt (length l.word) (length m.word)) [
  | inl lt ↦ same_lead xs p l m cl cm (factor_at l.word m.word w at o q (omega (arith, lt)))
  | inr le ↦ sym (same_lead xs p m l cm cl (factor_at m.word l.word w at q o le))
]

-- a word of the index that stands at a place is the only one there
pub starts_here : (leads : List Lead) → IsIndex leads → (w : List ℕ) (at : ℕ) (l : Lead) → Contains leads l → OccursAt l.word w at → Starts leads w at l.element
starts_here leads h w at l c o = record { lead = l; among = c; is = refl; here = o; only = λ m n q. same_among w at leads h.apart m l n c q o }

-- the index with a fresh word
pub IsIndex-added : (leads : List Lead) (l : Lead) → IsIndex leads → IsFresh leads l.word → IsIndex (leads ++ l ∷ [])
IsIndex-added leads l h fresh = record {
  some = All-append (λ m. m.word ≡ [] → ⊥) leads (l ∷ []) h.some (All-cons (λ m. m.word ≡ [] → ⊥) l [] fresh.some (All-nil (λ m. m.word ≡ [] → ⊥)));
  small = All-append (λ m. length m.word ≤ 64) leads (l ∷ []) h.small (All-cons (λ m. length m.word ≤ 64) l [] fresh.small (All-nil (λ m. length m.word ≤ 64)));
  apart = AllPairs-append ApartLeads leads (l ∷ []) h.apart (AllPairs-cons ApartLeads l [] (All-nil (ApartLeads l)) (AllPairs-nil ApartLeads))
      (λ m c. All-cons (ApartLeads m) l [] (All-contains (λ n. AreApart n.word l.word) leads m fresh.apart c) (All-nil (ApartLeads m)));
}

-- nothing stands from the end on, since no word of the index is empty
free_behind : (leads : List Lead) → IsIndex leads → (w : List ℕ) (at : ℕ) → length w ≤ at → IsFreeAt leads w at
free_behind leads h w at le = All-from_members (λ l. OccursAt l.word w at → ⊥) leads
    (λ l c o. All-contains (λ m. m.word ≡ [] → ⊥) leads l h.some c (nil_from_length l.word (omega (arith, o.within, le))))

-- if no word of an index stands at a place before the end of a word, none stands in it
pub free_from_places : (leads : List Lead) → IsIndex leads → (w : List ℕ) → ((at : ℕ) → at < length w → IsFreeAt leads w at) → IsFree leads w
free_from_places leads h w each at = elim (cases_lt at (length w)) [
  | inl lt ↦ each at lt
  | inr le ↦ free_behind leads h w at le
]

-- the first place at which a word stands
pub first_place : (leads : List Lead) (w : List ℕ) (at element : ℕ) → ((k : ℕ) → k < at → IsFreeAt leads w k) → Starts leads w at element →
    IsFirstReducer leads w at element
first_place leads w at element before s = record {
  starts = s;
  least = λ l k c o. elim (cases_lt k at) [
    | inl lt ↦ absurd (All-contains (λ m. OccursAt m.word w k → ⊥) leads l (before k lt) c o)
    | inr le ↦ le
  ];
}

-- a scan of the list that has come to place i
pub found_lead : (leads items : List Lead) → IsIndex leads → items ≡ leads → (w : List ℕ) (at i : ℕ) (l : Lead) (u : List ℕ) →
    i < length items → l ≡ get_or items i l → u ≡ l.word → OccursAt u w at → Starts leads w at l.element
found_lead leads items h e w at i l u lt is same o =
    starts_here leads h w at l (subst (λ (xs : List Lead). Contains xs l) e (i, lt, sym is)) (subst (λ (v : List ℕ). OccursAt v w at) same o)

-- if none of the first i words stands at a place, and the next one does not, then none of the first i + 1 stands there
pub none_more : (items : List Lead) (w : List ℕ) (at i : ℕ) (l : Lead) (u : List ℕ) → i < length items → l ≡ get_or items i l → u ≡ l.word →
    (OccursAt u w at → ⊥) → IsFreeAt (take i items) w at → IsFreeAt (take (i + 1) items) w at
none_more items w at i l u lt is same not h =
    All-more (λ m. OccursAt m.word w at → ⊥) items i l lt h (λ o. not
    (subst (λ (v : List ℕ). OccursAt v w at) (ap (λ (m : Lead). m.word) (sym is) ∙ sym same) o))

-- if none of the first i words stands at a place, and there are no more than i, then no word of the index stands there
pub none_at_all : (leads items : List Lead) → items ≡ leads → (w : List ℕ) (at i : ℕ) → length items ≤ i → IsFreeAt (take i items) w at → IsFreeAt leads w at
none_at_all leads items e w at i le h = subst (λ (xs : List Lead). IsFreeAt xs w at) (take_all i items le ∙ e) h
