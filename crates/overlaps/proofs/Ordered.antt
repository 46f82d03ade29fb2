-- A list of which each two members come one before the other, in order.
use Rattle.std.proofs.Common.{◌≡◌, ◌⊎◌, suc, List, [], ◌∷◌, length, refl, ap, ◌∙◌, inl, inr, All, AllPairs, subst}
use Rattle.std.specs.List.{Contains}
use Rattle.std.proofs.lemmas.List.Elements.{All-cons, All-contains, All-head, All-nil, All-tail}
use Rattle.std.proofs.lemmas.List.Kept.{AllPairs-cons}
use Rattle.words.proofs.Members.{AllPairs-first, AllPairs-nil, AllPairs-rest, All-from_members, Contains-cases, Contains-first, Contains-more, Contains-none}

module _ {X : Type 0} (R : X → X → Type 0) (trans : (x y z : X) → R x y → R y z → R x z) where
  abbrev Compares : X → X → Type 0
  Compares x y = R x y ⊎ R y x

  -- x among the members of a list, in order
  record IsInserted (x : X) (xs : List X) : Type 0 where
    -- the list with x
    pub list : List X
    -- it has one member more
    pub size : length list ≡ suc (length xs)
    -- each member is x or one of those before
    pub says : (z : X) → Contains list z → (x ≡ z) ⊎ Contains xs z
    -- x is a member
    pub has : Contains list x
    -- so is each of those before
    pub more : (z : X) → Contains xs z → Contains list z
    -- each member comes before the later ones
    pub ordered : AllPairs R list

  insert : (x : X) (xs : List X) → AllPairs R xs → All (Compares x) xs → IsInserted x xs
  insert x [] up all = record {
    list = x ∷ [];
    size = refl;
    says = λ z m. Contains-cases x [] z m;
    has = Contains-first x [];
    more = λ z m. absurd (Contains-none z m);
    ordered = AllPairs-cons R x [] (All-nil (R x)) (AllPairs-nil R);
  }
  insert x (y ∷ xs) up all = by_answer (All-head (Compares x) y xs all) (insert x xs (AllPairs-rest R y xs up) (All-tail (Compares x) y xs all))
    where
      by_answer : R x y ⊎ R y x → IsInserted x xs → IsInserted x (y ∷ xs)
      by_answer (inl first) rest = record {
        list = x ∷ y ∷ xs;
        size = refl;
        says = λ z m. Contains-cases x (y ∷ xs) z m;
        has = Contains-first x (y ∷ xs);
        more = λ z m. Contains-more x (y ∷ xs) z m;
        ordered = AllPairs-cons R x (y ∷ xs) (All-cons (R x) y xs first
            (All-from_members (R x) xs (λ z m. trans x y z first (All-contains (R y) xs z (AllPairs-first R y xs up) m)))) up;
      }
      by_answer (inr later) rest = record {
        list = y ∷ rest.list;
        size = ap suc rest.size;
        says = λ z m. elim (Contains-cases y rest.list z m) [
          | inl e ↦ inr (subst (Contains (y ∷ xs)) e (Contains-first y xs))
          | inr n ↦ elim (rest.says z n) [
            | inl e ↦ inl e
            | inr k ↦ inr (Contains-more y xs z k)
          ]
        ];
        has = Contains-more y rest.list x rest.has;
        more = λ z m. elim (Contains-cases y xs z m) [
          | inl e ↦ subst (Contains (y ∷ rest.list)) e (Contains-first y rest.list)
          | inr n ↦ Contains-more y rest.list z (rest.more z n)
        ];
        ordered = AllPairs-cons R y rest.list (All-from_members (R y) rest.list (λ z m. elim (rest.says z m) [
          | inl e ↦ subst (R y) e later
          | inr n ↦ All-contains (R y) xs z (AllPairs-first R y xs up) n
        ])) rest.ordered;
      }

  -- the members of a list, in order
  pub record IsOrdered (xs : List X) : Type 0 where
    pub list : List X
    pub size : length list ≡ length xs
    pub says : (z : X) → Contains list z → Contains xs z
    pub has : (z : X) → Contains xs z → Contains list z
    pub ordered : AllPairs R list

  -- a list of which each two members compare can be put in order
  pub order : (xs : List X) → AllPairs Compares xs → IsOrdered xs
  order [] h = record { list = []; size = refl; says = λ z m. m; has = λ z m. m; ordered = AllPairs-nil R }
  order (x ∷ xs) h =
      let rest = order xs (AllPairs-rest Compares x xs h) in
      let i = insert x rest.list rest.ordered (All-from_members (Compares x) rest.list
      (λ z m. All-contains (Compares x) xs z (AllPairs-first Compares x xs h) (rest.says z m))) in
      record {
        list = i.list;
        size = i.size ∙ ap suc rest.size;
        says = λ z m. elim (i.says z m) [
          | inl e ↦ subst (Contains (x ∷ xs)) e (Contains-first x xs)
          | inr n ↦ Contains-more x xs z (rest.says z n)
        ];
        has = λ z m. elim (Contains-cases x xs z m) [
          | inl e ↦ subst (Contains i.list) e i.has
          | inr n ↦ i.more z (rest.has z n)
        ];
        ordered = i.ordered;
      }
