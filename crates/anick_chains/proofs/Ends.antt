-- Lists by their last member.
use Rattle.std.proofs.Common.{◌≡◌, ◌≢◌, List, [], ◌∷◌, ◌++◌, refl, ap}

module _ {X : Type 0} where
  -- the last member of a list that is not empty
  pub record IsEnded (v : List X) : Type 0 where
    pub front : List X
    pub last : X
    pub is : v ≡ front ++ last ∷ []

  -- a list that is not empty has a last member
  pub ended : (v : List X) → v ≢ [] → IsEnded v
  ended [] ne = absurd (ne refl)
  ended (x ∷ []) ne = record { front = []; last = x; is = refl }
  ended (x ∷ y ∷ v) ne =
      let e = ended (y ∷ v) (λ is. cc is) in
      record { front = x ∷ e.front; last = e.last; is = ap (λ (r : List X). x ∷ r) e.is }

  -- a list with a last member is not empty
  pub no_end : (xs : List X) (x : X) → xs ++ x ∷ [] ≢ []
  no_end [] x e = cc e
  no_end (y ∷ xs) x e = cc e

  -- what ends an empty list is empty
  pub append-none : (xs ys : List X) → xs ++ ys ≡ [] → ys ≡ []
  append-none [] ys e = e
  append-none (x ∷ xs) ys e = cc e
