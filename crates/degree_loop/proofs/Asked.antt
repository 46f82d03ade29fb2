-- Limits that are asked one after another.
use Rattle.std.proofs.Common.{◌≡◌, ℕ, List, [], ◌∷◌, ◌++◌, Err, IsErrAnd, Result, inl, inr, ap, ◌∙◌}
use Rattle.words.proofs.Faults.{same_fault}
use Rattle.ideal_laws.specs.declared.engine.EngineFault.{EngineFault}
use Rattle.ideal_laws.specs.declared.engine.EngineFault.TheVariants.{Limit}
use Rattle.ideal_laws.specs.declared.limits.LimitKind.{LimitKind}
use Rattle.ideal_laws.specs.Quantities.{IsFirstPassing, NonePasses, Quantities}

module _ (Q : Quantities) where
  -- what passes first among the first limits
  pub first_before : (ls ms : List (LimitKind × ℕ)) (kind : LimitKind) (value : ℕ) → IsFirstPassing Q ls kind value → IsFirstPassing Q (ls ++ ms) kind value
  first_before [] ms kind value h = absurd h
  first_before (l ∷ ls) ms kind value (inl h) = inl h
  first_before (l ∷ ls) ms kind value (inr h) = inr (h.0, h.1, h.2, first_before ls ms kind value h.3)

  -- what passes first behind limits that none passes
  pub first_behind : (ls ms : List (LimitKind × ℕ)) (kind : LimitKind) (value : ℕ) → NonePasses Q ls → IsFirstPassing Q ms kind value →
      IsFirstPassing Q (ls ++ ms) kind value
  first_behind [] ms kind value none h = h
  first_behind (l ∷ ls) ms kind value none h = inr (none.0.0, none.0.1, none.0.2, first_behind ls ms kind value none.1 h)

  -- if no quantity passes its limit in either of two lists of limits, none does in one after the other
  pub none_together : (ls ms : List (LimitKind × ℕ)) → NonePasses Q ls → NonePasses Q ms → NonePasses Q (ls ++ ms)
  none_together [] ms none more = more
  none_together (l ∷ ls) ms none more = (none.0, none_together ls ms none.1 more)

  module _ (R : Quantities) (moved : (kind : LimitKind) (q : ℕ) → Q kind q → R kind q) where
    -- quantities that are others, too
    pub first_moved : (ls : List (LimitKind × ℕ)) (kind : LimitKind) (value : ℕ) → IsFirstPassing Q ls kind value → IsFirstPassing R ls kind value
    first_moved [] kind value h = absurd h
    first_moved (l ∷ ls) kind value (inl h) = inl (h.0, moved l.0 h.0 h.1, h.2, h.3, h.4)
    first_moved (l ∷ ls) kind value (inr h) = inr (h.0, moved l.0 h.0 h.1, h.2, first_moved ls kind value h.3)

    -- if no quantity passes its limit, and the quantities are others, too, none of the others does
    pub none_moved : (ls : List (LimitKind × ℕ)) → NonePasses Q ls → NonePasses R ls
    none_moved [] none = tt
    none_moved (l ∷ ls) none = ((none.0.0, moved l.0 none.0.0 none.0.1, none.0.2), none_moved ls none.1)

-- where it is a limit, it is one of degree d whose quantity is the first that passes
abbrev pub NamesFirst : Quantities → ℕ → List (LimitKind × ℕ) → {T : Type 0} → Result T EngineFault → Type 0
NamesFirst Q d limits r = (kind : LimitKind) (degree value : ℕ) → r ≡ Err (Limit kind degree value) → (degree ≡ d) × IsFirstPassing Q limits kind value

-- a fault that is handed on
module _ (Q : Quantities) (d : ℕ) (ls ms : List (LimitKind × ℕ)) {T U : Type 0} (fault : EngineFault) (given : Result U EngineFault)
    (is : given ≡ Err fault) (r : Result T EngineFault) (handed : IsErrAnd r (λ f. f ≡ fault)) where
  given_fault : (other : EngineFault) → r ≡ Err other → given ≡ Err other
  given_fault other e = is ∙ ap Err (same_fault r fault other handed e)

  -- a fault that is handed on, and names what passes first among the first limits, names what passes first among all
  pub handed_first : NamesFirst Q d ls given → NamesFirst Q d (ls ++ ms) r
  handed_first h kind degree value e = let k = h kind degree value (given_fault (Limit kind degree value) e) in (k.0, first_before Q ls ms kind value k.1)

  -- if nothing passes the first limits, one that names what passes first among the later ones names what passes first among all
  pub handed_behind : NonePasses Q ls → NamesFirst Q d ms given → NamesFirst Q d (ls ++ ms) r
  handed_behind none h kind degree value e = let k = h kind degree value (given_fault (Limit kind degree value) e) in
      (k.0, first_behind Q ls ms kind value none k.1)
