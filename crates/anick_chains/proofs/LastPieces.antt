-- The last piece of a list of pieces.
use Rattle.std.proofs.Common.{◌≡◌, ◌+◌, ◌≤◌, ℕ, zero, suc, List, [], ◌∷◌, ◌++◌, Some, arith, length, refl}
use Rattle.std.specs.List.{slice_get}
use Rattle.words.specs.Words.{degree_of}
use Rattle.anick_chains.specs.Chains.{IsChain, chain_degree}
use Rattle.anick_chains.specs.Walk.{last_piece}
use Rattle.anick_chains.proofs.Ends.{IsEnded, ended}

-- the last piece is the one behind the others
pub last_piece-is : (qs : List (List ℕ)) (q : List ℕ) → last_piece (qs ++ q ∷ []) ≡ q
last_piece-is [] q = refl
last_piece-is (p ∷ []) q = refl
last_piece-is (p ∷ r ∷ qs) q = last_piece-is (r ∷ qs) q

-- it stands at the last place
pub last_piece-get : (qs : List (List ℕ)) (q : List ℕ) (i : ℕ) → i + 1 ≡ length qs → slice_get qs i ≡ Some q → last_piece qs ≡ q
last_piece-get [] q i e h = absurd (omega (arith, e))
last_piece-get (p ∷ []) q zero e h = cc h
last_piece-get (p ∷ []) q (suc i) e h = absurd (omega (arith, e))
last_piece-get (p ∷ r ∷ qs) q zero e h = absurd (omega (arith, e))
last_piece-get (p ∷ r ∷ qs) q (suc i) e h = last_piece-get (r ∷ qs) q i (omega (arith, e)) h

-- its degree is part of the whole
pub last_piece-degree : (weights : List ℕ) (qs : List (List ℕ)) → degree_of weights (last_piece qs) ≤ chain_degree weights qs
last_piece-degree weights [] = omega arith
last_piece-degree weights (q ∷ []) = omega arith
last_piece-degree weights (q ∷ r ∷ qs) = omega (arith, last_piece-degree weights (r ∷ qs))

-- a chain has a last piece
pub chain_ended : (T : List ℕ → Type 0) (names : ℕ) (c : List (List ℕ)) → IsChain T names c → IsEnded c
chain_ended T names [] h = absurd h
chain_ended T names (q ∷ qs) h = ended (q ∷ qs) (λ e. cc e)
