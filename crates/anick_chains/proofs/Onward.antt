-- The chains of a list, one after another, with one more piece.
use Rattle.std.proofs.Common.{◌≡◌, ◌+◌, ◌<◌, ◌≤◌, ℕ, List, ◌++◌, ◌∷◌, [], All, length, take, get_or, sym, ap, ◌∙◌, arith, subst, length-append}
use Rattle.std.specs.List.{Contains, flat_map}
use Rattle.std.proofs.lemmas.List.{length-map, take_all}
use Rattle.std.proofs.lemmas.List.Folds.{flat_map-map}
use Rattle.words.specs.Words.{IsOver}
use Rattle.std.proofs.lemmas.List.Elements.{All-cons, All-nil}
use Rattle.words.proofs.Members.{All-from_members, Contains-map}
use Rattle.free_poly.specs.declared.term.Term.{Term}
use Rattle.ideal_laws.specs.Closure.{IsFactorFree}
use Rattle.ideal_laws.specs.Engine.{Elements}
use Rattle.ideal_laws.specs.Kept.{IsKept}
use Rattle.anick_chains.specs.declared.chain.Chain.{Chain}
use Rattle.anick_chains.specs.BasisTips.{leads_of}
use Rattle.anick_chains.specs.Chains.{AreNext, IsChain}
use Rattle.anick_chains.specs.Listed.{AreListed, AreListedOf, pieces_of, with_degree}
use Rattle.anick_chains.specs.Walk.{last_piece, next_of, onward}
use Rattle.anick_chains.proofs.BasisTips.{listed_tips}
use Rattle.anick_chains.proofs.Extensions.{are_tips}
use Rattle.anick_chains.proofs.LastPieces.{chain_ended, last_piece-is}
use Rattle.anick_chains.proofs.Mates.{last_of_chain, last_over}
use Rattle.anick_chains.proofs.Members.{flat_map-most, flat_map-take}

module _ (b : Elements) (kept : IsKept b) (free : IsFactorFree b.elements) (e : ℕ) (found : List Chain)
    (h : AreListedOf b e found) where
  -- the last piece of a listed chain is over the letters
  pub listed_letters : (i : ℕ) (x : Chain) → i < length found → x ≡ get_or found i x → IsOver (length b.weights) (last_piece x.pieces)
  listed_letters i x lt is =
      let T = Contains (leads_of b.elements) in
      let names = length b.weights in
      let chain = ((h.chains.exactly x.pieces).0 (Contains-map (λ (y : Chain). y.pieces) found x (i, lt, sym is))).0 in
      let l = chain_ended T names x.pieces chain in
      let last : last_piece x.pieces ≡ l.last = ap last_piece l.is ∙ last_piece-is l.front l.last in
      subst (IsOver names) (sym last)
      (last_over T names (are_tips names (leads_of b.elements) (listed_tips b kept free)) l.front l.last
      (last_of_chain T names l.front l.last (subst (IsChain T names) l.is chain)))

module _ (weights : List ℕ) (G : List (List Term)) (d : ℕ) (found : List Chain) where
  abbrev f : Chain → List (List (List ℕ))
  f x = onward weights G d x.pieces

  -- of all chains
  pub onward_all : (n : ℕ) → length found ≤ n → flat_map f (take n found) ≡ flat_map (onward weights G d) (pieces_of found)
  onward_all n le = ap (flat_map f) (take_all n found le) ∙ sym (flat_map-map (onward weights G d) (λ (x : Chain). x.pieces) found)

  -- where one more chain makes the list longer than a number, the whole is
  pub onward_many : (old block : List Chain) (room i : ℕ) (x : Chain) → i < length found → x ≡ get_or found i x →
      block ≡ old ++ with_degree d (flat_map f (take i found))
      → room < length block + length (next_of weights G d x.pieces) → room < length old + length (flat_map (onward weights G d) (pieces_of found))
  onward_many old block room i x lt is so_far more =
      omega (
        arith,
        more,
        ap length so_far,
        length-append old (with_degree d (flat_map f (take i found))),
        length-map {B = Chain} (flat_map f (take i found)) (λ (c : List (List ℕ)). record { degree = d; pieces = c }),
        length-map (next_of weights G d x.pieces) (λ (r : List ℕ). x.pieces ++ r ∷ []),
        ap length (flat_map-take f found i x lt is),
        length-append (flat_map f (take i found)) (f x),
        flat_map-most f found (i + 1),
        ap length (flat_map-map (onward weights G d) (λ (y : Chain). y.pieces) found),
      )

-- the pieces of a chain are over the letters
chain_over : (T : List ℕ → Type 0) (names : ℕ) (c : List (List ℕ)) → IsChain T names c → All (IsOver names) c
chain_over T names [] h = absurd h
chain_over T names (q ∷ qs) h =
    All-cons (IsOver names) q qs (subst (IsOver names) (sym h.0.is)
    (All-cons (λ x. x < names) h.0.letter [] h.0.within (All-nil (λ x. x < names)))) (rest q qs h.1)
  where
    rest : (p : List ℕ) (rs : List (List ℕ)) → AreNext T names p rs → All (IsOver names) rs
    rest p [] k = All-nil (IsOver names)
    rest p (r ∷ rs) k = All-cons (IsOver names) r rs k.0.over (rest r rs k.1)

-- and so are those of all listed chains
pub listed_over : (T : List ℕ → Type 0) (names : ℕ) (weights : List ℕ) (e : ℕ) (found : List Chain) → AreListed T names weights e found →
    All (λ x. All (IsOver names) x.pieces) found
listed_over T names weights e found h =
    All-from_members (λ x. All (IsOver names) x.pieces) found
    (λ x m. chain_over T names x.pieces ((h.chains.exactly x.pieces).0 (Contains-map (λ (y : Chain). y.pieces) found x m)).0)
