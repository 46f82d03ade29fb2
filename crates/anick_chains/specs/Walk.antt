-- The pieces that may follow a piece, by the letters before what a tip shares with it, and the chains of a degree, by
-- the chains of lower degrees.
use Rattle.std.specs.Prelude.{ℕ, ◌-◌, ◌+◌, ◌==◌, ◌&&◌, Bool, true, false, not, cond, List, [], ◌∷◌, ◌++◌, length, map}
use Rattle.std.specs.Prelude.{take, drop, bytes_eq}
use Rattle.std.specs.List.{flat_map, range_with_len}
use Rattle.words.specs.Words.{degree_of, weight_of}
use Rattle.free_poly.specs.declared.term.Term.{Term}
use Rattle.overlaps.specs.Walk.{lead_word}
use Rattle.anick_chains.specs.BasisTips.{leads_of}
use Rattle.anick_chains.specs.Chains.{chain_degree}

-- whether a tip of the list begins the word
abbrev pub begins : List (List ℕ) → List ℕ → Bool
begins [] w = false
begins (t ∷ tips) w = cond (bytes_eq (take (length t) w) t) true (begins tips w)

-- whether a tip of the list stands in the word
abbrev pub stands : List (List ℕ) → List ℕ → Bool
stands tips [] = begins tips []
stands tips (x ∷ w) = cond (begins tips (x ∷ w)) true (stands tips w)

-- whether the leading word at a place begins with this word and has the degree d
abbrev pub goes_on : List ℕ → List (List Term) → List ℕ → ℕ → ℕ → Bool
goes_on weights G shared d k = bytes_eq (take (length shared) (lead_word G k)) shared &&
    (degree_of weights (lead_word G k) == d)

-- the word, in a list, unless a tip stands in the piece followed by all of the word but its last letter
abbrev pub unless_stands : List (List ℕ) → List ℕ → List ℕ → List (List ℕ)
unless_stands tips piece next = cond (stands tips (piece ++ take (length next - 1) next)) [] (next ∷ [])

-- the next piece, in a list, from the tip at a place, where it has the degree d and shares all of the piece but so many
-- letters
abbrev pub end_of : List ℕ → List (List Term) → List ℕ → ℕ → ℕ → ℕ → List (List ℕ)
end_of weights G piece before d k =
    cond (goes_on weights G (drop before piece) d k)
    (unless_stands (leads_of G) piece (drop (length (drop before piece)) (lead_word G k))) []

-- the next pieces from tips of degree d that share all of the piece but so many letters
abbrev pub ends_of : List ℕ → List (List Term) → List ℕ → ℕ → ℕ → List (List ℕ)
ends_of weights G piece before d = flat_map (end_of weights G piece before d) (range_with_len 0 (length G))

-- the next pieces that have the degree d together with the piece
abbrev pub next_pieces : List ℕ → List (List Term) → List ℕ → ℕ → List (List ℕ)
next_pieces weights G piece d =
    flat_map (λ before. ends_of weights G piece before (d - degree_of weights (take before piece)))
    (range_with_len 0 (length piece))

-- the last piece
abbrev pub last_piece : List (List ℕ) → List ℕ
last_piece [] = []
last_piece (q ∷ []) = q
last_piece (q ∷ r ∷ qs) = last_piece (r ∷ qs)

-- the letter as a word, in a list, if it has the degree d and is no tip
abbrev pub free_letter : List ℕ → List (List Term) → ℕ → ℕ → List (List ℕ)
free_letter weights G d x =
    cond ((weight_of weights x == d) && not (stands (leads_of G) (x ∷ []))) ((x ∷ []) ∷ []) []

-- the letters of degree d that are no tips, as words
abbrev pub free_letters : List ℕ → List (List Term) → ℕ → List (List ℕ)
free_letters weights G d = flat_map (free_letter weights G d) (range_with_len 0 (length weights))

-- a list of pieces with one more, for each of these
abbrev pub continued : List (List ℕ) → List (List ℕ) → List (List (List ℕ))
continued front next = map (λ r. front ++ r ∷ []) next

-- the pieces with which a chain has the degree d
abbrev pub next_of : List ℕ → List (List Term) → ℕ → List (List ℕ) → List (List ℕ)
next_of weights G d c =
    next_pieces weights G (last_piece c) (degree_of weights (last_piece c) + (d - chain_degree weights c))

-- the chains of degree d that have one piece more than this one
abbrev pub onward : List ℕ → List (List Term) → ℕ → List (List ℕ) → List (List (List ℕ))
onward weights G d c = continued c (next_of weights G d c)

-- the chains of degree d, from all chains of lower degrees
abbrev pub chains_at : List ℕ → List (List Term) → ℕ → List (List (List ℕ)) → List (List (List ℕ))
chains_at weights G d below = continued [] (free_letters weights G d) ++ flat_map (onward weights G d) below
