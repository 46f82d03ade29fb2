-- The chain text.
use Rattle.std.specs.Prelude.{ℕ, ◌≡◌, ◌==◌, ◌&&◌, Bool, List, [], ◌∷◌, ◌++◌, if◌then◌else◌, length, codes, decimal}
use Rattle.std.specs.List.{flat_map, join_by}
use Rattle.poly_writer.specs.Texts.{line, word_text}
use Rattle.anick_chains.specs.declared.chain.Chain.{Chain}

-- chains of one degree and one length
pub record Block : Type 0 where
  pub degree : ℕ
  pub size : ℕ
  pub chains : List (List (List ℕ))

-- the chain alone
abbrev pub one_chain : Chain → Block
one_chain c = record { degree = c.degree; size = length c.pieces; chains = c.pieces ∷ [] }

-- whether the chain has the degree and the length of the block
abbrev pub fits : Chain → Block → Bool
fits c b = (c.degree == b.degree) && (length c.pieces == b.size)

-- one more chain before some blocks
abbrev pub with_chain : Chain → List Block → List Block
with_chain c [] = one_chain c ∷ []
with_chain c (b ∷ bs) =
    if fits c b then record { degree = b.degree; size = b.size; chains = c.pieces ∷ b.chains } ∷ bs else one_chain c
    ∷ b ∷ bs

-- the chains by degree and length, each block as long as it can be
abbrev pub blocks_of : List Chain → List Block
blocks_of [] = []
blocks_of (c ∷ cs) = with_chain c (blocks_of cs)

-- the pieces as words, joined by `|`
abbrev pub chain_line : List (List ℕ) → List (List ℕ) → List ℕ
chain_line names pieces = line (join_by (word_text names) (codes "|") pieces)

-- the line before the chains of a degree and length
abbrev pub count_line : ℕ → ℕ → ℕ → List ℕ
count_line d n count =
    line (codes "% degree " ++ decimal d ++ codes " length " ++ decimal n ++ codes " count " ++ decimal count)

-- a degree and length, with or without a line for each chain
abbrev pub block_text : List (List ℕ) → Bool → Block → List ℕ
block_text names list b =
    count_line b.degree b.size (length b.chains) ++ (if list then flat_map (chain_line names) b.chains else [])

-- for each degree and length that has a chain their number, and with or without a line for each of these chains
abbrev pub chain_text : List (List ℕ) → Bool → List Chain → List ℕ
chain_text names list chains = flat_map (block_text names list) (blocks_of chains)

-- the chain has this degree and this length
abbrev pub HasShape : ℕ → ℕ → Chain → Type 0
HasShape d n c = (c.degree ≡ d) × (length c.pieces ≡ n)
