-- The reducers of a closure are column reducers where their residues are below the modulus.
use Rattle.std.proofs.Common.{ℕ, List, [], ◌∷◌, All, AllPairs, Option, None, Some}
use Rattle.std.specs.List.{AllZip}
use Rattle.std.proofs.lemmas.List.Elements.{All-head, All-tail}
use Rattle.words.specs.Order.{IsLetterwiseGreater}
use Rattle.free_poly.specs.declared.term.Term.{Term}
use Rattle.free_poly.specs.Terms.{HasResidues}
use Rattle.ideal_laws.specs.Quantities.{reducers_in}
use Rattle.symbolic_prep.specs.Closed.{ClosedColumns, MayReduceOver}
use Rattle.row_store.specs.Contested.{IsReducing, MayReduce}

all_reduce : (p : ℕ) (columns ws : List (List ℕ)) (rs : List (Option (List Term))) → All (HasResidues p) (reducers_in rs) →
    AllZip (MayReduceOver columns) ws rs → AllZip (MayReduce p columns) ws rs
all_reduce p columns [] [] h z = tt
all_reduce p columns [] (r ∷ rs) h z = absurd z
all_reduce p columns (w ∷ ws) [] h z = absurd z
all_reduce p columns (w ∷ ws) (None ∷ rs) h z = (tt, all_reduce p columns ws rs h z.1)
all_reduce p columns (w ∷ ws) (Some f ∷ rs) h z = (
  record {
    form = z.0.form;
    residues = All-head (HasResidues p) f (reducers_in rs) h;
    lead = z.0.lead;
    monic = z.0.monic;
    on_columns = z.0.on_columns;
  },
  all_reduce p columns ws rs (All-tail (HasResidues p) f (reducers_in rs) h) z.1,
)

-- columns and reducers, as a closure tells them, are what clears rows, where the residues are below p
pub is_reducing : (p : ℕ) (closed : ClosedColumns) → All (HasResidues p) (reducers_in closed.reducers) →
    AllPairs IsLetterwiseGreater closed.columns → AllZip (MayReduceOver closed.columns) closed.columns closed.reducers → IsReducing p closed
is_reducing p closed residues falling reducers = record {
  falling = falling;
  reducers = all_reduce p closed.columns closed.columns closed.reducers residues reducers;
}
