-- Held rows, place by place and in spans.
use Rattle.std.proofs.Common.{◌≡◌, ℕ, ◌<◌, ◌≤◌, List, Some, sym, arith, subst, get_or}
use Rattle.pivot_core.proofs.ClaimWords.{value_in-from, value_in-before, holder_in-some, holder_in-row}
use Rattle.std.proofs.lemmas.List.FromFn.{get_or-map-range_with_len}
use Rattle.field_table.specs.Residues.{IsFieldModulus}
use Rattle.linear_algebra.specs.Fields.{Field}
use Rattle.linear_algebra.proofs.Algebra.{IsInSpan-one}
use Rattle.linear_algebra.proofs.Elimination.{IsInSpan-trans}
use Rattle.back_reduce.specs.declared.problem.Problem.{Problem}
use Rattle.back_reduce.specs.Problems.{rows_of}
use Rattle.back_reduce.specs.Rows.{IsInRowSpan}
use Rattle.back_reduce.proofs.RowLists.{OneOf, held_one, one_held}
use Rattle.back_reduce.proofs.Vectors.{K, V, vec}
use Rattle.pivot_core.specs.Words.{row_word}
use Rattle.pivot_core.specs.Runs.{State, IsHeld, claim_at, held_row, held_rows, holder_of, holders, values, word_at, published_at}
use Rattle.pivot_core.specs.Rule.{HeldInSpan}
use Rattle.pivot_core.proofs.Effects.{KeepsHeld, held_after, held_row_after}

-- the entry of a held row at a column is its value there
pub held_row-at : (problem : Problem) (s : State) (c j : ℕ) → j < problem.m → get_or (held_row problem s c) j 0 ≡ values problem s c j
held_row-at problem s c j lt = get_or-map-range_with_len (values problem s c) 0 problem.m j j 0 lt (omega arith)

-- a held row is 0 before its column, and from there on has the holder's row words
pub values-before : (problem : Problem) (s : State) (c j : ℕ) → j < c → values problem s c j ≡ 0
values-before problem s c j lt = value_in-before (claim_at problem s c) (published_at problem s) c j lt

-- from its column on a held row has what its holder has published
pub values-from : (problem : Problem) (s : State) (c j : ℕ) → IsHeld problem s c → c ≤ j →
    values problem s c j ≡ word_at problem s (row_word (holder_of problem s c) j)
values-from problem s c j h le = value_in-from (claim_at problem s c) (published_at problem s) c j h.some le

-- a column has a holder where it is held
pub holders-held : (problem : Problem) (s : State) (c : ℕ) → IsHeld problem s c → holders problem s c ≡ Some (holder_of problem s c)
holders-held problem s c h = holder_in-some (claim_at problem s c) h.some

-- a column with a holder is held, by this row
pub held_holders : (problem : Problem) (s : State) (c r : ℕ) → c < problem.m → holders problem s c ≡ Some r → IsHeld problem s c × (holder_of problem s c ≡ r)
held_holders problem s c r lt e = let is = holder_in-row (claim_at problem s c) r e in (record { below = lt; some = is.0 }, is.1)

module _ (problem : Problem) (modulus : IsFieldModulus problem.modulus) where
  abbrev pub Kp : Field
  Kp = K problem.modulus modulus

  abbrev pub Vp : Type 0
  Vp = V problem.modulus modulus

  -- the span of the held rows of a state
  abbrev pub HeldSpan : State → Vp → Type 0
  HeldSpan s = IsInRowSpan problem.modulus modulus (held_rows problem s)

  abbrev pub OneHeld : State → Vp → Type 0
  OneHeld s = OneOf problem.modulus modulus (held_rows problem s)

  abbrev pub vector_of : List ℕ → Vp
  vector_of row = vec problem.modulus modulus row

  one_of_held : (s : State) (c : ℕ) → IsHeld problem s c → OneHeld s (vector_of (held_row problem s c))
  one_of_held s c h = one_held problem.modulus modulus problem.m (holders problem s) (values problem s) c (holder_of problem s c) h.below
      (holders-held problem s c h)

  -- a held row is in their span
  pub held_in_own_span : (s : State) (c : ℕ) → IsHeld problem s c → HeldSpan s (vector_of (held_row problem s c))
  held_in_own_span s c h = IsInSpan-one Kp ℕ (OneHeld s) (vector_of (held_row problem s c)) (one_of_held s c h)

  -- what holds of each held row
  pub each_held : (s : State) (P : Vp → Type 0) → ((c : ℕ) → IsHeld problem s c → P (vector_of (held_row problem s c))) → (u : Vp) → OneHeld s u → P u
  each_held s P all u one =
      let f = held_one problem.modulus modulus problem.m (holders problem s) (values problem s) u one in
      subst P (sym f.is) (all f.column (held_holders problem s f.column f.holds (omega (arith, f.below)) f.held).0)

  -- the span grows
  pub spans_grow : (s t : State) → KeepsHeld problem s t → (u : Vp) → HeldSpan s u → HeldSpan t u
  spans_grow s t keeps u h =
      IsInSpan-trans Kp ℕ (OneHeld s) (OneHeld t)
      (each_held s (HeldSpan t) (λ c held. subst (λ (row : List ℕ). HeldSpan t (vector_of row)) (held_row_after problem s t c keeps held)
      (held_in_own_span t c (held_after problem s t c keeps held)))) u h

  -- and stays within the span of the problem's rows
  pub held_within : (s : State) → HeldInSpan problem s → (u : Vp) → HeldSpan s u → IsInRowSpan problem.modulus modulus (rows_of problem) u
  held_within s h u inside =
      IsInSpan-trans Kp ℕ (OneHeld s) (OneOf problem.modulus modulus (rows_of problem))
      (each_held s (IsInRowSpan problem.modulus modulus (rows_of problem)) (λ c held. h.inside modulus c held)) u inside
