-- Reducers that are listed after the walk, by the columns of their words.
use Rattle.std.proofs.Common.{◌≡◌, ◌≢◌, ◌<◌, ◌+◌, ℕ, zero, suc, List, [], ◌∷◌, ◌++◌, length, take, get_or, sym, ap, ◌∙◌, arith, All, AllPairs}
use Rattle.std.proofs.Common.{Option, Some, None, subst, length-append}
use Rattle.std.specs.List.{AllZip, Contains, slice_get}
use Rattle.std.proofs.lemmas.List.{get_or_default, take_more}
use Rattle.std.proofs.lemmas.List.Elements.{All-head, All-tail}
use Rattle.std.proofs.Math.Seq.{get_or-append_seam}
use Rattle.std.proofs.lemmas.Option.{slice_get-get_or}
use Rattle.words.specs.Order.{IsLetterwiseGreater}
use Rattle.words.proofs.Members.{All-from_members}
use Rattle.free_poly.specs.declared.term.Term.{Term}
use Rattle.free_poly.proofs.Totals.{letterwise-apart}
use Rattle.ideal_laws.specs.Closure.{AreColumns, HasReducer, brought}
use Rattle.words.proofs.Members.{Contains-map}
use Rattle.symbolic_prep.specs.declared.lists.Span.{Span}
use Rattle.symbolic_prep.specs.Columns.{IsOnColumns}
use Rattle.symbolic_prep.specs.Numbers.{AreListed, IsLonger, IsSpanOf, StandsAt, residues_of}
use Rattle.symbolic_prep.proofs.Numbers.{grown_none}
use Rattle.symbolic_prep.proofs.NumberWalks.{spans-more}
use Rattle.symbolic_prep.proofs.Parts.{part_last}
use Rattle.symbolic_prep.proofs.Walks.{AllZip-push}

-- falling words are pairwise different
pub falling_apart : (columns : List (List ℕ)) → AllPairs IsLetterwiseGreater columns → AllPairs (λ v w. v ≢ w) columns
falling_apart columns falling i j d before within = letterwise-apart (get_or columns i d) (get_or columns j d) (falling i j d before within)

slice_get-last : (xs : List (List ℕ)) (x : List ℕ) → slice_get (xs ++ x ∷ []) (length xs) ≡ Some x
slice_get-last xs x = slice_get-get_or (xs ++ x ∷ []) (length xs) x (omega (arith, length-append xs (x ∷ [])))
    ∙ ap Some (get_or-append_seam xs x [] x)

-- the numbers stand behind all others
module _ (columns : List (List ℕ)) (n m : List ℕ) (f : List Term) (h : AreListed columns n m f) where
  -- the numbers are those that were there with more behind them
  pub listed_longer : IsLonger n m
  listed_longer = record { more = h.ns; joined = h.numbers_are }

  -- the terms stand at their span
  pub listed_stands : (r q : List (List ℕ)) → q ≡ r ++ residues_of f ∷ [] → (s : Span) → length n ≡ s.start → length m ≡ s.end →
      length r ≡ s.element → StandsAt columns m q s f
  listed_stands r q pushed s starts ends is = record {
    ns = h.ns;
    place = part_last n m h.ns s.start s.end h.numbers_are starts ends;
    residues_are = ap (slice_get q) (sym is) ∙ ap (λ (xs : List (List ℕ)). slice_get xs (length r)) pushed ∙ slice_get-last r (residues_of f);
    are_terms = h.are_terms;
  }

-- one more reducer
pub spans_push : (columns : List (List ℕ)) → AllPairs IsLetterwiseGreater columns →
    (n m : List ℕ) (r q : List (List ℕ)) (spans : List (Option Span)) (reducers : List (Option (List Term))) (i : ℕ)
    (span : Option Span) (o : Option (List Term))
    → AllZip (IsSpanOf columns n r) spans (take i reducers) → IsLonger n m → IsLonger r q → i < length reducers → o ≡ get_or reducers i o →
    IsSpanOf columns m q span o → AllZip (IsSpanOf columns m q) (spans ++ span ∷ []) (take (i + 1) reducers)
spans_push columns falling n m r q spans reducers i span o zipped longer longer_residues lt is stands =
    subst (AllZip (IsSpanOf columns m q) (spans ++ span ∷ [])) (sym
    (take_more reducers i o lt ∙ ap (λ (x : Option (List Term)). take i reducers ++ x ∷ []) (sym is)))
    (AllZip-push (IsSpanOf columns m q) spans (take i reducers) span o
    (spans-more columns columns [] n m r q (grown_none columns (falling_apart columns falling)) longer longer_residues spans
    (take i reducers) zipped)
    stands)

-- the words of the reducers of a closure are columns
on_columns : (G : List (List Term)) (words columns : List (List ℕ)) → AreColumns G words columns →
    (cs : List (List ℕ)) (reducers : List (Option (List Term))) → All (Contains columns) cs → AllZip (HasReducer G) cs reducers →
    All (IsOnColumns columns) reducers
on_columns G words columns are cs reducers among zipped i d within = here cs reducers i d among zipped within
  where
    own : (w : List ℕ) (o : Option (List Term)) → Contains columns w → HasReducer G w o → IsOnColumns columns o
    own w None m h = tt
    own w (Some f) m h = λ k e inside. (are.exactly (get_or f k e).word).1
        (brought w (get_or f k e).word f ((are.exactly w).0 m) h (Contains-map (λ (t : Term). t.word) f (get_or f k e)
        (k, inside, get_or_default f k (get_or f k e) e inside)))

    here : (cs : List (List ℕ)) (reducers : List (Option (List Term))) (i : ℕ) (d : Option (List Term)) → All (Contains columns) cs →
        AllZip (HasReducer G) cs reducers → i < length reducers → IsOnColumns columns (get_or reducers i d)
    here [] [] i d a z lt = absurd (omega (arith, lt))
    here [] (o ∷ os) i d a z lt = absurd z
    here (w ∷ ws) [] i d a z lt = absurd z
    here (w ∷ ws) (o ∷ os) zero d a z lt = own w o (All-head (Contains columns) w ws a) z.0
    here (w ∷ ws) (o ∷ os) (suc i) d a z lt = here ws os i d (All-tail (Contains columns) w ws a) z.1 (omega (arith, lt))

-- the words of each reducer of a closure are columns
pub closure_on_columns : (G : List (List Term)) (words columns : List (List ℕ)) (reducers : List (Option (List Term))) →
    AreColumns G words columns → AllZip (HasReducer G) columns reducers → All (IsOnColumns columns) reducers
closure_on_columns G words columns reducers are zipped = on_columns G words columns are columns reducers
    (All-from_members (Contains columns) columns (λ w m. m)) zipped
