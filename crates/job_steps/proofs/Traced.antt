-- The trace grows by that of a degree, and so does what was told.
use Rattle.std.proofs.Common.{◌≡◌, ◌+◌, ◌≤◌, ℕ, Bool, true, false, List, [], ◌∷◌, ◌++◌, length, refl, sym, ap, ◌∙◌, arith, subst, append_assoc, length-append}
use Rattle.std.proofs.lemmas.List.{append-nil}
use Rattle.std.specs.Io.KnownBytes.{Appends}
use Rattle.std.proofs.lemmas.Bool.{both_ways}
use Rattle.std.proofs.KnownBytes.{Appends-nil, Appends-trans}
use Rattle.bg_io.specs.Ends.{Rose}
use Rattle.words.specs.Names.{Letters}
use Rattle.ideal_laws.specs.declared.account.Account.{Account}
use Rattle.ideal_laws.specs.declared.presentation.Presentation.{Presentation}
use Rattle.ideal_laws.specs.Engine.{Elements}
use Rattle.poly_writer.specs.Texts.{trace_text}
use Rattle.job_steps.specs.Gains.{GainsSome}
use Rattle.job_steps.specs.Progress.{Task}
use Rattle.job_steps.specs.States.{SinkState, TellerState}
use Rattle.job_steps.specs.Traces.{Accounts, AreAccounts, IsAccountOf, IsTold, IsTrace, IsTracePart, OfNextTrace, OfTrace, Tells, trace_of, trace_texts}
use Rattle.job_steps.proofs.Printed.{Stands}
use Rattle.job_steps.proofs.Gaining.{appended_none, beginning_front, beginning_self, beginning_trans, rose_behind, some_behind}

trace_texts-append : (names : List (List ℕ)) (d : ℕ) (xs ys : List Account) →
    trace_texts names d (xs ++ ys) ≡ trace_texts names d xs ++ trace_texts names (d + length xs) ys
trace_texts-append names d [] ys = ap (λ (n : ℕ). trace_texts names n ys) (let e : d ≡ d + 0 = omega arith in e)
trace_texts-append names d (x ∷ xs) ys =
    let e : d + 1 + length xs ≡ d + length (x ∷ xs) = omega arith in
    ap (λ (l : List ℕ). trace_text names d x ++ l) (trace_texts-append names (d + 1) xs ys
    ∙ ap (λ (n : ℕ). trace_texts names (d + 1) xs ++ trace_texts names n ys) e)
    ∙ sym (append_assoc (trace_text names d x) (trace_texts names (d + 1) xs) (trace_texts names (d + length (x ∷ xs)) ys))

module _ (May : Accounts) (t : Task) where
  accounts_more : (d : ℕ) (accounts : List Account) (account : Account) → AreAccounts May t d accounts →
      IsAccountOf May t (d + length accounts) account → AreAccounts May t d (accounts ++ account ∷ [])
  accounts_more d [] account all one = (subst (λ (n : ℕ). IsAccountOf May t n account) (let e : d + 0 ≡ d = omega arith in e) one, tt)
  accounts_more d (x ∷ xs) account all one =
      let e : d + length (x ∷ xs) ≡ d + 1 + length xs = omega arith in
      (all.0, accounts_more (d + 1) xs account all.1 (subst (λ (n : ℕ). IsAccountOf May t n account) e one))

  trace_next : (e : ℕ) (text : List ℕ) (account : Account) → IsTrace May t e text → IsAccountOf May t (e + 1) account →
      IsTrace May t (e + 1) (text ++ trace_text t.letters.names (e + 1) account)
  trace_next e text account h one =
      let at : e + 1 ≡ 1 + length h.accounts = omega (arith, h.count) in
      record {
        accounts = h.accounts ++ account ∷ [];
        count = omega (arith, length-append h.accounts (account ∷ []), h.count);
        each = accounts_more 1 h.accounts account h.each (subst (λ (n : ℕ). IsAccountOf May t n account) at one);
        printed = ap (λ (l : List ℕ). l ++ trace_text t.letters.names (e + 1) account) h.printed
            ∙ ap (λ (l : List ℕ). trace_texts t.letters.names 1 h.accounts ++ l)
            (ap (λ (n : ℕ). trace_text t.letters.names n account) at
            ∙ sym (append-nil (trace_text t.letters.names (1 + length h.accounts) account)))
            ∙ sym (trace_texts-append t.letters.names 1 h.accounts (account ∷ []));
      }

  -- the trace of no degree is empty
  pub part_start : (traces : Bool) → IsTracePart May t traces 0 []
  part_start true = record { accounts = []; count = refl; each = tt; printed = refl }
  part_start false = refl

  -- behind the trace of degrees 1 to e comes that of the next degree
  pub part_next : (traces : Bool) (e : ℕ) (text : List ℕ) (account : Account) → IsTracePart May t traces e text → IsAccountOf May t (e + 1) account
      → IsTracePart May t traces (e + 1) (text ++ trace_of traces t.letters.names (e + 1) account)
  part_next true e text account h one = trace_next e text account h one
  part_next false e text account h one = ap (λ (l : List ℕ). l ++ []) h

-- nothing is told where nothing has changed
pub tells_none : (a : TellerState) → Tells a a []
tells_none a = record {
  later = omega arith;
  silent = λ is. (is, Appends-nil a.err.held);
  whole = λ is still. Appends-nil a.err.held;
  part = λ is fails. absurd (both_ways a.failed is fails);
}

some_then_none : (a c d : SinkState) (x y : List ℕ) → GainsSome a c x → Appends c.held d.held [] → GainsSome a d (x ++ y)
some_then_none a c d x y some none = record {
  gained = some.gained;
  appended = appended_none a.held c.held d.held some.gained some.appended none;
  beginning = beginning_trans some.gained x (x ++ y) some.beginning (beginning_front x y);
}

rose_kept : (f g h : ℕ) → Rose f g → g ≤ h → Rose f h
rose_kept f g h rose later = omega (arith, rose, later)

module _ (a b c : TellerState) (x y : List ℕ) (w : Tells a b x) (v : Tells b c y) where
  by_middle : (failed : Bool) → b.failed ≡ failed → Tells a c (x ++ y)
  by_middle true is = record {
    later = omega (arith, w.later, v.later);
    silent = λ begun. ((v.silent is).0, Appends-trans a.err.held b.err.held c.err.held [] [] (w.silent begun).1 (v.silent is).1);
    whole = λ begun still. absurd (both_ways c.failed still (v.silent is).0);
    part = λ begun fails. (
      rose_kept a.err.faults b.err.faults c.err.faults (w.part begun is).0 v.later,
      some_then_none a.err b.err c.err x y (w.part begun is).1 (v.silent is).1,
    );
  }
  by_middle false is = record {
    later = omega (arith, w.later, v.later);
    silent = λ begun. absurd (both_ways b.failed is (w.silent begun).0);
    whole = λ begun still. Appends-trans a.err.held b.err.held c.err.held x y (w.whole begun is) (v.whole is still);
    part = λ begun fails. (
      rose_behind a.err.faults b.err.faults c.err.faults w.later (v.part is fails).0,
      some_behind a.err b.err c.err x y (w.whole begun is) (v.part is fails).1,
    );
  }

  -- two texts that are told one after the other are told as one
  pub tells_behind : Tells a c (x ++ y)
  tells_behind = by_middle b.failed refl

-- the trace that was told stays, or grows by that of a degree
module _ (May : Accounts) (t : Task) (traces : Bool) (d : ℕ) (a b c : TellerState) where
  -- nothing more was told
  pub told_here : OfTrace May t traces d (Tells a b) → Tells b c [] → OfTrace May t traces d (Tells a c)
  told_here w v = (w.0, w.1, subst (Tells a c) (append-nil w.0) (tells_behind a b c w.0 [] w.2 v))

module _ (May Now : Accounts) (t : Task) (given : Presentation) (field : ℕ) (modulus : field ≡ t.modulus)
    (letters : given.alphabet ≡ t.letters) (relations : given.relations ≡ t.relations)
    (stays : (p : ℕ) (rs : Presentation) (b : Elements) (e : ℕ) (a : Account) → Now p rs b e a → May p rs b e a) (traces : Bool) (d : ℕ)
    (below : Elements) (text : List ℕ) (s : Stands t d below text) where
  next_account : (account : Account) → Now field given below (below.done + 1) account → IsAccountOf May t (d + 1) account
  next_account account may =
      let at : below.done + 1 ≡ d + 1 = ap (λ (n : ℕ). n + 1) s.done in
      record {
        given = given;
        letters = letters;
        relations = relations;
        below = below;
        is_below = record { kept = s.kept; next = at; same_weights = s.weights; reduced = s.reduced };
        may = subst (λ (n : ℕ). May t.modulus given below n account) at
            (subst (λ (m : ℕ). May m given below (below.done + 1) account) modulus (stays field given below (below.done + 1) account may));
      }

  next_text : (account : Account) → trace_of traces given.alphabet.names (below.done + 1) account ≡ trace_of traces t.letters.names (d + 1) account
  next_text account = ap (λ (n : ℕ). trace_of traces given.alphabet.names (n + 1) account) s.done
      ∙ ap (λ (l : Letters). trace_of traces l.names (d + 1) account) letters

  -- the trace of the next degree was told
  pub told_next : (a b c : TellerState) → OfTrace May t traces d (Tells a b) →
      OfNextTrace Now field given below traces (Tells b c) → OfTrace May t traces (d + 1) (Tells a c)
  told_next a b c w v =
      let more = trace_of traces t.letters.names (d + 1) v.0 in (
        w.0 ++ more,
        part_next May t traces d w.0 v.0 w.1 (next_account v.0 v.1),
        tells_behind a b c w.0 more w.2 (subst (Tells b c) (next_text v.0) v.2),
      )

-- what was told from the beginning on
module _ (a c : TellerState) (x : List ℕ) (begun : a.failed ≡ false) (w : Tells a c x) where
  by_end : (failed : Bool) → c.failed ≡ failed → IsTold a.err c.err x
  by_end false is = record {
    whole = λ _. w.whole begun is;
    some = record { gained = x; appended = w.whole begun is; beginning = beginning_self x };
  }
  by_end true is = record {
    whole = λ none. absurd (none (w.part begun is).0);
    some = (w.part begun is).1;
  }

  -- it was told whole, or the count of faults rose and a prefix was told
  pub told_end : IsTold a.err c.err x
  told_end = by_end c.failed refl
