-- The basis so far grows by the lines of a degree.
use Rattle.std.proofs.Common.{◌≡◌, ◌+◌, ◌-◌, ◌<◌, ◌≤◌, ℕ, Bool, true, false, List, [], ◌∷◌, ◌++◌, length, refl, sym, ap, ◌∙◌, inl, inr, arith, subst}
use Rattle.std.proofs.Common.{append_assoc, length-append}
use Rattle.std.proofs.lemmas.Bool.{cases_lt}
use Rattle.std.proofs.lemmas.List.{append-nil, get_or_append_left, get_or_push}
use Rattle.words.specs.Names.{Letters}
use Rattle.free_poly.specs.declared.term.Term.{Term}
use Rattle.ideal_laws.specs.Basis.{IsReducedBasis}
use Rattle.ideal_laws.specs.Engine.{Elements, IsReducedUpto}
use Rattle.ideal_laws.specs.Ideal.{ideal_over}
use Rattle.ideal_laws.specs.Kept.{IsKept}
use Rattle.ideal_laws.proofs.Refused.{refused_next, upto_next}
use Rattle.poly_writer.specs.Outputs.{IsBasisText}
use Rattle.poly_writer.specs.Texts.{basis_text, degree_text, degree_texts}
use Rattle.job_steps.specs.declared.print.PrintFault.{PrintFault}
use Rattle.job_steps.specs.declared.print.PrintFault.TheVariants.{Limit, WriteFault, NoMemory}
use Rattle.job_steps.specs.Gains.{GainsAll, HasPrinted}
use Rattle.job_steps.specs.Printing.{IsBasisUndone, IsNext, IsNextUndone, lines_of}
use Rattle.job_steps.specs.Progress.{HasLinesBelow, IsBasisPart, IsBasisSoFar, IsBeginning, IsDue, IsPart, Task, ideal_of_task, refused}
use Rattle.job_steps.specs.States.{SinkState}
use Rattle.job_steps.proofs.Gaining.{appended_none, beginning_self, part_behind, part_front, rose_from, some_behind, some_front}

-- the texts of more degrees stand behind those of the first
pub degree_texts-append : (names : List (List ℕ)) (p d : ℕ) (xs ys : List (List (List Term))) →
    degree_texts names p d (xs ++ ys) ≡ degree_texts names p d xs ++ degree_texts names p (d + length xs) ys
degree_texts-append names p d [] ys = ap (λ (n : ℕ). degree_texts names p n ys) (let e : d ≡ d + 0 = omega arith in e)
degree_texts-append names p d (x ∷ xs) ys =
    let e : d + 1 + length xs ≡ d + length (x ∷ xs) = omega arith in
    ap (λ (l : List ℕ). degree_text names p d x ++ l) (degree_texts-append names p (d + 1) xs ys
    ∙ ap (λ (n : ℕ). degree_texts names p (d + 1) xs ++ degree_texts names p n ys) e)
    ∙ sym (append_assoc (degree_text names p d x) (degree_texts names p (d + 1) xs) (degree_texts names p (d + length (x ∷ xs)) ys))

-- the basis text of no degree is empty
pub no_basis : (p : ℕ) (letters : Letters) (relations : List (List Term)) → IsBasisText p letters relations 0 []
no_basis p letters relations = record { bases = []; count = refl; each = λ k within. absurd (omega (arith, within)); printed = refl }

module _ (p : ℕ) (letters : Letters) (relations : List (List Term)) where
  basis_next : (d : ℕ) (text : List ℕ) (elements : List (List Term)) → IsBasisText p letters relations d text →
      IsReducedBasis (ideal_over p letters.weights relations) (d + 1) elements
      → IsBasisText p letters relations (d + 1) (text ++ degree_text letters.names p (d + 1) elements)
  basis_next d text elements h new = record {
    bases = h.bases ++ elements ∷ [];
    count = omega (arith, length-append h.bases (elements ∷ []), h.count);
    each = λ k within. elim (cases_lt k d) [
      | inl earlier ↦
          subst (IsReducedBasis (ideal_over p letters.weights relations) (k + 1)) (sym
          (get_or_append_left h.bases (elements ∷ []) [] k (omega (arith, earlier, h.count)))) (h.each k earlier)
      | inr last ↦
          let is : k ≡ d = omega (arith, last, within) in
          let at : length h.bases ≡ k = omega (arith, h.count, is) in
          subst (IsReducedBasis (ideal_over p letters.weights relations) (k + 1)) (sym (get_or_push h.bases elements [] k at))
          (subst (λ (n : ℕ). IsReducedBasis (ideal_over p letters.weights relations) (n + 1) elements) (sym is) new)
    ];
    printed =
        let from : d + 1 ≡ 1 + length h.bases = omega (arith, h.count) in
        ap (λ (l : List ℕ). l ++ degree_text letters.names p (d + 1) elements) h.printed
        ∙ ap (λ (l : List ℕ). basis_text letters.names p h.bases ++ l)
        (ap (λ (n : ℕ). degree_text letters.names p n elements) from
        ∙ sym (append-nil (degree_text letters.names p (1 + length h.bases) elements)))
        ∙ sym (degree_texts-append letters.names p 1 h.bases (elements ∷ []));
  }

  part_next : (shows : Bool) (d : ℕ) (text : List ℕ) (elements : List (List Term)) → IsPart shows (IsBasisText p letters relations d) text →
      IsReducedBasis (ideal_over p letters.weights relations) (d + 1) elements
      → IsPart shows (IsBasisText p letters relations (d + 1)) (text ++ lines_of shows letters.names p (d + 1) elements)
  part_next true d text elements h new = basis_next d text elements h new
  part_next false d text elements h new = append-nil text ∙ h

  -- before the first degree the part of the basis is empty, shown or not
  pub part_start : (shows : Bool) → IsPart shows (IsBasisText p letters relations 0) []
  part_start true = no_basis p letters relations
  part_start false = refl

so_far_start : (t : Task) → IsBasisSoFar t 0 []
so_far_start t = record {
  upto = omega arith;
  passes_none = λ e from le. absurd (omega (arith, from, le));
  is_basis = part_start t.modulus t.letters t.relations t.shows_basis;
}

-- a basis that is reduced up to degree d, below the bound, with the text so far
pub record Stands (t : Task) (d : ℕ) (below : Elements) (text : List ℕ) : Type 0 where
  -- it is done up to degree d
  pub done : below.done ≡ d
  -- its weights are those of the letters
  pub weights : below.weights ≡ t.letters.weights
  -- its elements are kept
  pub kept : IsKept below
  -- it is reduced up to its last degree
  pub reduced : IsReducedUpto t.modulus t.relations below
  -- the text is that of the basis up to degree d, which is at most the bound
  pub so_far : IsBasisSoFar t d text

-- a basis of no degree stands at degree 0 with an empty text
pub stands_start : (t : Task) (below : Elements) → below.done ≡ 0 → below.weights ≡ t.letters.weights → IsKept below → Stands t 0 below []
stands_start t below done weights kept = record {
  done = done;
  weights = weights;
  kept = kept;
  reduced = λ d from le. absurd (omega (arith, from, le, done));
  so_far = so_far_start t;
}

module _ (t : Task) (d : ℕ) (below : Elements) (text : List ℕ) (s : Stands t d below text) (within : d < t.bound) where
  abbrev lines : List (List Term) → List ℕ
  lines elements = lines_of t.shows_basis t.letters.names t.modulus (below.done + 1) elements

  -- behind the text so far come the lines of the next degree
  pub so_far_next : (elements : List (List Term)) → IsNext t below elements →
      IsBasisSoFar t (d + 1) (text ++ lines elements)
  so_far_next elements next = record {
    upto = omega (arith, within);
    passes_none = upto_next (ideal_of_task t) t.limits below s.kept s.weights s.reduced d s.done s.so_far.passes_none
        next.passes_none;
    is_basis = subst (λ (n : ℕ). IsBasisPart t (d + 1) (text ++ lines_of t.shows_basis t.letters.names t.modulus (n + 1) elements)) (sym s.done)
        (part_next t.modulus t.letters t.relations t.shows_basis d text elements s.so_far.is_basis
        (subst (λ (n : ℕ). IsReducedBasis (ideal_of_task t) (n + 1) elements) s.done next.reduced));
  }

  due_next : (elements : List (List Term)) → IsNext t below elements
      → IsDue t (d + 1) (text ++ lines elements)
  due_next elements next = inl (so_far_next elements next)

  lines_before : (e : ℕ) (gained : List ℕ) → e ≤ d + 1 → IsBeginning text gained → HasLinesBelow t e gained
  lines_before e gained upto begins = record { degree = d; lines = text; so_far = s.so_far; begins = begins; upto = upto }

  -- a fault in the next degree
  pub undone_next : (a b c : SinkState) (Here Next : Type 0) (Holds : ℕ → Type 0) → (Here → Holds d) → (Next → Holds (d + 1)) →
      (fault : PrintFault) → GainsAll a b text → IsNextUndone t below b c Here Next fault → IsBasisUndone t a c Holds fault
  undone_next a b c Here Next Holds here next (Limit kind e value) w u =
      let at : d ≡ e - 1 = omega (arith, u.0, s.done) in
      let printed : HasPrinted t (refused kind e value) a c = record {
        is_reach = refused_next (ideal_of_task t) t.limits below s.kept s.weights s.reduced d t.bound s.done within
            s.so_far.passes_none kind e value (u.0, u.1);
        text = text;
        is_text = subst (λ (n : ℕ). IsBasisPart t n text) at s.so_far.is_basis;
        appended = appended_none a.held b.held c.held text w.appended u.2;
      } in
      (printed, subst Holds at (here u.3))
  undone_next a b c Here Next Holds here next WriteFault w u =
      let lost = u.1 in (
        rose_from a.faults b.faults c.faults w.kept u.0,
        (
          d + 1,
          text ++ lines lost.0,
          due_next lost.0 lost.1,
          part_behind a b c text (lines lost.0) w lost.2,
          lines_before (d + 1) _ (omega arith) (part_front a b c text (lines lost.0) w lost.2),
          next u.2,
        ),
      )
  undone_next a b c Here Next Holds here next NoMemory w (inl u) = (
    d,
    text,
    inl s.so_far,
    record { gained = text; appended = appended_none a.held b.held c.held text w.appended u.0; beginning = beginning_self text },
    lines_before d text (omega arith) (beginning_self text),
    here u.1,
  )
  undone_next a b c Here Next Holds here next NoMemory w (inr u) = (
    d + 1,
    text ++ lines u.0.0,
    due_next u.0.0 u.0.1,
    some_behind a b c text (lines u.0.0) w.appended u.0.2,
    lines_before (d + 1) _ (omega arith) (some_front a b c text (lines u.0.0) w.appended u.0.2),
    next u.1,
  )
