-- A task comes as far as it comes: it has one text, and each text that was due is its beginning.
use Rattle.std.proofs.Common.{◌≡◌, ◌+◌, ◌-◌, ◌<◌, ◌≤◌, ℕ, zero, suc, Bool, true, false, List, [], ◌∷◌, ◌++◌, length, get_or, refl, sym, ap, ap₂, ◌∙◌}
use Rattle.std.proofs.Common.{inl, inr, arith, subst, length-append, AllPairs}
use Rattle.std.proofs.lemmas.Bool.{cases_lt}
use Rattle.std.proofs.lemmas.List.{append-nil, nil_from_length}
use Rattle.free_poly.specs.declared.term.Term.{Term}
use Rattle.ideal_laws.specs.Ideal.{Ideal}
use Rattle.ideal_laws.specs.declared.limits.LimitKind.{LimitKind}
use Rattle.ideal_laws.specs.Dimension.{IsHilbertCoefficient}
use Rattle.ideal_laws.specs.Engine.{Elements}
use Rattle.ideal_laws.specs.Kept.{IsBelow, StandsBefore}
use Rattle.ideal_laws.specs.Laws.{IsSetting}
use Rattle.ideal_laws.specs.Quantities.{IsFirstPassing, IsFirstRefused, IsQuantity, NonePasses, Quantities, kept_value}
use Rattle.ideal_laws.proofs.Dimensions.{has_one_dimension}
use Rattle.ideal_laws.proofs.Lower.{lists_lower}
use Rattle.ideal_laws.proofs.OneBasis.{bases_are_one, greater_strict, greater_trans}
use Rattle.ideal_laws.proofs.OneQuantity.{one_quantity}
use Rattle.ideal_laws.proofs.Search.{same_lists}
use Rattle.poly_writer.specs.Outputs.{IsBasisText, IsSeriesText}
use Rattle.poly_writer.specs.Texts.{basis_text, degree_texts, series_text}
use Rattle.relation_reader.proofs.Numbers.{neither_less}
use Rattle.job_steps.specs.declared.print.PrintFault.{PrintFault}
use Rattle.job_steps.specs.declared.print.PrintFault.TheVariants.{Limit, WriteFault, NoMemory}
use Rattle.job_steps.specs.Gains.{GainsPart, GainsSome, HasPrintedPart, HasPrintedSome, IsUndone}
use Rattle.job_steps.specs.Printing.{IsBasisUndone}
use Rattle.job_steps.specs.States.{SinkState}
use Rattle.job_steps.specs.Progress.{HasLinesBelow, IsBasisPart, IsBasisSoFar, IsBeginning, IsDue, IsFirstLargeCoefficient, IsOutput, IsPart, IsReach}
use Rattle.job_steps.specs.Progress.{IsStoppedBy, IsTaskText, IsText, AreSmallBelow, PassesNone, Reach, Task, whole, refused, crowded, ideal_of_task}
use Rattle.job_steps.proofs.Gaining.{beginning_self, beginning_trans}
use Rattle.job_steps.proofs.Printed.{degree_texts-append}

-- a list whose elements stand at the same places in another one is its front
front_of : {X : Type 0} (z : X) (xs ys : List X) → length xs ≤ length ys → ((k : ℕ) → k < length xs → get_or xs k z ≡ get_or ys k z) →
    (rest : List X) × (ys ≡ xs ++ rest)
front_of z [] ys le same = (ys, refl)
front_of z (x ∷ xs) [] le same = absurd (omega (arith, le))
front_of z (x ∷ xs) (y ∷ ys) le same =
    let r = front_of z xs ys (omega (arith, le)) (λ k within. same (suc k) (omega (arith, within))) in
    let first : x ≡ y = same zero (omega arith) in
    (r.0, ap₂ (λ h t. h ∷ t) (sym first) r.1)

same_of : {X : Type 0} (z : X) (xs ys : List X) → length xs ≡ length ys → ((k : ℕ) → k < length xs → get_or xs k z ≡ get_or ys k z) → xs ≡ ys
same_of z xs ys long same =
    let r = front_of z xs ys (omega (arith, long)) same in
    let none : r.0 ≡ [] = nil_from_length r.0 (omega (arith, long, ap length r.1, length-append xs r.0)) in
    sym (append-nil xs) ∙ ap (λ l. xs ++ l) (sym none) ∙ sym r.1

module _ (ideal : Ideal) (st : IsSetting ideal) where
  before_itself : (f : List Term) → StandsBefore ideal.weights f f → ⊥
  before_itself f (inl lower) = omega (arith, lower)
  before_itself f (inr same) = greater_strict f same.1

  before_trans : (f g h : List Term) → StandsBefore ideal.weights f g → StandsBefore ideal.weights g h → StandsBefore ideal.weights f h
  before_trans f g h (inl a) (inl b) = inl (omega (arith, a, b))
  before_trans f g h (inl a) (inr b) = inl (omega (arith, a, b.0))
  before_trans f g h (inr a) (inl b) = inl (omega (arith, a.0, b))
  before_trans f g h (inr a) (inr b) = inr (a.0 ∙ b.0, greater_trans f g h a.1 b.1)

  -- the basis of the degrees below is one
  one_below : (d : ℕ) (b c : Elements) → IsBelow ideal d b → IsBelow ideal d c → b ≡ c
  one_below d b c hb hc =
      let lb = lists_lower ideal st d b hb in
      let lc = lists_lower ideal st d c hc in
      let elements = same_lists (StandsBefore ideal.weights) before_itself before_trans b.elements c.elements
      (subst (λ (ws : List ℕ). AllPairs (StandsBefore ws) b.elements) hb.same_weights hb.kept.ordered)
      (subst (λ (ws : List ℕ). AllPairs (StandsBefore ws) c.elements) hc.same_weights hc.kept.ordered)
      (λ g m. (lc g).1 ((lb g).0 m)) (λ g m. (lb g).1 ((lc g).0 m)) in
      let weights_are : b.weights ≡ c.weights = hb.same_weights ∙ sym hc.same_weights in
      let done : b.done ≡ c.done = omega (arith, hb.next, hc.next) in
      λ i. record { weights = weights_are i; done = done i; elements = elements i }

  one_coefficient : (d h k : ℕ) → IsHilbertCoefficient ideal d h → IsHilbertCoefficient ideal d k → h ≡ k
  one_coefficient d h k a b = let dim = has_one_dimension ideal st d in (dim.coefficient h).0 a ∙ sym ((dim.coefficient k).0 b)

  -- where the coefficients below a degree are small, none of them is the first large one
  pub small_and_large : (limit d e value : ℕ) → AreSmallBelow ideal limit e → IsFirstLargeCoefficient ideal limit d value →
      d < e → ⊥
  small_and_large limit d e value small large within =
      let s = small d within in
      omega (arith, s.2, large.large, one_coefficient d s.0 large.coefficient s.1 large.is_coefficient)

  first_large : (limit d e v w : ℕ) → IsFirstLargeCoefficient ideal limit d v → IsFirstLargeCoefficient ideal limit e w → d ≡ e
  first_large limit d e v w a b = neither_less d e (small_and_large limit d e v b.before a) (small_and_large limit e d w a.before b)

-- what passes is not at most its limit
none_and_first : (Q : Quantities) (limits : List (LimitKind × ℕ)) → ((kind : LimitKind) (q r : ℕ) → Q kind q → Q kind r → q ≡ r) →
    (kind : LimitKind) (value : ℕ) → NonePasses Q limits → IsFirstPassing Q limits kind value → ⊥
none_and_first Q [] one kind value none first = absurd first
none_and_first Q (l ∷ ls) one kind value none (inl here) = omega (arith, none.0.2, here.2, one l.0 none.0.0 here.0 none.0.1 here.1)
none_and_first Q (l ∷ ls) one kind value none (inr later) = none_and_first Q ls one kind value none.1 later.3

-- the first that passes is one
one_passing : (Q : Quantities) (limits : List (LimitKind × ℕ)) → ((kind : LimitKind) (q r : ℕ) → Q kind q → Q kind r → q ≡ r) →
    (k l : LimitKind) (v w : ℕ) → IsFirstPassing Q limits k v → IsFirstPassing Q limits l w → (k ≡ l) × (v ≡ w)
one_passing Q [] one k l v w a b = absurd a
one_passing Q (x ∷ xs) one k l v w (inl a) (inl b) = (a.3 ∙ sym b.3, a.4 ∙ ap (kept_value x.0 x.1) (one x.0 a.0 b.0 a.1 b.1) ∙ sym b.4)
one_passing Q (x ∷ xs) one k l v w (inl a) (inr b) = absurd (omega (arith, a.2, b.2, one x.0 a.0 b.0 a.1 b.1))
one_passing Q (x ∷ xs) one k l v w (inr a) (inl b) = absurd (omega (arith, a.2, b.2, one x.0 a.0 b.0 a.1 b.1))
one_passing Q (x ∷ xs) one k l v w (inr a) (inr b) = one_passing Q xs one k l v w a.3 b.3

module _ (t : Task) (st : IsSetting (ideal_of_task t)) where
  abbrev p : ℕ
  p = t.modulus

  abbrev weights : List ℕ
  weights = t.letters.weights

  -- where no quantity passes up to a degree, none is the first refused one up to there
  pub none_and_refused : (d e value : ℕ) (kind : LimitKind) → PassesNone t e → IsFirstRefused (ideal_of_task t) t.limits t.bound kind d value
      → d ≤ e → ⊥
  none_and_refused d e value kind none first le =
      let n = none d first.from le in
      let same = one_below (ideal_of_task t) st d n.0 first.below n.1 first.is_below in
      none_and_first (IsQuantity (ideal_of_task t) first.below d) t.limits
      (one_quantity (ideal_of_task t) st d first.below first.is_below) kind value
      (subst (λ (b : Elements). NonePasses (IsQuantity (ideal_of_task t) b d) t.limits) same n.2) first.passes

  first_refused : (d e v w : ℕ) (k l : LimitKind) → IsFirstRefused (ideal_of_task t) t.limits t.bound k d v →
      IsFirstRefused (ideal_of_task t) t.limits t.bound l e w → d ≡ e
  first_refused d e v w k l a b = neither_less d e (λ less. none_and_refused d (e - 1) v k b.before a (omega (arith, less)))
      (λ less. none_and_refused e (d - 1) w l a.before b (omega (arith, less)))

  -- with its kind and value
  refused_one : (d v w : ℕ) (k l : LimitKind) → IsFirstRefused (ideal_of_task t) t.limits t.bound k d v →
      IsFirstRefused (ideal_of_task t) t.limits t.bound l d w → (k ≡ l) × (v ≡ w)
  refused_one d v w k l a b =
      let same = one_below (ideal_of_task t) st d a.below b.below a.is_below b.is_below in
      one_passing (IsQuantity (ideal_of_task t) b.below d) t.limits (one_quantity (ideal_of_task t) st d b.below b.is_below) k
      l v w
      (subst (λ (e : Elements). IsFirstPassing (IsQuantity (ideal_of_task t) e d) t.limits k v) same a.passes) b.passes

  bases_at : (d e : ℕ) (x y : List ℕ) → d ≤ e → (a : IsBasisText p t.letters t.relations d x) (b : IsBasisText p t.letters t.relations e y)
      → (k : ℕ) → k < length a.bases → get_or a.bases k [] ≡ get_or b.bases k []
  bases_at d e x y le a b k within =
      bases_are_one (ideal_of_task t) (k + 1) (get_or a.bases k []) (get_or b.bases k []) (a.each k (omega (arith, within, a.count)))
      (b.each k (omega (arith, within, a.count, le)))

  basis_begins : (d e : ℕ) (x y : List ℕ) → d ≤ e → IsBasisText p t.letters t.relations d x → IsBasisText p t.letters t.relations e y → IsBeginning x y
  basis_begins d e x y le a b =
      let r = front_of [] a.bases b.bases (omega (arith, a.count, b.count, le)) (bases_at d e x y le a b) in
      record {
        rest = degree_texts t.letters.names p (1 + length a.bases) r.0;
        joined = b.printed ∙ ap (basis_text t.letters.names p) r.1 ∙ degree_texts-append t.letters.names p 1 a.bases r.0
            ∙ ap (λ (l : List ℕ). l ++ degree_texts t.letters.names p (1 + length a.bases) r.0) (sym a.printed);
      }

  basis_one : (d : ℕ) (x y : List ℕ) → IsBasisText p t.letters t.relations d x → IsBasisText p t.letters t.relations d y → x ≡ y
  basis_one d x y a b =
      a.printed ∙ ap (basis_text t.letters.names p) (same_of [] a.bases b.bases (a.count ∙ sym b.count) (bases_at d d x y (omega arith) a b)) ∙ sym b.printed

  series_one : (d : ℕ) (x y : List ℕ) → IsSeriesText p t.letters t.relations d x → IsSeriesText p t.letters t.relations d y → x ≡ y
  series_one d x y a b =
      let same : (k : ℕ) → k < length a.numbers → get_or a.numbers k 0 ≡ get_or b.numbers k 0 =
      λ k within. one_coefficient (ideal_of_task t) st k (get_or a.numbers k 0) (get_or b.numbers k 0)
      (a.each k (omega (arith, within, a.count))) (b.each k (omega (arith, within, a.count))) in
      a.printed ∙ ap series_text (same_of 0 a.numbers b.numbers (a.count ∙ sym b.count) same) ∙ sym b.printed

  part_one : (shows : Bool) (P : List ℕ → Type 0) → ((x y : List ℕ) → P x → P y → x ≡ y) → (x y : List ℕ) → IsPart shows P x → IsPart shows P y → x ≡ y
  part_one true P one x y a b = one x y a b
  part_one false P one x y a b = a ∙ sym b

  part_begins : (shows : Bool) (d e : ℕ) (x y : List ℕ) → d ≤ e → IsPart shows (IsBasisText p t.letters t.relations d) x →
      IsPart shows (IsBasisText p t.letters t.relations e) y → IsBeginning x y
  part_begins true d e x y le a b = basis_begins d e x y le a b
  part_begins false d e x y le a b = record { rest = y; joined = ap (λ (l : List ℕ). l ++ y) (sym a) }

  basis_part_one : (d : ℕ) (x y : List ℕ) → IsBasisPart t d x → IsBasisPart t d y → x ≡ y
  basis_part_one d = part_one t.shows_basis (IsBasisText p t.letters t.relations d) (basis_one d)

  output_one : (d : ℕ) (x y : List ℕ) → IsOutput t d x → IsOutput t d y → x ≡ y
  output_one d x y a b =
      a.joined
      ∙ ap₂ (λ (l r : List ℕ). l ++ r) (basis_part_one t.bound a.basis b.basis a.is_basis b.is_basis)
      (part_one t.shows_series (IsSeriesText p t.letters t.relations d) (series_one d) a.series b.series a.is_series b.is_series)
      ∙ sym b.joined

  -- two reaches are not of two kinds, and have one text
  pub one_text : (r s : Reach) (x y : List ℕ) → IsReach t r → IsText t r x → IsReach t s → IsText t s y → x ≡ y
  one_text whole whole x y ra a rb b = output_one t.bound x y a b
  one_text whole (refused k d v) x y ra a rb b = absurd (none_and_refused d t.bound v k ra.0 rb rb.upto)
  one_text whole (crowded d v) x y ra a rb b = absurd (small_and_large (ideal_of_task t) st t.normal_words d (t.bound + 1) v (ra.1 rb.1)
      rb.3 (omega (arith, rb.2)))
  one_text (refused k d v) whole x y ra a rb b = absurd (none_and_refused d t.bound v k rb.0 ra ra.upto)
  one_text (refused k d v) (refused l e w) x y ra a rb b = basis_part_one (e - 1) x y
      (subst (λ (n : ℕ). IsBasisPart t (n - 1) x) (first_refused d e v w k l ra rb) a) b
  one_text (refused k d v) (crowded e w) x y ra a rb b = absurd (none_and_refused d t.bound v k rb.0 ra ra.upto)
  one_text (crowded d v) whole x y ra a rb b = absurd (small_and_large (ideal_of_task t) st t.normal_words d (t.bound + 1) v (rb.1 ra.1)
      ra.3 (omega (arith, ra.2)))
  one_text (crowded d v) (refused l e w) x y ra a rb b = absurd (none_and_refused e t.bound w l ra.0 rb rb.upto)
  one_text (crowded d v) (crowded e w) x y ra a rb b = output_one (e - 1) x y
      (subst (λ (n : ℕ). IsOutput t (n - 1) x) (first_large (ideal_of_task t) st t.normal_words d e v w ra.3 rb.3) a) b

  -- nothing stops a task that comes to its end
  pub whole_is_not_stopped : IsReach t whole → (s : Reach) (kind : LimitKind) (d value : ℕ) → IsReach t s → IsStoppedBy s kind d value → ⊥
  whole_is_not_stopped ra whole kind d value rb by = by
  whole_is_not_stopped ra (refused k e v) kind d value rb by = none_and_refused e t.bound v k ra.0 rb rb.upto
  whole_is_not_stopped ra (crowded e v) kind d value rb by = small_and_large (ideal_of_task t) st t.normal_words e (t.bound + 1) v
      (ra.1 rb.1) rb.3 (omega (arith, rb.2))

  -- a task is stopped by one limit
  pub one_stop : (r s : Reach) (k l : LimitKind) (d e v w : ℕ) → IsReach t r → IsStoppedBy r k d v → IsReach t s → IsStoppedBy s l e w →
      (k ≡ l) × (d ≡ e) × (v ≡ w)
  one_stop whole s k l d e v w ra a rb b = absurd a
  one_stop (refused k1 d1 v1) whole k l d e v w ra a rb b = absurd b
  one_stop (crowded d1 v1) whole k l d e v w ra a rb b = absurd b
  one_stop (refused k1 d1 v1) (refused k2 d2 v2) k l d e v w ra a rb b =
      let degree = first_refused d1 d2 v1 v2 k1 k2 ra rb in
      let same = refused_one d2 v1 v2 k1 k2 (subst (λ (n : ℕ). IsFirstRefused (ideal_of_task t) t.limits t.bound k1 n v1) degree ra) rb in
      (sym a.0 ∙ same.0 ∙ b.0, sym a.1 ∙ degree ∙ b.1, sym a.2 ∙ same.1 ∙ b.2)
  one_stop (refused k1 d1 v1) (crowded d2 v2) k l d e v w ra a rb b = absurd (none_and_refused d1 t.bound v1 k1 rb.0 ra ra.upto)
  one_stop (crowded d1 v1) (refused k2 d2 v2) k l d e v w ra a rb b = absurd (none_and_refused d2 t.bound v2 k2 ra.0 rb rb.upto)
  one_stop (crowded d1 v1) (crowded d2 v2) k l d e v w ra a rb b = (
    sym a.0 ∙ b.0,
    sym a.1 ∙ first_large (ideal_of_task t) st t.normal_words d1 d2 v1 v2 ra.3 rb.3 ∙ b.1,
    sym a.2
        ∙ (ra.3.kept ∙ sym rb.3.kept) ∙ b.2,
  )

  output_begins : (d e : ℕ) (x y : List ℕ) → IsBasisSoFar t d x → IsOutput t e y → IsBeginning x y
  output_begins d e x y a b =
      beginning_trans x b.basis y (part_begins t.shows_basis d t.bound x b.basis a.upto a.is_basis b.is_basis) (record { rest = b.series; joined = b.joined })

  so_far_begins : (d : ℕ) (s : Reach) (x y : List ℕ) → IsBasisSoFar t d x → IsReach t s → IsText t s y → IsBeginning x y
  so_far_begins d whole x y a rb b = output_begins d t.bound x y a b
  so_far_begins d (refused l e w) x y a rb b = elim (cases_lt d e) [
    | inl less ↦ part_begins t.shows_basis d (e - 1) x y (omega (arith, less)) a.is_basis b
    | inr le ↦ absurd (none_and_refused e d w l a.passes_none rb le)
  ]
  so_far_begins d (crowded e w) x y a rb b = output_begins d (e - 1) x y a b

  -- what was due begins the text of the task
  pub due_begins : (e : ℕ) (s : Reach) (x y : List ℕ) → IsDue t e x → IsReach t s → IsText t s y → IsBeginning x y
  due_begins e s x y (inl a) rb b = so_far_begins e s x y a rb b
  due_begins e s x y (inr a) rb b = subst (IsBeginning x) (one_text a.0 s x y a.1 a.2 rb b) (beginning_self x)

  begins_text : (e : ℕ) (x : List ℕ) → IsDue t e x → (y : List ℕ) → IsTaskText t y → IsBeginning x y
  begins_text e x due y is = due_begins e is.0 x y due is.1 is.2

  printed_part : (a c : SinkState) (e : ℕ) (x : List ℕ) → IsDue t e x → (part : GainsPart a c x) → HasLinesBelow t e part.gained → HasPrintedPart t a c
  printed_part a c e x due part below = record { last = e; due = x; is_due = due; begins = begins_text e x due; part = part; lines_below = below }

  printed_some : (a c : SinkState) (e : ℕ) (x : List ℕ) → IsDue t e x → (part : GainsSome a c x) → HasLinesBelow t e part.gained → HasPrintedSome t a c
  printed_some a c e x due part below = record { last = e; due = x; is_due = due; begins = begins_text e x due; part = part; lines_below = below }

  -- with what holds of the last degree
  pub part_upto : (a c : SinkState) (Holds : ℕ → Type 0) (e : ℕ) (x : List ℕ) → IsDue t e x → (part : GainsPart a c x) →
      HasLinesBelow t e part.gained → Holds e → (p : HasPrintedPart t a c) × Holds p.last
  unfolding printed_part
  part_upto a c Holds e x due part below holds = (printed_part a c e x due part below, holds)

  -- the same of some prefix
  pub some_upto : (a c : SinkState) (Holds : ℕ → Type 0) (e : ℕ) (x : List ℕ) → IsDue t e x → (part : GainsSome a c x) →
      HasLinesBelow t e part.gained → Holds e → (p : HasPrintedSome t a c) × Holds p.last
  unfolding printed_some
  some_upto a c Holds e x due part below holds = (printed_some a c e x due part below, holds)

  -- a basis that was not printed whole
  pub undone_basis : (a c : SinkState) (Holds : ℕ → Type 0) (fault : PrintFault) → IsBasisUndone t a c Holds fault → IsUndone t a c Holds fault
  undone_basis a c Holds (Limit kind d value) u = (refused kind d value, (refl, refl, refl), u.0, u.1)
  undone_basis a c Holds WriteFault u = (u.0, part_upto a c Holds u.1.0 u.1.1 u.1.2 u.1.3 u.1.4 u.1.5)
  undone_basis a c Holds NoMemory u = some_upto a c Holds u.0 u.1 u.2 u.3 u.4 u.5
