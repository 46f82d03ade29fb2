-- The lines of a degree are those of the elements that stand together in a basis.
use Rattle.std.proofs.Common.{not, ◌≡◌, ◌≢◌, ◌+◌, ◌-◌, ◌<◌, ◌≤◌, ℕ, zero, suc, Bool, true, false, List, [], ◌∷◌, ◌++◌, length, get_or}
use Rattle.std.proofs.Common.{take, drop, refl, sym, ap, ◌∙◌, inr, arith, subst, All, Result, Ok, Err, IfErr, Vec, Global}
use Rattle.std.specs.List.{AllZip, flat_map, range_with_len, slice_range}
use Rattle.std.proofs.Math.Seq.{drop-cons, take-add}
use Rattle.std.proofs.lemmas.Grind.{flat_map-append}
use Rattle.std.proofs.lemmas.List.{append-nil, drop-drop}
use Rattle.rayon.specs.Numbers.{nat_range}
use Rattle.words.proofs.Members.{All-from_members}
use Rattle.free_poly.specs.declared.term.Term.{Term}
use Rattle.free_poly.specs.Terms.{HasResidues}
use Rattle.ideal_laws.specs.Ideal.{ideal_over}
use Rattle.ideal_laws.specs.declared.limits.LimitKind.{LimitKind}
use Rattle.ideal_laws.specs.Basis.{IsReducedBasis}
use Rattle.ideal_laws.specs.Engine.{Elements, IsReducedUpto, of_degree}
use Rattle.ideal_laws.specs.Kept.{IsBelow, IsKept}
use Rattle.ideal_laws.specs.Laws.{IsSetting}
use Rattle.ideal_laws.specs.Quantities.{IsQuantity, NonePasses}
use Rattle.ideal_laws.proofs.Lower.{lists_lower}
use Rattle.poly_writer.specs.Texts.{degree_text, element_line, head_line}
use Rattle.job_steps.specs.declared.print.PrintFault.{PrintFault}
use Rattle.job_steps.specs.declared.print.PrintFault.TheVariants.{Limit, WriteFault, NoMemory}
use Rattle.job_steps.specs.Gains.{GainsAll, GainsPart, GainsSome, IsUnwritten}
use Rattle.job_steps.specs.Printing.{IsNext, IsNextUndone, OfNext, lines_of}
use Rattle.job_steps.specs.Progress.{IsBeginning, Task, ideal_of_task}
use Rattle.job_steps.specs.States.{SinkState}
use Rattle.job_steps.proofs.Gaining.{all_behind, beginning_front, unwritten_before, unwritten_behind}

-- what a fault that is passed on says
pub if_err : {T E : Type 0} (r : Result T E) (a x : E) (P : E → Type 0) → r ≡ Err a → a ≡ x → P x → IfErr r P
if_err (Ok v) a x P e s h = tt
if_err (Err y) a x P e s h = let is : y ≡ a = cc e in subst P (sym (is ∙ s)) h

-- what is not shown is hidden
pub is_hidden : (shows : Bool) → not shows ≡ true → shows ≡ false
is_hidden true e = cc e
is_hidden false e = refl

-- what is said of a limit by its parts
pub limit_moved : (P : LimitKind → ℕ → Type 0) (k l : LimitKind) (v w : ℕ) → k ≡ l → v ≡ w → P l w → P k v
limit_moved P k l v w e f h = subst (λ (x : ℕ). P k x) (sym f) (subst (λ (x : LimitKind). P x w) (sym e) h)

slice_split : {X : Type 0} (xs : List X) (a b c : ℕ) → a ≤ b → b ≤ c → slice_range xs a c ≡ slice_range xs a b ++ slice_range xs b c
slice_split xs a b c low high =
    let e : c - a ≡ (b - a) + (c - b) = omega (arith, low, high) in
    let whole : a + (b - a) ≡ b = omega (arith, low) in
    ap (λ (n : ℕ). take n (drop a xs)) e ∙ take-add (b - a) (c - b) (drop a xs)
    ∙ ap (λ l. take (b - a) (drop a xs) ++ take (c - b) l) (drop-drop (b - a) a xs ∙ ap (λ (k : ℕ). drop k xs) whole)

slice_one : {X : Type 0} (xs : List X) (b : ℕ) (z : X) → b < length xs → slice_range xs b (b + 1) ≡ get_or xs b z ∷ []
slice_one xs b z within =
    let e : b + 1 - b ≡ 1 = omega arith in
    ap (λ (n : ℕ). take n (drop b xs)) e ∙ ap (take 1) (drop-cons xs b z within)

at_place : {Y : Type 0} (R : ℕ → Y → Type 0) (a n : ℕ) (ys : List Y) (k : ℕ) (y : Y) → AllZip R (range_with_len a n) ys → k < n → R (a + k) (get_or ys k y)
at_place R a zero ys k y h lt = absurd (omega (arith, lt))
at_place R a (suc n) [] k y h lt = absurd h
at_place R a (suc n) (z ∷ ys) zero y h lt = let e : a ≡ a + 0 = omega arith in subst (λ (i : ℕ). R i z) e h.0
at_place R a (suc n) (z ∷ ys) (suc k) y h lt =
    let e : (a + 1) + k ≡ a + suc k = omega arith in
    subst (λ (i : ℕ). R i (get_or ys k y)) e (at_place R (a + 1) n ys k y h.1 (omega (arith, lt)))

as_many : {Y : Type 0} (R : ℕ → Y → Type 0) (a n : ℕ) (ys : List Y) → AllZip R (range_with_len a n) ys → length ys ≡ n
as_many R a zero [] h = refl
as_many R a zero (y ∷ ys) h = absurd h
as_many R a (suc n) [] h = absurd h
as_many R a (suc n) (y ∷ ys) h = ap suc (as_many R (a + 1) n ys h.1)

module _ (names : List (List ℕ)) (p : ℕ) (xs : List (List Term)) where
  abbrev lines : ℕ → ℕ → List ℕ
  lines a b = flat_map (element_line names p) (slice_range xs a b)

  -- the lines of some places are as many as these
  pub length-lines : (a c : ℕ) (made : List (Vec ℕ Global)) → AllZip (λ place line. line.items ≡ element_line names p (get_or xs place [])) (nat_range a c) made
      → length made ≡ c - a
  length-lines a c made h = as_many (λ place line. line.items ≡ element_line names p (get_or xs place [])) a (c - a) made h

  -- of the lines of some places each stands at its own
  pub line_of_place : (a b c : ℕ) (made : List (Vec ℕ Global)) (z : Vec ℕ Global) → a ≤ b → b < c →
      AllZip (λ place line. line.items ≡ element_line names p (get_or xs place [])) (nat_range a c) made
      → (get_or made (b - a) z).items ≡ element_line names p (get_or xs b [])
  line_of_place a b c made z low below h =
      let e : a + (b - a) ≡ b = omega (arith, low) in
      subst (λ (i : ℕ). (get_or made (b - a) z).items ≡ element_line names p (get_or xs i [])) e
      (at_place (λ place line. line.items ≡ element_line names p (get_or xs place [])) a (c - a) made (b - a) z h (omega (arith, low, below)))

  lines_more : (a b : ℕ) → a ≤ b → b < length xs → lines a (b + 1) ≡ lines a b ++ element_line names p (get_or xs b [])
  lines_more a b low within =
      ap (flat_map (element_line names p)) (slice_split xs a b (b + 1) low (omega arith)
      ∙ ap (λ (l : List (List Term)). slice_range xs a b ++ l) (slice_one xs b [] within))
      ∙ flat_map-append (element_line names p) (slice_range xs a b) (get_or xs b [] ∷ [])
      ∙ ap (λ (l : List ℕ). lines a b ++ l) (append-nil (element_line names p (get_or xs b [])))

  lines_begin : (a b c : ℕ) → a ≤ b → b ≤ c → IsBeginning (lines a b) (lines a c)
  lines_begin a b c low high = record {
    rest = lines b c;
    joined = ap (flat_map (element_line names p)) (slice_split xs a b c low high)
        ∙ flat_map-append (element_line names p) (slice_range xs a b) (slice_range xs b c);
  }

  module _ (h k m : SinkState) (a b c : ℕ) (line : List ℕ) (low : a ≤ b) (below : b < c) (within : c ≤ length xs)
      (is : line ≡ element_line names p (get_or xs b [])) where
    with_line : lines a (b + 1) ≡ lines a b ++ line
    with_line = lines_more a b low (omega (arith, below, within)) ∙ ap (λ (l : List ℕ). lines a b ++ l) (sym is)

    -- one more element is written
    pub written_more : GainsAll h k (lines a b) → GainsAll k m line → GainsAll h m (lines a (b + 1))
    written_more w v = subst (GainsAll h m) (sym with_line) (all_behind h k m (lines a b) line w v)

    -- or not, and then the lines up to a later place are not written whole
    pub unwritten_more : (fault : PrintFault) → GainsAll h k (lines a b) → IsUnwritten k m line fault → IsUnwritten h m (lines a c) fault
    unwritten_more fault w u =
        unwritten_before h m (lines a (b + 1)) (lines a c) fault (lines_begin a (b + 1) c (omega (arith, low)) (omega (arith, below)))
        (subst (λ (l : List ℕ). IsUnwritten h m l fault) (sym with_line) (unwritten_behind h k m (lines a b) line fault w u))

  slice_some : (a b : ℕ) → (a ≡ b → ⊥) → a ≤ b → b ≤ length xs → slice_range xs a b ≢ []
  slice_some a b other low within e =
      let one = slice_split xs a (a + 1) b (omega arith) (omega (arith, low, λ (same : a ≡ b). other same)) in
      no_head (get_or xs a []) (slice_range xs (a + 1) b)
      (ap (λ (l : List (List Term)). l ++ slice_range xs (a + 1) b)
      (sym (slice_one xs a [] (omega (arith, low, within, λ (same : a ≡ b). other same)))) ∙ sym one ∙ e)
    where
      no_head : (x : List Term) (rest : List (List Term)) → (x ∷ []) ++ rest ≡ [] → ⊥
      no_head x rest e = cc e

degree_text-some : (names : List (List ℕ)) (p d : ℕ) (fs : List (List Term)) → fs ≢ [] →
    degree_text names p d fs ≡ head_line d ++ flat_map (element_line names p) fs
degree_text-some names p d [] other = absurd (other refl)
degree_text-some names p d (f ∷ fs) other = refl

-- the text of a degree that has elements, from the place of the first to past the last
module _ (names : List (List ℕ)) (p : ℕ) (weights : List ℕ) (d done : ℕ) (xs : List (List Term)) (a b : ℕ) (is : d ≡ done)
    (same : slice_range xs a b ≡ of_degree weights d xs) (other : a ≡ b → ⊥) (low : a ≤ b) (within : b ≤ length xs) where
  abbrev text : List ℕ
  text = degree_text names p done (of_degree weights done xs)

  abbrev element_lines : List ℕ
  element_lines = flat_map (element_line names p) (slice_range xs a b)

  degree_lines : text ≡ head_line d ++ element_lines
  degree_lines =
      ap (λ (n : ℕ). degree_text names p n (of_degree weights n xs)) (sym is) ∙ ap (degree_text names p d) (sym same)
      ∙ degree_text-some names p d (slice_range xs a b) (slice_some names p xs a b other low within)

  module _ (h k : SinkState) (head : List ℕ) (is_head : head ≡ head_line d) where
    -- not even its head was written
    pub head_unwritten : (fault : PrintFault) → IsUnwritten h k head fault → IsUnwritten h k text fault
    head_unwritten fault u = subst (λ (t : List ℕ). IsUnwritten h k t fault) (sym degree_lines)
        (unwritten_before h k (head_line d) (head_line d ++ element_lines) fault (beginning_front (head_line d) element_lines)
        (subst (λ (t : List ℕ). IsUnwritten h k t fault) is_head u))

    module _ (m : SinkState) (written : GainsAll h k head) where
      own_head : GainsAll h k (head_line d)
      own_head = subst (GainsAll h k) is_head written

      -- its lines were written behind its head, or not
      pub degree_written : GainsAll k m element_lines → GainsAll h m text
      degree_written v = subst (GainsAll h m) (sym degree_lines) (all_behind h k m (head_line d) element_lines own_head v)

      -- its lines were not written whole behind its head
      pub degree_unwritten : (fault : PrintFault) → IsUnwritten k m element_lines fault → IsUnwritten h m text fault
      degree_unwritten fault u = subst (λ (t : List ℕ). IsUnwritten h m t fault) (sym degree_lines)
          (unwritten_behind h k m (head_line d) element_lines fault own_head u)

-- a basis that has grown by a degree of a task
module _ (t : Task) (old new : Elements) (same : old.weights ≡ t.letters.weights) (kept_weights : new.weights ≡ old.weights)
    (done : new.done ≡ old.done + 1) (reduced : IsReducedUpto t.modulus t.relations new)
    (passes_none : NonePasses (IsQuantity (ideal_of_task t) old (old.done + 1)) t.limits) where
  abbrev added : List (List Term)
  added = of_degree new.weights new.done new.elements

  abbrev added_lines : List ℕ
  added_lines = degree_text t.letters.names t.modulus new.done added

  -- what was added is the reduced basis of the next degree, in which no quantity passes
  pub is_next : IsNext t old added
  is_next = record {
    reduced = subst (λ (n : ℕ). IsReducedBasis (ideal_of_task t) n added) done
        (subst (λ (ws : List ℕ). IsReducedBasis (ideal_over t.modulus ws t.relations) new.done added) (kept_weights ∙ same)
        (reduced new.done (omega (arith, done)) (omega arith)));
    passes_none = passes_none;
  }

  lines_are : t.shows_basis ≡ true → added_lines ≡ lines_of t.shows_basis t.letters.names t.modulus (old.done + 1) added
  lines_are is = ap (λ (n : ℕ). degree_text t.letters.names t.modulus n added) done
      ∙ ap (λ (b : Bool). lines_of b t.letters.names t.modulus (old.done + 1) added) (sym is)

  -- its lines were gained, where the basis is shown
  pub shown_next : (a b : SinkState) → t.shows_basis ≡ true → GainsAll a b added_lines → OfNext t old (GainsAll a b)
  shown_next a b is w = (added, is_next, subst (GainsAll a b) (lines_are is) w)

  -- nothing was gained, where it is hidden
  pub hidden_next : (a b : SinkState) → t.shows_basis ≡ false → GainsAll a b [] → OfNext t old (GainsAll a b)
  hidden_next a b is w = (
    added,
    is_next,
    subst (λ (shows : Bool). GainsAll a b (lines_of shows t.letters.names t.modulus (old.done + 1) added)) (sym is) w,
  )

  -- its lines were not gained whole, where the basis is shown
  pub undone_shown : (a b : SinkState) (Here Next : Type 0) (fault : PrintFault) → t.shows_basis ≡ true → Next → IsUnwritten a b added_lines fault →
      IsNextUndone t old a b Here Next fault
  undone_shown a b Here Next (Limit kind d value) is next u = absurd u
  undone_shown a b Here Next WriteFault is next u = (u.0, (added, is_next, subst (GainsPart a b) (lines_are is) u.1), next)
  undone_shown a b Here Next NoMemory is next u = inr ((added, is_next, subst (GainsSome a b) (lines_are is) u), next)

  -- the elements of a basis have residues of the modulus
  pub residues_of : IsSetting (ideal_of_task t) → IsKept new → All (HasResidues t.modulus) new.elements
  residues_of st kept =
      let below : IsBelow (ideal_of_task t) (new.done + 1) new =
      record { kept = kept; next = refl; same_weights = kept_weights ∙ same; reduced = reduced } in
      All-from_members (HasResidues t.modulus) new.elements (λ g m. ((lists_lower (ideal_of_task t) st (new.done + 1) new below g).0
      m).2.inside.element.residues)
