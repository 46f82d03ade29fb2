-- The row of an obstruction.
use Rattle.std.proofs.Common.{ap₂, ◌≡◌, ◌-◌, ◌%◌, ◌<◌, ℕ, List, [], ◌∷◌, ◌++◌, Ok, Err, Result, IfOk, length, map, take, drop, get_or, refl, sym, ap}
use Rattle.std.proofs.Common.{◌∙◌, arith, All, subst, length-append, append_assoc}
use Rattle.std.specs.List.{AllZip, Contains}
use Rattle.std.proofs.lemmas.List.{get_or_default}
use Rattle.std.proofs.lemmas.List.Elements.{All-map}
use Rattle.std.proofs.lemmas.Option.{get_or_from_slice_get, slice_get_within}
use Rattle.std.proofs.Math.Seq.{drop-append_seam, take-append_seam}
use Rattle.words.proofs.Members.{Contains-first, Contains-more}
use Rattle.free_poly.specs.declared.term.Term.{Term}
use Rattle.free_poly.specs.Poly.{IsPolynomial, lead_or_none}
use Rattle.free_poly.specs.Terms.{HasNoPrefix, HasResidues, IsSame, product, scaled, total_at}
use Rattle.free_poly.proofs.Elements.{has_no_prefix_in_degree}
use Rattle.free_poly.proofs.Products.{HasOneDegree-from, HasResidues-product}
use Rattle.ideal_laws.specs.Closure.{IsObstruction, Overlap, obstruction_row, overlap_word}
use Rattle.ideal_laws.specs.Engine.{Elements, of_degree}
use Rattle.ideal_laws.specs.Ideal.{Ideal}
use Rattle.ideal_laws.specs.Kept.{IsKept, lead_degree}
use Rattle.ideal_laws.specs.Quantities.{AreRows, IsRowOf}
use Rattle.overlaps.specs.declared.obstruction.Obstruction.{Obstruction}
use Rattle.overlaps.specs.Listed.{AreListed, IsOf, IsRowFor, obstruction_of}
use Rattle.overlaps.specs.Walk.{lead_word}
use Rattle.overlaps.proofs.Places.{element_kept}
use Rattle.free_poly.proofs.Leads.{lead-is}

-- what follows from three facts holds of an answer of which the three hold
pub IfOk-three : {T E : Type 0} (P Q R S : T → Type 0) → ((f : T) → P f → Q f → R f → S f) → (r : Result T E) → IfOk r P → IfOk r Q → IfOk r R → IfOk r S
IfOk-three P Q R S h (Ok f) p q r = h f p q r
IfOk-three P Q R S h (Err e) p q r = tt

module _ (b : Elements) (kept : IsKept b) where
  abbrev G : List (List Term)
  G = b.elements

  -- no word of an element begins another
  pub no_prefix : (i : ℕ) (f : List Term) → i < length G → f ≡ get_or G i f → HasNoPrefix f
  no_prefix i f lt is =
      subst HasNoPrefix (sym (is ∙ get_or_default G i f [] lt))
      (has_no_prefix_in_degree b.weights kept.weights (get_or G i [])
      (HasOneDegree-from b.weights (lead_degree b.weights (get_or G i [])) (get_or G i []) (element_kept b kept i lt).degree))

  module _ (x : Obstruction) (of : IsOf b.weights G x) where
    -- the left element of an obstruction is in the list
    pub left_within : x.left < length G
    left_within = omega (arith, slice_get_within G of.overlap.left of.obstruction.first of.obstruction.at_left, ap (λ (y : Obstruction). y.left) of.shown)

    -- and so is the right one
    pub right_within : x.right < length G
    right_within = omega (arith, slice_get_within G of.overlap.right of.obstruction.second of.obstruction.at_right, ap (λ (y : Obstruction). y.right) of.shown)

  -- what it is made of
  pub record HasParts (x : Obstruction) (d : ℕ) (o : Overlap) (h : IsObstruction b.weights G d o.left o.right o.before o.shared o.behind) : Type 0 where
    pub left_element : (f : List Term) → f ≡ get_or G x.left f → f ≡ h.first
    pub right_element : (f : List Term) → f ≡ get_or G x.right f → f ≡ h.second
    pub before : take (length (lead_word G x.left) - x.shared) x.word ≡ o.before
    pub behind : drop (length (lead_word G x.left)) x.word ≡ o.behind

  -- an obstruction that shows an overlap is made of its parts
  pub parts : (x : Obstruction) (d : ℕ) (o : Overlap) → x ≡ obstruction_of o →
      (h : IsObstruction b.weights G d o.left o.right o.before o.shared o.behind) → HasParts x d o h
  parts x d o shown h =
      let left : x.left ≡ o.left = ap (λ (y : Obstruction). y.left) shown in
      let right : x.right ≡ o.right = ap (λ (y : Obstruction). y.right) shown in
      let word : x.word ≡ overlap_word o = ap (λ (y : Obstruction). y.word) shown in
      let shared : x.shared ≡ length o.shared = ap (λ (y : Obstruction). y.shared) shown in
      let lead : lead_word G x.left ≡ o.before ++ o.shared = ap (lead_word G) left
      ∙ ap lead_or_none (get_or_from_slice_get G o.left h.first [] h.at_left) ∙ lead-is h.first (o.before ++ o.shared) h.first_lead in
      let size = ap length lead ∙ length-append o.before o.shared in
      let front : length (lead_word G x.left) - x.shared ≡ length o.before = omega (arith, size, shared) in
      record {
        left_element = λ f is. is ∙ ap (λ (i : ℕ). get_or G i f) left ∙ get_or_from_slice_get G o.left h.first f h.at_left;
        right_element = λ f is. is ∙ ap (λ (i : ℕ). get_or G i f) right ∙ get_or_from_slice_get G o.right h.second f h.at_right;
        before =
            ap₂ (λ (n : ℕ) (w : List ℕ). take n w) front (word ∙ append_assoc o.before o.shared o.behind) ∙ take-append_seam o.before (o.shared ++ o.behind);
        behind = ap₂ (λ (n : ℕ) (w : List ℕ). drop n w) (ap length lead) word ∙ drop-append_seam (o.before ++ o.shared) o.behind;
      }

  -- the sum of the two products is the row
  pub is_row : (p a : ℕ) (x : Obstruction) (first second : List Term) (u v : List ℕ) (f g : List Term) → a ≡ p - 1 → f ≡ get_or G x.left f →
      g ≡ get_or G x.right g
      → u ≡ take (length (lead_word G x.left) - x.shared) x.word → v ≡ drop (length (lead_word G x.left)) x.word → first ≡ product [] f v →
      second ≡ product u g []
      → (row : List Term) → IsSame p row (first ++ scaled a second) → IsPolynomial row → HasResidues p row
      → (d : ℕ) (o : Overlap) → x ≡ obstruction_of o → IsObstruction b.weights G d o.left o.right o.before o.shared o.behind → IsRowOf p b.weights G d o row
  is_row p a x first second u v f g is_a is_f is_g is_u is_v is_first is_second row sum form residues d o shown h =
      let q = parts x d o shown h in
      let one : first ≡ product [] h.first o.behind = is_first ∙ ap₂ (λ (k : List Term) (w : List ℕ). product [] k w)
      (q.left_element f is_f) (is_v ∙ q.behind) in
      let two : second ≡ product o.before h.second [] = is_second ∙ ap₂ (λ (k : List Term) (w : List ℕ). product w k [])
      (q.right_element g is_g) (is_u ∙ q.before) in
      let whole : first ++ scaled a second ≡ obstruction_row p h.first o.behind o.before h.second = λ i. one i ++ scaled (is_a i) (two i) in
      record { obstruction = h; form = form; residues = residues; same = λ w. sum w ∙ ap (λ (k : List Term). total_at k w % p) whole }

-- a product of an element has its residues
pub residues-product : (p : ℕ) (G : List (List Term)) (i : ℕ) (f g : List Term) (u v : List ℕ) → All (HasResidues p) G → i < length G →
    f ≡ get_or G i f → g ≡ product u f v → HasResidues p g
residues-product p G i f g u v all lt is made = subst (HasResidues p) (sym made) (HasResidues-product p u f v (subst (HasResidues p) (sym is) (all i f lt)))

-- each item of a list of obstructions is one
pub each_is : (weights : List ℕ) (G : List (List Term)) (d : ℕ) (found : List Obstruction) → AreListed weights G d found → All (IsOf weights G) found
each_is weights G d found h =
    subst (All (IsOf weights G)) (sym h.shown)
    (All-map (IsOf weights G) obstruction_of h.overlaps (λ k e within. record {
      degree = d;
      overlap = get_or h.overlaps k e;
      obstruction = (h.are_obstructions.exactly (get_or h.overlaps k e)).0 (k, within, get_or_default h.overlaps k _ e within);
      shown = refl;
    }))

-- their rows, behind the relations of the degree, are the rows of the degree
pub are_rows : (ideal : Ideal) (G : List (List Term)) (d : ℕ) (found : List Obstruction) (rows : List (List Term)) → AreListed ideal.weights G d found
    → AllZip (IsRowFor ideal.modulus ideal.weights G) found rows → AreRows ideal G d (of_degree ideal.weights d ideal.relations ++ rows)
are_rows ideal G d found rows h each = record {
  overlaps = h.overlaps;
  overlap_rows = rows;
  are_obstructions = h.are_obstructions;
  each = rows_of h.overlaps rows (λ o m. (h.are_obstructions.exactly o).0 m)
      (subst (λ (xs : List Obstruction). AllZip (IsRowFor ideal.modulus ideal.weights G) xs rows) h.shown each);
  joined = refl;
}
  where
    rows_of : (os : List Overlap) (fs : List (List Term)) → ((o : Overlap) → Contains os o →
        IsObstruction ideal.weights G d o.left o.right o.before o.shared o.behind)
        → AllZip (IsRowFor ideal.modulus ideal.weights G) (map obstruction_of os) fs → AllZip (IsRowOf ideal.modulus ideal.weights G d) os fs
    rows_of [] [] all z = z
    rows_of [] (f ∷ fs) all z = absurd z
    rows_of (o ∷ os) [] all z = absurd z
    rows_of (o ∷ os) (f ∷ fs) all z = (z.0 d o refl (all o (Contains-first o os)), rows_of os fs (λ q m. all q (Contains-more o os q m)) z.1)
