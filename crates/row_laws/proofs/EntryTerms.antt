-- The terms of a row's entries.
use Rattle.std.proofs.Common.{◌≡◌, ◌≢◌, ◌+◌, ◌<◌, ◌==◌, ℕ, zero, suc, Bool, List, [], ◌∷◌, ◌++◌, All, cond, get_or, length, map, refl, sym, ap, ap₂, ◌∙◌, arith}
use Rattle.std.proofs.lemmas.Bool.{eqb-true, false_from_ne_true}
use Rattle.std.proofs.lemmas.List.{map-append}
use Rattle.std.proofs.lemmas.List.Elements.{All-append, All-cons, All-nil}
use Rattle.free_poly.specs.declared.term.Term.{Term}
use Rattle.free_poly.specs.Poly.{element_on}
use Rattle.free_poly.specs.Terms.{term_at}
use Rattle.back_reduce.specs.declared.entry.Entry.{Entry}
use Rattle.back_reduce.specs.Listings.{entries_from, entries_of, entry_at}
use Rattle.row_laws.specs.Elements.{term_in}

entry_within : (k n r : ℕ) → k < n → All (λ (e : Entry). e.column < n) (entry_at k r)
entry_within k n zero lt = All-nil (λ (e : Entry). e.column < n)
entry_within k n (suc r) lt = All-cons (λ (e : Entry). e.column < n) (record { column = k; residue = suc r }) [] lt (All-nil (λ (e : Entry). e.column < n))

within_from : (k n : ℕ) (row : List ℕ) → k + length row ≡ n → All (λ (e : Entry). e.column < n) (entries_from k row)
within_from k n [] is = All-nil (λ (e : Entry). e.column < n)
within_from k n (r ∷ row) is = All-append (λ (e : Entry). e.column < n) (entry_at k r) (entries_from (suc k) row)
    (entry_within k n r (omega (arith, is))) (within_from (suc k) n row (omega (arith, is)))

-- entries stand at columns of the row
pub entries_within : (n : ℕ) (row : List ℕ) → length row ≡ n → All (λ (e : Entry). e.column < n) (entries_of row)
entries_within n row is = within_from 0 n row (omega (arith, is))

some_term : (w : List ℕ) (a : ℕ) → a ≢ 0 → term_at w a ≡ record { word = w; coefficient = a } ∷ []
some_term w a ne = ap (λ (b : Bool). cond b [] (record { word = w; coefficient = a } ∷ [])) (false_from_ne_true (a == 0) (λ e. ne (eqb-true a 0 e)))

term_of_entry : (columns : List (List ℕ)) (k : ℕ) (w : List ℕ) (r : ℕ) → get_or columns k [] ≡ w → map (term_in columns) (entry_at k r) ≡ term_at w r
term_of_entry columns k w zero is = refl
term_of_entry columns k w (suc r) is =
    let with_word : List ℕ → List Term = λ v. record { word = v; coefficient = suc r } ∷ [] in
    ap with_word is ∙ sym (some_term w (suc r) (λ none. cc none))

element_from : (columns ws : List (List ℕ)) (k : ℕ) (row : List ℕ) → length row ≡ length ws → ((i : ℕ) → get_or columns (k + i) [] ≡ get_or ws i []) →
    map (term_in columns) (entries_from k row) ≡ element_on ws row
element_from columns [] k [] l same = refl
element_from columns [] k (r ∷ row) l same = absurd (omega (arith, l))
element_from columns (w ∷ ws) k [] l same = refl
element_from columns (w ∷ ws) k (r ∷ row) l same =
    map-append (term_in columns) (entry_at k r) (entries_from (suc k) row)
    ∙ ap₂ ◌++◌ (term_of_entry columns k w r (ap (λ (n : ℕ). get_or columns n []) (omega arith) ∙ same zero))
    (element_from columns ws (suc k) row (omega (arith, l)) (λ i. ap (λ (n : ℕ). get_or columns n []) (omega arith) ∙ same (suc i)))

-- they are the terms of the row's element
pub element_by_entries : (columns : List (List ℕ)) (row : List ℕ) → length row ≡ length columns →
    map (term_in columns) (entries_of row) ≡ element_on columns row
element_by_entries columns row l = element_from columns columns 0 row l (λ i. ap (λ (n : ℕ). get_or columns n []) (omega arith))
