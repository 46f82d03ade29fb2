-- Each quantity of a degree has a value over the basis below.
use Rattle.std.proofs.Common.{◌≢◌, ◌+◌, ◌*◌, ◌%◌, ◌<◌, ℕ, List, [], ◌∷◌, ◌++◌, length, refl, sym, ap, ◌∙◌, inl, inr, arith, subst}
use Rattle.std.proofs.Common.{All, AllPairs, Option}
use Rattle.std.specs.List.{AllZip, Contains, flat_map}
use Rattle.std.proofs.Math.Nat.{mod-lt, mod-mod}
use Rattle.std.proofs.lemmas.List.Elements.{All-contains, Contains-append_cases}
use Rattle.words.specs.Order.{IsLetterwiseGreater}
use Rattle.words.specs.Words.{words_of_degree}
use Rattle.words.proofs.Degrees.{words_of_degree-falling}
use Rattle.words.proofs.Members.{All-from_members, Contains-cases, Contains-first, Contains-flat_map_cases, Contains-map}
use Rattle.words.proofs.Members.{Contains-map_cases, Contains-more, Contains-none}
use Rattle.free_poly.specs.declared.term.Term.{Term}
use Rattle.free_poly.specs.Terms.{total_at}
use Rattle.free_poly.proofs.FromWords.{from_words, from_words-absent, from_words-all, from_words-polynomial, from_words-total, listed}
use Rattle.free_poly.proofs.Totals.{total_at-absent}
use Rattle.ideal_laws.specs.Ideal.{Ideal}
use Rattle.ideal_laws.specs.declared.limits.LimitKind.{LimitKind}
use Rattle.ideal_laws.specs.declared.limits.LimitKind.TheVariants.{PlainWords, Rows, Columns, Entries, Cells, Terms, NormalWords}
use Rattle.ideal_laws.specs.Closure.{AreObstructions, IsNormal, IsObstruction, Overlap, obstruction_row}
use Rattle.ideal_laws.specs.Engine.{Elements, of_degree}
use Rattle.ideal_laws.specs.Kept.{IsBelow}
use Rattle.ideal_laws.specs.Laws.{IsSetting}
use Rattle.ideal_laws.specs.Quantities.{AreClosed, IsQuantity, IsRowOf, contested_in, reducers_in, terms_in, words_of}
use Rattle.ideal_laws.proofs.Lower.{lists_factor_free}
use Rattle.ideal_laws.proofs.OneBasis.{has_one_basis}
use Rattle.ideal_laws.proofs.Search.{AllPairs-kept, in_kept, kept, kept-says}
use Rattle.job_steps.proofs.Closures.{some_columns, some_reducers, words_in}
use Rattle.job_steps.proofs.InDegree.{IsInDegree, all_words, overlap_in, reducer_in, reducer_less, relation_in, row_in}
use Rattle.job_steps.proofs.Obstructions.{some_obstructions}
use Rattle.job_steps.proofs.Reducers.{is_normal}

module _ (ideal : Ideal) (st : IsSetting ideal) (d : ℕ) (below : Elements) (is_below : IsBelow ideal d below) where
  abbrev G : List (List Term)
  G = below.elements

  abbrev words : List (List ℕ)
  words = all_words ideal st d below is_below

  abbrev Is : List Term → Type 0
  Is = IsInDegree ideal st d below is_below

  falls : AllPairs IsLetterwiseGreater words
  falls = words_of_degree-falling ideal.weights st.are_weights d

  abbrev IsOverlap : Overlap → Type 0
  IsOverlap o = IsObstruction ideal.weights G d o.left o.right o.before o.shared o.behind

  obstructions : (overlaps : List Overlap) × AreObstructions ideal.weights G d overlaps
  obstructions = some_obstructions ideal.weights G d (lists_factor_free ideal st d below is_below) words falls
      (overlap_in ideal st d below is_below)

  module _ (o : Overlap) (h : IsOverlap o) where
    abbrev sum : List Term
    sum = obstruction_row ideal.modulus h.first o.behind o.before h.second

    abbrev residue : List ℕ → ℕ
    residue w = total_at sum w % ideal.modulus

    none_at : (w : List ℕ) → (Contains words w → ⊥) → All (λ t. t.word ≢ w) sum
    none_at w off = All-from_members (λ t. t.word ≢ w) sum (λ t m e. off (subst (Contains words) e
        (row_in ideal st d below is_below o h t.word (Contains-map (λ (s : Term). s.word) sum t m))))

    -- the row of an obstruction has the residues of the sum at the words of the degree
    row_of : (row : List Term) × IsRowOf ideal.modulus ideal.weights G d o row × Is row
    row_of = (
      from_words words residue,
      record {
        obstruction = h;
        form = from_words-polynomial words residue falls;
        residues = from_words-all (λ t. t.coefficient < ideal.modulus) words residue
            (λ x m ne. mod-lt (total_at sum x) (omega (arith, st.modulus.two_or_more)));
        same = λ w. elim (listed words w) [
          | inl m ↦ ap (λ (n : ℕ). n % ideal.modulus) (from_words-total words residue w falls m) ∙ mod-mod (total_at sum w) ideal.modulus
          | inr off ↦ ap (λ (n : ℕ). n % ideal.modulus) (from_words-absent words residue w off ∙ sym (total_at-absent sum w (none_at w off)))
        ];
      },
      λ v m. let c = Contains-map_cases (λ (t : Term). t.word) (from_words words residue) v m in
          subst (Contains words) c.2 (All-contains (λ (t : Term). Contains words t.word) (from_words words residue) c.0
          (from_words-all (λ t. Contains words t.word) words residue (λ x n ne. n)) c.1),
    )

  overlap_rows : (os : List Overlap) → ((o : Overlap) → Contains os o → IsOverlap o) →
      (rows : List (List Term)) × AllZip (IsRowOf ideal.modulus ideal.weights G d) os rows × ((f : List Term) → Contains rows f → Is f)
  overlap_rows [] all = ([], tt, λ f m. absurd (Contains-none f m))
  overlap_rows (o ∷ os) all =
      let r = row_of o (all o (Contains-first o os)) in
      let rest = overlap_rows os (λ q m. all q (Contains-more o os q m)) in (
        r.0 ∷ rest.0,
        (r.1, rest.1),
        λ f m. elim (Contains-cases r.0 rest.0 f m) [
          | inl e ↦ subst Is e r.2
          | inr n ↦ rest.2 f n
        ],
      )

  -- the rows with their columns and reducers
  record HasClosed : Type 0 where
    pub rows : List (List Term)
    pub columns : List (List ℕ)
    pub reducers : List (Option (List Term))
    pub are : AreClosed ideal G d rows columns reducers

  closed : HasClosed
  closed =
      let o = obstructions in
      let r = overlap_rows o.0 (λ q m. (o.1.exactly q).0 m) in
      let rows = of_degree ideal.weights d ideal.relations ++ r.0 in
      let has_words : (w : List ℕ) → Contains (words_of rows) w → Contains words w = λ w m.
      (let t = Contains-map_cases (λ (s : Term). s.word) (flat_map (λ f. f) rows) w m in
      let f = Contains-flat_map_cases (λ (g : List Term). g) rows t.0 t.1 in
      let here : Contains (words_in f.0) w = subst (Contains (words_in f.0)) t.2 (Contains-map (λ (s : Term). s.word) f.0 t.0 f.2) in
      elim (Contains-append_cases (of_degree ideal.weights d ideal.relations) r.0 f.0 f.1) [
        | inl n ↦ relation_in ideal st d below is_below f.0 n w here
        | inr n ↦ r.2 f.0 n w here
      ]) in
      let c = some_columns G (words_of rows) (reducer_less ideal st d below is_below) words falls has_words
      (reducer_in ideal st d below is_below) in
      let s = some_reducers G c.0 in
      record {
        rows = rows;
        columns = c.0;
        reducers = s.0;
        are = record {
          are_rows = record { overlaps = o.0; overlap_rows = r.0; are_obstructions = o.1; each = r.1; joined = refl };
          are_columns = c.1;
          are_reducers = s.1;
        };
      }

  -- each kind of quantity has a value
  pub some_quantity : (kind : LimitKind) → (q : ℕ) × IsQuantity ideal below d kind q
  some_quantity PlainWords = (length (words_of_degree ideal.weights d), refl)
  some_quantity Rows = (length (of_degree ideal.weights d ideal.relations) + length obstructions.0, (obstructions.0, obstructions.1, refl))
  some_quantity Columns = (length closed.columns, (closed.rows, closed.columns, closed.are.are_rows, closed.are.are_columns, refl))
  some_quantity Entries = (terms_in closed.rows + terms_in (reducers_in closed.reducers), (closed.rows, closed.columns, closed.reducers, closed.are, refl))
  some_quantity Cells = (length closed.rows * contested_in closed.reducers, (closed.rows, closed.columns, closed.reducers, closed.are, refl))
  some_quantity Terms = let b = has_one_basis ideal st d in (terms_in G + terms_in b.value, (b.value, b.holds, refl))
  some_quantity NormalWords =
      let b = has_one_basis ideal st d in
      let decide = is_normal (G ++ b.value) in
      let normal = kept (IsNormal (G ++ b.value)) decide words in (
        length normal,
        (
          b.value,
          normal,
          b.holds,
          record {
            exactly = λ w. (
              kept-says (IsNormal (G ++ b.value)) decide words w,
              λ h. in_kept (IsNormal (G ++ b.value)) decide words w h.0 h.1,
            );
            falling = AllPairs-kept (IsNormal (G ++ b.value)) decide IsLetterwiseGreater words falls;
          },
          refl,
        ),
      )
