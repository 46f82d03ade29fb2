-- Published prefix: every move keeps the clause.
use Rattle.std.proofs.Common.{◌≡◌, ◌≢◌, inl, inr, ℕ, ◌+◌, ◌*◌, ◌<◌, ◌≤◌, List, length, get_or, set, refl, sym, ap, ◌∙◌, arith, subst}
use Rattle.std.proofs.Math.Nat.{mod-lt}
use Rattle.std.proofs.lemmas.Bool.{cases_eq}
use Rattle.std.proofs.lemmas.List.{length-map, length-set}
use Rattle.std.proofs.lemmas.List.Elements.{All-get_or, All-map}
use Rattle.field_table.specs.Residues.{IsFieldModulus, negative_of, product_of}
use Rattle.field_table.proofs.Multiples.{plus_multiple-residues}
use Rattle.back_reduce.specs.declared.problem.Problem.{Problem}
use Rattle.back_reduce.specs.Rows.{IsRow}
use Rattle.back_reduce.proofs.RowLists.{row_is}
use Rattle.field_table.proofs.Multiples.{length-plus_multiple}
use Rattle.pivot_core.specs.declared.view.Phase.{Phase}
use Rattle.pivot_core.specs.declared.view.Phase.TheVariants as phase
use Rattle.pivot_core.specs.declared.sight.Sight.{Sight}
use Rattle.pivot_core.specs.Words.{Spot, row_word}
use Rattle.pivot_core.specs.Views.{difference, given_row, inverse_of, lead_at}
use Rattle.pivot_core.specs.Runs.{State, view_at, word_at}
use Rattle.pivot_core.specs.Phases.{HasRow, IsPhase, column_of, published_upto}
use Rattle.pivot_core.specs.Rule.{DisjointRows, PublishedPrefix, Ranges}
use Rattle.pivot_core.proofs.Changes.{IsChange, each_view, numbers_at, word_left}
use Rattle.pivot_core.proofs.Effects.{rows_cases}
use Rattle.pivot_core.proofs.Monic.{lead_at-other, made_monic-before, made_monic-one}
use Rattle.pivot_core.proofs.Moves.{IsMove, IsPut, IsSettling, given_up, goes_on, draws, ends, looks_free, looks_held, puts, wins, loses, reads_more}
use Rattle.pivot_core.proofs.Moves.{reads_last}
use Rattle.pivot_core.proofs.Rows.{row_of_phase}
use Rattle.pivot_core.proofs.Spots.{places_apart, row_words_apart}

-- the clause for a view with this phase and this current row
pub record IsPublished (problem : Problem) (s : State) (f : Phase) (current : List ℕ) : Type 0 where
  -- a current row has as many entries as there are columns, all residues
  pub residues : (r : ℕ) → HasRow f r → IsRow problem.modulus problem.m current
  -- it is 0 before the column of the phase
  pub before : (r j : ℕ) → HasRow f r → j < column_of f → get_or current j 0 ≡ 0
  -- it is 1 there
  pub one : (r : ℕ) → HasRow f r → get_or current (column_of f) 0 ≡ 1
  -- from there on its row words are its entries, as far as the phase has put them
  pub published : (r j : ℕ) → HasRow f r → column_of f ≤ j → j < published_upto problem.m f → word_at problem s (row_word r j) ≡ get_or current j 0

-- where each current row of a state is published so far, that of each one view is
pub published_view : (problem : Problem) (crew : ℕ) (s : State) → PublishedPrefix problem crew s → (i : ℕ) → i < crew →
    IsPublished problem s (view_at problem s i).phase (view_at problem s i).current
published_view problem crew s h i lt = record {
  residues = λ r has. h.residues i r lt has;
  before = λ r j has low. h.before i r j lt has low;
  one = λ r has. h.one i r lt has;
  published = λ r j has from upto. h.published i r j lt has from upto;
}

published_all : (problem : Problem) (crew : ℕ) (s : State) → ((i : ℕ) → i < crew →
    IsPublished problem s (view_at problem s i).phase (view_at problem s i).current) → PublishedPrefix problem crew s
published_all problem crew s h = record {
  residues = λ i r lt has. (h i lt).residues r has;
  before = λ i r j lt has low. (h i lt).before r j has low;
  one = λ i r lt has. (h i lt).one r has;
  published = λ i r j lt has from upto. (h i lt).published r j has from upto;
}

-- the difference of two lists of m numbers is a row of m residues
pub difference_row : (p m : ℕ) (y x : List ℕ) → 0 < p → length y ≡ m → length x ≡ m → IsRow p m (difference p y x)
difference_row p m y x pos size size' = record {
  size = length-plus_multiple p (negative_of p 1) y x ∙ size;
  residues = plus_multiple-residues p (negative_of p 1) y x pos (size ∙ sym size');
}

-- what is published stays within the columns
within_columns : (m n : ℕ) (f : Phase) (j : ℕ) → IsPhase m n f → j < published_upto m f → j < m
within_columns m n phase.Fresh j h lt = absurd (omega (arith, lt))
within_columns m n (phase.Looking row column) j h lt = absurd (omega (arith, lt))
within_columns m n (phase.Putting row column at) j h lt = omega (arith, lt, h.2)
within_columns m n (phase.Claiming row column) j h lt = lt
within_columns m n (phase.Reading row column holder at) j h lt = absurd (omega (arith, lt))
within_columns m n phase.Ended j h lt = absurd (omega (arith, lt))

module _ (problem : Problem) (modulus : IsFieldModulus problem.modulus) where
  -- the leading entry of a row that is not 0
  pub leading : (y : List ℕ) → IsRow problem.modulus problem.m y → lead_at y < problem.m →
      (0 < get_or y (lead_at y) 0) × (get_or y (lead_at y) 0 < problem.modulus)
  leading y row lt =
      let within : lead_at y < length y = omega (arith, lt, row.size) in
      let other = lead_at-other y within in
      (omega (arith, other), All-get_or (λ k. k < problem.modulus) y (lead_at y) 0 within row.residues)

  module _ (t : State) (w : Sight) where
    settled_published : (y : List ℕ) (row : ℕ) → IsRow problem.modulus problem.m y → IsSettling problem y row w → IsPublished problem t w.phase w.current
    settled_published y row own (goes_on within now current seen) =
        let entry = leading y own within in
        subst (λ (f : Phase). IsPublished problem t f w.current) (sym now)
        (subst (IsPublished problem t (phase.Looking row (lead_at y))) (sym current) (record {
          residues = λ r has. record {
            size = length-map y _ ∙ own.size;
            residues = All-map (λ k. k < problem.modulus) (λ k. product_of problem.modulus
                (inverse_of problem.modulus (get_or y (lead_at y) 0)) k) y
                (λ i d inside. mod-lt (inverse_of problem.modulus (get_or y (lead_at y) 0) * get_or y i d) {m = problem.modulus}
                (omega (arith, modulus.two_or_more)));
          };
          before = λ r j has low. made_monic-before problem.modulus y j low;
          one = λ r has. made_monic-one problem.modulus y modulus entry.0 entry.1;
          published = λ r j has from upto. absurd (omega (arith, upto));
        }))
    settled_published y row own (given_up past now current seen) =
        subst (λ (f : Phase). IsPublished problem t f w.current) (sym now)
        (record {
          residues = λ r has. absurd has;
          before = λ r j has low. absurd has;
          one = λ r has. absurd has;
          published = λ r j has from upto. absurd has;
        })

module _ {problem : Problem} {crew : ℕ} {s t : State} {seat : ℕ} {w : Sight} {a : Spot} {x : ℕ} (c : IsChange problem crew s t seat w a x) where
  abbrev v : Sight
  v = view_at problem s seat

  abbrev old : ℕ
  old = word_at problem s a

  module _ (ranges : Ranges problem crew s) (apart : DisjointRows problem crew s) where
    -- the row words of another view's current row stay
    other_row : IsMove problem v old w a x → (i r j : ℕ) → i < crew → i ≢ seat → HasRow (view_at problem s i).phase r → j < problem.m →
        word_at problem t (row_word r j) ≡ word_at problem s (row_word r j)
    other_row move i r j lt other has lj =
        let lr : r < problem.n = omega (arith, apart.drawn i r lt has) in
        elim (rows_cases c move) [
          | inr stay ↦ stay r j lr lj
          | inl m ↦ c.words (row_word r j) (lr, lj) (λ e. row_words_apart r m.row j m.at
              (λ is. other (apart.views_apart i seat r lt c.below has (row_of_phase r m.was
              (sym is)))) (e ∙ m.spot))
        ]

    other_published : IsMove problem v old w a x → (i : ℕ) → i < crew → i ≢ seat →
        IsPublished problem s (view_at problem s i).phase (view_at problem s i).current →
        IsPublished problem t (view_at problem s i).phase (view_at problem s i).current
    other_published move i lt other h = record {
      residues = h.residues;
      before = h.before;
      one = h.one;
      published = λ r j has from upto. other_row move i r j lt other has
          (within_columns problem.m problem.n (view_at problem s i).phase j (ranges.views i lt).numbers upto)
          ∙ h.published r j has from upto;
    }

    module _ (modulus : IsFieldModulus problem.modulus) (was : IsPublished problem s v.phase v.current) where
      -- the clause of the view before, at its phase
      was_at : {f : Phase} → v.phase ≡ f → IsPublished problem s f v.current
      was_at is = subst (λ (g : Phase). IsPublished problem s g v.current) is was

      now_at : {f : Phase} → w.phase ≡ f → w.current ≡ v.current → IsPublished problem t f v.current → IsPublished problem t w.phase w.current
      now_at {f} is current h = subst (λ (g : Phase). IsPublished problem t g w.current) (sym is) (subst (IsPublished problem t f) (sym current) h)

      -- a row goes on in a phase where nothing is published
      unpublished : {f g : Phase} → v.phase ≡ f → w.phase ≡ g → w.current ≡ v.current → ((r : ℕ) → HasRow g r → HasRow f r) →
          column_of g ≡ column_of f → ((j : ℕ) → column_of g ≤ j → j < published_upto problem.m g → ⊥)
          → IsPublished problem t w.phase w.current
      unpublished is now current rows columns none =
          let h = was_at is in
          now_at now current (record {
            residues = λ r has. h.residues r (rows r has);
            before = λ r j has low. h.before r j (rows r has) (omega (arith, low, columns));
            one = λ r has. ap (λ (k : ℕ). get_or v.current k 0) columns ∙ h.one r (rows r has);
            published = λ r j has from upto. absurd (none j from upto);
          })

      -- the word that was put, and those before it
      put_words : (m : IsPut problem v old w a x) (j : ℕ) → m.column ≤ j → j < m.at + 1 → word_at problem t (row_word m.row j) ≡ get_or v.current j 0
      put_words m j from upto = elim (cases_eq j m.at) [
        | inl is ↦ ap (λ (k : ℕ). word_at problem t (row_word m.row k)) is ∙ word_left c m.spot ∙ m.word
            ∙ ap (λ (k : ℕ). get_or v.current k 0) (sym is)
        | inr other ↦ (
            let numbers = numbers_at c ranges m.was in
            c.words (row_word m.row j) (numbers.0, omega (arith, numbers.2, upto)) (λ e. places_apart m.row m.row j m.at other (e ∙ m.spot))
            ∙ (was_at m.was).published m.row j refl from (omega (arith, upto, other)))
      ]

      own_published : IsMove problem v old w a x → IsPublished problem t w.phase w.current
      own_published (draws m) = settled_published problem modulus t w (given_row problem old) old (row_is problem old m.some) m.settling
      own_published (ends m) = now_at m.now m.same.current
          (record {
            residues = λ r has. absurd has;
            before = λ r j has low. absurd has;
            one = λ r has. absurd has;
            published = λ r j has from upto. absurd has;
          })
      own_published (looks_free m) = unpublished m.was m.now m.same.current (λ r has. has) refl (λ j from upto. omega (arith, from, upto))
      own_published (looks_held m) = unpublished m.was m.now m.current (λ r has. has) refl (λ j from upto. omega (arith, upto))
      own_published (puts m) =
          let h = was_at m.was in
          elim m.now [
            | inl more ↦ now_at more.1 m.same.current (record {
              residues = h.residues;
              before = h.before;
              one = h.one;
              published = λ r j has from upto. subst (λ (q : ℕ). word_at problem t (row_word q j) ≡ get_or v.current j 0) has (put_words m j from upto);
            })
            | inr last ↦ now_at last.1 m.same.current (record {
              residues = h.residues;
              before = h.before;
              one = h.one;
              published = λ r j has from upto. subst (λ (q : ℕ). word_at problem t (row_word q j) ≡ get_or v.current j 0) has
                  (put_words m j from (omega (arith, upto, last.0)));
            })
          ]
      own_published (wins m) = subst (λ (f : Phase). IsPublished problem t f w.current) (sym m.now)
          (record {
            residues = λ r has. absurd has;
            before = λ r j has low. absurd has;
            one = λ r has. absurd has;
            published = λ r j has from upto. absurd has;
          })
      own_published (loses m) = unpublished m.was m.now m.current (λ r has. has) refl (λ j from upto. omega (arith, upto))
      own_published (reads_more m) = unpublished m.was m.now m.current (λ r has. has) refl (λ j from upto. omega (arith, upto))
      own_published (reads_last m) = settled_published problem modulus t w (difference problem.modulus v.current (set v.seen m.at old)) m.row
          (difference_row problem.modulus problem.m v.current (set v.seen m.at old) (omega (arith, modulus.two_or_more))
          (ranges.views seat c.below).current (length-set v.seen m.at old ∙ (ranges.views seat c.below).seen)) m.settling

    -- where each current row is of residues, 0 before its column, 1 there and published so far, so it is after a move
    pub published_prefix_kept : IsFieldModulus problem.modulus → PublishedPrefix problem crew s → IsMove problem v old w a x → PublishedPrefix problem crew t
    published_prefix_kept modulus h move = published_all problem crew t
        (each_view c (λ i u. IsPublished problem t u.phase u.current)
        (own_published modulus (published_view problem crew s h seat c.below) move)
        (λ i lt other. other_published move i lt other (published_view problem crew s h i lt)))
