-- A piece goes on with the end of a tip that it begins.
use Rattle.std.proofs.Common.{◌≡◌, ◌≢◌, ◌<◌, ℕ, List, [], ◌∷◌, ◌++◌, length, refl, sym, ap, ◌∙◌, inl, inr, arith, subst, length-append, append-nil}
use Rattle.std.specs.List.{Contains}
use Rattle.std.proofs.lemmas.Bool.{cases_lt}
use Rattle.std.proofs.lemmas.List.{nil_from_length, same_from_push, append_assoc}
use Rattle.words.specs.Words.{IsOver}
use Rattle.free_poly.proofs.FromWords.{listed}
use Rattle.ideal_laws.proofs.Factors.{All-back}
use Rattle.ideal_laws.proofs.Meeting.{split}
use Rattle.anick_chains.specs.Chains.{HasTip, IsNext}
use Rattle.anick_chains.specs.Laws.{AreListedTips, AreTips, HasExtensions, IsExtension}
use Rattle.anick_chains.specs.Pairs.{IsShortest}
use Rattle.anick_chains.proofs.Ends.{ended, no_end}
use Rattle.anick_chains.proofs.Tips.{HasTip-front, HasTip-here, ends-shortest, shortest-ends}

module _ (T : List ℕ → Type 0) (tips : AreTips T) (names : ℕ) where
  -- a beginning of a word that leaves letters ends before its last one
  front_of : (r s rest : List ℕ) → r ≡ s ++ rest → rest ≢ [] → (f : List ℕ) (x : ℕ) → r ≡ f ++ x ∷ [] → (t : List ℕ) × (f ≡ s ++ t)
  front_of r s rest is some f x e =
      let l = ended rest some in
      let both = same_from_push (s ++ l.front) f l.last x (append_assoc s l.front (l.last ∷ []) ∙ sym (ap (λ (y : List ℕ). s ++ y) l.is) ∙ sym is ∙ e) in
      (l.front, sym both.0)

  -- what may follow a piece ends a tip that the piece begins
  pub next_to_extension : (q r : List ℕ) → IsNext T names q r → IsExtension T q r
  next_to_extension q r n =
      let e = n.ends in
      let l = ended r n.some in
      let short = ends-shortest T q r e in
      elim (cases_lt (length e.before) (length q)) [
        | inl lt ↦
            let s = split e.before e.tip q r (sym e.joined) (omega (arith, lt)) in record {
              before = e.before;
              shared = s.between;
              front = l.front;
              last = l.last;
              piece_is = s.longer;
              some_shared = λ none. omega (arith, lt, ap length (s.longer ∙ ap (λ (x : List ℕ). e.before ++ x) none ∙ append-nil e.before));
              next_is = l.is;
              is_tip = subst T s.rest e.is_tip;
              free = λ h. short.least l.front (l.last ∷ []) l.is (λ is. cc is) h;
            }
        | inr le ↦
            let s = split q r e.before e.tip e.joined (omega (arith, le)) in
            absurd (n.free (subst (HasTip T) (append-nil (s.between ++ e.tip) ∙ sym s.rest) (HasTip-here T s.between e.tip [] e.is_tip)))
      ]

  -- the end of a tip that a piece begins may follow it, where the piece itself has none and none stands before the end
  pub extension_to_next : ((w : List ℕ) → T w → IsOver names w) → (q r : List ℕ) → (HasTip T q → ⊥) → IsExtension T q r → IsNext T names q r
  extension_to_next over q r free x =
      let some : r ≢ [] = λ e. no_end x.front x.last (sym x.next_is ∙ e) in
      let whole : q ++ r ≡ x.before ++ (x.shared ++ r) = ap (λ (y : List ℕ). y ++ r) x.piece_is ∙ append_assoc x.before x.shared r in
      let short : IsShortest T q r = record {
        tip = subst (HasTip T) (append-nil (x.before ++ (x.shared ++ r)) ∙ sym whole) (HasTip-here T x.before (x.shared ++ r) [] x.is_tip);
        least = λ s rest is more h.
            let f = front_of r s rest is more x.front x.last x.next_is in
            x.free (subst (HasTip T) (append_assoc q s f.0 ∙ ap (λ (y : List ℕ). q ++ y) (sym f.1)) (HasTip-front T (q ++ s) f.0 h));
      } in
      record {
        some = some;
        over = All-back (λ y. y < names) x.shared r (over (x.shared ++ r) x.is_tip);
        free = λ h. longer h x.shared x.some_shared x.is_tip;
        ends = shortest-ends T tips q r free short;
      }
    where
      -- a tip within the rest of a tip
      longer : HasTip T r → (c : List ℕ) → c ≢ [] → T (c ++ r) → ⊥
      longer h c more t =
          let i = h.inside in
          let joined : c ++ r ≡ (c ++ i.before) ++ h.tip ++ i.after = ap (λ (y : List ℕ). c ++ y) i.joined ∙ simp append_assoc refl in
          let same : h.tip ≡ c ++ r = tips.apart h.tip (c ++ r) h.is_tip t (record { before = c ++ i.before; after = i.after; joined = joined }) in
          more (nil_from_length c (omega (
            arith,
            ap length same,
            ap length i.joined,
            length-append (i.before ++ h.tip) i.after,
            length-append i.before h.tip,
            length-append c r,
          )))

-- the words of a list of tips are tips
pub are_tips : (names : ℕ) (tips : List (List ℕ)) → AreListedTips names tips → AreTips (Contains tips)
are_tips names tips t = record { decide = listed tips; apart = t.apart; some = λ m. t.some [] m refl }

-- what may follow a piece without tips is exactly the end of a tip that it begins
pub has_extensions : HasExtensions
has_extensions names tips t piece next free = (
  next_to_extension (Contains tips) (are_tips names tips t) names piece next,
  extension_to_next (Contains tips) (are_tips names tips t) names t.over piece next free,
)
