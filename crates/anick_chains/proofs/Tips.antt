-- Tips in words, and the shortest word that gives one.
use Rattle.std.proofs.Common.{◌≡◌, ◌≢◌, ◌⊎◌, ◌≤◌, ℕ, List, [], ◌∷◌, ◌++◌, length, refl, sym, ap, ◌∙◌, inl, inr, arith, subst, length-append, append-nil}
use Rattle.std.proofs.lemmas.Bool.{cases_lt}
use Rattle.std.proofs.lemmas.List.{same_from_push, append_assoc}
use Rattle.ideal_laws.proofs.Meeting.{IsSplit, split}
use Rattle.anick_chains.specs.Chains.{EndsWithOnlyTip, HasTip}
use Rattle.anick_chains.specs.Laws.{AreTips}
use Rattle.anick_chains.specs.Pairs.{IsShortest}
use Rattle.anick_chains.proofs.Ends.{append-none, ended}

module _ (T : List ℕ → Type 0) where
  -- a tip in a word is one in each word round it
  pub HasTip-round : (u w v : List ℕ) → HasTip T w → HasTip T (u ++ w ++ v)
  HasTip-round u w v h = record {
    tip = h.tip;
    is_tip = h.is_tip;
    inside = record {
      before = u ++ h.inside.before;
      after = h.inside.after ++ v;
      joined = ap (λ (x : List ℕ). u ++ x ++ v) h.inside.joined ∙ simp append_assoc refl;
    };
  }

  -- a tip in a word is one in each word that it begins
  pub HasTip-front : (w v : List ℕ) → HasTip T w → HasTip T (w ++ v)
  HasTip-front w v h = HasTip-round [] w v h

  -- a tip in a word is one in each word that it ends
  pub HasTip-end : (u w : List ℕ) → HasTip T w → HasTip T (u ++ w)
  HasTip-end u w h = subst (HasTip T) (append-nil (u ++ w)) (HasTip-round u w [] h)

  -- a tip stands in each word round it
  pub HasTip-here : (u v x : List ℕ) → T v → HasTip T (u ++ v ++ x)
  HasTip-here u v x t = record { tip = v; is_tip = t; inside = record { before = u; after = x; joined = refl } }

  -- where two words end with one another, one of them is a factor of the other
  same_tips : AreTips T → (u v u' v' : List ℕ) → T v → T v' → u ++ v ≡ u' ++ v' → length u ≤ length u' → (u ≡ u') × (v ≡ v')
  same_tips tips u v u' v' t t' e le =
      let s = split u v u' v' e le in
      let same : v' ≡ v = tips.apart v' v t' t (record { before = s.between; after = []; joined = s.rest ∙ sym (append-nil (s.between ++ v')) }) in
      let none : s.between ≡ [] = nothing s.between v (s.rest ∙ ap (λ (x : List ℕ). s.between ++ x) same) in
      (sym (s.longer ∙ ap (λ (x : List ℕ). u ++ x) none ∙ append-nil u), sym same)
    where
      nothing : (b w : List ℕ) → w ≡ b ++ w → b ≡ []
      nothing [] w e = refl
      nothing (x ∷ b) w e = absurd (omega (arith, ap length e, length-append b w))

  -- tips that end one word are one
  pub one_tip : AreTips T → (u v u' v' : List ℕ) → T v → T v' → u ++ v ≡ u' ++ v' → (u ≡ u') × (v ≡ v')
  one_tip tips u v u' v' t t' e = elim (cases_lt (length u') (length u)) [
    | inr le ↦ same_tips tips u v u' v' t t' e le
    | inl lt ↦ let s = same_tips tips u' v' u v t' t (sym e) (omega (arith, lt)) in (sym s.0, sym s.1)
  ]

  -- where q followed by r, and by no shorter beginning of r, contains a tip, the only one stands at the end
  pub shortest-ends : AreTips T → (q r : List ℕ) → (HasTip T q → ⊥) → IsShortest T q r → EndsWithOnlyTip T (q ++ r)
  shortest-ends tips q r free h =
      let i = h.tip.inside in
      let last : (u v x : List ℕ) → T v → q ++ r ≡ u ++ v ++ x → x ≡ [] = λ u v x t e. at_end u v x t e in
      let none : i.after ≡ [] = last i.before h.tip.tip i.after h.tip.is_tip i.joined in
      let here : q ++ r ≡ i.before ++ h.tip.tip = i.joined ∙ ap (λ (x : List ℕ). i.before ++ h.tip.tip ++ x) none ∙ append-nil (i.before ++ h.tip.tip) in
      record {
        before = i.before;
        tip = h.tip.tip;
        is_tip = h.tip.is_tip;
        joined = here;
        only = λ u v x t e.
            let x_none = last u v x t e in
            let there : q ++ r ≡ u ++ v = e ∙ ap (λ (y : List ℕ). u ++ v ++ y) x_none ∙ append-nil (u ++ v) in
            let s = one_tip tips u v i.before h.tip.tip t h.tip.is_tip (sym there ∙ here) in
            (s.0, s.1, x_none);
      }
    where
      some : r ≢ []
      some e = free (subst (HasTip T) (ap (λ (x : List ℕ). q ++ x) e ∙ append-nil q) h.tip)

      at_end : (u v x : List ℕ) → T v → q ++ r ≡ u ++ v ++ x → x ≡ []
      at_end u v [] t e = refl
      at_end u v (c ∷ x) t e =
          let a = ended (c ∷ x) (λ is. cc is) in
          let b = ended r some in
          let whole : (q ++ b.front) ++ b.last ∷ [] ≡ (u ++ v ++ a.front) ++ a.last ∷ [] =
          append_assoc q b.front (b.last ∷ []) ∙ sym (ap (λ (y : List ℕ). q ++ y) b.is) ∙ e ∙ ap (λ (y : List ℕ). u ++ v ++ y) a.is
          ∙ sym (append_assoc (u ++ v) a.front (a.last ∷ [])) in
          let s = same_from_push (q ++ b.front) (u ++ v ++ a.front) b.last a.last whole in
          absurd (h.least b.front (b.last ∷ []) b.is (λ is. cc is) (subst (HasTip T) (sym s.0) (HasTip-here u v a.front t)))

  -- and the other way round
  pub ends-shortest : (q r : List ℕ) → EndsWithOnlyTip T (q ++ r) → IsShortest T q r
  ends-shortest q r h = record {
    tip = subst (HasTip T) (append-nil (h.before ++ h.tip) ∙ sym h.joined) (HasTip-here h.before h.tip [] h.is_tip);
    least = λ s rest is some inner.
        let i = inner.inside in
        let e : q ++ r ≡ i.before ++ inner.tip ++ (i.after ++ rest) =
        ap (λ (x : List ℕ). q ++ x) is ∙ sym (append_assoc q s rest) ∙ ap (λ (x : List ℕ). x ++ rest) i.joined
        ∙ append_assoc (i.before ++ inner.tip) i.after rest in
        some (append-none i.after rest (h.only i.before inner.tip (i.after ++ rest) inner.is_tip e).2);
  }

  -- of two shortest beginnings of one word each is the other
  pub same_shortest : (q r w s v : List ℕ) → IsShortest T q r → IsShortest T q s → r ++ w ≡ s ++ v → r ≡ s
  same_shortest q r w s v h k e = elim (cases_lt (length s) (length r)) [
    | inr le ↦ one_of r w s v h k e le
    | inl lt ↦ sym (one_of s v r w k h (sym e) (omega (arith, lt)))
  ]
    where
      one_of : (a x b y : List ℕ) → IsShortest T q a → IsShortest T q b → a ++ x ≡ b ++ y → length a ≤ length b → a ≡ b
      one_of a x b y m n e le = by_rest (split a x b y e le)
        where
          by_rest : IsSplit a x b y → a ≡ b
          by_rest t = by_between t.between t.longer
            where
              by_between : (c : List ℕ) → b ≡ a ++ c → a ≡ b
              by_between [] is = sym (is ∙ append-nil a)
              by_between (z ∷ c) is = absurd (n.least a (z ∷ c) is (λ none. cc none) m.tip)

  -- one letter more, where no tip was before
  longer : (q s t rest : List ℕ) (x : ℕ) → (HasTip T (q ++ s) → ⊥) → ((t rest : List ℕ) → s ≡ t ++ rest → rest ≢ [] → HasTip T (q ++ t) → ⊥)
      → s ++ x ∷ [] ≡ t ++ rest → rest ≢ [] → HasTip T (q ++ t) → ⊥
  longer q s t rest x free least is some inner =
      let e = ended rest some in
      let both = same_from_push s (t ++ e.front) x e.last (is ∙ ap (λ (y : List ℕ). t ++ y) e.is ∙ sym (append_assoc t e.front (e.last ∷ []))) in
      by_front e.front both.0
    where
      by_front : (f : List ℕ) → s ≡ t ++ f → ⊥
      by_front [] same = free (subst (λ (y : List ℕ). HasTip T (q ++ y)) (sym (same ∙ append-nil t)) inner)
      by_front (z ∷ f) same = least t (z ∷ f) same (λ none. cc none) inner

  -- a decided search through the beginnings of a word
  module _ (decide : (w : List ℕ) → HasTip T w ⊎ (HasTip T w → ⊥)) where
    -- a word with a tip has a shortest beginning with one
    pub shortest_from : (q s w : List ℕ) → ((t rest : List ℕ) → s ≡ t ++ rest → rest ≢ [] → HasTip T (q ++ t) → ⊥) → HasTip T (q ++ s ++ w)
        → (r : List ℕ) × (v : List ℕ) × (s ++ w ≡ r ++ v) × IsShortest T q r
    shortest_from q s [] least h = (s, [], refl, record { tip = subst (HasTip T) (append-nil (q ++ s)) h; least = least })
    shortest_from q s (x ∷ w) least h = elim (decide (q ++ s)) [
      | inl there ↦ (s, x ∷ w, refl, record { tip = there; least = least })
      | inr free ↦
          let whole : s ++ x ∷ w ≡ (s ++ x ∷ []) ++ w = sym (append_assoc s (x ∷ []) w) in
          let r = shortest_from q (s ++ x ∷ []) w (λ t rest is some inner. longer q s t rest x free least is some inner)
          (subst (HasTip T) (append_assoc q s (x ∷ w) ∙ ap (λ (y : List ℕ). q ++ y) whole ∙ sym (append_assoc q (s ++ x ∷ []) w)) h) in
          (r.0, r.1, whole ∙ r.2, r.3)
    ]
