-- Each pair has exactly one mate, and is the mate of its mate.
use Rattle.std.proofs.Common.{ap₂, ◌≡◌, ◌≢◌, ◌⊎◌, ◌+◌, ◌<◌, ℕ, suc, List, [], ◌∷◌, ◌++◌, length, refl, sym, ap, ◌∙◌, inl, inr, arith, subst}
use Rattle.std.proofs.Common.{length-append, append-nil}
use Rattle.std.proofs.lemmas.List.{length_push, same_from_push, append_assoc, append_cancel_left}
use Rattle.std.proofs.lemmas.List.Elements.{All-append, All-cons, All-head, All-nil, All-tail}
use Rattle.words.specs.Words.{IsOver, degree_of}
use Rattle.words.proofs.Weights.{degree_of-append}
use Rattle.ideal_laws.proofs.Factors.{All-back, All-front}
use Rattle.anick_chains.specs.Chains.{AreNext, HasTip, IsChain, IsFirst, IsNext, chain_degree}
use Rattle.anick_chains.specs.Laws.{AreTips, HasMate, IsOneLonger}
use Rattle.anick_chains.specs.Pairs.{IsMate, begun, back, ahead, IsPair, IsShortest, Pair}
use Rattle.anick_chains.proofs.Ends.{ended, no_end}
use Rattle.anick_chains.proofs.Tips.{HasTip-end, HasTip-front, HasTip-here, ends-shortest, same_shortest, shortest-ends, shortest_from}

chain_degree-append : (weights : List ℕ) (qs rs : List (List ℕ)) → chain_degree weights (qs ++ rs) ≡ chain_degree weights qs + chain_degree weights rs
chain_degree-append weights [] rs = omega arith
chain_degree-append weights (q ∷ qs) rs = omega (arith, chain_degree-append weights qs rs)

-- one piece more
pub chain_degree-ended : (weights : List ℕ) (qs : List (List ℕ)) (q : List ℕ) →
    chain_degree weights (qs ++ q ∷ []) ≡ chain_degree weights qs + degree_of weights q
chain_degree-ended weights qs q = chain_degree-append weights qs (q ∷ []) ∙ omega arith

same_pair : (a b : Pair) → a.pieces ≡ b.pieces → a.word ≡ b.word → a ≡ b
same_pair a b e f = λ i. record { pieces = e i; word = f i }

module _ (T : List ℕ → Type 0) (names : ℕ) where
  -- a chain is its first pieces, or none, and a last piece
  pub data IsLast (qs : List (List ℕ)) (q : List ℕ) : Type 0 where
    alone : qs ≡ [] → IsFirst T names q → IsLast qs q
    after : (rs : List (List ℕ)) (r : List ℕ) → qs ≡ rs ++ r ∷ [] → IsChain T names qs → IsNext T names r q → IsLast qs q

  next_last : (p : List ℕ) (qs : List (List ℕ)) (q r : List ℕ) → AreNext T names p (qs ++ q ∷ []) → IsNext T names q r →
      AreNext T names p ((qs ++ q ∷ []) ++ r ∷ [])
  next_last p [] q r h n = (h.0, (n, tt))
  next_last p (s ∷ qs) q r h n = (h.0, next_last s qs q r h.1 n)

  -- one more piece
  pub longer_chain : (qs : List (List ℕ)) (q r : List ℕ) → IsChain T names (qs ++ q ∷ []) → IsNext T names q r → IsChain T names ((qs ++ q ∷ []) ++ r ∷ [])
  longer_chain [] q r h n = (h.0, (n, tt))
  longer_chain (p ∷ qs) q r h n = (h.0, next_last p qs q r h.1 n)

  without_last : (p : List ℕ) (qs : List (List ℕ)) (q : List ℕ) → AreNext T names p (qs ++ q ∷ []) → AreNext T names p qs
  without_last p [] q h = tt
  without_last p (s ∷ qs) q h = (h.0, without_last s qs q h.1)

  next_of_last : (p : List ℕ) (qs : List (List ℕ)) (r q : List ℕ) → AreNext T names p ((qs ++ r ∷ []) ++ q ∷ []) → IsNext T names r q
  next_of_last p [] r q h = h.1.0
  next_of_last p (s ∷ qs) r q h = next_of_last s qs r q h.1

  -- the last piece of a chain and what stands before it
  pub last_of_chain : (qs : List (List ℕ)) (q : List ℕ) → IsChain T names (qs ++ q ∷ []) → IsLast qs q
  last_of_chain [] q h = alone refl h.0
  last_of_chain (p ∷ []) q h = after [] p refl (h.0, tt) h.1.0
  last_of_chain (p ∷ s ∷ qs) q h =
      let e = ended (s ∷ qs) (λ is. cc is) in
      let is : p ∷ s ∷ qs ≡ (p ∷ e.front) ++ e.last ∷ [] = ap (λ (rs : List (List ℕ)). p ∷ rs) e.is in
      after (p ∷ e.front) e.last is (h.0, without_last p (s ∷ qs) q h.1)
      (next_of_last p e.front e.last q (subst (λ (rs : List (List ℕ)). AreNext T names p (rs ++ q ∷ [])) e.is h.1))

  module _ (tips : AreTips T) where
    -- a letter that is no tip contains none
    pub letter_free : (x : ℕ) → (T (x ∷ []) → ⊥) → HasTip T (x ∷ []) → ⊥
    letter_free x other h = by_parts h.inside.before h.tip h.inside.after h.is_tip h.inside.joined
      where
        by_parts : (u v w : List ℕ) → T v → x ∷ [] ≡ u ++ v ++ w → ⊥
        by_parts u [] w t e = tips.some t
        by_parts [] (y ∷ []) w t e = other (subst T (ap (λ (z : ℕ). z ∷ []) (sym (first e))) t)
          where
            first : x ∷ [] ≡ y ∷ w → x ≡ y
            first e = cc e
        by_parts [] (y ∷ z ∷ v) w t e = absurd (omega (arith, ap length e))
        by_parts (c ∷ u) (y ∷ v) w t e = absurd (omega (arith, ap length e, length-append (u ++ y ∷ v) w, length-append u (y ∷ v)))

    -- no piece contains a tip
    pub last_free : (qs : List (List ℕ)) (q : List ℕ) → IsLast qs q → HasTip T q → ⊥
    last_free qs q (alone e f) h = letter_free f.letter (λ t. f.no_tip (subst T (sym f.is) t)) (subst (HasTip T) f.is h)
    last_free qs q (after rs r e c n) h = n.free h

    -- a piece is over the letters
    pub last_over : (qs : List (List ℕ)) (q : List ℕ) → IsLast qs q → IsOver names q
    last_over qs q (alone e f) = subst (IsOver names) (sym f.is) (All-cons (λ x. x < names) f.letter [] f.within (All-nil (λ x. x < names)))
    last_over qs q (after rs r e c n) = n.over

    some_piece : (qs : List (List ℕ)) (q : List ℕ) → (qs ++ q ∷ [] ≡ []) ⊎ IsChain T names (qs ++ q ∷ []) → IsChain T names (qs ++ q ∷ [])
    some_piece qs q (inl none) = absurd (no_end qs q none)
    some_piece qs q (inr c) = c

    module _ (weights : List ℕ) (d : ℕ) where
      abbrev P : Pair → Type 0
      P = IsPair T names weights d

      -- a mate is a pair of the degree
      pub mate_pair : (a b : Pair) → P a → IsMate T a b → P b
      mate_pair a b h (begun x none word pieces) =
          let over = subst (IsOver names) word h.over in
          let normal : HasTip T (x ∷ b.word) → ⊥ = λ k. h.normal (subst (HasTip T) (sym word) k) in
          record {
            chain = inr (subst (IsChain T names) (sym pieces) (
              record {
                letter = x;
                within = All-head (λ y. y < names) x b.word over;
                is = refl;
                no_tip = λ t. normal (HasTip-here T [] (x ∷ []) b.word t);
              },
              tt,
            ));
            over = All-tail (λ y. y < names) x b.word over;
            normal = λ k. normal (HasTip-end T (x ∷ []) b.word k);
            degree = omega (arith, h.degree, ap (chain_degree weights) none, ap (degree_of weights) word, ap (chain_degree weights) pieces);
          }
      mate_pair a b h (back q pieces free word) =
          let c = some_piece b.pieces q (subst (λ (rs : List (List ℕ)). (rs ≡ []) ⊎ IsChain T names rs) pieces h.chain) in
          let l = last_of_chain b.pieces q c in
          record {
            chain = before l;
            over = subst (IsOver names) (sym word) (All-append (λ y. y < names) q a.word (last_over b.pieces q l) h.over);
            normal = λ k. free (subst (HasTip T) word k);
            degree = omega (
              arith,
              h.degree,
              ap (chain_degree weights) pieces,
              chain_degree-ended weights b.pieces q,
              ap (degree_of weights) word,
              degree_of-append weights q a.word,
            );
          }
        where
          before : IsLast b.pieces q → (b.pieces ≡ []) ⊎ IsChain T names b.pieces
          before (alone e f) = inl e
          before (after rs r e c n) = inr c
      mate_pair a b h (ahead qs q r pieces short word more) =
          let c = some_piece qs q (subst (λ (rs : List (List ℕ)). (rs ≡ []) ⊎ IsChain T names rs) pieces h.chain) in
          let free = last_free qs q (last_of_chain qs q c) in
          let over = subst (IsOver names) word h.over in
          let normal : HasTip T (r ++ b.word) → ⊥ = λ k. h.normal (subst (HasTip T) (sym word) k) in
          let n : IsNext T names q r = record {
            some = λ e. free (subst (HasTip T) (ap (λ (x : List ℕ). q ++ x) e ∙ append-nil q) short.tip);
            over = All-front (λ y. y < names) r b.word over;
            free = λ k. normal (HasTip-front T r b.word k);
            ends = shortest-ends T tips q r free short;
          } in
          record {
            chain = inr (subst (IsChain T names) (sym (more ∙ ap (λ (rs : List (List ℕ)). rs ++ r ∷ []) pieces)) (longer_chain qs q r c n));
            over = All-back (λ y. y < names) r b.word over;
            normal = λ k. normal (HasTip-end T r b.word k);
            degree = omega (
              arith,
              h.degree,
              ap (chain_degree weights) more,
              chain_degree-ended weights a.pieces r,
              ap (degree_of weights) word,
              degree_of-append weights r b.word,
            );
          }

      -- and the pair is its mate
      pub mate_back : (a b : Pair) → P a → IsMate T a b → IsMate T b a
      mate_back a b h (begun x none word pieces) =
          back (x ∷ []) (pieces ∙ ap (λ (rs : List (List ℕ)). rs ++ (x ∷ []) ∷ []) (sym none)) (λ k. h.normal (subst (HasTip T) (sym word) k)) word
      mate_back a b h (back q pieces free word) = by_last (last_of_chain b.pieces q
          (some_piece b.pieces q (subst (λ (rs : List (List ℕ)). (rs ≡ []) ⊎ IsChain T names rs) pieces h.chain)))
        where
          by_last : IsLast b.pieces q → IsMate T b a
          by_last (alone none f) = begun f.letter none (word ∙ ap (λ (x : List ℕ). x ++ a.word) f.is)
              (pieces ∙ ap₂ (λ (rs : List (List ℕ)) (x : List ℕ). rs ++ x ∷ []) none f.is)
          by_last (after rs r is c n) = ahead rs r q is (ends-shortest T r q n.ends) word pieces
      mate_back a b h (ahead qs q r pieces short word more) = back r more (λ k. h.normal (subst (HasTip T) (sym word) k)) word

      -- there is one mate
      pub same_mate : (a b c : Pair) → P a → IsMate T a b → IsMate T a c → b ≡ c
      same_mate a b c h (begun x none word pieces) (begun y none' word' pieces') =
          let e : x ∷ b.word ≡ y ∷ c.word = sym word ∙ word' in
          let letters : x ≡ y = cc e in
          same_pair b c (pieces ∙ ap (λ (z : ℕ). (z ∷ []) ∷ []) letters ∙ sym pieces') (cc e)
      same_mate a b c h (begun x none word pieces) (back q pieces' free word') = absurd (no_end c.pieces q (sym pieces' ∙ none))
      same_mate a b c h (begun x none word pieces) (ahead qs q r pieces' short word' more) = absurd (no_end qs q (sym pieces' ∙ none))
      same_mate a b c h (back q pieces free word) (begun x none word' pieces') = absurd (no_end b.pieces q (sym pieces ∙ none))
      same_mate a b c h (back q pieces free word) (back r pieces' free' word') =
          let e = same_from_push b.pieces c.pieces q r (sym pieces ∙ pieces') in
          same_pair b c e.0 (word ∙ ap (λ (x : List ℕ). x ++ a.word) e.1 ∙ sym word')
      same_mate a b c h (back q pieces free word) (ahead qs r s pieces' short word' more) =
          let e = same_from_push b.pieces qs q r (sym pieces ∙ pieces') in
          absurd (free (subst (HasTip T) (append_assoc r s c.word ∙ ap₂ (λ (x y : List ℕ). x ++ y) (sym e.1) (sym word'))
          (HasTip-front T (r ++ s) c.word short.tip)))
      same_mate a b c h (ahead qs q r pieces short word more) (begun x none word' pieces') = absurd (no_end qs q (sym pieces ∙ none))
      same_mate a b c h (ahead qs q r pieces short word more) (back s pieces' free word') =
          let e = same_from_push qs c.pieces q s (sym pieces ∙ pieces') in
          absurd (free (subst (HasTip T) (append_assoc q r b.word ∙ ap₂ (λ (x y : List ℕ). x ++ y) e.1 (sym word)) (HasTip-front T (q ++ r) b.word short.tip)))
      same_mate a b c h (ahead qs q r pieces short word more) (ahead qs' q' r' pieces' short' word' more') =
          let e = same_from_push qs qs' q q' (sym pieces ∙ pieces') in
          let whole : r ++ b.word ≡ r' ++ c.word = sym word ∙ word' in
          let same = same_shortest T q r b.word r' c.word short (subst (λ (x : List ℕ). IsShortest T x r') (sym e.1) short') whole in
          same_pair b c (more ∙ ap (λ (x : List ℕ). a.pieces ++ x ∷ []) same ∙ sym more')
          (append_cancel_left r b.word c.word (whole ∙ ap (λ (x : List ℕ). x ++ c.word) (sym same)))

      -- a mate has a piece more or less
      pub mate_length : (a b : Pair) → IsMate T a b → IsOneLonger b a
      mate_length a b (begun x none word pieces) = inl (ap length pieces ∙ ap (λ (rs : List (List ℕ)). suc (length rs)) (sym none))
      mate_length a b (back q pieces free word) = inr (omega (arith, ap length pieces, length_push b.pieces q))
      mate_length a b (ahead qs q r pieces short word more) = inl (omega (arith, ap length more, length_push a.pieces r))

      module _ (decide : (w : List ℕ) → HasTip T w ⊎ (HasTip T w → ⊥)) (pos : 0 < d) where
        -- there is a mate
        pub some_mate : (a : Pair) → P a → (b : Pair) × IsMate T a b
        some_mate a h = by_pieces a.pieces refl
          where
            by_word : a.pieces ≡ [] → (w : List ℕ) → a.word ≡ w → (b : Pair) × IsMate T a b
            by_word none [] word = absurd (omega (arith, pos, h.degree, ap (chain_degree weights) none, ap (degree_of weights) word))
            by_word none (x ∷ w) word = (record { pieces = (x ∷ []) ∷ []; word = w }, begun x none word refl)

            by_pieces : (rs : List (List ℕ)) → a.pieces ≡ rs → (b : Pair) × IsMate T a b
            by_pieces [] none = by_word none a.word refl
            by_pieces (p ∷ ps) is =
                let e = ended (p ∷ ps) (λ none. cc none) in
                elim (decide (e.last ++ a.word)) [
                  | inr free ↦ (record { pieces = e.front; word = e.last ++ a.word }, back e.last (is ∙ e.is) free refl)
                  | inl there ↦
                      let r = shortest_from T decide e.last [] a.word (λ t rest none some k. nothing t rest none some)
                      (subst (λ (x : List ℕ). HasTip T (x ++ a.word)) (sym (append-nil e.last)) there) in
                      (record { pieces = a.pieces ++ r.0 ∷ []; word = r.1 }, ahead e.front e.last r.0 (is ∙ e.is) r.3 r.2 refl)
                ]
              where
                nothing : (t rest : List ℕ) → [] ≡ t ++ rest → rest ≢ [] → ⊥
                nothing [] rest none some = some (sym none)
                nothing (x ∷ t) rest none some = cc none

        -- each pair has exactly one mate, and is the mate of its mate
        pub has_mate : (a : Pair) → P a → HasMate T names weights d a
        has_mate a h =
            let m = some_mate a h in
            record {
              one = record { value = m.0; holds = m.1; only = λ c k. same_mate a c m.0 h k m.1 };
              pair = mate_pair a m.0 h m.1;
              one_longer = mate_length a m.0 m.1;
              back = mate_back a m.0 h m.1;
            }
