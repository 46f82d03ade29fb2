-- The chains of a degree are the free letters and the chains of lower degrees with one piece more, each once.
use Rattle.std.proofs.Common.{◌≡◌, ◌≢◌, ◌↔◌, ◌+◌, ◌-◌, ◌<◌, ◌&&◌, ◌==◌, ℕ, Bool, true, false, not, cond, List, [], ◌∷◌, ◌++◌, length, refl, sym}
use Rattle.std.proofs.Common.{ap, ◌∙◌, inl, inr, arith, subst, AllPairs, append-nil, eq-eqb}
use Rattle.std.specs.List.{Contains, flat_map, range_with_len}
use Rattle.std.proofs.lemmas.Bool.{eqb-true}
use Rattle.std.proofs.lemmas.List.Elements.{All-nil, Contains-append_cases, Contains-append_left, Contains-append_right}
use Rattle.std.proofs.lemmas.List.Kept.{AllPairs-cons}
use Rattle.std.proofs.lemmas.List.{same_from_push}
use Rattle.words.specs.Words.{AreWeights, degree_of, weight_of}
use Rattle.words.proofs.Degrees.{Contains-range, range-bounds, range-rising}
use Rattle.words.proofs.Members.{AllPairs-append, AllPairs-map, AllPairs-nil, All-from_members, Contains-cases, Contains-first, Contains-flat_map}
use Rattle.words.proofs.Members.{Contains-flat_map_cases, Contains-map, Contains-map_cases, Contains-none}
use Rattle.words.proofs.Weights.{degree_of-positive}
use Rattle.free_poly.specs.declared.term.Term.{Term}
use Rattle.overlaps.specs.Walk.{lead_word}
use Rattle.anick_chains.specs.BasisTips.{leads_of}
use Rattle.anick_chains.specs.Chains.{HasTip, IsChain, IsFirst, chain_degree}
use Rattle.anick_chains.specs.Laws.{AreListedTips, IsExtension}
use Rattle.anick_chains.specs.Walk.{chains_at, continued, free_letter, free_letters, last_piece, next_of, onward, stands}
use Rattle.anick_chains.proofs.Ends.{IsEnded}
use Rattle.anick_chains.proofs.Extensions.{are_tips, extension_to_next, next_to_extension}
use Rattle.anick_chains.proofs.LastPieces.{chain_ended, last_piece-is}
use Rattle.anick_chains.proofs.Mates.{IsLast, alone, after, chain_degree-ended, last_free, last_of_chain, letter_free, longer_chain}
use Rattle.anick_chains.proofs.Members.{AllPairs-joined}
use Rattle.anick_chains.proofs.Nexts.{next_pieces-apart, next_pieces-is, next_pieces-says}
use Rattle.anick_chains.proofs.Stands.{stands-free, stands-not}

-- the first pieces and the last one
pub continued-says : (front next c : List (List ℕ)) → Contains (continued front next) c → (r : List ℕ) × Contains next r × (front ++ r ∷ [] ≡ c)
continued-says front next c m = Contains-map_cases (λ r. front ++ r ∷ []) next c m

continued-apart : (front next : List (List ℕ)) → AllPairs (λ r s. r ≢ s) next → AllPairs (λ a b. a ≢ b) (continued front next)
continued-apart front next apart = AllPairs-map (λ r. front ++ r ∷ []) (λ r s. r ≢ s) (λ a b. a ≢ b)
    (λ r s ne e. ne (same_from_push front front r s e).1) next apart

module _ (weights : List ℕ) (G : List (List Term)) (tips : AreListedTips (length weights) (leads_of G)) where
  abbrev T : List ℕ → Type 0
  T = Contains (leads_of G)

  abbrev names : ℕ
  names = length weights

  free_letter-says : (d x : ℕ) (r : List ℕ) → Contains (free_letter weights G d x) r →
      (x ∷ [] ≡ r) × (weight_of weights x ≡ d) × (stands (leads_of G) (x ∷ []) ≡ false)
  free_letter-says d x r m = by_tests (weight_of weights x == d) refl (stands (leads_of G) (x ∷ [])) refl m
    where
      by_tests : (a : Bool) → (weight_of weights x == d) ≡ a → (s : Bool) → stands (leads_of G) (x ∷ []) ≡ s → Contains (cond (a && not s) ((x ∷ []) ∷ []) []) r
          → (x ∷ [] ≡ r) × (weight_of weights x ≡ d) × (stands (leads_of G) (x ∷ []) ≡ false)
      by_tests false e s f n = absurd (Contains-none r n)
      by_tests true e true f n = absurd (Contains-none r n)
      by_tests true e false f n = elim (Contains-cases (x ∷ []) [] r n) [
        | inl is ↦ (is, eqb-true (weight_of weights x) d e, f)
        | inr none ↦ absurd (Contains-none r none)
      ]

  -- a free letter is a first piece
  pub free_letters-says : (d : ℕ) (r : List ℕ) → Contains (free_letters weights G d) r → IsFirst T names r × (degree_of weights r ≡ d)
  free_letters-says d r m =
      let x = Contains-flat_map_cases (free_letter weights G d) (range_with_len 0 (length weights)) r m in
      let s = free_letter-says d x.0 r x.2 in (
        record {
          letter = x.0;
          within = omega (arith, (range-bounds 0 (length weights) x.0 x.1).1);
          is = sym s.0;
          no_tip = λ t. stands-free (leads_of G) (x.0 ∷ []) s.2 (subst (HasTip (Contains (leads_of G))) (sym s.0) (record {
            tip = r;
            is_tip = t;
            inside = record { before = []; after = []; joined = sym (append-nil r) };
          }));
        },
        omega (arith, s.1, sym (ap (degree_of weights) s.0)),
      )

  -- and each first piece of the degree is a free letter
  pub free_letters-is : (d : ℕ) (r : List ℕ) → IsFirst T names r → degree_of weights r ≡ d → Contains (free_letters weights G d) r
  free_letters-is d r f e =
      let free = stands-not (leads_of G) (f.letter ∷ []) (letter_free T names (are_tips names (leads_of G) tips) f.letter
      (λ t. f.no_tip (subst T (sym f.is) t))) in
      let degree : weight_of weights f.letter ≡ d = omega (arith, e, ap (degree_of weights) f.is) in
      subst (Contains (free_letters weights G d)) (sym f.is)
      (Contains-flat_map (free_letter weights G d) (range_with_len 0 (length weights)) f.letter (f.letter ∷ [])
      (Contains-range 0 (length weights) f.letter (omega arith) (omega (arith, f.within)))
      (by_tests f.letter (weight_of weights f.letter == d) (eq-eqb _ _ degree) (stands (leads_of G) (f.letter ∷ [])) free))
    where
      by_tests : (x : ℕ) (a : Bool) → a ≡ true → (s : Bool) → s ≡ false → Contains (cond (a && not s) ((x ∷ []) ∷ []) []) (x ∷ [])
      by_tests x true e false f = Contains-first (x ∷ []) []
      by_tests x false e s f = cc e
      by_tests x true e true f = cc f

  -- each free letter once
  pub free_letters-apart : (d : ℕ) → AllPairs (λ r s. r ≢ s) (free_letters weights G d)
  free_letters-apart d =
      AllPairs-joined (free_letter weights G d) (λ x y. x < y) (λ r s. r ≢ s) (range_with_len 0 (length weights)) (range-rising 0 (length weights))
      (λ x m. one ((weight_of weights x == d) && not (stands (leads_of G) (x ∷ []))) x)
      (λ x y r s m n lt u v e.
      let i : x ∷ [] ≡ y ∷ [] = (free_letter-says d x r u).0 ∙ e ∙ sym (free_letter-says d y s v).0 in
      let same : x ≡ y = cc i in
      omega (arith, lt, same))
    where
      one : (a : Bool) (x : ℕ) → AllPairs (λ r s. r ≢ s) (cond a ((x ∷ []) ∷ []) [])
      one true x = AllPairs-cons (λ r s. r ≢ s) (x ∷ []) [] (All-nil (λ s. x ∷ [] ≢ s)) (AllPairs-nil (λ r s. r ≢ s))
      one false x = AllPairs-nil (λ r s. r ≢ s)

  -- a next piece makes a chain of the degree
  pub next_of-says : (d : ℕ) (c : List (List ℕ)) → IsChain T names c → chain_degree weights c < d → (r : List ℕ) → Contains (next_of weights G d c) r
      → IsChain T names (c ++ r ∷ []) × (chain_degree weights (c ++ r ∷ []) ≡ d)
  next_of-says d c h lt r m =
      let e = chain_ended T names c h in
      let chain = subst (IsChain T names) e.is h in
      let last : last_piece c ≡ e.last = ap last_piece e.is ∙ last_piece-is e.front e.last in
      let tip_laws = are_tips names (leads_of G) tips in
      let free = last_free T names tip_laws e.front e.last (last_of_chain T names e.front e.last chain) in
      let n = next_pieces-says weights G tips (last_piece c) (degree_of weights (last_piece c) + (d - chain_degree weights c)) (omega arith) r m in
      let next = extension_to_next T tip_laws names tips.over e.last r free (subst (λ (q : List ℕ). IsExtension T q r) last n.0) in (
        subst (λ (x : List (List ℕ)). IsChain T names (x ++ r ∷ [])) (sym e.is) (longer_chain T names e.front e.last r chain next),
        omega (arith, lt, n.1, chain_degree-ended weights c r),
      )

  -- and each chain of the degree with more than one piece is made so
  pub next_of-is : AreWeights weights → (d : ℕ) (c : List (List ℕ)) (r : List ℕ) → IsChain T names c → IsChain T names (c ++ r ∷ []) →
      chain_degree weights (c ++ r ∷ []) ≡ d
      → Contains (next_of weights G d c) r
  next_of-is aw d c r h k e = by_last (last_of_chain T names c r k)
    where
      by_last : IsLast T names c r → Contains (next_of weights G d c) r
      by_last (alone none f) = absurd (subst (IsChain T names) none h)
      by_last (after rs q is a n) =
          let last : last_piece c ≡ q = ap last_piece is ∙ last_piece-is rs q in
          next_pieces-is weights G tips (last_piece c) (degree_of weights (last_piece c) + (d - chain_degree weights c)) (omega arith) r
          (subst (λ (x : List ℕ). IsExtension T x r) (sym last) (next_to_extension T (are_tips names (leads_of G) tips) names q r n))
          (omega (arith, e, chain_degree-ended weights c r, degree_of-positive weights aw r n.some))

  module _ (aw : AreWeights weights) (d : ℕ) (below : List (List (List ℕ)))
      (exactly : (c : List (List ℕ)) → Contains below c ↔ (IsChain T names c × (chain_degree weights c < d))) where
    -- what is listed is a chain of the degree
    pub chains_at-says : (c : List (List ℕ)) → Contains (chains_at weights G d below) c → IsChain T names c × (chain_degree weights c ≡ d)
    chains_at-says c m = elim (Contains-append_cases (continued [] (free_letters weights G d)) (flat_map (onward weights G d) below) c m) [
      | inl n ↦
          let r = continued-says [] (free_letters weights G d) c n in
          let f = free_letters-says d r.0 r.1 in
          subst (λ (x : List (List ℕ)). IsChain T names x × (chain_degree weights x ≡ d)) r.2 ((f.0, tt), omega (arith, f.1))
      | inr n ↦
          let b = Contains-flat_map_cases (onward weights G d) below c n in
          let r = continued-says b.0 (next_of weights G d b.0) c b.2 in
          let h = (exactly b.0).0 b.1 in
          subst (λ (x : List (List ℕ)). IsChain T names x × (chain_degree weights x ≡ d)) r.2 (next_of-says d b.0 h.0 h.1 r.0 r.1)
    ]

    -- and each chain of the degree is listed
    pub chains_at-is : (c : List (List ℕ)) → IsChain T names c → chain_degree weights c ≡ d → Contains (chains_at weights G d below) c
    chains_at-is c h e = by_end (chain_ended T names c h)
      where
        by_last : (f : List (List ℕ)) (r : List ℕ) → c ≡ f ++ r ∷ [] → IsChain T names (f ++ r ∷ []) → IsLast T names f r →
            Contains (chains_at weights G d below) c
        by_last f r is chain (alone none first) =
            let own : (r ∷ []) ≡ c = ap (λ (x : List (List ℕ)). x ++ r ∷ []) (sym none) ∙ sym is in
            Contains-append_left (continued [] (free_letters weights G d)) (flat_map (onward weights G d) below) c
            (subst (Contains (continued [] (free_letters weights G d))) own
            (Contains-map (λ s. [] ++ s ∷ []) (free_letters weights G d) r (free_letters-is d r first (omega (arith, e, ap (chain_degree weights) own)))))
        by_last f r is chain (after rs q at k n) =
            let whole : chain_degree weights (f ++ r ∷ []) ≡ d = ap (chain_degree weights) (sym is) ∙ e in
            let less : chain_degree weights f < d = omega (arith, whole, chain_degree-ended weights f r, degree_of-positive weights aw r n.some) in
            Contains-append_right (continued [] (free_letters weights G d)) (flat_map (onward weights G d) below) c
            (Contains-flat_map (onward weights G d) below f c ((exactly f).1 (k, less))
            (subst (Contains (onward weights G d f)) (sym is) (Contains-map (λ s. f ++ s ∷ []) (next_of weights G d f) r (next_of-is aw d f r k chain whole))))

        by_end : IsEnded c → Contains (chains_at weights G d below) c
        by_end l =
            let chain = subst (IsChain T names) l.is h in
            by_last l.front l.last l.is chain (last_of_chain T names l.front l.last chain)

    -- once, where the leading words and the chains below are listed once
    pub chains_at-apart : ((i j : ℕ) → i < length G → j < length G → lead_word G i ≡ lead_word G j → i ≡ j) → AllPairs (λ a b. a ≢ b) below
        → AllPairs (λ a b. a ≢ b) (chains_at weights G d below)
    chains_at-apart distinct apart =
        AllPairs-append (λ a b. a ≢ b) (continued [] (free_letters weights G d)) (flat_map (onward weights G d) below)
        (continued-apart [] (free_letters weights G d) (free_letters-apart d))
        (AllPairs-joined (onward weights G d) (λ a b. a ≢ b) (λ a b. a ≢ b) below apart
        (λ c m. continued-apart c (next_of weights G d c) (next_pieces-apart weights G tips (last_piece c) distinct
        (degree_of weights (last_piece c) + (d - chain_degree weights c))))
        (λ a b u v m n ne i j e.
        let r = continued-says a (next_of weights G d a) u i in
        let s = continued-says b (next_of weights G d b) v j in
        ne (same_from_push a b r.0 s.0 (r.2 ∙ e ∙ sym s.2)).0))
        (λ a m. All-from_members (λ b. a ≢ b) (flat_map (onward weights G d) below) (λ b n e.
        let r = continued-says [] (free_letters weights G d) a m in
        let k = Contains-flat_map_cases (onward weights G d) below b n in
        let s = continued-says k.0 (next_of weights G d k.0) b k.2 in
        let none = (same_from_push [] k.0 r.0 s.0 (r.2 ∙ e ∙ sym s.2)).0 in
        subst (IsChain T names) (sym none) ((exactly k.0).0 k.1).0))
