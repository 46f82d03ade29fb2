-- One more degree: its number, and the degrees that are held.
use Rattle.std.proofs.Common.{◌≡◌, ◌⊎◌, ◌+◌, ◌-◌, ◌<◌, ◌≤◌, ℕ, suc, List, [], ◌∷◌, ◌++◌, length, drop, get_or}
use Rattle.std.proofs.Common.{refl, sym, ap, ◌∙◌, inl, inr, arith, All, subst, length-append}
use Rattle.std.proofs.lemmas.Bool.{cases_lt}
use Rattle.std.proofs.lemmas.List.{get_or_append_left, get_or_push}
use Rattle.std.proofs.lemmas.List.Elements.{All-nil, All-push, All-tail}
use Rattle.free_poly.specs.declared.term.Term.{Term}
use Rattle.ideal_laws.specs.Quantities.{AreNormalWords}
use Rattle.lead_index.specs.declared.lead.Lead.{Lead}
use Rattle.normal_words.specs.Normal.{AreConsecutive, AreNormal, WordsOfDegree, next_of}
use Rattle.normal_words.proofs.Grown.{consecutive-push, next_of-push}
use Rattle.hilbert.specs.Series.{AreCounts, AreHeld, IndexesLeads, IsCount, IsFirstLarge}

-- the normal words of the index are those of the elements
pub normal_words_of : (weights : List ℕ) (G : List (List Term)) (leads : List Lead) (d : ℕ) (words : List (List ℕ)) → IndexesLeads G leads →
    AreNormal weights leads d words → AreNormalWords weights G d words
normal_words_of weights G leads d words i h = record {
  exactly = λ w. (λ m. let s = (h.exactly w).0 m in (s.0, (i.says w).0 s.1), λ (m, n). (h.exactly w).1 (m, (i.says w).1 n));
  falling = h.falling;
}

-- what holds of the number of each degree holds with one more
pub each-push : (P : ℕ → ℕ → Type 0) (numbers : List ℕ) (n d : ℕ) → length numbers ≡ d → ((e : ℕ) → e < d → P e (get_or numbers e 0)) → P d n
    → (e : ℕ) → e < d + 1 → P e (get_or (numbers ++ n ∷ []) e 0)
each-push P numbers n d size each here e lt = elim (cases_lt e d) [
  | inl below ↦ subst (P e) (sym (get_or_append_left numbers (n ∷ []) 0 e (omega (arith, below, size)))) (each e below)
  | inr from ↦
      let same : d ≡ e = omega (arith, lt, from) in
      subst (P e) (sym (get_or_push numbers n 0 e (size ∙ same))) (subst (λ (k : ℕ). P k n) same here)
]

module _ (weights : List ℕ) (G : List (List Term)) (limit : ℕ) where
  -- before any degree there are no numbers
  pub no_counts : AreCounts weights G limit 0 []
  no_counts = record { size = refl; each = λ d lt. absurd (omega (arith, lt)); few = All-nil (λ n. n ≤ limit) }

  -- a degree with no more normal words than the limit adds their number
  pub counts-more : (d : ℕ) (numbers : List ℕ) (words : List (List ℕ)) → AreCounts weights G limit d numbers →
      AreNormalWords weights G d words → length words ≤ limit → AreCounts weights G limit (d + 1) (numbers ++ length words ∷ [])
  counts-more d numbers words h normal le = record {
    size = omega (arith, h.size, length-append numbers (length words ∷ []));
    each = each-push (IsCount weights G) numbers (length words) d h.size h.each (record { words = words; are_normal = normal; count = refl });
    few = All-push (λ n. n ≤ limit) numbers (length words) h.few le;
  }

  -- one with more of them than the limit is the first that is too large
  pub first_large : (bound d degree value : ℕ) (numbers below words : _) → d ≤ bound → AreCounts weights G limit d numbers →
      AreNormalWords weights G d words → limit < length words → d ≡ degree → limit + 1 ≡ value → numbers ≡ below
      → IsFirstLarge weights G limit bound degree value below
  first_large bound d degree value numbers below words le h normal more same kept is = record {
    upto = omega (arith, le, same);
    kept = sym kept;
    before = subst (λ (k : ℕ). AreCounts weights G limit k below) same (subst (AreCounts weights G limit d) is h);
    number = length words;
    is_number = subst (λ (k : ℕ). IsCount weights G k (length words)) same (record { words = words; are_normal = normal; count = refl });
    large = more;
  }

module _ (weights : List ℕ) (leads : List Lead) where
  none_held : AreHeld weights leads []
  none_held = record { consecutive = λ i n lt. absurd (omega (arith, lt)); each = All-nil (λ n. AreNormal weights leads n.degree n.words); enough = inl refl }

  -- consecutive degrees that end before this one
  record IsRow (next : ℕ) (held : List WordsOfDegree) : Type 0 where
    consecutive : AreConsecutive held
    each : All (λ n. AreNormal weights leads n.degree n.words) held
    is_next : next_of held ≡ next

  pushed : (held : List WordsOfDegree) (n : WordsOfDegree) (d : ℕ) → AreHeld weights leads held → next_of held ≡ d → n.degree ≡ d →
      AreNormal weights leads d n.words → IsRow (d + 1) (held ++ n ∷ [])
  pushed held n d h e same normal = record {
    consecutive = consecutive-push held n h.consecutive (same ∙ sym e);
    each = All-push (λ k. AreNormal weights leads k.degree k.words) held n h.each
        (subst (λ (k : ℕ). AreNormal weights leads k n.words) (sym same) normal);
    is_next = next_of-push held n (same ∙ sym e) ∙ ap (λ (k : ℕ). k + 1) e;
  }

  without_first : (next : ℕ) (x : WordsOfDegree) (held : List WordsOfDegree) → 0 < length held → IsRow next (x ∷ held) → IsRow next held
  without_first next x [] some h = absurd (omega (arith, some))
  without_first next x (y ∷ held) some h =
      let same : next_of (y ∷ held) ≡ next_of (x ∷ y ∷ held) = omega (arith, h.consecutive 1 x (omega arith)) in
      record {
        consecutive = λ i n lt. omega (arith, h.consecutive (suc i) n (omega (arith, lt)), same);
        each = All-tail (λ k. AreNormal weights leads k.degree k.words) x (y ∷ held) h.each;
        is_next = same ∙ h.is_next;
      }

  -- what is held after one more degree
  pub record IsNextHeld (d : ℕ) (held : List WordsOfDegree) : Type 0 where
    -- they are the normal words of the last degrees
    pub are_held : AreHeld weights leads held
    -- the next degree is d
    pub is_next : next_of held ≡ d
    -- they are of at most 8 degrees
    pub few : length held ≤ 8

  -- at first nothing is held
  pub none_next : IsNextHeld 0 []
  none_next = record { are_held = none_held; is_next = refl; few = omega arith }

  from_row : (next : ℕ) (held : List WordsOfDegree) → IsRow next held → (next ≡ length held) ⊎ (8 ≤ length held) → length held ≤ 8 → IsNextHeld next held
  from_row next held r enough few = record {
    are_held = record {
      consecutive = r.consecutive;
      each = r.each;
      enough = subst (λ (k : ℕ). (k ≡ length held) ⊎ (8 ≤ length held)) (sym r.is_next) enough;
    };
    is_next = r.is_next;
    few = few;
  }

  still : (held : List WordsOfDegree) (d k : ℕ) → (d ≡ length held) ⊎ (8 ≤ length held) → length held < 8 → k ≡ length held + 1 → d + 1 ≡ k
  still held d k (inl e) lt is = omega (arith, e, is)
  still held d k (inr le) lt is = absurd (omega (arith, le, lt))

  full : (held : List WordsOfDegree) (n : WordsOfDegree) (d : ℕ) → 8 ≤ length held → length held ≤ 8 → IsRow d (held ++ n ∷ []) →
      IsNextHeld d (drop 1 (held ++ n ∷ []))
  full [] n d le few r = absurd (omega (arith, le))
  full (x ∷ held) n d le few r =
      let size = length-append held (n ∷ []) in
      from_row d (held ++ n ∷ []) (without_first d x (held ++ n ∷ []) (omega (arith, size)) r) (inr (omega (arith, size, le))) (omega (arith, size, few))

  -- one more degree is held, and where eight were held already the first of them goes
  pub held-more : (held : List WordsOfDegree) (n : WordsOfDegree) (d : ℕ) → IsNextHeld d held → n.degree ≡ d →
      AreNormal weights leads d n.words → IsNextHeld (d + 1) (drop (length held + 1 - 8) (held ++ n ∷ []))
  held-more held n d h same normal =
      let row = pushed held n d h.are_held h.is_next same normal in
      let size = length-append held (n ∷ []) in
      elim (cases_lt (length held) 8) [
        | inl lt ↦
            let none : 0 ≡ length held + 1 - 8 = omega (arith, lt) in
            let enough = subst (λ (k : ℕ). (k ≡ length held) ⊎ (8 ≤ length held)) h.is_next h.are_held.enough in
            subst (λ (k : ℕ). IsNextHeld (d + 1) (drop k (held ++ n ∷ []))) none
            (from_row (d + 1) (held ++ n ∷ []) row (inl (still held d (length (held ++ n ∷ [])) enough lt (omega (arith, size)))) (omega (arith, size, lt)))
        | inr le ↦
            let one : 1 ≡ length held + 1 - 8 = omega (arith, le, h.few) in
            subst (λ (k : ℕ). IsNextHeld (d + 1) (drop k (held ++ n ∷ []))) one (full held n (d + 1) le h.few row)
      ]
