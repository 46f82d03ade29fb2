-- The longest end of a word that begins a word of a list, letter by letter.
use Rattle.std.proofs.Common.{◌≡◌, ◌⊎◌, ◌≤◌, ℕ, List, [], ◌∷◌, ◌++◌, length, take, drop, refl, sym, ap, ◌∙◌, inl, inr, arith, subst}
use Rattle.std.proofs.Common.{append_assoc, length-append}
use Rattle.std.proofs.lemmas.List.{append-nil, append_cancel_right, take-append-drop}
use Rattle.lead_index.specs.declared.lead.Lead.{Lead}
use Rattle.lead_index.specs.Automaton.{Begins, IsEnd, IsLongestEnd}

-- of two ends of a word the shorter is an end of the longer
pub end_of_end : (a x b y : List ℕ) → a ++ x ≡ b ++ y → length y ≤ length x → (z : List ℕ) × (x ≡ z ++ y)
end_of_end [] x b y e le = (b, e)
end_of_end (p ∷ a) x [] y e le = absurd (omega (arith, le, ap length e, length-append a x))
end_of_end (p ∷ a) x (q ∷ b) y e le = let t : a ++ x ≡ b ++ y = cc in end_of_end a x b y t le

-- a word of the list that begins with u and v after it begins with u
pub begins_front : (leads : List Lead) (u v : List ℕ) → Begins leads (u ++ v) → Begins leads u
begins_front leads u v b = record { lead = b.lead; rest = v ++ b.rest; among = b.among; is = b.is ∙ append_assoc u v b.rest }

-- an end of a word and one more letter is empty, or an end of the word and this letter
pub end_cases : (w : List ℕ) (c : ℕ) (before other : List ℕ) → w ++ c ∷ [] ≡ before ++ other →
    (other ≡ []) ⊎ ((xs : List ℕ) × (other ≡ xs ++ c ∷ []) × (w ≡ before ++ xs))
end_cases w c before [] e = inl refl
end_cases w c before (y ∷ ys) e =
    let z = end_of_end before (y ∷ ys) w (c ∷ []) (sym e) (omega arith) in
    inr (
      z.0,
      z.1,
      append_cancel_right w (before ++ z.0) (c ∷ [])
          (e ∙ ap (λ (v : List ℕ). before ++ v) z.1 ∙ sym (append_assoc before z.0 (c ∷ []))),
    )

module _ (leads : List Lead) where
  -- after one more letter it is the longest end of the one before and this letter
  pub longest_more : (w x y : List ℕ) (c : ℕ) → IsLongestEnd leads w x → IsLongestEnd leads (x ++ c ∷ []) y → IsLongestEnd leads (w ++ c ∷ []) y
  longest_more w x y c h k = record {
    front = h.front ++ k.front;
    joined = ap (λ (v : List ℕ). v ++ c ∷ []) h.joined ∙ append_assoc h.front x (c ∷ []) ∙ ap (λ (v : List ℕ). h.front ++ v) k.joined
        ∙ sym (append_assoc h.front k.front y);
    longest = λ before other e b. elim (end_cases w c before other e) [
      | inl empty ↦ omega (arith, ap length empty)
      | inr some ↦
          let xs = some.0 in
          let shorter : length xs ≤ length x = h.longest before xs some.2 (begins_front leads xs (c ∷ []) (subst (Begins leads) some.1 b)) in
          let z = end_of_end h.front x before xs (sym h.joined ∙ some.2) shorter in
          k.longest z.0 other (ap (λ (v : List ℕ). v ++ c ∷ []) z.1 ∙ append_assoc z.0 xs (c ∷ []) ∙ ap (λ (v : List ℕ). z.0 ++ v) (sym some.1)) b
    ];
  }

  -- the whole is its own longest end
  pub longest_itself : (w x : List ℕ) → w ≡ x → IsLongestEnd leads w x
  longest_itself w x e = record {
    front = [];
    joined = e;
    longest = λ before other f b. omega (arith, ap length (sym e ∙ f), length-append before other);
  }

  end_behind : (a : ℕ) (w x : List ℕ) → (Begins leads (a ∷ w) → ⊥) → IsLongestEnd leads w x → (before other : List ℕ) → a ∷ w ≡ before ++ other →
      Begins leads other → length other ≤ length x
  end_behind a w x not h [] other e b = absurd (not (subst (Begins leads) (sym e) b))
  end_behind a w x not h (p ∷ before) other e b = let t : w ≡ before ++ other = cc in h.longest before other t b

  -- a word that begins no other has the longest end of all but its first letter
  pub longest_behind : (w x : List ℕ) → (Begins leads w → ⊥) → IsLongestEnd leads (drop 1 w) x → IsLongestEnd leads w x
  longest_behind [] x not h = h
  longest_behind (a ∷ w) x not h = record {
    front = a ∷ h.front;
    joined = ap (λ (v : List ℕ). a ∷ v) h.joined;
    longest = end_behind a w x not h;
  }

  -- nothing begins with a letter that no word has
  pub longest_none : (w : List ℕ) (c : ℕ) → ((xs : List ℕ) → Begins leads (xs ++ c ∷ []) → ⊥) → IsLongestEnd leads (w ++ c ∷ []) []
  longest_none w c not = record {
    front = w ++ c ∷ [];
    joined = sym (append-nil (w ++ c ∷ []));
    longest = λ before other e b. elim (end_cases w c before other e) [
      | inl empty ↦ omega (arith, ap length empty)
      | inr some ↦ absurd (not some.0 (subst (Begins leads) some.1 b))
    ];
  }

  -- a word that ends behind one more letter of the longest end also ends behind it in the whole
  pub end_more : (w x : List ℕ) (c element len : ℕ) → IsLongestEnd leads w x → IsEnd leads (x ++ c ∷ []) element len → IsEnd leads (w ++ c ∷ []) element len
  end_more w x c element len h e = record {
    front = h.front ++ e.front;
    word = e.word;
    among = e.among;
    count = e.count;
    joined = ap (λ (v : List ℕ). v ++ c ∷ []) h.joined ∙ append_assoc h.front x (c ∷ []) ∙ ap (λ (v : List ℕ). h.front ++ v) e.joined
        ∙ sym (append_assoc h.front e.front e.word);
  }

  -- the word of an element that ends the letters after the first ends all of them
  pub end_behind_first : (w : List ℕ) (element len : ℕ) → IsEnd leads (drop 1 w) element len → IsEnd leads w element len
  end_behind_first w element len e = record {
    front = take 1 w ++ e.front;
    word = e.word;
    among = e.among;
    count = e.count;
    joined = sym (take-append-drop 1 w) ∙ ap (λ (v : List ℕ). take 1 w ++ v) e.joined ∙ sym (append_assoc (take 1 w) e.front e.word);
  }
