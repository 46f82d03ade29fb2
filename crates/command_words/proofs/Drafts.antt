-- What is kept of the words, word by word.
use Rattle.std.proofs.Common.{◌≡◌, ◌≢◌, ◌+◌, ◌<◌, ◌≤◌, ℕ, zero, suc, List, [], ◌∷◌, ◌++◌, length, get_or, replicate, set, refl, sym, ap, ◌∙◌, inl}
use Rattle.std.proofs.Common.{inr, arith, Option, Some, None, subst, ◌==◌, length-append}
use Rattle.std.specs.Prelude.{IsSome, MatchOption, is_some}
use Rattle.std.proofs.lemmas.Bool.{cases_Bool, eqb-false, eqb-true}
use Rattle.std.proofs.lemmas.List.{get_or-replicate, get_or-set_other, get_or-set_same, length-set}
use Rattle.std.proofs.lemmas.List.Elements.{Contains-append_cases, Contains-append_left, Contains-append_right}
use Rattle.command_words.specs.declared.job.Command.{Command}
use Rattle.command_words.specs.declared.job.Key.{Key}
use Rattle.command_words.specs.declared.job.UsageFault.{UsageFault}
use Rattle.command_words.specs.declared.job.UsageFault.TheVariants.{UnknownKey, RepeatedKey, BadValue}
use Rattle.command_words.specs.declared.value.Value.{Value}
use Rattle.command_words.specs.Refusals.{HasKey, IsRefused, Says, Stands}
use Rattle.command_words.specs.JobOf.{AreTaken, IsTold}
use Rattle.command_words.specs.Draft.{IsDraft, IsRefusal, Takes, filled, kept, place_of}
use Rattle.command_words.proofs.OneKey.{key_said, one_key, one_place, place_below}
use Rattle.command_words.proofs.Parts.{no_split, only_member, split_last, when_none, when_some}

-- no more values are kept than there are places for them
pub filled-le : (values : List (Option Value)) → filled values ≤ length values
filled-le [] = omega arith
filled-le (None ∷ values) = omega (arith, filled-le values)
filled-le (Some v ∷ values) = omega (arith, filled-le values)

-- one value more is kept
filled-first : (o : Option Value) (values : List (Option Value)) → o ≡ None → filled values + 1 ≡ filled (o ∷ values) + 1
filled-first None values e = refl
filled-first (Some v) values e = absurd (cc e)

filled-set : (values : List (Option Value)) (i : ℕ) (v : Value) → i < length values → get_or values i None ≡ None →
    filled (set values i (Some v)) ≡ filled values + 1
filled-set [] i v lt e = absurd (omega (arith, lt))
filled-set (o ∷ values) zero v lt e = filled-first o values e
filled-set (None ∷ values) (suc i) v lt e = filled-set values i v (omega (arith, lt)) e
filled-set (Some w ∷ values) (suc i) v lt e = ap (λ (n : ℕ). n + 1) (filled-set values i v (omega (arith, lt)) e)

module _ (command : Command) (words : List (List ℕ)) (values : List (Option Value)) (draft : IsDraft command words values) where
  -- a key of which nothing is kept stands in none of the words
  pub unkept : (key : Key) → kept values key ≡ None → Stands words key → ⊥
  unkept key none = when_none (Stands words key → ⊥) (IsTold words key) (kept values key) (draft.told key) (ap (λ (o : Option Value). is_some o) none)

  -- a key of which a value is kept stands in one of them
  pub kept_stands : (key : Key) → IsSome (kept values key) → Stands words key
  kept_stands key some =
      let told = (when_some (Stands words key → ⊥) (IsTold words key) (kept values key) (draft.told key) some).1 in
      record { word = told.word; among = told.among; has_key = key_said key told.word _ told.says }

  -- at most twelve words are taken
  pub few : length words ≤ 12
  few = omega (arith, filled-le values, draft.each_once, draft.size)

  -- what the draft refuses is refused
  pub refused_so : (word : List ℕ) (number : ℕ) (fault : UsageFault) → number ≡ length words + 2 →
      IsRefusal command values word number fault → IsRefused command words word fault
  refused_so word number (UnknownKey n) e r = (r.0 ∙ e, r.1)
  refused_so word number (RepeatedKey n) e r = (
    r.0 ∙ e,
    record {
      key = r.1.key;
      of_command = r.1.of_command;
      has_key = r.1.has_key;
      stands = kept_stands r.1.key r.1.before;
    },
  )
  refused_so word number (BadValue n) e r = (
    r.0 ∙ e,
    record {
      key = r.1.key;
      of_command = r.1.of_command;
      has_key = r.1.has_key;
      first = unkept r.1.key r.1.first;
      no_value = r.1.no_value;
    },
  )
  refused_so word number fault e r = r

  module _ (new : List (Option Value)) (word : List ℕ) (takes : Takes command values new word) where
    same_key : (key : Key) → HasKey key word → key ≡ takes.key
    same_key key has = one_key key takes.key word has.text takes.says.text has.word_is takes.says.word_is

    -- what is taken is not refused
    not_refused : (fault : UsageFault) → IsRefused command words word fault → ⊥
    not_refused (UnknownKey n) r = r.1 takes.key takes.of_command (key_said takes.key word takes.value takes.says)
    not_refused (RepeatedKey n) r = unkept takes.key takes.first (subst (Stands words) (same_key r.1.key r.1.has_key) r.1.stands)
    not_refused (BadValue n) r = r.1.no_value takes.value (subst (λ (key : Key). Says key word takes.value) (sym (same_key r.1.key r.1.has_key)) takes.says)
    not_refused fault r = r

    taken_more : AreTaken command (words ++ word ∷ [])
    taken_more fault h = elim (split_last words word h.before h.word h.after h.words_are) [
      | inl p ↦ not_refused fault (subst (λ (w : List ℕ). IsRefused command words w fault) (sym p.1)
          (subst (λ (ws : List (List ℕ)). IsRefused command ws h.word fault) (sym p.0) h.refused))
      | inr p ↦ draft.taken fault (record { before = h.before; word = h.word; after = p.0; words_are = p.1; refused = h.refused })
    ]

    -- what was said of another key is said now
    told_as_before : (key : Key) (o : Option Value) → (HasKey key word → ⊥) → MatchOption o (Stands words key → ⊥) (IsTold words key) →
        MatchOption o (Stands (words ++ word ∷ []) key → ⊥) (IsTold (words ++ word ∷ []) key)
    told_as_before key None other h = λ s. elim (Contains-append_cases words (word ∷ []) s.word s.among) [
      | inl m ↦ h (record { word = s.word; among = m; has_key = s.has_key })
      | inr m ↦ other (subst (HasKey key) (only_member word s.word m) s.has_key)
    ]
    told_as_before key (Some v) other h = record { word = h.word; among = Contains-append_left words (word ∷ []) h.word h.among; says = h.says }

    within : place_of takes.key < length values
    within = omega (arith, place_below takes.key, draft.size)

    kept_here : kept new takes.key ≡ Some takes.value
    kept_here = ap (λ (vs : List (Option Value)). kept vs takes.key) takes.new_is ∙ get_or-set_same values (place_of takes.key) (Some takes.value) None within

    kept_elsewhere : (key : Key) → place_of key ≢ place_of takes.key → kept new key ≡ kept values key
    kept_elsewhere key other = ap (λ (vs : List (Option Value)). kept vs key) takes.new_is
        ∙ get_or-set_other values (place_of takes.key) (place_of key) (Some takes.value) None other

    told_here : IsTold (words ++ word ∷ []) takes.key takes.value
    told_here = record { word = word; among = Contains-append_right words (word ∷ []) word (0, omega arith, refl); says = takes.says }

    told_more : (key : Key) → MatchOption (kept new key) (Stands (words ++ word ∷ []) key → ⊥) (IsTold (words ++ word ∷ []) key)
    told_more key = elim (cases_Bool (place_of key == place_of takes.key)) [
      | inl same ↦ (
          let e : key ≡ takes.key = one_place key takes.key (eqb-true (place_of key) (place_of takes.key) same) in
          subst (λ (k : Key). MatchOption (kept new k) (Stands (words ++ word ∷ []) k → ⊥) (IsTold (words ++ word ∷ []) k)) (sym e)
          (subst (λ (o : Option Value). MatchOption o (Stands (words ++ word ∷ []) takes.key → ⊥) (IsTold (words ++ word ∷ []) takes.key))
          (sym kept_here) told_here))
      | inr other ↦ (
          let apart : place_of key ≢ place_of takes.key = eqb-false (place_of key) (place_of takes.key) other in
          subst (λ (o : Option Value). MatchOption o (Stands (words ++ word ∷ []) key → ⊥) (IsTold (words ++ word ∷ []) key)) (sym (kept_elsewhere key apart))
          (told_as_before key (kept values key) (λ has. apart (ap place_of (same_key key has))) (draft.told key)))
    ]

    -- after one more word that is taken, what is kept is a draft of the words with that one
    pub draft_more : IsDraft command (words ++ word ∷ []) new
    draft_more = record {
      taken = taken_more;
      told = told_more;
      size = ap (λ (vs : List (Option Value)). length vs) takes.new_is ∙ length-set values (place_of takes.key) (Some takes.value) ∙ draft.size;
      each_once = ap filled takes.new_is ∙ filled-set values (place_of takes.key) takes.value within takes.first
          ∙ ap (λ (n : ℕ). n + 1) draft.each_once ∙ sym (length-append words (word ∷ []));
    }

-- where nothing is kept, it is the draft of no words
pub draft_none : (command : Command) (values : List (Option Value)) → values ≡ replicate 12 None → IsDraft command [] values
draft_none command values e = record {
  taken = λ fault h. no_split h.before h.word h.after h.words_are;
  told = λ key. subst (λ (o : Option Value). MatchOption o (Stands [] key → ⊥) (IsTold [] key))
      (sym (ap (λ (vs : List (Option Value)). kept vs key) e ∙ get_or-replicate 12 (place_of key) None None (place_below key)))
      (λ s. omega (arith, s.among.1));
  size = ap (λ (vs : List (Option Value)). length vs) e;
  each_once = ap filled e;
}
