-- Words after a command have at most one fault.
use Rattle.std.proofs.Common.{◌≡◌, ℕ, List, sym, ap, ◌∙◌, inl, inr, subst}
use Rattle.std.specs.Prelude.{All, Contains}
use Rattle.std.proofs.lemmas.List.Elements.{All-contains}
use Rattle.command_words.specs.declared.job.Command.{Command}
use Rattle.command_words.specs.declared.job.Key.{Key}
use Rattle.command_words.specs.declared.job.UsageFault.{UsageFault}
use Rattle.command_words.specs.declared.job.UsageFault.TheVariants.{UnknownKey, RepeatedKey, BadValue, MissingKey}
use Rattle.command_words.specs.Keys.{required_of}
use Rattle.command_words.specs.Refusals.{IsRefused, Stands}
use Rattle.command_words.specs.JobOf.{AreTaken, IsFaultOf, IsFirstMissing, IsFirstRefusal}
use Rattle.command_words.proofs.OneKey.{one_key}
use Rattle.command_words.proofs.Members.{compare_splits, middle}

one_missing : (row : List Key) (words : List (List ℕ)) (k l : Key) → IsFirstMissing row words k → IsFirstMissing row words l → k ≡ l
one_missing row words k l p q = elim (compare_splits p.earlier k p.later q.earlier l q.later (sym p.keys_are ∙ q.keys_are)) [
  | inl e ↦ e.1
  | inr r ↦ elim r [
    | inl s ↦ absurd (p.missing (All-contains (Stands words) q.earlier k q.stand (subst (λ (ks : List Key). Contains ks k) (sym s.1) (middle p.earlier k s.0))))
    | inr s ↦ absurd (q.missing (All-contains (Stands words) p.earlier l p.stand (subst (λ (ks : List Key). Contains ks l) (sym s.1) (middle q.earlier l s.0))))
  ]
]

module _ (command : Command) (before : List (List ℕ)) (word : List ℕ) where
  refused_once : (f g : UsageFault) → IsRefused command before word f → IsRefused command before word g → f ≡ g
  refused_once (UnknownKey n) (UnknownKey m) p q = ap UnknownKey (p.0 ∙ sym q.0)
  refused_once (UnknownKey n) (RepeatedKey m) p q = absurd (p.1 q.1.key q.1.of_command q.1.has_key)
  refused_once (UnknownKey n) (BadValue m) p q = absurd (p.1 q.1.key q.1.of_command q.1.has_key)
  refused_once (UnknownKey n) g p q = absurd q
  refused_once (RepeatedKey n) (UnknownKey m) p q = absurd (q.1 p.1.key p.1.of_command p.1.has_key)
  refused_once (RepeatedKey n) (RepeatedKey m) p q = ap RepeatedKey (p.0 ∙ sym q.0)
  refused_once (RepeatedKey n) (BadValue m) p q = absurd (q.1.first
      (subst (Stands before) (one_key p.1.key q.1.key word p.1.has_key.text q.1.has_key.text p.1.has_key.word_is q.1.has_key.word_is)
      p.1.stands))
  refused_once (RepeatedKey n) g p q = absurd q
  refused_once (BadValue n) (UnknownKey m) p q = absurd (q.1 p.1.key p.1.of_command p.1.has_key)
  refused_once (BadValue n) (RepeatedKey m) p q = absurd (p.1.first
      (subst (Stands before) (one_key q.1.key p.1.key word q.1.has_key.text p.1.has_key.text q.1.has_key.word_is p.1.has_key.word_is)
      q.1.stands))
  refused_once (BadValue n) (BadValue m) p q = ap BadValue (p.0 ∙ sym q.0)
  refused_once (BadValue n) g p q = absurd q
  refused_once f g p q = absurd p

one_refusal : (command : Command) (words : List (List ℕ)) (f g : UsageFault) → IsFirstRefusal command words f → IsFirstRefusal command words g → f ≡ g
one_refusal command words f g p q = elim (compare_splits p.before p.word p.after q.before q.word q.after (sym p.words_are ∙ q.words_are)) [
  | inl e ↦ refused_once command q.before q.word f g (subst (λ (w : List ℕ). IsRefused command q.before w f) e.1
      (subst (λ (b : List (List ℕ)). IsRefused command b p.word f) e.0 p.refused)) q.refused
  | inr r ↦ elim r [
    | inl s ↦ absurd (q.taken f (record { before = p.before; word = p.word; after = s.0; words_are = s.1; refused = p.refused }))
    | inr s ↦ absurd (p.taken g (record { before = q.before; word = q.word; after = s.0; words_are = s.1; refused = q.refused }))
  ]
]

not_taken : (command : Command) (words : List (List ℕ)) (f : UsageFault) → IsFirstRefusal command words f → AreTaken command words → ⊥
not_taken command words f p taken = taken f (record { before = p.before; word = p.word; after = p.after; words_are = p.words_are; refused = p.refused })

-- the words after a command have at most one fault
pub one_fault_of : (command : Command) (words : List (List ℕ)) (f g : UsageFault) → IsFaultOf command words f → IsFaultOf command words g → f ≡ g
one_fault_of command words (MissingKey k) (MissingKey l) p q = ap MissingKey (one_missing (required_of command) words k l p.1 q.1)
one_fault_of command words (MissingKey k) g p q = absurd (not_taken command words g q p.0)
one_fault_of command words f (MissingKey l) p q = absurd (not_taken command words f p q.0)
one_fault_of command words f g p q = one_refusal command words f g p q

-- where all words are taken and all required keys stand there is none
pub no_fault_of : (command : Command) (words : List (List ℕ)) → AreTaken command words → All (Stands words) (required_of command) → (f : UsageFault) →
    IsFaultOf command words f → ⊥
no_fault_of command words taken all (MissingKey key) p = p.1.missing (All-contains (Stands words) (required_of command) key all
    (subst (λ (ks : List Key). Contains ks key) (sym p.1.keys_are) (middle p.1.earlier key p.1.later)))
no_fault_of command words taken all f p = not_taken command words f p taken
