-- Words have at most one job.
use Rattle.std.proofs.Common.{◌≡◌, ◌+◌, ◌<◌, ℕ, List, length, get_or, take, refl, sym, ap, ◌∙◌, inl, inr, arith, subst, length-take, get_or-take}
use Rattle.std.specs.Prelude.{Contains}
use Rattle.std.proofs.lemmas.Bool.{cases_order}
use Rattle.std.proofs.lemmas.List.{get_or_default}
use Rattle.command_words.specs.declared.job.Command.{Command}
use Rattle.command_words.specs.declared.job.Key.{Key}
use Rattle.command_words.specs.declared.job.Key.TheVariants as keys
use Rattle.command_words.specs.declared.job.Job.{Job}
use Rattle.command_words.specs.declared.job.UsageFault.TheVariants.{UnknownKey, RepeatedKey}
use Rattle.command_words.specs.declared.value.Value.{Value}
use Rattle.command_words.specs.Keys.{command_name, keys_of}
use Rattle.command_words.specs.Values.{IsValue, value_at}
use Rattle.command_words.specs.Refusals.{HasKey, Stands}
use Rattle.command_words.specs.JobOf.{AreTaken, IsJob, IsValueIn}
use Rattle.command_words.proofs.Named.{one_command, one_value}
use Rattle.command_words.proofs.OneKey.{key_said, one_key}
use Rattle.command_words.proofs.Parts.{split_at}
use Rattle.command_words.proofs.Members.{member_or_not}
use Rattle.command_words.proofs.OneKey.{one_text}

-- of words that are taken each key stands in one
module _ (command : Command) (words : List (List ℕ)) (taken : AreTaken command words) (key : Key) where
  later : (v w : List ℕ) (i j : ℕ) → HasKey key v → HasKey key w → i < j → j < length words → get_or words i v ≡ v → get_or words j w ≡ w → ⊥
  later v w i j p q lt within e f =
      let parts = split_at words j w within in
      let before = take j words in
      let first : i < length before = omega (arith, length-take j words, lt, within) in
      let stands : Stands before key = record { word = v; among = (i, first, get_or-take j words i v lt ∙ e); has_key = p } in
      let has : HasKey key (get_or words j w) = subst (HasKey key) (sym f) q in
      elim (member_or_not (keys_of command) key) [
        | inl m ↦ taken (RepeatedKey (length before + 2)) (record {
          before = before;
          word = get_or words j w;
          after = parts.0;
          words_are = parts.1;
          refused = (refl, record { key = key; of_command = m; has_key = has; stands = stands });
        })
        | inr none ↦ taken (UnknownKey (length before + 2)) (record {
          before = before;
          word = get_or words j w;
          after = parts.0;
          words_are = parts.1;
          refused = (
            refl,
            λ k m h. none (subst (λ (l : Key). Contains (keys_of command) l)
                (one_key k key (get_or words j w) h.text has.text h.word_is has.word_is) m),
          );
        })
      ]

  one_word : (v w : List ℕ) → HasKey key v → HasKey key w → Contains words v → Contains words w → v ≡ w
  one_word v w p q m n = elim (cases_order m.0 n.0) [
    | inl same ↦ sym m.2 ∙ ap (λ (k : ℕ). get_or words k v) same ∙ get_or_default words n.0 v w n.1 ∙ n.2
    | inr (inl lt) ↦ absurd (later v w m.0 n.0 p q lt n.1 m.2 n.2)
    | inr (inr lt) ↦ absurd (later w v n.0 m.0 q p lt m.1 n.2 m.2)
  ]

  one_value_in : (v w : Value) → IsValueIn words key v → IsValueIn words key w → v ≡ w
  one_value_in v w p q = elim p [
    | inl s ↦ elim q [
      | inl t ↦ (
          let e = one_word s.word t.word (key_said key s.word v s.says) (key_said key t.word w t.says) s.among t.among in
          let text : s.says.text ≡ t.says.text = one_text key s.says.text t.says.text (sym s.says.word_is ∙ e ∙ t.says.word_is) in
          one_value key t.says.text v w (subst (λ (bs : List ℕ). IsValue key bs v) text s.says.is_value) t.says.is_value)
      | inr t ↦ absurd (t.0 (record { word = s.word; among = s.among; has_key = key_said key s.word v s.says }))
    ]
    | inr s ↦ elim q [
      | inl t ↦ absurd (s.0 (record { word = t.word; among = t.among; has_key = key_said key t.word w t.says }))
      | inr t ↦ s.1 ∙ sym t.1
    ]
  ]

-- a job is its command and its values
same_job : (j k : Job) → j.command ≡ k.command → ((key : Key) → value_at key j ≡ value_at key k) → j ≡ k
same_job j k c h =
    let modulus : j.modulus ≡ k.modulus = cc (h keys.Mod) in
    let bound : j.bound ≡ k.bound = cc (h keys.Deg) in
    let workers : j.workers ≡ k.workers = cc (h keys.Workers) in
    let show : j.show ≡ k.show = cc (h keys.Show) in
    let trace : j.trace ≡ k.trace = cc (h keys.Trace) in
    let engine : j.engine ≡ k.engine = cc (h keys.Engine) in
    let schedule : j.schedule ≡ k.schedule = cc (h keys.Schedule) in
    let number : j.number ≡ k.number = cc (h keys.Number) in
    let letters : j.letters ≡ k.letters = cc (h keys.Vars) in
    let gens : j.gens ≡ k.gens = cc (h keys.Gens) in
    let list : j.list ≡ k.list = cc (h keys.List) in
    let ask : j.ask ≡ k.ask = cc (h keys.Ask) in
    λ i. record {
      command = c i;
      modulus = modulus i;
      bound = bound i;
      workers = workers i;
      show = show i;
      trace = trace i;
      engine = engine i;
      schedule = schedule i;
      number = number i;
      letters = letters i;
      gens = gens i;
      list = list i;
      ask = ask i;
    }

-- words have at most one job
pub one_job : (words : List (List ℕ)) (j k : Job) → IsJob words j → IsJob words k → j ≡ k
one_job words j k p q =
    let whole = sym p.words_are ∙ q.words_are in
    let first : command_name j.command ≡ command_name k.command = cc whole in
    let rest : p.rest ≡ q.rest = cc whole in
    same_job j k (one_command j.command k.command first)
    (λ key. one_value_in k.command q.rest q.taken key (value_at key j) (value_at key k)
    (subst (λ (ws : List (List ℕ)). IsValueIn ws key (value_at key j)) rest (p.values key)) (q.values key))
