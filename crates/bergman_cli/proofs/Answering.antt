-- What is written of the answers is the beginning of an outcome.
use Rattle.std.proofs.Common.{◌≡◌, ◌+◌, ◌-◌, ◌<◌, ◌≤◌, ℕ, zero, suc, List, [], ◌∷◌, ◌++◌, All, get_or, length, refl, sym, ap, ◌∙◌, inl, inr, arith, subst, take}
use Rattle.std.specs.Prelude.{slice_index_or}
use Rattle.std.proofs.lemmas.Bool.{cases_lt}
use Rattle.std.proofs.lemmas.List.{get_or_default, length-take-le, take_all, take_more}
use Rattle.words.specs.Names.{Letters}
use Rattle.free_poly.specs.declared.term.Term.{Term}
use Rattle.bg_io.specs.Ends.{Rose}
use Rattle.ideal_laws.specs.Ideal.{IsElement, ideal_over}
use Rattle.ideal_laws.specs.Kept.{lead_degree}
use Rattle.ideal_laws.specs.Laws.{IsRelation, IsSetting}
use Rattle.cofactors.specs.declared.certificate.Certificate.{Certificate}
use Rattle.cofactors.specs.Certificate.{IsCertificate}
use Rattle.cofactors.specs.Laws.{HasNormalForm, HasProductList}
use Rattle.cofactors.specs.ProductList.{triples}
use Rattle.cofactors.specs.Texts.{answer_text}
use Rattle.cofactors.proofs.TripleLists.{one_degree}
use Rattle.job_steps.specs.declared.print.PrintFault.TheVariants.{WriteFault}
use Rattle.job_steps.specs.declared.status.Status.{Status}
use Rattle.job_steps.specs.declared.status.Status.TheVariants.{Done, Products}
use Rattle.job_steps.specs.Gains.{GainsAll, GainsPart}
use Rattle.job_steps.specs.Progress.{IsBeginning}
use Rattle.job_steps.specs.States.{SinkState}
use Rattle.job_steps.specs.Statuses.{HasGainedPart, HasGainedSome}
use Rattle.job_steps.proofs.Gaining.{beginning_front, beginning_self, beginning_trans, unwritten_before, unwritten_behind}
use Rattle.bergman_cli.specs.Normal.{AreAnswers, HasManyTriples, HasNone, IsAnsweredBy, most_triples}
use Rattle.bergman_cli.proofs.AnswerTexts.{AreAnswers-append}
use Rattle.bergman_cli.proofs.Places.{none_next}

-- no number of triples is both at most the limit and above it
pub few_are_not_many : (n : ℕ) → n ≤ most_triples → most_triples < n → ⊥
few_are_not_many n few many = omega (arith, few, many)

none_in : (P : List Term → Type 0) (fs : List (List Term)) (n : ℕ) → n ≡ length fs → ((k : ℕ) → k < n → P (slice_index_or fs k []) → ⊥) → HasNone P fs
none_in P fs n is none k lt = none k (omega (arith, is, lt))

module _ (p : ℕ) (letters : Letters) (relations : List (List Term)) where
  abbrev Many : List Term → Type 0
  Many = HasManyTriples letters.weights relations

  abbrev Answers : List (List Term) → List ℕ → Type 0
  Answers = AreAnswers p letters relations 1

  abbrev Answer : List Term → Type 0
  Answer f = (c : Certificate) × IsCertificate (ideal_over p letters.weights relations) (lead_degree letters.weights f) f c

  -- a question has an answer
  has_answer : IsSetting (ideal_over p letters.weights relations) → HasNormalForm → HasProductList → (f : List Term) → IsRelation p letters.weights f → Answer f
  has_answer st forms lists f is =
      let d = lead_degree letters.weights f in
      let element : IsElement p letters.weights d f = record {
        form = is.form;
        residues = is.residues;
        letters = is.letters;
        degree = one_degree p letters.weights f is;
      } in
      let normal = forms (ideal_over p letters.weights relations) st d f element in
      let products = lists (ideal_over p letters.weights relations) st d f normal.value normal.holds in (
        record { normal = normal.value; products = products.0 },
        record { is_normal = normal.holds; are_products = products.1; sum = products.2 },
      )

  module _ (questions : List (List Term)) where
    abbrev Outcome : Status → List ℕ → Type 0
    Outcome = IsAnsweredBy p letters relations questions

    abbrev At : ℕ → List Term
    At place = slice_index_or questions place []

    abbrev NoneBefore : ℕ → Type 0
    NoneBefore place = (k : ℕ) → k < place → Many (At k) → ⊥

    -- the answer to one more question
    pub one_more : (place : ℕ) (text : List ℕ) (f : List Term) → f ≡ At place → place < length questions → Answers (take place questions) text →
        (c : Certificate) → IsCertificate (ideal_over p letters.weights relations) (lead_degree letters.weights f) f c
        → Answers (take (place + 1) questions) (text ++ answer_text letters.names p (place + 1) c)
    one_more place text f at within answers c is =
        let number : place + 1 ≡ 1 + length (take place questions) = omega (arith, length-take-le place questions (omega (arith, within))) in
        let more : take (place + 1) questions ≡ take place questions ++ f ∷ [] = take_more questions place [] within
        ∙ ap (λ (g : List Term). take place questions ++ g ∷ []) (sym at) in
        subst (λ (fs : List (List Term)). Answers fs (text ++ answer_text letters.names p (place + 1) c)) (sym more)
        (AreAnswers-append p letters relations 1 (take place questions) text f c (place + 1) number answers is)

    -- the answers to the questions before this place, all of which have few triples
    pub record AreFirst (place : ℕ) (text : List ℕ) : Type 0 where
      pub none : NoneBefore place
      pub answers : Answers (take place questions) text

    -- the certificate of a question with few triples is one answer more, where the weights are those of the letters
    pub next_answer : (weights : List ℕ) → weights ≡ letters.weights → (place : ℕ) (text : List ℕ) (f : List Term) → f ≡ get_or questions place f →
        place < length questions → AreFirst place text → (c : Certificate) → IsCertificate (ideal_over p weights relations) (lead_degree weights f) f c
        → length (triples weights relations (lead_degree weights f)) ≤ most_triples → AreFirst (place + 1) (text ++ answer_text letters.names p (place + 1) c)
    next_answer weights same place text f found within first c is within_limit =
        let at = found ∙ get_or_default questions place f [] within in
        let own = subst (λ (ws : List ℕ). IsCertificate (ideal_over p ws relations) (lead_degree ws f) f c) same is in
        let few = subst (λ (ws : List ℕ). length (triples ws relations (lead_degree ws f)) ≤ most_triples) same within_limit in
        record {
          none = none_next Many questions place f at first.none
              (few_are_not_many (length (triples letters.weights relations (lead_degree letters.weights f))) few);
          answers = one_more place text f at within first.answers c own;
        }

    -- the text is the beginning of that of an outcome
    pub record Begins (text : List ℕ) : Type 0 where
      pub status : Status
      pub whole : List ℕ
      pub outcome : Outcome status whole
      pub beginning : IsBeginning text whole

    module _ (answer_of : (place : ℕ) → place < length questions → Answer (At place)) where
      -- n questions are left
      goes_on : (n place : ℕ) (text : List ℕ) → place + n ≡ length questions → NoneBefore place → Answers (take place questions) text → Begins text
      goes_on zero place text end none answers = record {
        status = Done;
        whole = text;
        outcome = inr (
          none_in Many questions place (omega (arith, end)) none,
          refl,
          subst (λ (fs : List (List Term)). Answers fs text) (take_all place questions (omega (arith, end))) answers,
        );
        beginning = beginning_self text;
      }
      goes_on (suc n) place text end none answers =
          let f = At place in
          let within : place < length questions = omega (arith, end) in
          elim (cases_lt most_triples (length (triples letters.weights relations (lead_degree letters.weights f)))) [
            | inl many ↦ record {
              status = Products (lead_degree letters.weights f) (most_triples + 1);
              whole = text;
              outcome = inl (place, record { within = within; here = many; before = none }, refl, answers);
              beginning = beginning_self text;
            }
            | inr few ↦
                let own = answer_of place within in
                let answer = answer_text letters.names p (place + 1) own.0 in
                let rest = goes_on n (place + 1) (text ++ answer) (omega (arith, end))
                (none_next Many questions place f refl none
                (few_are_not_many (length (triples letters.weights relations (lead_degree letters.weights f))) few))
                (one_more place text f refl within answers own.0 own.1) in
                record {
                  status = rest.status;
                  whole = rest.whole;
                  outcome = rest.outcome;
                  beginning = beginning_trans text (text ++ answer) rest.whole (beginning_front text answer) rest.beginning;
                }
          ]

    -- the answers to the first questions are the beginning of an outcome, whatever the others are
    pub begun : IsSetting (ideal_over p letters.weights relations) → HasNormalForm → HasProductList → All (IsRelation p letters.weights) questions
        → (place : ℕ) →
        place ≤ length questions → (text : List ℕ) → AreFirst place text → Begins text
    begun st forms lists are place le text first =
        goes_on (λ at within. has_answer st forms lists (At at) (are at [] within)) (length questions - place) place text (omega (arith, le))
        first.none first.answers

    module _ (before now : SinkState) (text : List ℕ) (all : GainsAll before now text) where
      -- some of it was gained
      pub some_gained : Begins text → HasGainedSome before now Outcome
      some_gained b = (b.status, b.whole, b.outcome, record { gained = text; appended = all.appended; beginning = b.beginning })

      -- and then a proper prefix of the next answer
      pub cut_off : (after : SinkState) (answer : List ℕ) → Rose now.faults after.faults → GainsPart now after answer → Begins (text ++ answer) →
          Rose before.faults after.faults × HasGainedPart before after Outcome
      cut_off after answer rose part b =
          let u = unwritten_before before after (text ++ answer) b.whole WriteFault b.beginning
          (unwritten_behind before now after text answer WriteFault all (rose, part)) in
          (u.0, (b.status, b.whole, b.outcome, u.1))

    -- what is written of the answers is gained of an outcome
    pub some_written : (before now : SinkState) → IsSetting (ideal_over p letters.weights relations) → HasNormalForm → HasProductList →
        All (IsRelation p letters.weights) questions → (place : ℕ) → place ≤ length questions → NoneBefore place
        → (text : List ℕ) × Answers (take place questions) text × GainsAll before now text → HasGainedSome before now Outcome
    some_written before now st forms lists are place le none written = some_gained before now written.0 written.2
        (begun st forms lists are place le written.0 (record { none = none; answers = written.1 }))
