-- From the declaration of a text without a fault that has a place, and the terms of its relations, to what the text
-- says.
use Rattle.std.proofs.Common.{ℕ, ◌≡◌, ◌-◌, ◌^◌, ◌<◌, ◌≤◌, List, [], length, get_or, map, take, drop, Option, None, Some, false, inr}
use Rattle.std.proofs.Common.{sym, ap, ◌∙◌, arith, subst, All}
use Rattle.std.proofs.lemmas.List.{get_or-map, length-drop, length-map, take_all}
use Rattle.std.proofs.lemmas.List.Elements.{All-map, All-weaker}
use Rattle.words.specs.Names.{AreNames, IsAlphabet, Letters}
use Rattle.words.specs.Words.{AreWeights, IsOver, degree_of}
use Rattle.words.proofs.Weights.{degree_of-bound}
use Rattle.free_poly.specs.declared.term.Term.{Term}
use Rattle.free_poly.specs.Terms.{HasResidues, UsesLetters}
use Rattle.relation_reader.specs.declared.fault.InputFault.{InputFault}
use Rattle.relation_reader.specs.declared.fault.ReaderFault.{ReaderFault}
use Rattle.relation_reader.specs.declared.fault.ReaderFault.TheVariants as answers
use Rattle.relation_reader.specs.declared.place.Place.TheVariants as places
use Rattle.relation_reader.specs.declared.token.Token.{Token}
use Rattle.relation_reader.specs.Tokens.{SplitsFrom, span}
use Rattle.relation_reader.specs.Grammar.{lexeme_of}
use Rattle.relation_reader.specs.Meaning.{Reads, faults_from, letters_of, pieces_of, place_fault, placed_from}
use Rattle.relation_reader.specs.Answers.{IsReadError}
use Rattle.relation_reader.specs.Gathering.{IsInside, Listed, fresh, gathered, lexemes_of, listed}
use Rattle.relation_reader.specs.Elements.{AreElementsOf, AreSound, AreSummable, IsFirstError}
use Rattle.relation_reader.proofs.Bounds.{AreSmall, IsSmall, gathered-small}
use Rattle.relation_reader.proofs.Gathers.{reduced_terms}
use Rattle.relation_reader.proofs.Understood.{means-from, reduced-residues, understood}
use Rattle.relation_reader.proofs.Walking.{token-within, tokens-few}
use Rattle.relation_reader.proofs.OneReading.{no-stop}

-- what holds of each value of a function holds of each of its arguments
pub All-from_map : {X Y : Type 0} (P : Y → Type 0) (f : X → Y) (xs : List X) → All P (map f xs) → All (λ x. P (f x)) xs
All-from_map P f xs h k d within = subst P (get_or-map f xs k d (f d) within) (h k (f d) (omega (arith, within, length-map xs f)))

-- the tokens of a text stand inside it
pub tokens-inside : (text : List ℕ) (tokens : List Token) → SplitsFrom text 0 tokens None → All (IsInside text) tokens
tokens-inside text tokens splits k d within = token-within text 0 tokens None k d splits within

-- the tokens behind a declaration, as a slice
pub slice-is : {A : Type 0} (xs : List A) (end : ℕ) → take (length xs - end) (drop end xs) ≡ drop end xs
slice-is xs end = take_all (length xs - end) (drop end xs) (omega (arith, length-drop end xs))

-- the declaration of a text
abbrev pub IsDeclared : List ℕ → List Token → List (List ℕ) → List ℕ → ℕ → Type 0
IsDeclared text tokens names weights end = listed [] [] 1 (lexemes_of text (drop 1 tokens))
    ≡ record { letters = record { names = names; weights = weights }; rest = lexemes_of text (drop end tokens) }

-- names and weights that make an alphabet
pub record DeclaredLetters (names : List (List ℕ)) (weights : List ℕ) : Type 0 where
  pub names_fit : AreNames names
  pub weights_fit : AreWeights weights
  pub count : length weights ≡ length names

module _ (text : List ℕ) (tokens : List Token) (none : place_fault (pieces_of text tokens None) None ≡ None) (names : List (List ℕ))
    (weights : List ℕ) (end : ℕ) (walk : IsDeclared text tokens names weights end) where
  abbrev tree_letters : Letters
  tree_letters = letters_of (understood text tokens none).tree

  are : record { names = names; weights = weights } ≡ tree_letters
  are = sym (ap (λ (l : Listed). l.letters) walk) ∙ (understood text tokens none).letters

  names-are : names ≡ tree_letters.names
  names-are = ap (λ (l : Letters). l.names) are

  weights-are : weights ≡ tree_letters.weights
  weights-are = ap (λ (l : Letters). l.weights) are

  -- what a text without a fault that has a place declares makes an alphabet
  pub declared : DeclaredLetters names weights
  declared = record {
    names_fit = subst AreNames (sym names-are) (understood text tokens none).are_names;
    weights_fit = subst AreWeights (sym weights-are) (understood text tokens none).are_weights;
    count = ap length weights-are ∙ (understood text tokens none).count ∙ sym (ap length names-are);
  }

  module _ (p : ℕ) (some : 0 < p) (splits : SplitsFrom text 0 tokens None) (small : length text ≤ 1048576) (letters : Letters)
      (same_names : letters.names ≡ names) (same_weights : letters.weights ≡ weights)
      (sums : List (List Term)) (gathers : sums ≡ gathered p letters.names (fresh p [] [] false)
      (lexemes_of text (take (length tokens - end) (drop end tokens)))) where
    letters-are : letters ≡ tree_letters
    letters-are = λ i. record { names = (same_names ∙ names-are) i; weights = (same_weights ∙ weights-are) i }

    sums-are : sums ≡ map (reduced_terms p tree_letters.names) (understood text tokens none).tree.relations
    sums-are =
        gathers
        ∙ ap (λ (ts : List Token). gathered p letters.names (fresh p [] [] false) (lexemes_of text ts)) (slice-is tokens end)
        ∙ ap (λ (ns : List (List ℕ)). gathered p ns (fresh p [] [] false) (lexemes_of text (drop end tokens))) (same_names ∙ names-are)
        ∙ ap (λ (l : Listed). gathered p tree_letters.names (fresh p [] [] false) l.rest) (sym walk)
        ∙ (understood text tokens none).terms p

    sums-residues : All (HasResidues p) sums
    sums-residues = subst (All (HasResidues p)) (sym sums-are)
        (All-map (HasResidues p) (reduced_terms p tree_letters.names) (understood text tokens none).tree.relations
        (λ k d within. reduced-residues p some tree_letters.names (get_or (understood text tokens none).tree.relations k d)))

    alphabet : IsAlphabet letters
    alphabet =
        let ns = (understood text tokens none).are_names in
        subst IsAlphabet (sym letters-are) (record {
          some = omega (arith, ns.some, (understood text tokens none).count);
          few = omega (arith, ns.few, (understood text tokens none).count);
          count = sym (understood text tokens none).count;
          apart = ns.apart;
          weights = (understood text tokens none).are_weights;
        })

    abbrev lexemes_count : ℕ
    lexemes_count = length (lexemes_of text (take (length tokens - end) (drop end tokens)))

    sums-small : AreSmall (length letters.names) lexemes_count sums
    sums-small = subst (AreSmall (length letters.names) lexemes_count) (sym gathers)
        (gathered-small p letters.names (lexemes_of text (take (length tokens - end) (drop end tokens))) (omega (arith, alphabet.some, alphabet.count)))

    lexemes-few : lexemes_count ≤ 1048576
    lexemes-few =
        let ts = take (length tokens - end) (drop end tokens) in
        let rest : length ts ≡ length tokens - end = ap length (slice-is tokens end) ∙ length-drop end tokens in
        omega (arith, length-map ts (λ (t : Token). lexeme_of t.mark (span text t.start t.end)), rest, tokens-few text 0 tokens None (omega arith) splits)

    -- it has fewer than 2^32 relations
    pub sums-few : length sums < 2 ^ 32
    sums-few = omega (arith, sums-small.count, lexemes-few)

    summable : (f : List Term) → HasResidues p f → All (IsSmall (length letters.names) lexemes_count) f → AreSummable p letters.weights f
    summable f residues h = record {
      residues = residues;
      letters = subst (λ (m : ℕ). UsesLetters m f) alphabet.count (All-weaker (IsSmall (length letters.names) lexemes_count)
          (λ (t : Term). IsOver (length letters.names) t.word) (λ t s. s.letters) f h);
      degrees = All-weaker (IsSmall (length letters.names) lexemes_count) (λ (t : Term). degree_of letters.weights t.word < 2 ^ 64)
          (λ t s. omega (arith, s.few, lexemes-few, degree_of-bound letters.weights alphabet.weights t.word)) f h;
    }

    -- the terms of each can be summed
    pub sums-summable : All (AreSummable p letters.weights) sums
    sums-summable k d within = summable (get_or sums k d) (sums-residues k d within) (sums-small.terms k d within)

    -- with the elements of sound relations the text is read
    pub reads : (found : List (List Term)) → AreSound p letters.weights sums found → Reads text p letters found
    reads found h = record {
      meanings = h.elements;
      means = means-from text p tokens letters h.elements splits none (understood text tokens none) letters-are
          (subst (λ (ls : List (List Term)). AreElementsOf p ls h.elements) sums-are h.elements_are);
      no_fault = h.no_fault;
      others = h.others;
    }

    -- an error at the relations is one of the text
    pub refuses : (fault : ReaderFault) → IsFirstError p letters.weights sums fault → IsReadError text p fault
    refuses answers.NoMemory h = tt
    refuses (answers.Text fault) h = inr (record {
      letters = letters;
      meanings = h.elements;
      means = means-from text p tokens letters h.elements splits none (understood text tokens none) letters-are
          (subst (λ (ls : List (List Term)). AreElementsOf p ls h.elements) sums-are h.elements_are);
      first = h.first;
    })

-- where no fault of a text has a place, there is none of tokens either
pub unstopped : (text : List ℕ) (tokens : List Token) (stop : Option InputFault) → place_fault (pieces_of text tokens stop) stop ≡ None → stop ≡ None
unstopped text tokens stop e = no-stop (faults_from [] (placed_from (Some places.Beginning) (pieces_of text tokens stop))) stop e
