-- On what a tree spells, gathering gives the terms of its relations modulo p.
use Rattle.std.proofs.Common.{ap₂, ℕ, ◌≡◌, ◌*◌, ◌-◌, ◌%◌, ◌≤◌, Bool, true, false, cond, List, [], ◌∷◌, ◌++◌, map, Option, Some, None, refl, sym, ap}
use Rattle.std.proofs.Common.{◌∙◌, arith, append_assoc, append-nil, subst}
use Rattle.std.specs.Prelude.{min, replicate, unwrap_or, not, nat_lt}
use Rattle.std.specs.Option.{option_to_list}
use Rattle.std.specs.List.{flat_map}
use Rattle.std.proofs.Math.Nat.{mul_assoc, mul-one, one-mul}
use Rattle.std.proofs.lemmas.Nat.{mul-mod}
use Rattle.std.proofs.lemmas.Bool.{ltb-false}
use Rattle.free_poly.specs.declared.term.Term.{Term}
use Rattle.relation_reader.specs.declared.place.Place.TheVariants as places
use Rattle.relation_reader.specs.Grammar.{Lexeme, star, comma, Factor, constant, power, Summand, Sign, positive, negative, Signed, Relation}
use Rattle.relation_reader.specs.Grammar.{spelled_factor, spelled_first_sign, spelled_relation, spelled_relations, spelled_sign, spelled_summand}
use Rattle.relation_reader.specs.Meaning.{is_among, letter_of, product_of_values, signed, term_of, terms_of_relation, value_of, value_of_factor}
use Rattle.relation_reader.specs.Meaning.{word_of, word_of_factor}
use Rattle.relation_reader.specs.Gathering.{Gathering, fresh, gathered, known_letter, present}
use Rattle.relation_reader.proofs.Bools.{not_false}
use Rattle.relation_reader.proofs.Spelled.{commaed, end_place, ending, signeds, starred, start_place}
use Rattle.relation_reader.proofs.Fit.{AreFit}

-- a term with its coefficient modulo p
abbrev pub reduced : ℕ → Term → Term
reduced p t = record { word = t.word; coefficient = t.coefficient % p }

-- the terms of a relation modulo p
abbrev pub reduced_terms : ℕ → List (List ℕ) → Relation → List Term
reduced_terms p names r = map (reduced p) (terms_of_relation p names r)

abbrev is_negative : Sign → Bool
is_negative positive = false
is_negative negative = true

known-is : (names : List (List ℕ)) (x : List ℕ) → not (is_among x names) ≡ false → known_letter names x ≡ letter_of names x
known-is names x e = ap (λ (b : Bool). cond b (letter_of names x) 0) (not_false (is_among x names) e)

small-is : (e : ℕ) → nat_lt 256 e ≡ false → min e 256 ≡ e
small-is e f = let h : e ≤ 256 = ltb-false 256 e f in omega arith

module _ (p : ℕ) (names : List (List ℕ)) (before : List (List Term)) where
  -- within a term
  abbrev within : List Term → Bool → List ℕ → Option ℕ → ℕ → Bool → Gathering
  within terms neg word letter value begun = record {
    relations = before;
    terms = terms;
    word = word;
    letter = letter;
    value = value;
    negative = neg;
    begun = begun;
  }

  -- from a state on some lexemes lead to this word and number of the present term
  record Walks (terms : List Term) (neg : Bool) (start : Gathering) (ls rest : List Lexeme) (word : List ℕ) (value : ℕ) : Type 0 where
    body : List ℕ
    letter : Option ℕ
    whole : body ++ option_to_list letter ≡ word
    walk : gathered p names start ls ≡ gathered p names (within terms neg body letter (value % p) true) rest
    end : Bool
    fit : AreFit names (Some (end_place end)) rest

  factor-walk : (terms : List Term) (neg : Bool) (w : List ℕ) (x : ℕ) (b : Bool) (f : Factor) (rest : List Lexeme) →
      AreFit names (Some places.AfterOperator) (spelled_factor f ++ rest)
      → Walks terms neg (within terms neg w None (x % p) b) (spelled_factor f ++ rest) rest (w ++ word_of_factor names f) (x * value_of_factor f)
  factor-walk terms neg w x b (constant v) rest h = record {
    body = w;
    letter = None;
    whole = refl;
    walk = ap (λ (n : ℕ). gathered p names (within terms neg w None n true) rest) (sym (mul-mod x v p));
    end = false;
    fit = h.1;
  }
  factor-walk terms neg w x b (power l None) rest h = record {
    body = w;
    letter = Some (letter_of names l);
    whole = refl;
    walk = ap₂ (λ (k : ℕ) (n : ℕ). gathered p names (within terms neg w (Some k) n true) rest) (known-is names l h.0.known)
        (ap (λ (n : ℕ). n % p) (sym (mul-one x)));
    end = true;
    fit = h.1;
  }
  factor-walk terms neg w x b (power l (Some e)) rest h = record {
    body = w ++ replicate e (letter_of names l);
    letter = None;
    whole = append-nil (w ++ replicate e (letter_of names l));
    walk = ap₂ (λ (xs : List ℕ) (n : ℕ). gathered p names (within terms neg (w ++ xs) None n true) rest)
        (ap₂ (λ (m k : ℕ). replicate m k) (small-is e h.1.1.0.small) (known-is names l h.0.known)) (ap (λ (n : ℕ). n % p) (sym (mul-one x)));
    end = false;
    fit = h.1.1.1;
  }

  after_star : (end : Bool) (ls : List Lexeme) → AreFit names (Some (end_place end)) (star ∷ ls) → AreFit names (Some places.AfterOperator) ls
  after_star true ls h = h.1
  after_star false ls h = h.1

  after_sign : (end : Bool) (s : Sign) (ls : List Lexeme) → AreFit names (Some (end_place end)) (spelled_sign s ++ ls) →
      AreFit names (Some places.AfterOperator) ls
  after_sign true positive ls h = h.1
  after_sign true negative ls h = h.1
  after_sign false positive ls h = h.1
  after_sign false negative ls h = h.1

  others-walk : (terms : List Term) (neg : Bool) (w : List ℕ) (o : Option ℕ) (x : ℕ) (end : Bool) (fs : List Factor) (rest : List Lexeme) →
      AreFit names (Some (end_place end)) (starred fs ++ rest)
      → Walks terms neg (within terms neg w o (x % p) true) (starred fs ++ rest) rest
      ((w ++ option_to_list o) ++ flat_map (word_of_factor names) fs) (x * product_of_values fs)
  others-walk terms neg w o x end [] rest h = record {
    body = w;
    letter = o;
    whole = sym (append-nil (w ++ option_to_list o));
    walk = ap (λ (n : ℕ). gathered p names (within terms neg w o (n % p) true) rest) (sym (mul-one x));
    end = end;
    fit = h;
  }
  others-walk terms neg w o x end (f ∷ fs) rest h =
      let more = starred fs ++ rest in
      let e : starred (f ∷ fs) ++ rest ≡ star ∷ (spelled_factor f ++ more) =
      ap (λ (ls : List Lexeme). star ∷ ls) (append_assoc (spelled_factor f) (starred fs) rest) in
      let h' = subst (λ (ls : List Lexeme). AreFit names (Some (end_place end)) ls) e h in
      let a = factor-walk terms neg (w ++ option_to_list o) x true f more (after_star end (spelled_factor f ++ more) h') in
      let r = others-walk terms neg a.body a.letter (x * value_of_factor f) a.end fs rest a.fit in
      record {
        body = r.body;
        letter = r.letter;
        whole = r.whole ∙ ap (λ (xs : List ℕ). xs ++ flat_map (word_of_factor names) fs) a.whole
            ∙ append_assoc (w ++ option_to_list o) (word_of_factor names f) (flat_map (word_of_factor names) fs);
        walk = ap (gathered p names (within terms neg w o (x % p) true)) e ∙ a.walk ∙ r.walk
            ∙ ap (λ (n : ℕ). gathered p names (within terms neg r.body r.letter (n % p) true) rest) (mul_assoc x (value_of_factor f) (product_of_values fs));
        end = r.end;
        fit = r.fit;
      }

  summand-walk : (terms : List Term) (neg b : Bool) (s : Summand) (rest : List Lexeme) → AreFit names (Some places.AfterOperator) (spelled_summand s ++ rest)
      → Walks terms neg (within terms neg [] None (1 % p) b) (spelled_summand s ++ rest) rest (word_of names s) (value_of s)
  summand-walk terms neg b s rest h =
      let more = starred s.others ++ rest in
      let e : spelled_summand s ++ rest ≡ spelled_factor s.first ++ more = append_assoc (spelled_factor s.first) (starred s.others) rest in
      let a = factor-walk terms neg [] 1 b s.first more (subst (λ (ls : List Lexeme). AreFit names (Some places.AfterOperator) ls) e h) in
      let r = others-walk terms neg a.body a.letter (1 * value_of_factor s.first) a.end s.others rest a.fit in
      record {
        body = r.body;
        letter = r.letter;
        whole = r.whole ∙ ap (λ (xs : List ℕ). xs ++ flat_map (word_of_factor names) s.others) a.whole;
        walk = ap (gathered p names (within terms neg [] None (1 % p) b)) e ∙ a.walk ∙ r.walk
            ∙ ap (λ (n : ℕ). gathered p names (within terms neg r.body r.letter ((n * product_of_values s.others) % p) true) rest)
            (one-mul (value_of_factor s.first));
        end = r.end;
        fit = r.fit;
      }

  signed-is : (s : Sign) (n : ℕ) → cond (is_negative s) ((p - n % p) % p) (n % p) ≡ signed p s n % p
  signed-is positive n = refl
  signed-is negative n = refl

  -- the present term is that of the summand, modulo p
  present-is : (terms : List Term) (s : Sign) (m : Summand) (w : List ℕ) (o : Option ℕ) → w ++ option_to_list o ≡ word_of names m
      → present p (within terms (is_negative s) w o (value_of m % p) true) ≡ reduced p (term_of p names s m)
  present-is terms s m w o e = λ i. record { word = e i; coefficient = signed-is s (value_of m) i }

  -- from a state on some lexemes lead to a state in which these are the terms of the present relation
  record Leads (start : Gathering) (ls rest : List Lexeme) (all : List Term) : Type 0 where
    terms : List Term
    neg : Bool
    word : List ℕ
    letter : Option ℕ
    value : ℕ
    all_is : terms ++ present p (within terms neg word letter value true) ∷ [] ≡ all
    walk : gathered p names start ls ≡ gathered p names (within terms neg word letter value true) rest
    end : Bool
    fit : AreFit names (Some (end_place end)) rest

  sign-walk : (terms : List Term) (neg : Bool) (w : List ℕ) (o : Option ℕ) (v : ℕ) (s : Sign) (ls : List Lexeme)
      → gathered p names (within terms neg w o v true) (spelled_sign s ++ ls)
      ≡ gathered p names (within (terms ++ present p (within terms neg w o v true) ∷ []) (is_negative s) [] None (1 % p) false) ls
  sign-walk terms neg w o v positive ls = refl
  sign-walk terms neg w o v negative ls = refl

  abbrev meant : List Signed → List Term
  meant ss = map (reduced p) (map (λ (s : Signed). term_of p names s.sign s.summand) ss)

  signeds-walk : (terms : List Term) (neg : Bool) (w : List ℕ) (o : Option ℕ) (v : ℕ) (end : Bool) (ss : List Signed) (rest : List Lexeme) →
      AreFit names (Some (end_place end)) (signeds ss ++ rest)
      → Leads (within terms neg w o v true) (signeds ss ++ rest) rest ((terms ++ present p (within terms neg w o v true) ∷ []) ++ meant ss)
  signeds-walk terms neg w o v end [] rest h = record {
    terms = terms;
    neg = neg;
    word = w;
    letter = o;
    value = v;
    all_is = sym (append-nil (terms ++ present p (within terms neg w o v true) ∷ []));
    walk = refl;
    end = end;
    fit = h;
  }
  signeds-walk terms neg w o v end (s ∷ ss) rest h =
      let ended = terms ++ present p (within terms neg w o v true) ∷ [] in
      let more = signeds ss ++ rest in
      let e : signeds (s ∷ ss) ++ rest ≡ spelled_sign s.sign ++ (spelled_summand s.summand ++ more) =
      append_assoc (spelled_sign s.sign ++ spelled_summand s.summand) (signeds ss) rest
      ∙ append_assoc (spelled_sign s.sign) (spelled_summand s.summand) more in
      let h' = subst (λ (ls : List Lexeme). AreFit names (Some (end_place end)) ls) e h in
      let a = summand-walk ended (is_negative s.sign) false s.summand more (after_sign end s.sign (spelled_summand s.summand ++ more) h') in
      let r = signeds-walk ended (is_negative s.sign) a.body a.letter (value_of s.summand % p) a.end ss rest a.fit in
      record {
        terms = r.terms;
        neg = r.neg;
        word = r.word;
        letter = r.letter;
        value = r.value;
        all_is = r.all_is
            ∙ ap (λ (t : Term). (ended ++ t ∷ []) ++ meant ss) (present-is ended s.sign s.summand a.body a.letter a.whole)
            ∙ append_assoc ended (reduced p (term_of p names s.sign s.summand) ∷ []) (meant ss);
        walk = ap (gathered p names (within terms neg w o v true)) e ∙ sign-walk terms neg w o v s.sign (spelled_summand s.summand ++ more) ∙ a.walk ∙ r.walk;
        end = r.end;
        fit = r.fit;
      }

  start-factor : (b : Bool) (f : Factor) (rest : List Lexeme) → AreFit names (Some (start_place b)) (spelled_factor f ++ rest) →
      AreFit names (Some places.AfterOperator) (spelled_factor f ++ rest)
  start-factor true (constant value) rest h = (record { few = refl; apart = refl; weight = refl; known = refl; small = refl }, h.1)
  start-factor true (power letter None) rest h = (record { few = refl; apart = refl; weight = refl; known = h.0.known; small = refl }, h.1)
  start-factor true (power letter (Some value)) rest h = (record { few = refl; apart = refl; weight = refl; known = h.0.known; small = refl }, h.1)
  start-factor false (constant value) rest h = (record { few = refl; apart = refl; weight = refl; known = refl; small = refl }, h.1)
  start-factor false (power letter None) rest h = (record { few = refl; apart = refl; weight = refl; known = h.0.known; small = refl }, h.1)
  start-factor false (power letter (Some value)) rest h = (record { few = refl; apart = refl; weight = refl; known = h.0.known; small = refl }, h.1)

  start-summand : (b : Bool) (s : Summand) (rest : List Lexeme) → AreFit names (Some (start_place b)) (spelled_summand s ++ rest) →
      AreFit names (Some places.AfterOperator) (spelled_summand s ++ rest)
  start-summand b s rest h =
      let e = append_assoc (spelled_factor s.first) (starred s.others) rest in
      subst (λ (ls : List Lexeme). AreFit names (Some places.AfterOperator) ls) (sym e)
      (start-factor b s.first (starred s.others ++ rest) (subst (λ (ls : List Lexeme). AreFit names (Some (start_place b)) ls) e h))

  first-fit : (b : Bool) (s : Option Sign) (m : Summand) (rest : List Lexeme) →
      AreFit names (Some (start_place b)) (spelled_first_sign s ++ (spelled_summand m ++ rest)) →
      AreFit names (Some places.AfterOperator) (spelled_summand m ++ rest)
  first-fit b None m rest h = start-summand b m rest h
  first-fit true (Some positive) m rest h = h.1
  first-fit true (Some negative) m rest h = h.1
  first-fit false (Some positive) m rest h = h.1
  first-fit false (Some negative) m rest h = h.1

  first-walk : (s : Option Sign) (ls : List Lexeme) → gathered p names (fresh p before [] false) (spelled_first_sign s ++ ls)
      ≡ gathered p names (within [] (is_negative (unwrap_or s positive)) [] None (1 % p) false) ls
  first-walk None ls = refl
  first-walk (Some positive) ls = refl
  first-walk (Some negative) ls = refl

  relation-walk : (b : Bool) (r : Relation) (rest : List Lexeme) → AreFit names (Some (start_place b)) (spelled_relation r ++ rest) →
      Leads (fresh p before [] false) (spelled_relation r ++ rest) rest (reduced_terms p names r)
  relation-walk b r rest h =
      let sign = unwrap_or r.sign positive in
      let more = signeds r.others ++ rest in
      let e : spelled_relation r ++ rest ≡ spelled_first_sign r.sign ++ (spelled_summand r.first ++ more) =
      append_assoc (spelled_first_sign r.sign ++ spelled_summand r.first) (signeds r.others) rest
      ∙ append_assoc (spelled_first_sign r.sign) (spelled_summand r.first) more in
      let h' = subst (λ (ls : List Lexeme). AreFit names (Some (start_place b)) ls) e h in
      let a = summand-walk [] (is_negative sign) false r.first more (first-fit b r.sign r.first more h') in
      let l = signeds-walk [] (is_negative sign) a.body a.letter (value_of r.first % p) a.end r.others rest a.fit in
      record {
        terms = l.terms;
        neg = l.neg;
        word = l.word;
        letter = l.letter;
        value = l.value;
        all_is = l.all_is ∙ ap (λ (t : Term). t ∷ meant r.others) (present-is [] sign r.first a.body a.letter a.whole);
        walk = ap (gathered p names (fresh p before [] false)) e ∙ first-walk r.sign (spelled_summand r.first ++ more) ∙ a.walk ∙ l.walk;
        end = l.end;
        fit = l.fit;
      }

after_comma_fit : (names : List (List ℕ)) (end : Bool) (ls : List Lexeme) → AreFit names (Some (end_place end)) (comma ∷ ls) →
    AreFit names (Some places.AfterComma) ls
after_comma_fit names true ls h = h.1
after_comma_fit names false ls h = h.1

-- behind a relation
further-walk : (p : ℕ) (names : List (List ℕ)) (before : List (List Term)) (terms : List Term) (neg : Bool) (w : List ℕ) (o : Option ℕ)
    (v : ℕ) (end : Bool) (rs : List Relation) → AreFit names (Some (end_place end)) (commaed rs ++ ending)
    → gathered p names (within p names before terms neg w o v true) (commaed rs ++ ending)
    ≡ (before ++ (terms ++ present p (within p names before terms neg w o v true) ∷ []) ∷ []) ++ map (reduced_terms p names) rs
further-walk p names before terms neg w o v end [] h = sym (append-nil (before ++ (terms ++ present p (within p names before terms neg w o v true) ∷ []) ∷ []))
further-walk p names before terms neg w o v end (r ∷ rs) h =
    let ended = before ++ (terms ++ present p (within p names before terms neg w o v true) ∷ []) ∷ [] in
    let more = commaed rs ++ ending in
    let e : commaed (r ∷ rs) ++ ending ≡ comma ∷ (spelled_relation r ++ more) =
    ap (λ (ls : List Lexeme). comma ∷ ls) (append_assoc (spelled_relation r) (commaed rs) ending) in
    let h' = subst (λ (ls : List Lexeme). AreFit names (Some (end_place end)) ls) e h in
    let a = relation-walk p names ended false r more (after_comma_fit names end (spelled_relation r ++ more) h') in
    ap (gathered p names (within p names before terms neg w o v true)) e
    ∙ a.walk
    ∙ further-walk p names ended a.terms a.neg a.word a.letter a.value a.end rs a.fit
    ∙ ap (λ (ts : List Term). (ended ++ ts ∷ []) ++ map (reduced_terms p names) rs) a.all_is
    ∙ append_assoc ended (reduced_terms p names r ∷ []) (map (reduced_terms p names) rs)

-- what the relations of a tree spell gives their terms
pub relations-walk : (p : ℕ) (names : List (List ℕ)) (rs : List Relation) → AreFit names (Some places.AfterList) (spelled_relations rs ++ ending)
    → gathered p names (fresh p [] [] false) (spelled_relations rs ++ ending) ≡ map (reduced_terms p names) rs
relations-walk p names [] h = refl
relations-walk p names (r ∷ rs) h =
    let more = commaed rs ++ ending in
    let e : spelled_relations (r ∷ rs) ++ ending ≡ spelled_relation r ++ more = append_assoc (spelled_relation r) (commaed rs) ending in
    let a = relation-walk p names [] true r more (subst (λ (ls : List Lexeme). AreFit names (Some places.AfterList) ls) e h) in
    ap (gathered p names (fresh p [] [] false)) e
    ∙ a.walk
    ∙ further-walk p names [] a.terms a.neg a.word a.letter a.value a.end rs a.fit
    ∙ ap (λ (ts : List Term). ts ∷ map (reduced_terms p names) rs) a.all_is
