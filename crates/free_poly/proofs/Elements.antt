-- Words and degrees of elements, and of their sums and multiples.
use Rattle.std.proofs.Common.{◌≡◌, ◌*◌, ℕ, List, ◌++◌, sym, ◌∙◌, All}
use Rattle.std.proofs.lemmas.List.Elements.{All-append, All-map}
use Rattle.words.specs.Words.{IsOver, degree_of}
use Rattle.words.specs.Order.{IsLetterwiseGreater}
use Rattle.words.proofs.Members.{AllPairs-first}
use Rattle.words.proofs.OrderFacts.{agrees_in_degree, greater_says, has_no_prefixes}
use Rattle.free_poly.specs.declared.term.Term.{Term}
use Rattle.free_poly.specs.Terms.{scaled}
use Rattle.free_poly.specs.ElementLaws.{HasNoPrefixInDegree, KeepsDegreeInMultiples, KeepsDegreeInSums, KeepsLettersInMultiples, KeepsLettersInSums}
use Rattle.free_poly.specs.ElementLaws.{LeadsWithGreatest}
use Rattle.free_poly.proofs.Sums.{words_of_same}

-- the words of a multiple are those of the sum
pub words_of_scaled : (P : List ℕ → Type 0) (a : ℕ) (f : List Term) → All (λ t. P t.word) f → All (λ t. P t.word) (scaled a f)
words_of_scaled P a f h = All-map (λ t. P t.word) (λ t. record { word = t.word; coefficient = a * t.coefficient }) f h

-- what holds of all words of g and of all words of h holds of all words of g + a * h
pub words_of_sum : (P : List ℕ → Type 0) (a : ℕ) (g h : List Term) → All (λ t. P t.word) g → All (λ t. P t.word) h → All (λ t. P t.word) (g ++ scaled a h)
words_of_sum P a g h first second = All-append (λ t. P t.word) g (scaled a h) first (words_of_scaled P a h second)

-- the first word of a polynomial whose words have one degree is greater, in the order of words, than each other word
pub leads_with_greatest : LeadsWithGreatest
leads_with_greatest weights aw t f form one k d within =
    let same = AllPairs-first (λ (s u : Term). degree_of weights s.word ≡ degree_of weights u.word) t f one k d within in
    let above = AllPairs-first (λ (s u : Term). IsLetterwiseGreater s.word u.word) t f form.falling k d within in
    greater_says weights aw _ _ (agrees_in_degree weights _ _ same ∙ above)

-- where all words have one degree, none is a proper prefix of an earlier one
pub has_no_prefix_in_degree : HasNoPrefixInDegree
has_no_prefix_in_degree weights aw f one i j d below within = has_no_prefixes weights aw _ _ (sym (one i j d below within))

-- a polynomial with residues that is g + a * h modulo p has degree d where both g and h have it
pub keeps_degree_in_sums : KeepsDegreeInSums
keeps_degree_in_sums p a weights d f g h form residues same first second =
    let P : List ℕ → Type 0 = λ w. degree_of weights w ≡ d in
    words_of_same p P f (g ++ scaled a h) form residues same (words_of_sum P a g h first second)

-- a polynomial with residues that is g + a * h modulo p is over so many letters where both g and h are
pub keeps_letters_in_sums : KeepsLettersInSums
keeps_letters_in_sums p a names f g h form residues same first second =
    words_of_same p (IsOver names) f (g ++ scaled a h) form residues same (words_of_sum (IsOver names) a g h first second)

-- a polynomial with residues that is a multiple of g has degree d where g has it
pub keeps_degree_in_multiples : KeepsDegreeInMultiples
keeps_degree_in_multiples p weights d f g form residues m degrees =
    let P : List ℕ → Type 0 = λ w. degree_of weights w ≡ d in
    words_of_same p P f (scaled m.factor g) form residues m.same (words_of_scaled P m.factor g degrees)

-- a polynomial with residues that is a multiple of g is over so many letters where g is
pub keeps_letters_in_multiples : KeepsLettersInMultiples
keeps_letters_in_multiples p names f g form residues m letters =
    words_of_same p (IsOver names) f (scaled m.factor g) form residues m.same (words_of_scaled (IsOver names) m.factor g letters)
