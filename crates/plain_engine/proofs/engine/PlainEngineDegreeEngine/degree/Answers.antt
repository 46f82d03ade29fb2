use Rattle.std.proofs.Common.{◌≡◌, ◌+◌, [], ℕ, List, All, AllPairs, length, subst, sym, ◌∙◌, arith}
use Rattle.std.proofs.lemmas.List.{get_or_read}
use Rattle.std.specs.List.{flat_map}
use Rattle.words.specs.Order.{IsLetterwiseGreater}
use Rattle.words.specs.Words.{words_of_degree}
use Rattle.words.proofs.Degrees.{words_of_degree-falling}
use Rattle.ideal_laws.specs.Basis.{IsReducedBasis}
use Rattle.back_reduce.specs.Rref.{IsRref}
use Rattle.plain_engine.specs.Elements.{AreElements}
use Rattle.degree_words.specs.Lists.{AreLists}
use Rattle.plain_engine.specs.Products.{relation_rows}
use Rattle.plain_engine.proofs.Degree.{basis_from_elements}
use Rattle.plain_engine.proofs.ProductRows.{last_list}
use Rattle.plain_engine.proofs.engine.PlainEngineDegreeEngine.degree.Goals as goal
use Rattle.ideal_laws.specs.Ideal.{ideal_of}

pub elements_of-requires-clause-falling : goal.elements_of-requires-clause-falling
elements_of-requires-clause-falling g c =
    let weights = c.args.presentation.now.alphabet.weights in
    let d = c.args.d in
    let lists = c.as_slice-lists.result.now in
    let al = subst (λ (ls : List (List (List ℕ))). AreLists weights d ls (d + 1)) (sym c.as_slice-lists.ensures.value) c.in_ok-words.ensures in
    let columns : c.as_slice-columns.result.now ≡ words_of_degree weights d = c.as_slice-columns.ensures
    ∙ get_or_read lists d c.index-lists-d.result (omega (arith, al.size)) c.index-lists-d.is [] ∙ last_list weights d lists al in
    subst (AllPairs IsLetterwiseGreater) (sym columns) (words_of_degree-falling weights c.next_degree_law.ensures.setting.are_weights d)

pub elements_of-requires-clause-width : goal.elements_of-requires-clause-width
elements_of-requires-clause-width g c =
    let m = length c.as_slice-columns.result.now in
    subst (All (λ (row : List ℕ). length row ≡ m)) (sym c.as_slice-rows.ensures.value)
    (λ k row low. (c.in_ok-echelon.ensures.form.each k row low).size)

pub returns-clause-elements : goal.returns-clause-elements
returns-clause-elements g c =
    let p = c.args.field.now in
    let weights = c.args.presentation.now.alphabet.weights in
    let relations = c.args.presentation.now.relations in
    let below = c.args.below.now in
    let d = c.args.d in
    let law = c.next_degree_law.ensures in
    let lists = c.as_slice-lists.result.now in
    let echelon = c.in_ok-echelon.echelon.items in
    let elements = c.in_ok-elements.elements.items in
    let al = subst (λ (ls : List (List (List ℕ))). AreLists weights d ls (d + 1)) (sym c.as_slice-lists.ensures.value) c.in_ok-words.ensures in
    let columns : c.as_slice-columns.result.now ≡ words_of_degree weights d = c.as_slice-columns.ensures
    ∙ get_or_read lists d c.index-lists-d.result (omega (arith, al.size)) c.index-lists-d.is [] ∙ last_list weights d lists al in
    let rref = subst (λ (ws : List (List ℕ)). IsRref p (length ws) (flat_map (relation_rows weights lists d ws) relations) echelon) columns
    c.in_ok-echelon.ensures.form in
    let are = subst (λ (ws : List (List ℕ)). AreElements ws below.elements echelon elements) columns
    (subst (λ (rows : List (List ℕ)). AreElements c.as_slice-columns.result.now below.elements rows elements) c.as_slice-rows.ensures.value
    c.in_ok-elements.ensures) in
    subst (IsReducedBasis (ideal_of c.args.field.now c.args.presentation.now) d) (sym c.from_vec.ensures)
    (basis_from_elements (ideal_of c.args.field.now c.args.presentation.now) law.setting d lists al echelon rref below.elements law.lower elements are)
