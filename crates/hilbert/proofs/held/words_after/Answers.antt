use Rattle.std.proofs.Common.{◌≡◌, List, [], ◌∷◌, arith, length, rules, subst, sym}
use Rattle.std.proofs.lemmas.List.{nil_from_length}
use Rattle.normal_words.specs.Normal.{AreNormal, WordsOfDegree, next_of}
use Rattle.normal_words.proofs.Grown.{start_normal}
use Rattle.hilbert.proofs.held.words_after.Goals as goal

pub returns-then-most-eq0-clause-many : goal.returns-then-most-eq0-clause-many
returns-then-most-eq0-clause-many c = λ _.
    let none : length c.args.held.now ≡ 0 = search rules in
    let nil : c.args.held.now ≡ [] = nil_from_length c.args.held.now none in
    let normal = start_normal c.args.alphabet.now.weights c.args.index.now c.requires.some in (
      [] ∷ [],
      subst (λ (hs : List WordsOfDegree). AreNormal c.args.alphabet.now.weights c.args.index.now (next_of hs) ([] ∷ [])) (sym nil) normal,
      omega (arith, c.if-most-eq0.true),
    )
