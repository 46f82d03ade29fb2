use Rattle.std.proofs.Common.{length, subst, sym}
use Rattle.words.specs.Words.{IsOver}
use Rattle.free_poly.proofs.Leads.{lead_over}
use Rattle.cofactors.proofs.triples.lead_degree_within.Goals as goal

pub degree_within-requires-clause-letters : goal.degree_within-requires-clause-letters
degree_within-requires-clause-letters c =
    let names = length c.args.alphabet.now.weights in
    subst (IsOver names) (sym c.letters.ensures) (lead_over names c.args.element.now c.in-Some.lead.now c.in-Some.ensures c.requires.letters)
