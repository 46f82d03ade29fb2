use Rattle.std.proofs.Common.{length, subst, sym}
use Rattle.words.specs.Words.{IsOver}
use Rattle.free_poly.proofs.Leads.{lead_over}
use Rattle.degree_loop.proofs.relations.has_degree.Goals as goal

pub degree_within-requires-clause-letters : goal.degree_within-requires-clause-letters
degree_within-requires-clause-letters c =
    let names = length c.args.alphabet.now.weights in
    subst (IsOver names) (sym c.letters.ensures) (lead_over names c.args.relation.now c.in-Some.lead.now c.in-Some.ensures c.requires.letters)
