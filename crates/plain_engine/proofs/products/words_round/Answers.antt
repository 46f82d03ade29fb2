use Rattle.std.proofs.Common.{length, subst, sym}
use Rattle.words.specs.Words.{IsOver}
use Rattle.free_poly.proofs.Leads.{lead_over}
use Rattle.plain_engine.proofs.products.words_round.Goals as goal

pub degree_within-degree-requires-clause-letters : goal.degree_within-degree-requires-clause-letters
degree_within-degree-requires-clause-letters c =
    let names = length c.args.alphabet.now.weights in
    subst (IsOver names) (sym c.letters.ensures) (lead_over names c.args.relation.now c.in-Some.lead.now c.in-Some.ensures c.requires.letters)
