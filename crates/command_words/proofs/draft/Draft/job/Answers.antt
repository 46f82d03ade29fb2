use Rattle.command_words.proofs.Jobs.{field_is}
use Rattle.command_words.proofs.draft.Draft.job.Goals as goal

pub returns-clause-values : goal.returns-clause-values
returns-clause-values c = field_is c.args.self.now.values _ c.requires (record {
  modulus = c.count_of.ensures;
  bound = c.count_of-2.ensures;
  workers = c.count_of-3.ensures;
  show = c.show.ensures;
  trace = c.answer_of.ensures;
  engine = c.engine.ensures;
  schedule = c.count_of-4.ensures;
  number = c.count_of-5.ensures;
  letters = c.count_of-6.ensures;
  gens = c.count_of-7.ensures;
  list = c.answer_of-2.ensures;
  ask = c.count_of-8.ensures;
})
