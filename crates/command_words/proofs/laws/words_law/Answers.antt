use Rattle.command_words.proofs.SomeAnswer.{has_one_answer}
use Rattle.command_words.proofs.laws.words_law.Goals as goal

pub returns : goal.returns
returns c = has_one_answer
