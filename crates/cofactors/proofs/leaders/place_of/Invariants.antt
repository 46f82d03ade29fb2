use Rattle.std.proofs.Common.{All, take}
use Rattle.words.specs.Order.{IsLetterwiseGreater}
use Rattle.cofactors.specs.Rows.{lead_word}
use Rattle.cofactors.proofs.leaders.place_of.Given as goal

abbrev pub invariant-loop-at : goal.invariant-loop-at
invariant-loop-at l = All (λ r. IsLetterwiseGreater (lead_word r) l.word) (take l.at l.leaders)
