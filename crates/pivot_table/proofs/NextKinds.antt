-- What the next kind of step says of a phase.
use Rattle.std.proofs.Common.{◌≡◌, ◌≢◌, true, ℕ, refl, sym, ap, ◌∙◌}
use Rattle.pivot_core.specs.declared.view.Phase.{Phase}
use Rattle.pivot_core.specs.declared.view.Phase.TheVariants as phase
use Rattle.pivot_core.specs.declared.event.Kind.{Kind}
use Rattle.pivot_core.specs.declared.event.Kind.TheVariants as kind
use Rattle.pivot_core.specs.Steps.{is_next}
use Rattle.pivot_table.proofs.Turns.{IsLoad}

-- the phase in which a kind comes next
pub record IsClaimNext (f : Phase) : Type 0 where
  pub row : ℕ
  pub column : ℕ
  pub is : f ≡ phase.Claiming row column

-- where a claim comes next the phase is Claiming
pub claim_next : (f : Phase) → is_next kind.Claim f ≡ true → IsClaimNext f
claim_next phase.Fresh e = absurd (cc e)
claim_next (phase.Looking row column) e = absurd (cc e)
claim_next (phase.Putting row column at) e = absurd (cc e)
claim_next (phase.Claiming row column) e = record { row = row; column = column; is = refl }
claim_next (phase.Reading row column holder at) e = absurd (cc e)
claim_next phase.Ended e = absurd (cc e)

-- where a draw comes next it is Fresh
pub draw_next : (f : Phase) → is_next kind.Draw f ≡ true → f ≡ phase.Fresh
draw_next phase.Fresh e = refl
draw_next (phase.Looking row column) e = absurd (cc e)
draw_next (phase.Putting row column at) e = absurd (cc e)
draw_next (phase.Claiming row column) e = absurd (cc e)
draw_next (phase.Reading row column holder at) e = absurd (cc e)
draw_next phase.Ended e = absurd (cc e)

-- the phase is Putting
pub record IsPutNext (f : Phase) : Type 0 where
  pub row : ℕ
  pub column : ℕ
  pub at : ℕ
  pub is : f ≡ phase.Putting row column at

-- which it is where a put comes next
pub put_next : (f : Phase) → is_next kind.Put f ≡ true → IsPutNext f
put_next phase.Fresh e = absurd (cc e)
put_next (phase.Looking row column) e = absurd (cc e)
put_next (phase.Putting row column at) e = record { row = row; column = column; at = at; is = refl }
put_next (phase.Claiming row column) e = absurd (cc e)
put_next (phase.Reading row column holder at) e = absurd (cc e)
put_next phase.Ended e = absurd (cc e)

-- a look is a load
pub look_next : (f : Phase) → is_next kind.Look f ≡ true → IsLoad f
look_next phase.Fresh e = absurd (cc e)
look_next (phase.Looking row column) e = tt
look_next (phase.Putting row column at) e = absurd (cc e)
look_next (phase.Claiming row column) e = absurd (cc e)
look_next (phase.Reading row column holder at) e = absurd (cc e)
look_next phase.Ended e = absurd (cc e)

-- and so is a read
pub read_next : (f : Phase) → is_next kind.Read f ≡ true → IsLoad f
read_next phase.Fresh e = absurd (cc e)
read_next (phase.Looking row column) e = absurd (cc e)
read_next (phase.Putting row column at) e = absurd (cc e)
read_next (phase.Claiming row column) e = absurd (cc e)
read_next (phase.Reading row column holder at) e = tt
read_next phase.Ended e = absurd (cc e)

-- a view that has a next step has not ended
pub goes_on : (k : Kind) (f : Phase) → is_next k f ≡ true → f ≢ phase.Ended
goes_on kind.Draw f e is = absurd (cc (sym e ∙ ap (is_next kind.Draw) is))
goes_on kind.Look f e is = absurd (cc (sym e ∙ ap (is_next kind.Look) is))
goes_on kind.Put f e is = absurd (cc (sym e ∙ ap (is_next kind.Put) is))
goes_on kind.Claim f e is = absurd (cc (sym e ∙ ap (is_next kind.Claim) is))
goes_on kind.Read f e is = absurd (cc (sym e ∙ ap (is_next kind.Read) is))
