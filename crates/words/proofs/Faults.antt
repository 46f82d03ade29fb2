-- The fault that a call ended with, where `?` hands it on.
use Rattle.std.proofs.Common.{◌≡◌, Err, IsErrAnd, Result, sym, ◌∙◌}
use Rattle.std.proofs.lemmas.Result.{err_from_is_err_and}

-- a result has one fault
pub one_fault : {T E : Type 0} (r : Result T E) (a b : E) → r ≡ Err a → r ≡ Err b → a ≡ b
one_fault r a b h k = cc

-- what a call tells is the fault that was met
pub same_fault : {T E : Type 0} (r : Result T E) (met told : E) → IsErrAnd r (λ f. f ≡ met) → r ≡ Err told → met ≡ told
same_fault r met told handed e = let p = err_from_is_err_and r handed in sym p.2 ∙ one_fault r p.0 told p.1 e
