use Rattle.std.proofs.Common.{◌≡◌, false, true, ℕ, List, Result, Ok, Err, get_or, refl, sym, subst}
use Rattle.std.specs.Result.{IfOk}
use Rattle.std.proofs.lemmas.List.Elements.{All-contains}
use Rattle.back_reduce.specs.declared.echelon.Leader.{Leader}
use Rattle.back_reduce.specs.Leaders.{IsLaterVector, IsReducedRow}
use Rattle.back_reduce.proofs.Sums.{plus_nothing}
use Rattle.back_reduce.proofs.echelon.reduced_row.Goals as goal

same_row : {E : Type 0} (P : List ℕ → Type 0) (result : Result (List ℕ) E) (row : List ℕ) → P row → IfOk result (λ r. r ≡ row) → IfOk result P
same_row P (Err e) row h is = tt
same_row P (Ok r) row h is = subst P (sym is) h

pub returns-then-is_clear : goal.returns-then-is_clear
returns-then-is_clear c =
    let own : Leader = c.args.own.now in
    let p = c.args.field.now in
    let leaders = c.args.leaders.now in
    let reduced : IsReducedRow p leaders own.column own.row own.row = record {
      leader = c.requires.leader;
      zero_later = λ later there after. c.is_clear.ensures c.if-is_clear.true later.column after
          (All-contains (λ (l : Leader). get_or c.args.marks.now l.column false ≡ true) leaders later c.requires.marked there);
      sum = λ modulus. plus_nothing p modulus (IsLaterVector p modulus leaders own.column) own.row own.row refl;
    } in
    same_row (IsReducedRow p leaders own.column own.row) c.copy.result own.row reduced c.copy.ensures
