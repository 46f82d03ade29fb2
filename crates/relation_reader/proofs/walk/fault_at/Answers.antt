use Rattle.std.proofs.Common.{◌≡◌, false, map, is_none, not, sym, ap, ◌∙◌}
use Rattle.relation_reader.specs.Grammar.{lexeme_of, next_place}
use Rattle.relation_reader.specs.Meaning.{first_of}
use Rattle.relation_reader.specs.Walk.{placed}
use Rattle.relation_reader.proofs.Faults.{begin_faults-with, faults_with, first_here, no_faults, used_faults-with}
use Rattle.relation_reader.proofs.walk.fault_at.Goals as goal

pub returns-in-AfterList : goal.returns-in-AfterList
returns-in-AfterList c = λ before rest passed leads.
    let walk = c.args.walk.now in
    let names = map (λ name. name.items) walk.names.items in
    let lexeme = lexeme_of c.args.token.mark c.args.bytes.now in
    let comes : is_none (next_place walk.place lexeme) ≡ false = sym (ap is_none c.next_place.ensures) ∙ ap not c.is_none.ensures
    ∙ ap (λ b. not (not b)) c.if-is_none.false in
    c.begin_fault.ensures
    ∙ begin_faults-with names walk.begun walk.letters c.args.caret walk.place lexeme c.args.token.start c.in-AfterList.is
    ∙ sym (first_here names walk.begun walk.letters c.args.caret (placed walk.place c.args.token c.args.bytes.now) before rest comes passed leads)

pub returns-in-AfterOperator : goal.returns-in-AfterOperator
returns-in-AfterOperator c = λ before rest passed leads.
    let walk = c.args.walk.now in
    let names = map (λ name. name.items) walk.names.items in
    let lexeme = lexeme_of c.args.token.mark c.args.bytes.now in
    let comes : is_none (next_place walk.place lexeme) ≡ false = sym (ap is_none c.next_place.ensures) ∙ ap not c.is_none.ensures
    ∙ ap (λ b. not (not b)) c.if-is_none.false in
    c.used_fault.ensures
    ∙ used_faults-with names walk.begun walk.letters c.args.caret lexeme c.args.token.start
    ∙ ap (λ place. first_of (faults_with names walk.begun walk.letters c.args.caret (placed place c.args.token c.args.bytes.now))) (sym c.in-AfterOperator.is)
    ∙ sym (first_here names walk.begun walk.letters c.args.caret (placed walk.place c.args.token c.args.bytes.now) before rest comes passed leads)

pub returns-in_default : goal.returns-in_default
returns-in_default c = λ before rest passed leads.
    let walk = c.args.walk.now in
    let names = map (λ name. name.items) walk.names.items in
    let lexeme = lexeme_of c.args.token.mark c.args.bytes.now in
    let comes : is_none (next_place walk.place lexeme) ≡ false = sym (ap is_none c.next_place.ensures) ∙ ap not c.is_none.ensures
    ∙ ap (λ b. not (not b)) c.if-is_none.false in
    let at = c.in_default in
    sym (first_here names walk.begun walk.letters c.args.caret (placed walk.place c.args.token c.args.bytes.now) before rest comes passed leads
    ∙ no_faults names walk.begun walk.letters c.args.caret walk.place lexeme c.args.token.start at.not-AfterVars at.not-AfterListComma
    at.not-AfterListColon at.not-AfterList at.not-AfterComma at.not-AfterOperator at.not-AfterCaret)
