use Rattle.std.proofs.Common.{◌≡◌, ℕ, [], get_or, subst, sym, ◌∙◌, arith}
use Rattle.std.proofs.lemmas.List.{get_or_read}
use Rattle.ideal_laws.specs.Closure.{IsNormal}
use Rattle.plain_engine.proofs.Chosen.{lead_one}
use Rattle.plain_engine.proofs.elements.has_normal_lead.Goals as goal

pub returns-in-Some : goal.returns-in-Some
returns-in-Some c =
    let columns = c.args.columns.now in
    let G = c.args.below.now.elements in
    let at = c.in-Some.at in
    let lead = c.in-Some.ensures in
    let word : c.letters.result.now ≡ get_or columns at [] = c.letters.ensures
    ∙ get_or_read columns at c.index-columns-at.result (omega (arith, lead.within, c.requires)) c.index-columns-at.is [] in (
      λ is k other. subst (λ (n : ℕ). IsNormal G (get_or columns n [])) (lead_one c.args.row.now at k lead other)
          (subst (IsNormal G) word (c.is_normal.ensures.0 is)),
      λ h. c.is_normal.ensures.1 (subst (IsNormal G) (sym word) (h at lead)),
    )
