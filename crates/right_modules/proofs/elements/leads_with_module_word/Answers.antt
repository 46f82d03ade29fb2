use Rattle.std.proofs.Common.{◌↔◌, ◌∙◌, IsTrue, ap, arith, subst}
use Rattle.right_modules.specs.Module.{IsModuleWord}
use Rattle.right_modules.specs.ModuleBasis.{leads_module}
use Rattle.right_modules.proofs.ElementLists.{leads_from_first}
use Rattle.right_modules.proofs.elements.leads_with_module_word.Goals as goal

pub returns-in-len1-up : goal.returns-in-len1-up
returns-in-len1-up c =
    let says = subst (λ w. IsTrue c.is_module_word.result ↔ IsModuleWord c.args.free w) c.letters.ensures c.is_module_word.ensures in
    leads_from_first c.args.free c.terms.result.now c.first-item.result c.is_module_word.result (omega (arith, c.in-len1-up.len_at_least)) c.first-item.is says
    ∙ ap (leads_module c.args.free) c.terms.ensures.value
