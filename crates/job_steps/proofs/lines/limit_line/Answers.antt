use Rattle.std.proofs.Common.{List, [], ap, append_assoc, codes, decimal, ◌++◌, ◌≡◌, ◌∙◌, ℕ}
use Rattle.job_steps.proofs.lines.limit_line.Goals as goal

regrouped : (a b c d e f g : List ℕ) → (((((a ++ b) ++ c) ++ d) ++ e) ++ f) ++ g ≡ a ++ ((b ++ (c ++ (d ++ (e ++ f)))) ++ g)
regrouped a b c d e f g = simp append_assoc

-- seven pieces that are appended one by one
appended : (s t u v w x y z a b c d e f g : List ℕ) → s ≡ [] → t ≡ s ++ a → u ≡ t ++ b → v ≡ u ++ c → w ≡ v ++ d → x ≡ w ++ e → y ≡ x ++ f → z ≡ y ++ g
    → z ≡ a ++ ((b ++ (c ++ (d ++ (e ++ f)))) ++ g)
appended s t u v w x y z a b c d e f g none first second third fourth fifth sixth seventh =
    let whole = regrouped a b c d e f g in
    let begun : t ≡ a = first ∙ ap (λ (l : List ℕ). l ++ a) none in
    cc

pub returns : goal.returns
returns c = appended c.empty-line.result _ _ _ _ _ _ _
    (codes "bergman: limit: ") c.args.name.now (codes " ") (decimal c.args.value) (codes " in degree ") (decimal c.args.degree) (codes "\n")
    c.empty-line.ensures
    c.push_text.ensures.text
    c.push_text-2.ensures.text
    c.push_text-3.ensures.text
    c.push_number.ensures.text
    c.push_text-4.ensures.text
    (c.push_number-2.ensures.text ∙ ap (λ (n : ℕ). c.push_text-4.new.self ++ decimal n) c.from.ensures)
    c.push_text-5.ensures.text
