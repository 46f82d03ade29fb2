use Rattle.std.proofs.Common.{◌≡◌, ◌-◌, ◌*◌, ◌/◌, ◌<◌, ◌^◌, ℕ, List, map, cond, ltb, sym, ap, ◌∙◌, arith, subst, Fits, w32}
use Rattle.std.proofs.lemmas.List.{map-id}
use Rattle.std.proofs.lemmas.Simd.{Each1-weaker}
use lib.Lanes.{Each1}
use Rattle.lane_kernel.proofs.LaneLists.{remainder_lanes, rest_small}
use Rattle.lane_kernel.proofs.wide.wide_multiples.Goals as goal

abbrev left : ℕ → ℕ → ℕ → ℕ → ℕ
left p a q s = a * s - q * s / 4294967296 * p

rest_is : (p a q m b : ℕ) (x wide rest : List ℕ) → wide ≡ x → m ≡ p → b ≡ a → rest ≡ map (left m b q) wide → rest ≡ map (left p a q) x
rest_is p a q m b x wide rest e f g h = h ∙ ap (map (left m b q)) e ∙ ap (λ (n : ℕ). map (left n b q) x) f ∙ ap (λ (n : ℕ). map (left p n q) x) g

fits : (p : ℕ) (xs : List ℕ) → p < 2 ^ 31 → Each1 (λ r. r < 2 * p) xs → Each1 (Fits w32) xs
fits p xs small h = Each1-weaker (λ r. r < 2 * p) (Fits w32) (λ r lt. record { fits = omega (arith, lt, small) }) xs h

pub wide_rest-rest-requires-clause-residues : goal.wide_rest-rest-requires-clause-residues
wide_rest-rest-requires-clause-residues c =
    subst (λ (n : ℕ). Each1 (λ s. s < n) (map (λ (s : ℕ). s) c.args.x)) (sym c.from.ensures)
    (subst (Each1 (λ s. s < c.args.p)) (sym (map-id c.args.x)) c.requires.residues)

pub overflow_cast-rest : goal.overflow_cast-rest
overflow_cast-rest c =
    let rest = rest_is c.args.p c.args.a c.args.quotient c.from.result c.from-2.result c.args.x (map (λ (s : ℕ). s) c.args.x)
    c.wide_rest-rest.result (map-id c.args.x) c.from.ensures c.from-2.ensures c.wide_rest-rest.ensures in
    fits c.args.p c.wide_rest-rest.result c.requires.small
    (subst (Each1 (λ r. r < 2 * c.args.p)) (sym rest) (rest_small 4294967296 c.args.p c.args.a c.args.quotient c.args.x (omega arith)
    c.requires.factor c.requires.quotient c.requires.residues))

pub returns : goal.returns
returns c =
    let rest = rest_is c.args.p c.args.a c.args.quotient c.from.result c.from-2.result c.args.x (map (λ (s : ℕ). s) c.args.x)
    c.wide_rest-rest.result (map-id c.args.x) c.from.ensures c.from-2.ensures c.wide_rest-rest.ensures in
    let less : ℕ → ℕ = λ r. cond (ltb r c.args.p) r (r - c.args.p) in
    c.capped.ensures ∙ ap (map less) (map-id c.wide_rest-rest.result ∙ rest)
    ∙ remainder_lanes 4294967296 c.args.p c.args.a c.args.quotient c.args.x (omega arith) c.requires.factor c.requires.quotient c.requires.residues
