-- Texts that grow by a line.
use Rattle.std.proofs.Common.{ℕ, ◌<◌, take, get_or, ◌≡◌, ◌+◌, List, [], ◌∷◌, ◌++◌, length, codes, decimal, sym, ap, ◌∙◌, append_assoc, add-zero, arith}
use Rattle.poly_writer.specs.Texts.{line, series_lines}
use Rattle.std.proofs.lemmas.List.{append-nil, length-take-le, take_more}

-- the line of a degree
abbrev pub series_line : ℕ → ℕ → List ℕ
series_line d n = line (decimal d ++ codes " " ++ decimal n)

-- one more number is one more line
pub series_lines-append : (d : ℕ) (ns : List ℕ) (n : ℕ) → series_lines d (ns ++ n ∷ []) ≡ series_lines d ns ++ series_line (d + length ns) n
series_lines-append d [] n = rw add-zero (append-nil (series_line d n))
series_lines-append d (m ∷ ns) n =
    let e : d + 1 + length ns ≡ d + length (m ∷ ns) = omega arith in
    ap (λ t. series_line d m ++ t) (series_lines-append (d + 1) ns n ∙ ap (λ k. series_lines (d + 1) ns ++ series_line k n) e)
    ∙ sym (append_assoc (series_line d m) (series_lines (d + 1) ns) (series_line (d + length (m ∷ ns)) n))

-- the series so far, with the line of the next degree
pub series_lines-take : (ns : List ℕ) (d : ℕ) → d < length ns → series_lines 0 (take (d + 1) ns) ≡ series_lines 0 (take d ns) ++ series_line d (get_or ns d 0)
series_lines-take ns d below =
    let e : 0 + length (take d ns) ≡ d = omega (arith, length-take-le d ns (omega arith)) in
    ap (series_lines 0) (take_more ns d 0 below)
    ∙ series_lines-append 0 (take d ns) (get_or ns d 0)
    ∙ ap (λ k. series_lines 0 (take d ns) ++ series_line k (get_or ns d 0)) e
