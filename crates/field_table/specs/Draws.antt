-- Numbers drawn one after another, each from the one before.
use Rattle.std.specs.Prelude.{ℕ, ◌+◌, ◌*◌, ◌%◌, ◌^◌}

-- the number after s, by the linear congruence of Knuth and Lewis modulo 2^32
abbrev pub next_number : ℕ → ℕ
next_number s = (1664525 * s + 1013904223) % 2 ^ 32
