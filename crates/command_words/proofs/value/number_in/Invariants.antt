use Rattle.std.proofs.Common.{◌≡◌, ◌<◌, ◌≤◌, All, take}
use Rattle.std.specs.Char.{IsAsciiDigit}
use Rattle.command_words.specs.Numbers.{with_digits}
use Rattle.command_words.proofs.value.number_in.Given as goal

abbrev pub invariant-loop-digit : goal.invariant-loop-digit
invariant-loop-digit l = record {
  each : All IsAsciiDigit (take l.digit-index l.text);
  exact : l.value ≤ l.most → with_digits 0 (take l.digit-index l.text) ≡ l.value;
  past : l.most < l.value → l.most < with_digits 0 (take l.digit-index l.text);
}
