-- The numbers up to which a degree is computed.
use Rattle.std.specs.Prelude.{◌≤◌}
use Rattle.ideal_laws.specs.declared.limits.Limits.{Limits}

abbrev pub standard_limits : Limits
standard_limits = record {
  plain_words = 4096;
  rows = 1048576;
  columns = 1048576;
  entries = 16777216;
  cells = 67108864;
  terms = 16777216;
  normal_words = 2097152;
}

-- none is above the standard one
pub record AreLimits (limits : Limits) : Type 0 where
  pub plain_words : limits.plain_words ≤ standard_limits.plain_words
  pub rows : limits.rows ≤ standard_limits.rows
  pub columns : limits.columns ≤ standard_limits.columns
  pub entries : limits.entries ≤ standard_limits.entries
  pub cells : limits.cells ≤ standard_limits.cells
  pub terms : limits.terms ≤ standard_limits.terms
  pub normal_words : limits.normal_words ≤ standard_limits.normal_words
