-- The residues of a field modulus are a field.
pub use Rattle.linear_algebra.specs.Mod.{inverse_is, inverse_of, of, pos, residues, same_residue}
