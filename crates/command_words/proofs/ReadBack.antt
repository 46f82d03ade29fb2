-- What can be read back from how it is written is one.
use Rattle.std.proofs.Common.{◌≡◌, sym, ap, ◌∙◌}

-- values that are written alike are one, where each is read back from how it is written
pub one_by : {A B : Type 0} (write : A → B) (read : B → A) → ((a : A) → read (write a) ≡ a) → (a b : A) → write a ≡ write b → a ≡ b
one_by write read back a b e = sym (back a) ∙ ap read e ∙ back b
