-- Fields by their laws.
use Rattle.std.specs.Prelude.{◌≡◌, Bool, true, false}

pub record Field : Type 1 where
  pub F : Type 0
  pub zero : F
  pub one : F
  pub add : F → F → F
  pub mul : F → F → F
  pub neg : F → F
  pub inv : F → F
  pub is_zero : F → Bool
  pub add_assoc : (a b c : F) → add (add a b) c ≡ add a (add b c)
  pub add_comm : (a b : F) → add a b ≡ add b a
  pub add_zero : (a : F) → add a zero ≡ a
  pub add_neg : (a : F) → add a (neg a) ≡ zero
  pub mul_assoc : (a b c : F) → mul (mul a b) c ≡ mul a (mul b c)
  pub mul_comm : (a b : F) → mul a b ≡ mul b a
  pub mul_one : (a : F) → mul a one ≡ a
  pub mul_add : (a b c : F) → mul a (add b c) ≡ add (mul a b) (mul a c)
  pub mul_inv : (a : F) → is_zero a ≡ false → mul (inv a) a ≡ one
  pub zero_is : (a : F) → is_zero a ≡ true → a ≡ zero
  pub zero_test : is_zero zero ≡ true
  pub one_other : is_zero one ≡ false
