pub mod NormalForm
pub mod ProductList
pub mod Certificate
pub mod Rows
pub mod Texts
pub mod Laws
