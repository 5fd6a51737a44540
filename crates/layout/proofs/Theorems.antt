-- Theorems on the definitions of specs/, by the path of their subject there.
pub mod Layout
