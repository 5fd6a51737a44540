-- Theorems on the definitions of specs/, by the path of their subject there.
pub mod Tables
pub mod Free
pub mod Text
pub mod Write
pub mod RoundTrip
