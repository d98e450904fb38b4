pub mod Place
