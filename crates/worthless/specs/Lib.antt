-- Heaps that cheat: each is ours but for one thing. Refuted: which fact of the demands each of them breaks.
pub mod Forms
pub mod Refusing
pub mod Settling
pub mod Answering
pub mod Refuted
