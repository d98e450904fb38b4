-- The heaps that cheat, refuted by computing what they do in a small scene.
pub mod Scenes
pub mod Refuted1
pub mod Refuted2
pub mod Refuted3
