-- what settle's contracts cite beside rules
pub mod Replaying
pub mod Settling
