-- what heap's contracts cite beside rules
pub mod Working
