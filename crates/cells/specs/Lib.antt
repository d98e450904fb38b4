-- the definitions that cells' contracts cite
pub mod Leaves
pub mod Log
pub mod Free
pub mod Marks
pub mod Lending
