pub mod Laid
pub mod StatementViews
