pub mod Grammar
