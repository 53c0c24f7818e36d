pub mod Framework
