pub mod Token
