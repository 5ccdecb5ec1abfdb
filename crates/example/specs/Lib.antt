pub mod WrittenOut
