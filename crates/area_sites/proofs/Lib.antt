pub mod Situated
