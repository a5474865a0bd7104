pub mod DecimalLaws
pub mod HexadecimalLaws
